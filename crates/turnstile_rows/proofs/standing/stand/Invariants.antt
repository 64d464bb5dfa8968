use Rattle.std.proofs.Common.{◌≡◌, ◌≤◌, ◌+◌, length, map, vec_len}
use Rattle.std.specs.Prelude.{vec_capacity}
use Rattle.turnstile.specs.Known.{first_pass}
use Rattle.turnstile_rows.specs.Rows.{StandBehind}
use Rattle.turnstile_rows.proofs.standing.stand.Given as goal

abbrev pub invariant-loop-value : goal.invariant-loop-value
invariant-loop-value g l = record {
  behind : StandBehind g.T.Held.stands_for l.values.items l.turnstiles.items l.bases;
  firsts : l.firsts.items ≡ map first_pass l.turnstiles.items;
  turnstiles_room : length l.values.items + length l.turnstiles.items ≤ vec_capacity l.turnstiles;
  firsts_room : length l.values.items + length l.firsts.items ≤ vec_capacity l.firsts;
  room : length l.values.items + length l.turnstiles.items ≤ vec_capacity l.values;
  whole : length l.bases ≤ vec_capacity l.values;
}

abbrev pub decreases-loop-value : goal.decreases-loop-value
decreases-loop-value g l = vec_len l.values
