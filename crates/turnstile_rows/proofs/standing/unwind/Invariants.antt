use Rattle.std.proofs.Common.{◌≡◌, ◌≤◌, ◌+◌, length, map, vec_len}
use Rattle.std.specs.Prelude.{vec_capacity}
use Rattle.turnstile.specs.Known.{first_pass}
use Rattle.turnstile_rows.specs.Rows.{StandBehind}
use Rattle.turnstile_rows.proofs.standing.unwind.Given as goal

abbrev pub invariant-loop-turnstile : goal.invariant-loop-turnstile
invariant-loop-turnstile g l = record {
  behind : StandBehind g.T.Held.stands_for l.values.items l.turnstiles.items l.bases;
  firsts : l.firsts.items ≡ map first_pass l.turnstiles.items;
  room : length l.values.items + length l.turnstiles.items ≤ vec_capacity l.values;
}

abbrev pub decreases-loop-turnstile : goal.decreases-loop-turnstile
decreases-loop-turnstile g l = vec_len l.turnstiles
