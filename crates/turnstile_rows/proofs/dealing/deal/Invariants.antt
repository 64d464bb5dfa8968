use Rattle.std.proofs.Common.{◌≡◌, ◌≤◌, ◌++◌, length, map, take, drop, vec_len}
use Rattle.std.specs.Prelude.{vec_capacity}
use Rattle.turnstile.specs.Known.{split_off}
use Rattle.turnstile_rows.specs.Rows.{one_more_out}
use Rattle.turnstile_rows.proofs.dealing.deal.Given as goal

abbrev pub invariant-loop-card : goal.invariant-loop-card
invariant-loop-card g l = record {
  firsts : l.firsts.items ≡ map one_more_out (take l.card l.initial.firsts.items) ++ drop l.card l.initial.firsts.items;
  passes : l.passes.items ≡ map split_off (take l.card l.initial.firsts.items);
  room : length l.turnstiles ≤ vec_capacity l.passes;
  count : vec_len l.passes ≡ l.card;
}
