use Rattle.std.proofs.Common.{◌≡◌, ◌≤◌, map, replicate}
use Rattle.std.specs.Prelude.{vec_capacity}
use Rattle.turnstile.specs.Known.{split_off}
use Rattle.turnstile_rows.specs.Rows.{with_out}
use Rattle.turnstile_rows.proofs.dealing.deal_all.Given as goal

abbrev pub invariant-loop-caller : goal.invariant-loop-caller
invariant-loop-caller g l = record {
  firsts : l.firsts.items ≡ map (with_out l._caller) l.initial.firsts.items;
  rows : map (λ v. v.items) l.rows.items ≡ replicate l._caller (map split_off l.initial.firsts.items);
  room : l.callers ≤ vec_capacity l.rows;
}
