use Rattle.std.proofs.Common.{◌-◌, length, map}
use Rattle.turnstile_rows.specs.Rows.{ArePassesOf, AreFirst, HaveOut}
use Rattle.turnstile_rows.specs.Gathered.{AreGathered}
use Rattle.turnstile_rows.proofs.gathering.gather_all.Given as goal

abbrev pub invariant-loop-row : goal.invariant-loop-row
invariant-loop-row g l = record {
  own : ArePassesOf l.turnstiles l.firsts.items;
  first : AreFirst l.firsts.items;
  out : HaveOut (length l.fn.rows.items - length l.yielded) l.firsts.items;
  gathered : AreGathered (map (λ v. v.items) l.yielded) l.initial.firsts.items l.firsts.items;
}
