use Rattle.std.proofs.Common.{◌≡◌, length, take, vec_len}
use Rattle.turnstile_rows.specs.Rows.{ArePassesOf, AreFirst}
use Rattle.turnstile_rows.proofs.Joining.{JoinedFrom}
use Rattle.turnstile_rows.proofs.gathering.gather.Given as goal

abbrev pub invariant-loop-pass : goal.invariant-loop-pass
invariant-loop-pass g l = record {
  own : ArePassesOf l.turnstiles l.firsts.items;
  first : AreFirst l.firsts.items;
  left : l.passes.items ≡ take (length l.passes.items) l.fn.passes.items;
  joined : JoinedFrom (length l.passes.items) l.initial.firsts.items l.fn.passes.items l.firsts.items;
}

abbrev pub decreases-loop-pass : goal.decreases-loop-pass
decreases-loop-pass g l = vec_len l.passes
