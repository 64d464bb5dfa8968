use Rattle.std.proofs.Common.{◌≤◌, ◌+◌, length, vec_len}
use Rattle.std.specs.Prelude.{vec_capacity}
use Rattle.turnstile_rows.specs.Rows.{ArePassesOf, AreFirst, HaveOut}
use Rattle.turnstile_rows.proofs.Ending.{Closing}
use Rattle.turnstile_rows.proofs.closing.close_all.Given as goal

abbrev pub invariant-loop-turnstile : goal.invariant-loop-turnstile
invariant-loop-turnstile g l = record {
  own : ArePassesOf l.turnstiles.items l.firsts.items;
  first : AreFirst l.firsts.items;
  out : HaveOut 0 l.firsts.items;
  room : length l.room.items + length l.turnstiles.items ≤ vec_capacity l.room;
  closing : Closing g.T.Held.stands_for l.fn.turnstiles.items l.turnstiles.items l.fn.firsts.items l.firsts.items l.room.items;
}

abbrev pub decreases-loop-turnstile : goal.decreases-loop-turnstile
decreases-loop-turnstile g l = vec_len l.turnstiles
