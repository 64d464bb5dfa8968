use Rattle.std.proofs.Common.{◌≡◌, ◌∙◌, ◌∷◌, ◌++◌, [], List, length, true, sym, ap, subst, arith, rules, Option, length-append}
use Rattle.std.specs.Option.{option_to_list}
use Rattle.turnstile.specs.Known.{Gate, Known}
use Rattle.turnstile_rows.specs.Rows.{ArePassesOf, AreFirst, HaveOut, AreClosed}
use Rattle.turnstile_rows.proofs.Passes.{each_less, without}
use Rattle.turnstile_rows.proofs.Ending.{Closing, none_closed, one_closed, all_closed}
use Rattle.turnstile_rows.proofs.Lists.{none_left}
use Rattle.turnstile_rows.proofs.closing.close_all.Goals as goal

pub loop-turnstile-init : goal.loop-turnstile-init
loop-turnstile-init g c = record {
  own = c.requires.own;
  first = c.requires.first;
  out = c.requires.out;
  room = let e = ap (λ l. length l) c.requires.room.0 in let le = c.requires.room.1 in omega (arith, e, le);
  closing = none_closed g.T.Held.stands_for c.args.turnstiles.items c.args.firsts.items c.args.room.items c.requires.room.0;
}

pub close-requires-clause-own : goal.close-requires-clause-own
close-requires-clause-own g c =
    let ps = c.pop-in-Some.ensures.items ∙ ap (λ (o : Option (Known g.row.T-Base.Denot g.row.T-Record.Denot)). c.pop-in-Some.new.self.items ++ option_to_list o) c.unwrap-pass.ensures in
    (without c.pop.new.self.items c.in-Some.turnstile c.pop-in-Some.new.self.items c.unwrap-pass.result
    (subst (λ (l : List (Known g.row.T-Base.Denot g.row.T-Record.Denot)). ArePassesOf (c.pop.new.self.items ++ c.in-Some.turnstile ∷ []) l) ps (subst (λ (l : List (Gate g.row.T-Base.Denot)). ArePassesOf l c.loop-turnstile.firsts.items) c.in-Some.ensures.items c.loop-turnstile.invariant.own))).last

pub close-requires-clause-first : goal.close-requires-clause-first
close-requires-clause-first g c =
    let P : Type 0 = Known g.row.T-Base.Denot g.row.T-Record.Denot in
    let ps = c.pop-in-Some.ensures.items ∙ ap (λ (o : Option P). c.pop-in-Some.new.self.items ++ option_to_list o) c.unwrap-pass.ensures in
    (each_less (λ (p : P). p.is_first ≡ true) c.pop-in-Some.new.self.items c.unwrap-pass.result (subst (λ (l : List P). AreFirst l) ps c.loop-turnstile.invariant.first)).1

pub close-requires-clause-out : goal.close-requires-clause-out
close-requires-clause-out g c =
    let P : Type 0 = Known g.row.T-Base.Denot g.row.T-Record.Denot in
    let ps = c.pop-in-Some.ensures.items ∙ ap (λ (o : Option P). c.pop-in-Some.new.self.items ++ option_to_list o) c.unwrap-pass.ensures in
    (each_less (λ (p : P). p.out ≡ 0) c.pop-in-Some.new.self.items c.unwrap-pass.result (subst (λ (l : List P). HaveOut 0 l) ps c.loop-turnstile.invariant.out)).1

pub loop-turnstile-preserved : goal.loop-turnstile-preserved
loop-turnstile-preserved g c =
    let P : Type 0 = Known g.row.T-Base.Denot g.row.T-Record.Denot in
    let G : Type 0 = Gate g.row.T-Base.Denot in
    let ps = c.pop-in-Some.ensures.items ∙ ap (λ (o : Option P). c.pop-in-Some.new.self.items ++ option_to_list o) c.unwrap-pass.ensures in
    let gs = c.in-Some.ensures.items in
    let room = c.loop-turnstile.invariant.room in
    let less = c.in-Some.ensures.len in
    let more = c.push_reserved.ensures.len in
    let cap = c.push_reserved.ensures.capacity in
    record {
      own = (without c.pop.new.self.items c.in-Some.turnstile c.pop-in-Some.new.self.items c.unwrap-pass.result
          (subst (λ (l : List P). ArePassesOf (c.pop.new.self.items ++ c.in-Some.turnstile ∷ []) l) ps (subst (λ (l : List G). ArePassesOf l c.loop-turnstile.firsts.items) gs c.loop-turnstile.invariant.own))).own;
      first = (each_less (λ (p : P). p.is_first ≡ true) c.pop-in-Some.new.self.items c.unwrap-pass.result (subst (λ (l : List P). AreFirst l) ps c.loop-turnstile.invariant.first)).0;
      out = (each_less (λ (p : P). p.out ≡ 0) c.pop-in-Some.new.self.items c.unwrap-pass.result (subst (λ (l : List P). HaveOut 0 l) ps c.loop-turnstile.invariant.out)).0;
      room = let a = ap (λ (l : List G). length l) gs in omega (arith, room, less, more, cap, a, length-append c.pop.new.self.items (c.in-Some.turnstile ∷ []));
      closing = subst (λ (l : List g.row.T.Denot). Closing g.T.Held.stands_for c.args.turnstiles.items c.pop.new.self.items c.args.firsts.items c.pop-in-Some.new.self.items l) (sym c.push_reserved.ensures.items)
          (one_closed g.T.Held.stands_for c.args.turnstiles.items c.pop.new.self.items c.in-Some.turnstile c.args.firsts.items c.pop-in-Some.new.self.items c.unwrap-pass.result c.loop-turnstile.room.items c.close.result
          (subst (λ (l : List P). Closing g.T.Held.stands_for c.args.turnstiles.items (c.pop.new.self.items ++ c.in-Some.turnstile ∷ []) c.args.firsts.items l c.loop-turnstile.room.items) ps
          (subst (λ (l : List G). Closing g.T.Held.stands_for c.args.turnstiles.items l c.args.firsts.items c.loop-turnstile.firsts.items c.loop-turnstile.room.items) gs c.loop-turnstile.invariant.closing))
          c.close.ensures.closed);
    }

pub returns : goal.returns
returns g c =
    let P : Type 0 = Known g.row.T-Base.Denot g.row.T-Record.Denot in
    let G : Type 0 = Gate g.row.T-Base.Denot in
    let gates : c.loop-turnstile.turnstiles.items ≡ [] = search rules in
    let firsts : c.loop-turnstile.firsts.items ≡ [] = none_left c.loop-turnstile.firsts.items (sym c.loop-turnstile.invariant.own.many ∙ ap (λ (l : List G). length l) gates) in
    record {
      closed = subst (λ (l : List g.row.T.Denot). AreClosed g.T.Held.stands_for c.args.turnstiles.items c.args.firsts.items l) (sym c.reverse.ensures.items)
          (all_closed g.T.Held.stands_for c.args.turnstiles.items c.args.firsts.items c.loop-turnstile.firsts.items c.loop-turnstile.room.items firsts
          (subst (λ (l : List G). Closing g.T.Held.stands_for c.args.turnstiles.items l c.args.firsts.items c.loop-turnstile.firsts.items c.loop-turnstile.room.items) gates c.loop-turnstile.invariant.closing));
    }
