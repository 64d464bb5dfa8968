use Rattle.std.proofs.Common.{◌≡◌, ◌∙◌, ℕ, List, ◌∷◌, ◌++◌, [], length, map, replicate, sym, refl, ap, subst, arith, rules, Vec, Global}
use Rattle.std.proofs.lemmas.List.{map-append, length-map, length-replicate, replicate-append-replicate}
use Rattle.turnstile.specs.Known.{Known, split_off}
use Rattle.turnstile_rows.specs.Rows.{ArePassesOf, AreFirst, HaveOut, AreRowsOf, one_more_out, with_out}
use Rattle.turnstile_rows.proofs.Rows.{none_out, have_out, own_kept, first_kept, rows_of, one_more, same_split}
use Rattle.turnstile_rows.proofs.dealing.deal_all.Goals as goal

pub loop-caller-init : goal.loop-caller-init
loop-caller-init g c = record {
  firsts = none_out c.args.firsts.now.items c.requires.out;
  rows = search rules;
  room = search rules;
}

pub deal-requires-clause-own : goal.deal-requires-clause-own
deal-requires-clause-own g c =
    let P : Type 0 = Known g.row.T-Base.Denot g.row.T-Record.Denot in
    subst (λ (l : List P). ArePassesOf c.args.turnstiles.now l) (sym c.loop-caller.invariant.firsts) (own_kept (with_out c.loop-caller._caller) c.args.turnstiles.now c.args.firsts.now.items (λ p. (refl, refl)) c.requires.own)

pub deal-requires-clause-first : goal.deal-requires-clause-first
deal-requires-clause-first g c =
    let P : Type 0 = Known g.row.T-Base.Denot g.row.T-Record.Denot in
    subst (λ (l : List P). AreFirst l) (sym c.loop-caller.invariant.firsts) (first_kept c.loop-caller._caller c.args.firsts.now.items c.requires.first)

pub deal-requires-clause-room : goal.deal-requires-clause-room
deal-requires-clause-room g c =
    let P : Type 0 = Known g.row.T-Base.Denot g.row.T-Record.Denot in
    let few = c.requires.few in
    (c.loop-caller._caller, omega (arith, few), subst (λ (l : List P). HaveOut c.loop-caller._caller l) (sym c.loop-caller.invariant.firsts) (have_out c.loop-caller._caller c.args.firsts.now.items))

pub push_reserved-requires : goal.push_reserved-requires
push_reserved-requires g c =
    let P : Type 0 = Known g.row.T-Base.Denot g.row.T-Record.Denot in
    let n = sym (length-map c.loop-caller.rows.items (λ (v : Vec P Global). v.items)) ∙ (ap (λ (l : List (List P)). length l) c.loop-caller.invariant.rows ∙ length-replicate c.loop-caller._caller (map split_off c.args.firsts.now.items)) in
    let room = c.loop-caller.invariant.room in
    omega (arith, n, room, c.loop-caller.rows.ok)

pub loop-caller-preserved : goal.loop-caller-preserved
loop-caller-preserved g c =
    let P : Type 0 = Known g.row.T-Base.Denot g.row.T-Record.Denot in
    let V : Type 0 = Vec P Global in
    let k : ℕ = c.loop-caller._caller in
    let init : List P = c.args.firsts.now.items in
    let cap = c.push_reserved.ensures.capacity in
    let room = c.loop-caller.invariant.room in
    let dealt : List P = map split_off init in
    let row = c.in-Ok-deal.ensures.passes ∙ (ap (λ (l : List P). map split_off l) c.loop-caller.invariant.firsts ∙ same_split k init) in
    record {
      firsts = c.in-Ok-deal.ensures.out ∙ (ap (λ (l : List P). map one_more_out l) c.loop-caller.invariant.firsts ∙ one_more k init);
      rows = ap (λ (l : List V). map (λ v. v.items) l) c.push_reserved.ensures.items
          ∙ (map-append (λ (v : V). v.items) c.loop-caller.rows.items (c.in-Ok-deal.row ∷ [])
          ∙ (ap (λ (l : List (List P)). l ++ c.in-Ok-deal.row.items ∷ []) c.loop-caller.invariant.rows
          ∙ (ap (λ (l : List P). replicate k dealt ++ l ∷ []) row ∙ replicate-append-replicate k 1 dealt)));
      room = omega (arith, cap, room);
    }

pub gather_all-requires-clause-own : goal.gather_all-requires-clause-own
gather_all-requires-clause-own g c =
    let P : Type 0 = Known g.row.T-Base.Denot g.row.T-Record.Denot in
    subst (λ (l : List P). ArePassesOf c.args.turnstiles.now l) (sym (c.in-Err.ensures.err ∙ c.loop-caller.invariant.firsts)) (own_kept (with_out c.loop-caller._caller) c.args.turnstiles.now c.args.firsts.now.items (λ p. (refl, refl)) c.requires.own)

pub gather_all-requires-clause-first : goal.gather_all-requires-clause-first
gather_all-requires-clause-first g c =
    let P : Type 0 = Known g.row.T-Base.Denot g.row.T-Record.Denot in
    subst (λ (l : List P). AreFirst l) (sym (c.in-Err.ensures.err ∙ c.loop-caller.invariant.firsts)) (first_kept c.loop-caller._caller c.args.firsts.now.items c.requires.first)

pub gather_all-requires-clause-out : goal.gather_all-requires-clause-out
gather_all-requires-clause-out g c =
    let P : Type 0 = Known g.row.T-Base.Denot g.row.T-Record.Denot in
    let n = sym (length-map c.loop-caller.rows.items (λ (v : Vec P Global). v.items)) ∙ (ap (λ (l : List (List P)). length l) c.loop-caller.invariant.rows ∙ length-replicate c.loop-caller._caller (map split_off c.args.firsts.now.items)) in
    subst (λ (k : ℕ). HaveOut k c.deal.new.firsts.items) (sym n)
    (subst (λ (l : List P). HaveOut c.loop-caller._caller l) (sym (c.in-Err.ensures.err ∙ c.loop-caller.invariant.firsts)) (have_out c.loop-caller._caller c.args.firsts.now.items))

pub gather_all-requires-clause-rows : goal.gather_all-requires-clause-rows
gather_all-requires-clause-rows g c =
    let P : Type 0 = Known g.row.T-Base.Denot g.row.T-Record.Denot in
    subst (λ (l : List (List P)). AreRowsOf c.args.turnstiles.now l) (sym c.loop-caller.invariant.rows) (rows_of c.args.turnstiles.now c.args.firsts.now.items c.loop-caller._caller c.requires.own)

pub returns-clause-rows : goal.returns-clause-rows
returns-clause-rows g c =
    let P : Type 0 = Known g.row.T-Base.Denot g.row.T-Record.Denot in
    let le = c.loop-caller.auto._caller-end in
    let ge = c.loop-caller-test.false in
    let n : c.loop-caller._caller ≡ c.args.callers = omega (arith, le, ge) in
    c.loop-caller.invariant.rows ∙ ap (λ (k : ℕ). replicate k (map split_off c.args.firsts.now.items)) n

pub returns-clause-out : goal.returns-clause-out
returns-clause-out g c =
    let P : Type 0 = Known g.row.T-Base.Denot g.row.T-Record.Denot in
    let le = c.loop-caller.auto._caller-end in
    let ge = c.loop-caller-test.false in
    let n : c.loop-caller._caller ≡ c.args.callers = omega (arith, le, ge) in
    c.loop-caller.invariant.firsts ∙ ap (λ (k : ℕ). map (with_out {B = g.row.T-Base.Denot} {E = g.row.T-Record.Denot} k) c.args.firsts.now.items) n

pub returns-clause-own : goal.returns-clause-own
returns-clause-own g c =
    let P : Type 0 = Known g.row.T-Base.Denot g.row.T-Record.Denot in
    subst (λ (l : List P). ArePassesOf c.args.turnstiles.now l) (sym c.loop-caller.invariant.firsts) (own_kept (with_out c.loop-caller._caller) c.args.turnstiles.now c.args.firsts.now.items (λ p. (refl, refl)) c.requires.own)

pub returns-clause-first : goal.returns-clause-first
returns-clause-first g c =
    let P : Type 0 = Known g.row.T-Base.Denot g.row.T-Record.Denot in
    subst (λ (l : List P). AreFirst l) (sym c.loop-caller.invariant.firsts) (first_kept c.loop-caller._caller c.args.firsts.now.items c.requires.first)
