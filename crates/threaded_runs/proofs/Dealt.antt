-- The first passes as they were made, and the passes that are dealt from them.
use Rattle.std.specs.List.{slice_get}
use Rattle.std.proofs.Common.{◌≡◌, ◌∙◌, ℕ, List, [], map, Some, refl, sym, ap, subst, arith}
use Rattle.std.proofs.lemmas.List.{length-map}
use Rattle.std.proofs.lemmas.Option.{slice_get_within}
use Rattle.turnstile.specs.Known.{IsPassOf, first_pass, split_off}
use Rattle.turnstile_rows.specs.Rows.{ArePassesOf, AreFirst, AreOthers, HaveOut, with_out}
use Rattle.turnstile_rows.proofs.Lists.{at_mapped, within}
use Rattle.turnstile_rows.proofs.Rows.{own_kept}
use Rattle.piv_rules.specs.Acts.{CardRecord}
use Rattle.card_cell.specs.declared.base.CellBase.{CellBase}
use Rattle.client_threads.specs.Passes.{CellGate, CellPass, AreStill, StandsOwn}

pub firsts_own : (gates : List CellGate) → ArePassesOf gates (map (first_pass {B = CellBase} {E = CardRecord}) gates)
firsts_own gates = record {
  many = sym (length-map gates first_pass);
  each = λ k gate pass here there.
      let m = at_mapped first_pass gates k pass there in
      let both : Some gate ≡ Some m.0 = sym here ∙ m.1 in
      let same : gate ≡ m.0 = cc in
      subst (λ (p : CellPass). IsPassOf gate p) (sym m.2) (subst (λ (g : CellGate). IsPassOf gate (first_pass {B = CellBase} {E = CardRecord} g)) same (refl, refl));
}

pub firsts_first : (gates : List CellGate) → AreFirst (map (first_pass {B = CellBase} {E = CardRecord}) gates)
firsts_first gates k pass at = let m = at_mapped first_pass gates k pass at in ap (λ (p : CellPass). p.is_first) m.2

pub firsts_out : (gates : List CellGate) → HaveOut 0 (map (first_pass {B = CellBase} {E = CardRecord}) gates)
firsts_out gates k pass at = let m = at_mapped first_pass gates k pass at in ap (λ (p : CellPass). p.out) m.2

-- they have no records, however many are out
pub firsts_new : (gates : List CellGate) (n k : ℕ) (pass : CellPass) → slice_get (map (with_out n) (map first_pass gates)) k ≡ Some pass → pass.own ≡ []
firsts_new gates n k pass at =
    let m = at_mapped (with_out n) (map first_pass gates) k pass at in
    let f = at_mapped first_pass gates k m.0 m.1 in
    ap (λ (p : CellPass). p.own) m.2 ∙ ap (λ (p : CellPass). p.own) f.2

pub dealt_own : (gates : List CellGate) → ArePassesOf gates (map split_off (map (first_pass {B = CellBase} {E = CardRecord}) gates))
dealt_own gates = own_kept split_off gates (map first_pass gates) (λ p. (refl, refl)) (firsts_own gates)

pub dealt_new : (passes : List CellPass) → StandsOwn (map split_off passes) []
dealt_new passes = record {
  own = λ k pass at. let m = at_mapped split_off passes k pass at in ap (λ (p : CellPass). p.own) m.2;
  inside = tt;
  seen = tt;
}

-- passes that are still those that were dealt
pub still_others : (passes after : List CellPass) → AreStill (map split_off passes) after → AreOthers after
still_others passes after still k q at =
    let many = still.many in
    let lt = slice_get_within after k q at in
    let p = within (map split_off passes) k (omega (arith, many, lt)) in
    let m = at_mapped split_off passes k p.0 p.1 in
    ap (λ (x : CellPass). x.is_first) (still.each k p.0 q p.1 at).same ∙ ap (λ (x : CellPass). x.is_first) m.2
