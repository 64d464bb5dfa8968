use Rattle.std.proofs.Common.{◌≡◌, ◌+◌, List, true, Some, sym, ap, subst, ◌∙◌, position}
use Rattle.card_cell.specs.declared.connections.Open.{Open}
use Rattle.card_cell.specs.Kept.{has_number, are_below}
use Rattle.card_cell.proofs.FoundLaws.{not-found}
use Rattle.card_cell.proofs.KeptLaws.{removed, not-removed, below-without}
use Rattle.card_cell.proofs.connections.Connections.remove.Goals as goal

pub invariant_of-self-clause-numbered : goal.invariant_of-self-clause-numbered
invariant_of-self-clause-numbered c =
    let at : position (has_number c.args.c) c.args.self.now.kept.items ≡ Some c.in-Some.place =
    ap (λ (l : List Open). position (has_number c.args.c) l) (sym c.deref.ensures.value) ∙ sym c.place_in.ensures.first ∙ c.in-Some.is in
    subst (λ (l : List Open). are_below (c.args.self.now.opened + 1) l ≡ true) (sym (c.remove.ensures.items ∙ removed c.args.c c.args.self.now.kept.items c.in-Some.place at))
    (below-without c.args.c (c.args.self.now.opened + 1) c.args.self.now.kept.items c.args.self.now.numbered)

pub returns-in-Some-clause-open : goal.returns-in-Some-clause-open
returns-in-Some-clause-open c =
    let at : position (has_number c.args.c) c.args.self.now.kept.items ≡ Some c.in-Some.place =
    ap (λ (l : List Open). position (has_number c.args.c) l) (sym c.deref.ensures.value) ∙ sym c.place_in.ensures.first ∙ c.in-Some.is in
    c.remove.ensures.items ∙ removed c.args.c c.args.self.now.kept.items c.in-Some.place at

pub returns-in_default-clause-open : goal.returns-in_default-clause-open
returns-in_default-clause-open c =
    not-removed c.args.c c.args.self.now.kept.items (sym (not-found (has_number c.args.c) c.args.self.now.kept.items
    (ap (λ (l : List Open). position (has_number c.args.c) l) (sym c.deref.ensures.value) ∙ sym c.place_in.ensures.first ∙ c.in_default.is)))
