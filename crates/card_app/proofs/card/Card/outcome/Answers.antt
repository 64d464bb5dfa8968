use Rattle.std.proofs.Common.{◌≡◌, ◌<◌, ◌∙◌, ℕ, List, Option, IfSome, sym, get_or, subst, length}
use Rattle.piv_model.specs.Commands.{CardCommand}
use Rattle.piv_rules.specs.Frames.{Frame}
use Rattle.card_app.specs.declared.card.Turned.{Turned}
use Rattle.card_app.specs.declared.slot.Slot.{Slot}
use Rattle.card_app.specs.Outcomes.{exchange_by, exchange_made, IsFramed, IsFramedMade}
use Rattle.card_app.proofs.TurnLaws.{any-default}
use Rattle.card_app.proofs.card.Card.outcome.Goals as goal

pub returns-in-Some-clause-shown : goal.returns-in-Some-clause-shown
returns-in-Some-clause-shown g c =
    let small : c.in-Some.field-0.place < 16 = subst (λ (o : Option Turned). IfSome o (λ t. t.place < 16)) c.in-Some.is c.requires in
    let within : c.in-Some.field-0.place < length c.args.self.now.slots.items = subst (λ (n : ℕ). c.in-Some.field-0.place < n) (sym c.args.self.now.sixteen) small in
    let P : Option Turned → Type 0 = λ o. IfSome o (λ t. (d : Slot) (number known told : ℕ) (bytes block : List ℕ) (run : Option (ℕ × CardCommand))
    → exchange_by number known bytes block run told c.lent.result ≡ exchange_made number known bytes block run told t.made
    (get_or c.args.self.now.slots.items t.place d).joiner.command (get_or c.args.self.now.slots.items t.place d).pieces.piece) in
    subst P (sym c.in-Some.is) (λ d number known told bytes block run.
    let there : c.index.result.now ≡ get_or c.args.self.now.slots.items c.in-Some.field-0.place d =
    c.index.ensures ∙ any-default c.args.self.now.slots.items c.in-Some.field-0.place _ d within in
    subst (λ (s : Slot). exchange_by number known bytes block run told c.lent.result ≡ exchange_made number known bytes block run told c.in-Some.field-0.made s.joiner.command s.pieces.piece) there
    (c.lent.ensures.shown number known told bytes block run))

pub returns-in-Some-clause-framed : goal.returns-in-Some-clause-framed
returns-in-Some-clause-framed g c =
    let small : c.in-Some.field-0.place < 16 = subst (λ (o : Option Turned). IfSome o (λ t. t.place < 16)) c.in-Some.is c.requires in
    let within : c.in-Some.field-0.place < length c.args.self.now.slots.items = subst (λ (n : ℕ). c.in-Some.field-0.place < n) (sym c.args.self.now.sixteen) small in
    let P : Option Turned → Type 0 = λ o. IfSome o (λ t. (d : Slot) (f : Frame) (number : ℕ) (run : Option (ℕ × CardCommand))
    → IsFramedMade f number run t.made (get_or c.args.self.now.slots.items t.place d).joiner.command (get_or c.args.self.now.slots.items t.place d).pieces.piece → IsFramed f number run c.lent.result) in
    subst P (sym c.in-Some.is) (λ d f number run h.
    let there : c.index.result.now ≡ get_or c.args.self.now.slots.items c.in-Some.field-0.place d =
    c.index.ensures ∙ any-default c.args.self.now.slots.items c.in-Some.field-0.place _ d within in
    c.lent.ensures.framed f number run
    (subst (λ (s : Slot). IsFramedMade f number run c.in-Some.field-0.made s.joiner.command s.pieces.piece) (sym there) h))
