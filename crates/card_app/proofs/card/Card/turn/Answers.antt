use Rattle.std.specs.Vec.{with_item}
use Rattle.std.specs.Prelude.{Some}
use Rattle.std.proofs.Common.{◌≡◌, ◌∙◌, refl, sym, ap, true, false, get_or-set_same}
use Rattle.card_laws.specs.ConnectionSteps.{after_cut}
use Rattle.piv_chaining.specs.Chains.{Chain, held_by}
use Rattle.card_app.specs.declared.exchanging.Exchanged.TheVariants.{Lost}
use Rattle.card_app.specs.declared.slot.Slot.{Slot}
use Rattle.card_app.specs.Kept.{is_at, slot_attached}
use Rattle.card_app.specs.Stands.{attached_to}
use Rattle.card_app.proofs.TurnLaws.{card-kept, card-lost, card-due, card-framed, left-on}
use Rattle.card_app.proofs.HeldLaws.{taken-items, taken-same, taken-lost, held-items, numbers-items, held-kept, held-lost, numbers-lost, numbers-set}
use Rattle.card_app.proofs.card.Card.turn.Goals as goal

pub returns-in-Lost-clause-stands : goal.returns-in-Lost-clause-stands
returns-in-Lost-clause-stands g c is_on d B R known stands fresh next =
    let t : Slot = c.make-made.new.slot in
    let there : c.index_mut-in-Lost.result.now ≡ t =
    c.index_mut-in-Lost.ensures.value ∙ get_or-set_same c.args.self.now.slots.items c.place-place.result t _ c.place-place.ensures.within in
    let u : Slot = record { connection = c.index_mut-in-Lost.result.now.connection; joiner = c.swap.new.y; pieces = c.index_mut-in-Lost.result.now.pieces } in
    card-lost g.S.Store.put_cost c.args.self.now _ B R (with_item (with_item c.args.self.now.slots c.place-place.result t) c.place-place.result u) c.refresh_all.new.slots c.place-place.result c.args.c known c.args.bytes.now c.args.block.now c.index_mut.result.now t u
    t c.in-Lost.broken stands is_on c.place-place.ensures.placed c.index_mut.ensures.value c.in-Lost.ensures.made
    (g.met.S.Store.sound c.args.self.now.store) refl
    (ap (λ (j : Chain). j.command) c.swap.ensures.x_after ∙ ap (λ (s : Slot). s.joiner.command) there)
    (ap (λ (s : Slot). s.connection) there)
    refl c.deref_mut.result.now c.deref_mut.ensures.value c.refresh_all.ensures refl fresh next

pub returns-in_default-clause-stands : goal.returns-in_default-clause-stands
returns-in_default-clause-stands g c is_on d B R known stands fresh next =
    let on_now = left-on c.make-made.result c.in_default.not-Lost in
    let t : Slot = c.make-made.new.slot in
    card-kept g.S.Store.put_cost c.args.self.now _ B R c.place-place.result c.args.c known c.args.bytes.now c.args.block.now c.index_mut.result.now t _ c.make-made.result
    stands is_on c.place-place.ensures.placed c.index_mut.ensures.value c.make-made.ensures.made on_now (c.make-made.ensures.power ∙ on_now) refl fresh next
    (get_or-set_same c.args.self.now.slots.items c.place-place.result t d c.place-place.ensures.within)

pub returns-in-Lost-clause-due : goal.returns-in-Lost-clause-due
returns-in-Lost-clause-due g c is_on d B R stands next =
    let t : Slot = c.make-made.new.slot in
    let there : c.index_mut-in-Lost.result.now ≡ t =
    c.index_mut-in-Lost.ensures.value ∙ get_or-set_same c.args.self.now.slots.items c.place-place.result t _ c.place-place.ensures.within in
    let command = ap (λ (j : Chain). j.command) c.swap.ensures.x_after ∙ ap (λ (s : Slot). s.joiner.command) there in
    card-due g.S.Store.put_cost c.args.self.now _ B R c.place-place.result c.args.c c.args.bytes.now c.args.block.now c.index_mut.result.now t t.joiner.command (Lost c.in-Lost.broken) _
    stands is_on c.place-place.ensures.placed c.index_mut.ensures.value c.in-Lost.ensures.made next refl (λ off j. Some (c.args.c, command j))

pub returns-in_default-clause-due : goal.returns-in_default-clause-due
returns-in_default-clause-due g c is_on d B R stands next =
    let on_now = left-on c.make-made.result c.in_default.not-Lost in
    let t : Slot = c.make-made.new.slot in
    card-due g.S.Store.put_cost c.args.self.now _ B R c.place-place.result c.args.c c.args.bytes.now c.args.block.now c.index_mut.result.now t _ c.make-made.result _
    stands is_on c.place-place.ensures.placed c.index_mut.ensures.value c.make-made.ensures.made next
    (ap (λ (s : Slot). s.joiner.command) (get_or-set_same c.args.self.now.slots.items c.place-place.result t d c.place-place.ensures.within))
    (λ off. absurd (let f : true ≡ false = sym on_now ∙ off in cc))

pub returns-in-Lost-clause-framed : goal.returns-in-Lost-clause-framed
returns-in-Lost-clause-framed g c is_on d x is =
    let t : Slot = c.make-made.new.slot in
    let there : c.index_mut-in-Lost.result.now ≡ t =
    c.index_mut-in-Lost.ensures.value ∙ get_or-set_same c.args.self.now.slots.items c.place-place.result t _ c.place-place.ensures.within in
    let command = ap (λ (j : Chain). j.command) c.swap.ensures.x_after ∙ ap (λ (s : Slot). s.joiner.command) there in
    card-framed g.S.Store.put_cost c.args.bytes.now c.args.block.now c.args.c c.index_mut.result.now t t (Lost c.in-Lost.broken) x (attached_to c.args.self.now c.args.c) _ _ _
    (c.place-place.ensures.found c.index_mut.result.now ∙ sym (ap (λ (s : Slot). slot_attached s) c.index_mut.ensures.value)) is c.in-Lost.ensures.made refl (λ off j. Some (c.args.c, command j))

pub returns-in_default-clause-framed : goal.returns-in_default-clause-framed
returns-in_default-clause-framed g c is_on d x is =
    let on_now = left-on c.make-made.result c.in_default.not-Lost in
    let t : Slot = c.make-made.new.slot in
    card-framed g.S.Store.put_cost c.args.bytes.now c.args.block.now c.args.c c.index_mut.result.now t _ c.make-made.result x (attached_to c.args.self.now c.args.c) _ _ _
    (c.place-place.ensures.found c.index_mut.result.now ∙ sym (ap (λ (s : Slot). slot_attached s) c.index_mut.ensures.value)) is c.make-made.ensures.made
    (get_or-set_same c.args.self.now.slots.items c.place-place.result t d c.place-place.ensures.within)
    (λ off. absurd (let f : true ≡ false = sym on_now ∙ off in cc))

pub returns-in-Lost-clause-held : goal.returns-in-Lost-clause-held
returns-in-Lost-clause-held g c is_on d =
    let t : Slot = c.make-made.new.slot in
    let there : c.index_mut-in-Lost.result.now ≡ t =
    c.index_mut-in-Lost.ensures.value ∙ get_or-set_same c.args.self.now.slots.items c.place-place.result t _ c.place-place.ensures.within in
    let u : Slot = record { connection = c.index_mut-in-Lost.result.now.connection; joiner = c.swap.new.y; pieces = c.index_mut-in-Lost.result.now.pieces } in
    held-lost c.args.self.now.slots.items c.place-place.result _ t c.index_mut.result.now u c.swap.new.x c.args.self.now.lost c.in-Lost.broken
    c.place-place.ensures.within c.index_mut.ensures.value c.in-Lost.ensures.held c.swap.ensures.y_after (c.swap.ensures.x_after ∙ ap (λ (s : Slot). s.joiner) there)
    (held-items after_cut (with_item (with_item c.args.self.now.slots c.place-place.result t) c.place-place.result u) c.deref_mut.result.now c.refresh_all.new.slots c.deref_mut.ensures.value c.refresh_all.ensures)

pub returns-in-Lost-clause-numbers : goal.returns-in-Lost-clause-numbers
returns-in-Lost-clause-numbers g c d =
    let t : Slot = c.make-made.new.slot in
    let there : c.index_mut-in-Lost.result.now ≡ t =
    c.index_mut-in-Lost.ensures.value ∙ get_or-set_same c.args.self.now.slots.items c.place-place.result t _ c.place-place.ensures.within in
    let u : Slot = record { connection = c.index_mut-in-Lost.result.now.connection; joiner = c.swap.new.y; pieces = c.index_mut-in-Lost.result.now.pieces } in
    numbers-items after_cut (with_item (with_item c.args.self.now.slots c.place-place.result t) c.place-place.result u) c.deref_mut.result.now c.refresh_all.new.slots d c.deref_mut.ensures.value c.refresh_all.ensures
    ∙ numbers-lost c.args.self.now.slots.items c.place-place.result d t c.index_mut.result.now u c.place-place.ensures.within c.index_mut.ensures.value (c.make-made.ensures.numbered d) (ap (λ (s : Slot). s.connection) there)

pub returns-in_default-clause-held : goal.returns-in_default-clause-held
returns-in_default-clause-held g c is_on d =
    held-kept c.args.self.now.slots.items c.place-place.result c.args.c (held_by c.args.self.now.lost) c.args.block.now _ c.make-made.new.slot c.index_mut.result.now d c.make-made.result
    c.place-place.ensures.within c.index_mut.ensures.value c.make-made.ensures.held (left-on c.make-made.result c.in_default.not-Lost)

pub returns-in_default-clause-numbers : goal.returns-in_default-clause-numbers
returns-in_default-clause-numbers g c d =
    numbers-set c.args.self.now.slots.items c.place-place.result d c.make-made.new.slot c.index_mut.result.now
    (c.make-made.ensures.numbered d ∙ ap (λ (s : Slot). is_at s d) c.index_mut.ensures.value) c.place-place.ensures.within

pub returns-in-Lost-clause-count : goal.returns-in-Lost-clause-count
returns-in-Lost-clause-count g c =
    let t : Slot = c.make-made.new.slot in
    let there : c.index_mut-in-Lost.result.now ≡ t =
    c.index_mut-in-Lost.ensures.value ∙ get_or-set_same c.args.self.now.slots.items c.place-place.result t _ c.place-place.ensures.within in
    let u : Slot = record { connection = c.index_mut-in-Lost.result.now.connection; joiner = c.swap.new.y; pieces = c.index_mut-in-Lost.result.now.pieces } in
    taken-items after_cut (with_item (with_item c.args.self.now.slots c.place-place.result t) c.place-place.result u) c.deref_mut.result.now c.refresh_all.new.slots c.deref_mut.ensures.value c.refresh_all.ensures
    ∙ taken-lost c.args.self.now.slots.items c.place-place.result t c.index_mut.result.now u c.place-place.ensures.within c.index_mut.ensures.value c.make-made.ensures.numbered (ap (λ (s : Slot). s.connection) there)

pub returns-in_default-clause-count : goal.returns-in_default-clause-count
returns-in_default-clause-count g c =
    taken-same c.args.self.now.slots.items c.place-place.result c.make-made.new.slot c.index_mut.result.now
    (λ d. c.make-made.ensures.numbered d ∙ ap (λ (s : Slot). is_at s d) c.index_mut.ensures.value) c.place-place.ensures.within
