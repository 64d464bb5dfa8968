use Rattle.std.proofs.Common.{◌≡◌, ◌∙◌, sym, ap, subst, length, length-append, ◌+◌, List}
use Rattle.card_app.specs.declared.slot.Slot.{Slot}
use Rattle.card_app.specs.Kept.{AreFree}
use Rattle.card_app.specs.Held.{held_in, taken_in}
use Rattle.card_app.proofs.HeldLaws.{held-more, taken-append}
use Rattle.card_app.proofs.SlotLaws.{free-more}
use Rattle.card_app.proofs.card.free_slots.Goals as goal

pub loop-place-preserved : goal.loop-place-preserved
loop-place-preserved c = record {
  long = ap (λ (v : List Slot). length v) c.in_ok-push.ensures.items ∙ length-append c.loop-place.slots.items _ ∙ ap (λ n. n + 1) c.loop-place.invariant.long;
  free = subst (λ (v : List Slot). AreFree v) (sym c.in_ok-push.ensures.items) (free-more c.loop-place.slots.items c.in_ok-slot.slot c.loop-place.invariant.free c.in_ok-slot.ensures.free);
  held = subst (λ (v : List Slot). held_in v ≡ 0) (sym c.in_ok-push.ensures.items) (held-more c.loop-place.slots.items c.in_ok-slot.slot c.loop-place.invariant.held c.in_ok-slot.ensures.closed);
  taken = subst (λ (v : List Slot). taken_in v ≡ 0) (sym c.in_ok-push.ensures.items) (taken-append c.loop-place.slots.items c.in_ok-slot.slot c.loop-place.invariant.taken c.in_ok-slot.ensures.free);
}
