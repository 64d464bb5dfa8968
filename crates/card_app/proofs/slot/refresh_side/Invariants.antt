use Rattle.std.proofs.Common.{◌≡◌, ℕ, ◌<◌, ◌≤◌, get_or}
use Rattle.card_laws.specs.ConnectionSteps.{after_reset}
use Rattle.card_app.specs.declared.slot.Slot.{Slot}
use Rattle.card_app.specs.Kept.{BecameBy}
use Rattle.card_app.proofs.slot.refresh_side.Given as goal

abbrev pub invariant-loop-slot : goal.invariant-loop-slot
invariant-loop-slot l = record {
  done : (k : ℕ) (d : Slot) → k < l.slot-index → BecameBy (after_reset l.interface) (get_or l.initial.slots k d) (get_or l.slots k d);
  still : (k : ℕ) (d : Slot) → l.slot-index ≤ k → get_or l.slots k d ≡ get_or l.initial.slots k d;
}
