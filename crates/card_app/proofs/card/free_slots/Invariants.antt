use Rattle.std.proofs.Common.{◌≡◌, length}
use Rattle.card_app.specs.Kept.{AreFree}
use Rattle.card_app.specs.Held.{held_in, taken_in}
use Rattle.card_app.proofs.card.free_slots.Given as goal

abbrev pub invariant-loop-place : goal.invariant-loop-place
invariant-loop-place l = record { long : length l.slots.items ≡ l.place; free : AreFree l.slots.items; held : held_in l.slots.items ≡ 0; taken : taken_in l.slots.items ≡ 0 }
