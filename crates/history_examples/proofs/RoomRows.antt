-- The worked examples of room, of memories and of rules, computed.
use Rattle.std.proofs.Common.{◌≡◌, ℕ, Bool, true, false, refl}
use Rattle.piv_model.specs.Forms.{is_pin}
use Rattle.piv_model.specs.Memory.{fits}
use Rattle.piv_model.specs.Objects.{row_at, object_table}
use Rattle.piv_model.specs.PlainCard.{plain_memory}
use Rattle.piv_model.specs.declared.kinds.RefId.TheVariants.{Pin}
use Rattle.history_examples.specs.RoomExamples.{RoomIsExact, LongestValue, LimitsOfCounters, SizesOfKeys, UnsoundMemories, RulesOfObjects}

pub RoomIsExact-row : RoomIsExact
unfolding fits plain_memory
RoomIsExact-row = (refl, refl, refl, refl, refl, refl)

pub LongestValue-row : LongestValue
unfolding fits plain_memory
LongestValue-row = ((λ v long. rw long refl), (λ v long. rw long refl))

pub LimitsOfCounters-row : LimitsOfCounters
LimitsOfCounters-row = (refl, refl, refl, refl, refl, refl)

pub SizesOfKeys-row : SizesOfKeys
SizesOfKeys-row = (refl, refl, refl, refl, refl, refl, refl)

false-true : ¬ (◌≡◌ {A = Bool} false true)
false-true e = cc

too-few : ¬ (◌≡◌ {A = ℕ} 32 33)
too-few e = cc

too-many : ¬ (◌≡◌ {A = ℕ} 34 33)
too-many e = cc

pub UnsoundMemories-row : UnsoundMemories
unfolding plain_memory is_pin
UnsoundMemories-row = (
  (λ s. false-true s.budget),
  (λ s. false-true s.room),
  (λ s. false-true s.budget),
  (λ s. false-true (s.secrets Pin refl)),
  (λ s. too-few s.places),
  (λ s. too-many s.places),
)

pub RulesOfObjects-row : RulesOfObjects
unfolding row_at object_table
RulesOfObjects-row = (refl, refl, refl, refl)

pub ruleset room_rows = (RoomIsExact-row, LongestValue-row, LimitsOfCounters-row, SizesOfKeys-row, UnsoundMemories-row, RulesOfObjects-row)
