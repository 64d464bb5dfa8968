-- The worked examples, computed.
use Rattle.std.specs.Prelude.{IsTrue, slice_index}
use Rattle.std.proofs.Common.{◌≡◌, ℕ, Bool, true, false, refl, ap}
use Rattle.ber_tlv.specs.Elements.{elements_of, header_of}
use Rattle.ber_tlv.specs.Reading.{tag_at, length_at, value_at, parts_at}
use Rattle.piv_model.specs.Memory.{Memory, stored, fits}
use Rattle.piv_model.specs.Objects.{place_of, row_at, object_table}
use Rattle.piv_model.specs.Forms.{is_pin}
use Rattle.piv_model.specs.ApplicationNames.{application_named}
use Rattle.piv_model.specs.PlainCard.{plain_memory}
use Rattle.piv_model.specs.Base.{is_valid}
use Rattle.piv_rules.specs.Asks.{ask}
use Rattle.piv_rules.specs.Channels.{channel}
use Rattle.piv_rules.specs.Memories.{tries, mem}
use Rattle.piv_rules.specs.Answers.{answer, answer_in, answer_to}
use Rattle.piv_rules.specs.Frames.{rest}
use Rattle.piv_rules.specs.Plans.{cost}
use Rattle.history_examples.specs.Examples.{plain, LoginOpens, IdleEndsTheLogin, WrongPinsBlock, PukUnblocks, ChangeLogsIn, WrongPukEndsTheLogin, PartsJoin, OtherHeadersAreRefused, PiecesEnd, WrongLoginLost, LossesBlock, RightLoginLost, RightLoginDone, UnblockingLost, PutLost, LossesArePlanned}

pub LoginOpens-row : LoginOpens
unfolding answer answer_in answer_to channel application_named mem tries ask elements_of tag_at length_at value_at parts_at header_of is_pin place_of row_at object_table plain_memory
LoginOpens-row = refl

pub IdleEndsTheLogin-row : IdleEndsTheLogin
unfolding answer answer_in answer_to channel application_named mem tries ask elements_of tag_at length_at value_at parts_at header_of is_pin place_of row_at object_table plain_memory
IdleEndsTheLogin-row = refl

pub WrongPinsBlock-row : WrongPinsBlock
unfolding answer answer_in answer_to channel application_named mem tries ask elements_of tag_at length_at value_at parts_at header_of is_pin place_of row_at object_table plain_memory
WrongPinsBlock-row = refl

pub PukUnblocks-row : PukUnblocks
unfolding answer answer_in answer_to channel application_named mem tries ask elements_of tag_at length_at value_at parts_at header_of is_pin place_of row_at object_table plain_memory
PukUnblocks-row = refl

pub ChangeLogsIn-row : ChangeLogsIn
unfolding answer answer_in answer_to channel application_named mem tries ask elements_of tag_at length_at value_at parts_at header_of is_pin place_of row_at object_table plain_memory
ChangeLogsIn-row = refl

pub WrongPukEndsTheLogin-row : WrongPukEndsTheLogin
unfolding answer answer_in answer_to channel application_named mem tries ask elements_of tag_at length_at value_at parts_at header_of is_pin place_of row_at object_table plain_memory
WrongPukEndsTheLogin-row = refl

pub PartsJoin-row : PartsJoin
unfolding answer answer_in answer_to channel application_named mem tries ask elements_of tag_at length_at value_at parts_at header_of is_pin place_of row_at object_table plain_memory
PartsJoin-row = (refl, refl, refl)

pub OtherHeadersAreRefused-row : OtherHeadersAreRefused
unfolding answer answer_in answer_to channel application_named mem tries ask elements_of tag_at length_at value_at parts_at header_of is_pin place_of row_at object_table plain_memory
OtherHeadersAreRefused-row = (refl, refl)

pub PiecesEnd-row : PiecesEnd
unfolding rest answer answer_in answer_to channel application_named mem tries ask elements_of tag_at length_at value_at parts_at header_of is_pin place_of row_at object_table plain_memory
PiecesEnd-row = (refl, refl, refl, refl)

two-three : ¬ (◌≡◌ {A = ℕ} 2 3)
two-three e = cc

three-two : ¬ (◌≡◌ {A = ℕ} 3 2)
three-two e = cc

three-one : ¬ (◌≡◌ {A = ℕ} 3 1)
three-one e = cc

false-true : ¬ (◌≡◌ {A = Bool} false true)
false-true e = cc

pub WrongLoginLost-row : WrongLoginLost
unfolding answer answer_in answer_to channel application_named mem tries ask elements_of tag_at length_at value_at parts_at header_of is_pin place_of row_at object_table plain_memory
WrongLoginLost-row =
    ((refl, λ e. two-three (ap (λ (m : Memory). m.pin.tries) e)), (refl, tt), (λ may. false-true may.0), refl, refl)

pub LossesBlock-row : LossesBlock
unfolding answer answer_in answer_to channel application_named mem tries ask elements_of tag_at length_at value_at parts_at header_of is_pin place_of row_at object_table plain_memory
LossesBlock-row = (refl, λ may. false-true may.3)

pub RightLoginLost-row : RightLoginLost
unfolding answer answer_in answer_to channel application_named mem tries ask elements_of tag_at length_at value_at parts_at header_of is_pin place_of row_at object_table plain_memory
RightLoginLost-row =
    ((refl, tt), (refl, λ e. two-three (ap (λ (m : Memory). m.pin.tries) e)), (λ may. may.1.0 refl refl), refl)

pub RightLoginDone-row : RightLoginDone
unfolding answer answer_in answer_to channel application_named mem tries ask elements_of tag_at length_at value_at parts_at header_of is_pin place_of row_at object_table plain_memory
RightLoginDone-row =
    ((refl, (λ other e. three-two (ap (λ (m : Memory). m.pin.tries) e), λ can e. three-one (ap (λ (m : Memory). m.pin.tries) e))), refl)

pub UnblockingLost-row : UnblockingLost
unfolding answer answer_in answer_to channel application_named mem tries ask elements_of tag_at length_at value_at parts_at header_of is_pin place_of row_at object_table plain_memory
UnblockingLost-row = (
  (refl, (λ other e. false-true other, λ can e. three-two (ap (λ (m : Memory). m.puk.tries) e))),
  (refl, tt),
  (refl, λ e. two-three (ap (λ (m : Memory). m.puk.tries) e)),
)

one-zero : ¬ (◌≡◌ {A = ℕ} 1 0)
one-zero e = cc

pub PutLost-row : PutLost
unfolding answer answer_in answer_to channel application_named mem tries ask elements_of tag_at length_at value_at parts_at header_of is_pin place_of row_at object_table plain_memory fits
PutLost-row = (
  (refl, refl, refl, refl),
  (refl, (λ other e. one-zero (ap (λ (m : Memory). slice_index (stored m 1) 1) e), λ can e. false-true can)),
  (refl, tt),
  (λ may. false-true may.0),
  refl,
  refl,
  (λ may. may.1.0 refl refl),
)

pub LossesArePlanned-row : LossesArePlanned
unfolding cost answer answer_in answer_to channel application_named mem tries ask elements_of tag_at length_at value_at parts_at header_of is_pin place_of row_at object_table plain_memory
LossesArePlanned-row = (
  (((((tt, tt), refl), refl), tt), refl),
  (((((((((((tt, tt), refl), refl), tt), refl), refl), tt), refl), refl), tt), refl),
  (λ h. false-true h.0.0.1),
  (λ h. false-true h.0.0.1),
  (λ h. false-true h.1),
  refl,
)

pub plain-valid : IsTrue (is_valid plain)
unfolding is_valid plain_memory
plain-valid = refl

pub ruleset example_rows = (
  plain-valid,
  LoginOpens-row,
  IdleEndsTheLogin-row,
  WrongPinsBlock-row,
  PukUnblocks-row,
  ChangeLogsIn-row,
  WrongPukEndsTheLogin-row,
  PartsJoin-row,
  OtherHeadersAreRefused-row,
  PiecesEnd-row,
  WrongLoginLost-row,
  LossesBlock-row,
  RightLoginLost-row,
  RightLoginDone-row,
  UnblockingLost-row,
  PutLost-row,
)
