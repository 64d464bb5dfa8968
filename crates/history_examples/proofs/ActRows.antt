-- The worked examples of acts, computed.
use Rattle.std.proofs.Common.{◌≡◌, Bool, true, false, refl}
use Rattle.piv_model.specs.declared.kinds.Took.TheVariants.{Nothing}
use Rattle.ber_tlv.specs.Elements.{elements_of, header_of}
use Rattle.ber_tlv.specs.Reading.{tag_at, length_at, value_at, parts_at}
use Rattle.piv_model.specs.ApplicationNames.{application_named}
use Rattle.piv_model.specs.Forms.{is_pin}
use Rattle.piv_model.specs.Objects.{place_of, row_at, object_table}
use Rattle.piv_model.specs.PlainCard.{plain_memory}
use Rattle.piv_rules.specs.Asks.{ask}
use Rattle.piv_rules.specs.Channels.{channel}
use Rattle.piv_rules.specs.Memories.{tries, mem}
use Rattle.piv_rules.specs.Answers.{answer, answer_in, answer_to}
use Rattle.history_examples.specs.ActExamples.{ExchangeRefusals, ConnectRefusals, EpochsAreTold, LossesAreMute, NotesHaveCauses, OffIsNotedFirst}

pub ExchangeRefusals-row : ExchangeRefusals
ExchangeRefusals-row = (refl, refl, refl, refl, refl, refl)

pub ConnectRefusals-row : ConnectRefusals
ConnectRefusals-row = (refl, refl, refl, refl, refl, refl, refl)

pub EpochsAreTold-row : EpochsAreTold
EpochsAreTold-row = ((refl, refl), (refl, refl), (refl, refl), (refl, refl), (Nothing, refl, refl, refl), (refl, refl), (refl, refl))

pub LossesAreMute-row : LossesAreMute
unfolding answer answer_in answer_to channel application_named mem tries ask elements_of tag_at length_at value_at parts_at header_of is_pin place_of row_at object_table plain_memory
LossesAreMute-row = (refl, (refl, refl, refl, refl), refl)

false-true : ¬ (◌≡◌ {A = Bool} false true)
false-true e = cc

pub NotesHaveCauses-row : NotesHaveCauses
NotesHaveCauses-row = (refl, false-true, false-true, false-true, refl, false-true, false-true, false-true, false-true, refl, false-true)

pub OffIsNotedFirst-row : OffIsNotedFirst
OffIsNotedFirst-row = (refl, false-true, false-true, false-true, refl, false-true, false-true, false-true, false-true, false-true, false-true)

pub ruleset act_rows = (ExchangeRefusals-row, ConnectRefusals-row, EpochsAreTold-row, LossesAreMute-row, NotesHaveCauses-row, OffIsNotedFirst-row)
