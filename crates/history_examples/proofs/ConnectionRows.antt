-- The worked examples on connections, computed.
use Rattle.std.specs.Prelude.{IsTrue}
use Rattle.std.proofs.Common.{◌≡◌, Bool, true, false, refl}
use Rattle.ber_tlv.specs.Elements.{elements_of, header_of}
use Rattle.ber_tlv.specs.Reading.{tag_at, length_at, value_at, parts_at}
use Rattle.piv_model.specs.ApplicationNames.{application_named}
use Rattle.piv_model.specs.Base.{is_valid}
use Rattle.piv_model.specs.Forms.{is_pin, is_discovery}
use Rattle.piv_model.specs.Objects.{place_of, row_at, object_table}
use Rattle.piv_model.specs.PlainCard.{plain_memory}
use Rattle.piv_rules.specs.Asks.{ask}
use Rattle.piv_rules.specs.Channels.{channel}
use Rattle.piv_rules.specs.Memories.{tries, mem}
use Rattle.piv_rules.specs.Answers.{answer, answer_in, answer_to}
use Rattle.history_examples.specs.ConnectionExamples.{with_global, ContactlessServesLittle, GlobalPinOpens, ExclusiveLocks}

pub ContactlessServesLittle-row : ContactlessServesLittle
unfolding answer answer_in answer_to channel application_named mem tries ask elements_of tag_at length_at value_at parts_at header_of is_pin place_of row_at object_table plain_memory
ContactlessServesLittle-row = refl

pub global-valid : IsTrue (is_valid with_global)
unfolding is_valid plain_memory is_discovery
global-valid = refl

pub GlobalPinOpens-row : GlobalPinOpens
unfolding answer answer_in answer_to channel application_named mem tries ask elements_of tag_at length_at value_at parts_at header_of is_pin place_of row_at object_table plain_memory
GlobalPinOpens-row = (refl, refl)

false-true : ¬ (◌≡◌ {A = Bool} false true)
false-true e = cc

pub ExclusiveLocks-row : ExclusiveLocks
ExclusiveLocks-row = (refl, refl, refl, refl, refl, refl, false-true)

pub ruleset connection_rows = (ContactlessServesLittle-row, global-valid, GlobalPinOpens-row, ExclusiveLocks-row)
