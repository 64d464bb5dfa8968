-- The worked examples of refusals, computed.
use Rattle.std.proofs.Common.{refl}
use Rattle.ber_tlv.specs.Elements.{elements_of, header_of}
use Rattle.ber_tlv.specs.Reading.{tag_at, length_at, value_at, parts_at}
use Rattle.piv_model.specs.ApplicationNames.{application_named}
use Rattle.piv_model.specs.Forms.{is_pin, is_discovery}
use Rattle.piv_model.specs.Objects.{place_of, row_at, object_table}
use Rattle.piv_model.specs.PlainCard.{plain_memory}
use Rattle.piv_rules.specs.Asks.{ask}
use Rattle.piv_rules.specs.Channels.{channel}
use Rattle.piv_rules.specs.Memories.{tries, mem}
use Rattle.piv_rules.specs.Answers.{answer, answer_in, answer_to}
use Rattle.history_examples.specs.RefusalExamples.{VerifyRefusals, GetResponseRefusals, DiscoveryUnderATagList, FieldsStandOnce, MutualWithAnEmptyResponse, FetchesInAChain, DiscoveryIsGiven, KeysHaveTheirForms}

pub VerifyRefusals-row : VerifyRefusals
unfolding answer answer_in answer_to channel application_named mem tries ask elements_of tag_at length_at value_at parts_at header_of is_pin place_of row_at object_table plain_memory
VerifyRefusals-row = (refl, refl, refl, refl)

pub GetResponseRefusals-row : GetResponseRefusals
GetResponseRefusals-row = (refl, refl, refl, refl, refl)

pub DiscoveryUnderATagList-row : DiscoveryUnderATagList
unfolding answer answer_in answer_to channel application_named mem tries ask elements_of tag_at length_at value_at parts_at header_of is_pin place_of row_at object_table plain_memory is_discovery
DiscoveryUnderATagList-row = (refl, refl, refl, refl)

pub FieldsStandOnce-row : FieldsStandOnce
unfolding answer answer_in answer_to channel application_named mem tries ask elements_of tag_at length_at value_at parts_at header_of is_pin place_of row_at object_table plain_memory
FieldsStandOnce-row = (refl, refl, refl)

pub MutualWithAnEmptyResponse-row : MutualWithAnEmptyResponse
unfolding answer answer_in answer_to channel application_named mem tries ask elements_of tag_at length_at value_at parts_at header_of is_pin place_of row_at object_table plain_memory
MutualWithAnEmptyResponse-row = (refl, refl, refl)

pub FetchesInAChain-row : FetchesInAChain
FetchesInAChain-row = (refl, refl, refl)

pub DiscoveryIsGiven-row : DiscoveryIsGiven
unfolding answer answer_in answer_to channel application_named mem tries ask elements_of tag_at length_at value_at parts_at header_of is_pin place_of row_at object_table plain_memory
DiscoveryIsGiven-row = refl

pub KeysHaveTheirForms-row : KeysHaveTheirForms
unfolding answer answer_in answer_to channel application_named mem tries ask elements_of tag_at length_at value_at parts_at header_of is_pin place_of row_at object_table plain_memory
KeysHaveTheirForms-row = (refl, refl, refl, refl, refl, refl)

pub ruleset refusal_rows = (
  VerifyRefusals-row,
  GetResponseRefusals-row,
  DiscoveryUnderATagList-row,
  FieldsStandOnce-row,
  MutualWithAnEmptyResponse-row,
  FetchesInAChain-row,
  DiscoveryIsGiven-row,
  KeysHaveTheirForms-row,
)
