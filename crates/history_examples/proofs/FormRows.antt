-- The worked examples of forms, computed.
use Rattle.std.proofs.Common.{refl}
use Rattle.ber_tlv.specs.Elements.{elements_of, header_of}
use Rattle.ber_tlv.specs.Reading.{tag_at, length_at, value_at, parts_at}
use Rattle.piv_model.specs.ApplicationNames.{application_named}
use Rattle.piv_model.specs.Forms.{is_pin, is_discovery}
use Rattle.piv_model.specs.Objects.{place_of, object_table}
use Rattle.piv_model.specs.PlainCard.{plain_memory}
use Rattle.piv_rules.specs.Asks.{ask}
use Rattle.piv_rules.specs.Channels.{channel}
use Rattle.piv_rules.specs.Memories.{tries, mem}
use Rattle.piv_rules.specs.Answers.{answer, answer_in, answer_to}
use Rattle.history_examples.specs.FormExamples.{PinForms, PivName, TagLists, ValuesUnderTags, DiscoveryForms, NewValues, TemplateForms}

pub PinForms-row : PinForms
unfolding is_pin
PinForms-row = (refl, refl, refl, refl, refl, refl, refl, refl, refl, refl)

pub PivName-row : PivName
unfolding answer answer_in answer_to channel application_named mem tries ask plain_memory
PivName-row = (refl, refl, refl, refl, refl, refl, refl)

pub TagLists-row : TagLists
unfolding ask elements_of tag_at length_at value_at parts_at header_of place_of object_table plain_memory
TagLists-row = (refl, refl, refl, refl, refl, refl, refl, refl)

pub ValuesUnderTags-row : ValuesUnderTags
unfolding ask elements_of tag_at length_at value_at parts_at header_of place_of object_table plain_memory is_discovery
ValuesUnderTags-row = (refl, refl, refl, refl, refl, refl, refl, refl)

pub DiscoveryForms-row : DiscoveryForms
unfolding ask elements_of tag_at length_at value_at parts_at header_of place_of object_table plain_memory is_discovery
DiscoveryForms-row = (refl, refl, refl, refl, refl, refl, refl, refl, refl)

pub NewValues-row : NewValues
unfolding ask is_pin plain_memory
NewValues-row = (refl, refl, refl, refl, refl, refl, refl, refl, refl, refl)

pub TemplateForms-row : TemplateForms
unfolding ask elements_of tag_at length_at value_at parts_at header_of plain_memory
TemplateForms-row = (refl, refl, refl, refl, refl, refl, refl, refl, refl)

pub ruleset form_rows = (PinForms-row, PivName-row, TagLists-row, ValuesUnderTags-row, DiscoveryForms-row, NewValues-row, TemplateForms-row)
