-- The worked examples of the policy, computed.
use Rattle.std.proofs.Common.{refl}
use Rattle.ber_tlv.specs.Elements.{elements_of, header_of}
use Rattle.ber_tlv.specs.Reading.{tag_at, length_at, value_at, parts_at}
use Rattle.piv_model.specs.ApplicationNames.{application_named}
use Rattle.piv_model.specs.Forms.{is_pin}
use Rattle.piv_model.specs.Objects.{place_of, row_at, object_table}
use Rattle.piv_model.specs.PlainCard.{plain_memory}
use Rattle.piv_rules.specs.Asks.{ask}
use Rattle.piv_rules.specs.Channels.{channel}
use Rattle.piv_rules.specs.Memories.{tries, mem}
use Rattle.piv_rules.specs.Answers.{answer, answer_in, answer_to}
use Rattle.history_examples.specs.PolicyExamples.{PolicyOfThePin, PolicyOfBoth}

pub PolicyOfThePin-row : PolicyOfThePin
unfolding answer answer_in answer_to channel application_named mem tries ask elements_of tag_at length_at value_at parts_at header_of is_pin place_of row_at object_table plain_memory
PolicyOfThePin-row = refl

pub PolicyOfBoth-row : PolicyOfBoth
unfolding answer answer_in answer_to channel application_named mem tries ask elements_of tag_at length_at value_at parts_at header_of is_pin place_of row_at object_table plain_memory
PolicyOfBoth-row = refl

pub ruleset policy_rows = (PolicyOfThePin-row, PolicyOfBoth-row)
