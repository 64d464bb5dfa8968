-- The worked examples of headers, computed.
use Rattle.std.proofs.Common.{refl}
use Rattle.piv_model.specs.ApduForms.{apdu_spelled}
use Rattle.piv_model.specs.ApplicationNames.{application_named}
use Rattle.piv_model.specs.Forms.{is_pin}
use Rattle.piv_model.specs.PlainCard.{plain_memory}
use Rattle.piv_rules.specs.Asks.{ask}
use Rattle.piv_rules.specs.Channels.{channel}
use Rattle.piv_rules.specs.Memories.{tries, mem}
use Rattle.piv_rules.specs.Answers.{answer, answer_in, answer_to}
use Rattle.history_examples.specs.ParameterExamples.{ParametersComeFirst, ReferencesAreKnown, NewPukUnblocks, NoOtherCommand, BytesOfCommands, ClassesOfCommands}

pub ParametersComeFirst-row : ParametersComeFirst
unfolding ask plain_memory
ParametersComeFirst-row = (refl, refl, refl, refl, refl, refl, refl, refl, refl)

pub ReferencesAreKnown-row : ReferencesAreKnown
unfolding ask is_pin plain_memory
ReferencesAreKnown-row = (refl, refl, refl, refl, refl, refl, refl, refl, refl, refl, refl)

pub NewPukUnblocks-row : NewPukUnblocks
unfolding answer answer_in answer_to channel application_named mem tries ask is_pin plain_memory
NewPukUnblocks-row = refl

pub NoOtherCommand-row : NoOtherCommand
unfolding ask
NoOtherCommand-row = (refl, refl, refl)

pub BytesOfCommands-row : BytesOfCommands
unfolding apdu_spelled
BytesOfCommands-row = (refl, refl, refl, refl, refl, refl, refl, refl, refl)

pub ClassesOfCommands-row : ClassesOfCommands
unfolding apdu_spelled
ClassesOfCommands-row = (refl, refl, refl, refl, refl, refl, refl, refl, refl, refl)

pub ruleset parameter_rows = (ParametersComeFirst-row, ReferencesAreKnown-row, NewPukUnblocks-row, NoOtherCommand-row, BytesOfCommands-row, ClassesOfCommands-row)
