-- The worked examples at the limits, computed.
use Rattle.std.proofs.Common.{◌≡◌, ◌+◌, ◌≤◌, Bool, true, false, refl, eq-eqb, arith}
use Rattle.ber_tlv.specs.Elements.{elements_of, header_of}
use Rattle.ber_tlv.specs.Reading.{tag_at, length_at, value_at, parts_at}
use Rattle.piv_model.specs.ApplicationNames.{application_named}
use Rattle.piv_model.specs.Forms.{is_pin}
use Rattle.piv_model.specs.Memory.{fits}
use Rattle.piv_model.specs.Objects.{place_of, row_at, object_table}
use Rattle.piv_model.specs.PlainCard.{plain_memory}
use Rattle.piv_rules.specs.Asks.{ask}
use Rattle.piv_rules.specs.Channels.{channel}
use Rattle.piv_rules.specs.Memories.{tries, mem}
use Rattle.piv_rules.specs.Answers.{answer, answer_in, answer_to}
use Rattle.piv_rules.specs.Plans.{cost}
use Rattle.history_examples.specs.LimitExamples.{PieceWords, LongestChain, ChainTooLong, SeventeenthConnection, LastRests, RestsFollowReplies, WordsOfFraming, LossesAreInWriters, CommandCosts}

pub PieceWords-row : PieceWords
PieceWords-row = (refl, refl, refl, refl, refl)

pub LongestChain-row : LongestChain
LongestChain-row j body long = rw (eq-eqb j.ins j.ins refl, eq-eqb j.p1 j.p1 refl, eq-eqb j.p2 j.p2 refl, long) refl

pub ChainTooLong-row : ChainTooLong
ChainTooLong-row j body long = rw (eq-eqb j.ins j.ins refl, eq-eqb j.p1 j.p1 refl, eq-eqb j.p2 j.p2 refl, long) refl

false-true : ¬ (◌≡◌ {A = Bool} false true)
false-true e = cc

pub SeventeenthConnection-row : SeventeenthConnection
SeventeenthConnection-row = (refl, (refl, refl, refl, refl), false-true, refl, refl, (λ a. false-true a.2), refl)

seven-six : ¬ (5 + 2 ≤ 6)
seven-six h = omega arith

pub LastRests-row : LastRests
unfolding answer answer_in answer_to channel application_named mem tries ask elements_of tag_at length_at value_at parts_at header_of is_pin place_of row_at object_table plain_memory
LastRests-row = ((refl, refl, omega arith), (λ a. seven-six a.2), (λ a. a.2))

pub RestsFollowReplies-row : RestsFollowReplies
unfolding answer answer_in answer_to channel application_named mem tries ask elements_of tag_at length_at value_at parts_at header_of is_pin place_of row_at object_table plain_memory
RestsFollowReplies-row = ((refl, refl, omega arith), (λ a. a.2), (λ a. a.2), (λ a. a.2), (λ a. a.2), (λ a. a.2), (λ a. a.2))

pub WordsOfFraming-row : WordsOfFraming
WordsOfFraming-row = (
  (refl, refl, refl),
  (refl, refl, refl),
  (refl, refl, refl),
  (refl, refl, refl),
  (refl, refl, refl),
  (refl, refl, refl),
  (refl, refl, refl),
  (λ a. false-true a.2),
  (λ a. false-true a.2),
  (λ a. false-true a.2),
  (λ a. false-true a.2),
  (λ a. false-true a.2),
  (λ a. false-true a.2),
  (λ a. false-true a.2),
  (λ a. false-true a.2),
  (λ a. false-true a.2),
)

pub LossesAreInWriters-row : LossesAreInWriters
unfolding answer answer_in answer_to channel application_named mem tries ask elements_of tag_at length_at value_at parts_at header_of is_pin place_of row_at object_table plain_memory fits
LossesAreInWriters-row = (
  (refl, refl, refl, refl),
  (refl, refl, refl, refl),
  (λ a. false-true a.3),
  (λ a. false-true a.2),
  (λ a. false-true a.2),
  (λ a. false-true a.2),
  (λ a. false-true a.2),
  (λ a. false-true a.3),
  (λ a. false-true a.1),
)

pub CommandCosts-row : CommandCosts
unfolding cost answer answer_in answer_to channel application_named mem tries ask elements_of tag_at length_at value_at parts_at header_of is_pin place_of row_at object_table plain_memory fits
CommandCosts-row = (refl, refl, refl, refl, refl, refl)

pub ruleset limit_rows = (
  PieceWords-row,
  LongestChain-row,
  ChainTooLong-row,
  SeventeenthConnection-row,
  LastRests-row,
  RestsFollowReplies-row,
  WordsOfFraming-row,
  LossesAreInWriters-row,
  CommandCosts-row,
)
