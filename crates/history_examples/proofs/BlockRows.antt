-- The worked examples of the random blocks, computed.
use Rattle.std.proofs.Common.{refl}
use Rattle.ber_tlv.specs.Elements.{elements_of, header_of}
use Rattle.ber_tlv.specs.Reading.{tag_at, length_at, value_at, parts_at}
use Rattle.rand_core.specs.Steps.{u32_at}
use Rattle.rand_chacha.specs.Block.{quarter_round, column_round, diagonal_round, double_rounds, block_word}
use Rattle.piv_model.specs.ApplicationNames.{application_named}
use Rattle.piv_model.specs.PlainCard.{plain_memory}
use Rattle.piv_rules.specs.Asks.{ask}
use Rattle.piv_rules.specs.Channels.{channel}
use Rattle.piv_rules.specs.Memories.{tries, mem}
use Rattle.piv_rules.specs.RandomBlocks.{block_from}
use Rattle.piv_rules.specs.Answers.{answer, answer_in, answer_to}
use Rattle.history_examples.specs.BlockExamples.{FifthBlock, ChallengesGoOn}

pub FifthBlock-row : FifthBlock
unfolding block_from quarter_round column_round diagonal_round double_rounds block_word u32_at
FifthBlock-row = refl

pub ChallengesGoOn-row : ChallengesGoOn
unfolding answer answer_in answer_to channel application_named mem tries ask elements_of tag_at length_at value_at parts_at header_of plain_memory block_from quarter_round column_round diagonal_round double_rounds block_word u32_at
ChallengesGoOn-row = refl

pub ruleset block_rows = (FifthBlock-row, ChallengesGoOn-row)
