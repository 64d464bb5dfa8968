-- The worked examples with a challenge, computed: the first random block of the plain card, and answers to it.
use Rattle.std.proofs.Common.{◌≡◌, ◌∷◌, [], refl, ap, ◌∙◌}
use Rattle.rand_core.specs.Steps.{u32_at}
use Rattle.rand_chacha.specs.Block.{quarter_round, column_round, diagonal_round, double_rounds, block_word}
use Rattle.ber_tlv.specs.Elements.{elements_of, header_of}
use Rattle.ber_tlv.specs.Reading.{tag_at, length_at, value_at, parts_at}
use Rattle.piv_model.specs.Field.{product, remainder, mul, power_x, search_inverse, inverse, affine, sub_byte}
use Rattle.piv_model.specs.Cipher.{add_bytes, sub_bytes, row_times, each_column, schedule_term, next_word, words, round_key, state_after, all_rounds, encipher}
use Rattle.piv_model.specs.Memory.{fits}
use Rattle.piv_model.specs.Objects.{place_of, object_table}
use Rattle.piv_model.specs.ApplicationNames.{full_aid, application_named}
use Rattle.piv_model.specs.PlainCard.{plain_memory, plain_admin_key}
use Rattle.piv_rules.specs.Asks.{ask}
use Rattle.piv_rules.specs.Channels.{channel}
use Rattle.piv_rules.specs.Memories.{tries, mem}
use Rattle.piv_rules.specs.RandomBlocks.{block_from, next_block}
use Rattle.piv_rules.specs.Answers.{answer, answer_in, answer_to, template_with}
use Rattle.history_examples.specs.Examples.{plain, start, after, select, ask_witness, with_data, ChallengeIsTheBlock, ChallengeIsAnsweredOnce, WitnessIsAnswered, first_block, response, counting, counting_enciphered}

-- the cipher over the block
response-block : encipher plain_admin_key first_block ≡ response
unfolding product remainder mul power_x search_inverse inverse affine sub_byte add_bytes sub_bytes row_times each_column schedule_term next_word words round_key state_after all_rounds encipher
response-block = refl

pub ChallengeIsTheBlock-row : ChallengeIsTheBlock
unfolding answer answer_in answer_to channel application_named mem tries ask elements_of tag_at length_at value_at parts_at header_of plain_memory block_from quarter_round column_round diagonal_round double_rounds block_word u32_at
ChallengeIsTheBlock-row = refl

pub ChallengeIsAnsweredOnce-row : ChallengeIsAnsweredOnce
unfolding answer answer_in answer_to channel application_named mem tries fits ask elements_of tag_at length_at value_at parts_at header_of plain_memory place_of object_table
ChallengeIsAnsweredOnce-row = (rw response-block refl, refl, rw response-block refl, refl)

counting-block : encipher plain_admin_key counting ≡ counting_enciphered
unfolding product remainder mul power_x search_inverse inverse affine sub_byte add_bytes sub_bytes row_times each_column schedule_term next_word words round_key state_after all_rounds encipher
counting-block = refl

-- the block that the Witness hides
witness-block : next_block plain (after plain start (select full_aid ∷ [])) ≡ first_block
unfolding answer answer_in answer_to channel application_named mem tries ask plain_memory block_from quarter_round column_round diagonal_round double_rounds block_word u32_at
witness-block = refl

witness-given : answer plain (after plain start (select full_aid ∷ [])) 1 ask_witness
    ≡ with_data (template_with 0x80 (encipher plain_admin_key (next_block plain (after plain start (select full_aid ∷ [])))))
unfolding answer answer_in answer_to channel application_named mem tries ask elements_of tag_at length_at value_at parts_at header_of plain_memory
witness-given = refl

pub WitnessIsAnswered-row : WitnessIsAnswered
unfolding answer answer_in answer_to channel application_named mem tries fits ask elements_of tag_at length_at value_at parts_at header_of plain_memory place_of object_table
WitnessIsAnswered-row = (
  witness-given ∙ ap (λ b. with_data (template_with 0x80 (encipher plain_admin_key b))) witness-block
      ∙ ap (λ x. with_data (template_with 0x80 x)) response-block,
  refl,
  refl,
  rw counting-block refl,
  refl,
)

pub ruleset challenge_rows = (ChallengeIsTheBlock-row, ChallengeIsAnsweredOnce-row, WitnessIsAnswered-row)
