-- The words of a comparison and of a put are those of the table of answers, where no earlier line of it fits.
use Rattle.std.specs.Prelude.{◌≡◌, ℕ, true, List}
use Rattle.piv_model.specs.declared.kinds.RefId.{RefId}
use Rattle.piv_rules.specs.Asks.{Ask, Purpose, Put, Compare}
use Rattle.piv_rules.specs.Answers.{Situation, holds, rule_of, answer_to}
use Rattle.card_commands.specs.Carried.{last_lines_word}

-- PIV is selected, and the access rule holds
abbrev pub AnswersByTheTable : Ask → Type 0
AnswersByTheTable a = (s : Situation) → s.channel.piv ≡ true → holds s (rule_of s.interface a) ≡ true
    → (answer_to s a).word ≡ last_lines_word s.memory a

abbrev pub ComparesByTheTable : Type 0
ComparesByTheTable = (r : RefId) (p : List ℕ) (purpose : Purpose) → AnswersByTheTable (Compare r p purpose)

abbrev pub PutsByTheTable : Type 0
PutsByTheTable = (place : ℕ) (v : List ℕ) → AnswersByTheTable (Put place v)
