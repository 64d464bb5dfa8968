-- The text of a run: the answers of each script, then the history of each card (this project's own).
use Rattle.std.specs.Prelude.{ℕ, List, [], ◌∷◌, ◌++◌, codes}
use Rattle.std.specs.List.{flat_map, zip, enumerate_from}
use Rattle.piv_model.specs.declared.answers.ApiAnswer.{ApiAnswer}
use Rattle.piv_model.specs.Entries.{Past}
use Rattle.entry_text.specs.AnswerTexts.{answer_line}
use Rattle.entry_text.specs.EntryTexts.{history_text}
use Rattle.script_line.specs.Scripts.{ScriptData}
use Rattle.scene_cards.specs.CardValues.{CardValue}
use Rattle.piv_scene.specs.SceneValues.{SceneValue}

-- a line of a word and a name
abbrev pub heading : List ℕ → List ℕ → List ℕ
heading word name = word ++ name ++ 10 ∷ []

-- the answers of a script's lines, which are counted from 1
abbrev pub answers_text : List ApiAnswer → List ℕ
answers_text answers = flat_map (λ a. answer_line a.0 a.1) (enumerate_from 1 answers)

abbrev pub script_text : List ℕ → List ApiAnswer → List ℕ
script_text name answers = heading (codes "script ") name ++ answers_text answers

abbrev pub card_text : List ℕ → Past → List ℕ
card_text name H = heading (codes "card ") name ++ history_text H

-- each script with its answers, and each card with its history
abbrev pub scripts_text : List ScriptData → List (List ApiAnswer) → List ℕ
scripts_text scripts answers = flat_map (λ s. script_text s.0.name s.1) (zip scripts answers)

abbrev pub cards_text : List CardValue → List Past → List ℕ
cards_text cards histories = flat_map (λ c. card_text c.0.name c.1) (zip cards histories)

abbrev pub run_text : SceneValue → List (List ApiAnswer) → List Past → List ℕ
run_text scene answers histories = scripts_text scene.scripts answers ++ cards_text scene.cards histories
