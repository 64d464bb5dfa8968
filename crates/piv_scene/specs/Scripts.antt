-- The scripts and the schedule of a scene (this project's own).
use Rattle.std.specs.Prelude.{ℕ, nat_lt, Bool, true, if◌then◌else◌, List, map, codes, Option, Some, None}
use Rattle.toml.specs.Data.{Data, Items, get_member, as_str, as_table}
use Rattle.line_words.specs.Words.{◌>>=◌, words}
use Rattle.script_line.specs.declared.line.Line.{Line}
use Rattle.script_line.specs.declared.line.Line.TheVariants.{Reset, Cut, Power}
use Rattle.script_line.specs.LineReading.{line_of_words}
use Rattle.scene_table.specs.Names.{is_among, fresh}
use Rattle.scene_table.specs.Readings.{from_zero, items_or_none, all_strings}
use Rattle.scene_table.specs.Values.{such_that, name_value}
use Rattle.scene_cards.specs.Cards.{CardData, card_names, reader_names}

-- a script whose lines aren't read yet
pub record RawScript : Type 0 where
  pub name : List ℕ
  pub lines : Items

abbrev pub script_names : List RawScript → List (List ℕ)
script_names scripts = map (λ s. s.name) scripts

abbrev pub raw_script : List ℕ → Items → Option RawScript
raw_script name lines = if all_strings lines then Some (record { name = name; lines = lines }) else None

-- a script behind others: a name that none of them has, and lines that are strings
abbrev pub script_of : List RawScript → Data → Option RawScript
script_of before d = do
  t ← as_table d
  name ← get_member (codes "name") t >>= name_value >>= fresh (script_names before)
  lines ← items_or_none (get_member (codes "lines") t)
  raw_script name lines

-- a line names cards and readers that there are; only `connect` may name another reader
abbrev pub names_known : List (List ℕ) → List (List ℕ) → Line → Bool
names_known cards readers (Reset reader) = is_among readers reader
names_known cards readers (Cut card) = is_among cards card
names_known cards readers (Power card) = is_among cards card
names_known cards readers _ = true

abbrev pub is_known : List CardData → Line → Bool
is_known cards line = names_known (card_names cards) (reader_names cards) line

abbrev pub scene_line : List CardData → List Line → Data → Option Line
scene_line cards before d = as_str d >>= (λ text. line_of_words (words text) >>= such_that (is_known cards))

-- the place of a script, of which there are so many
abbrev pub schedule_place : ℕ → List ℕ → Data → Option ℕ
schedule_place scripts before d = from_zero d >>= such_that (λ k. nat_lt k scripts)
