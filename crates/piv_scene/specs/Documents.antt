-- A document in the order of its places: cards, scripts, their lines, the schedule. The first that is wrong is the
-- answer (this project's own).
use Rattle.std.specs.Prelude.{ℕ, ◌+◌, List, [], ◌∷◌, ◌++◌, length, codes, Option, Some, None, option_and_then, Result, Ok, Err}
use Rattle.toml.specs.Data.{Members, get_member}
use Rattle.piv_model.specs.declared.places.Where.{Where}
use Rattle.piv_model.specs.declared.places.Where.TheVariants as place
use Rattle.script_line.specs.declared.line.Line.{Line}
use Rattle.script_line.specs.Scripts.{ScriptData}
use Rattle.scene_table.specs.Readings.{document, each_after, items_or_none}
use Rattle.scene_cards.specs.Cards.{CardData, bad_item, tables, cards_at}
use Rattle.piv_scene.specs.Scripts.{RawScript, script_of, scene_line, schedule_place}

-- what a document says
pub record SceneData : Type 0 where
  pub cards : List CardData
  pub scripts : List ScriptData
  pub schedule : List ℕ

infixl 10 ◌>>=◌
abbrev pub ◌>>=◌ : {A B : Type 0} → Result A Where → (A → Result B Where) → Result B Where
(Ok a) >>= f = f a
(Err w) >>= f = Err w

abbrev pub or_at : {A : Type 0} → Where → Option A → Result A Where
or_at w None = Err w
or_at w (Some a) = Ok a

abbrev pub raw_scripts_at : Members → Result (List RawScript) Where
raw_scripts_at doc = do
  ds ← or_at (place.Script 0) (option_and_then tables (items_or_none (get_member (codes "script") doc)))
  bad_item place.Script (each_after script_of [] ds)

abbrev pub with_lines : List ℕ → Result (List Line) Where → Result ScriptData Where
with_lines name (Ok lines) = Ok (record { name = name; lines = lines })
with_lines name (Err w) = Err w

-- the lines of script n, which are counted from 1
abbrev pub script_at : List CardData → ℕ → RawScript → Result ScriptData Where
script_at cards n raw = with_lines raw.name (bad_item (λ m. place.Line n (m + 1)) (each_after (scene_line cards) [] raw.lines))

-- the scripts behind these, whose lines are read
unfoldable pub scripts_after : List CardData → List ScriptData → List RawScript → Result (List ScriptData) Where
scripts_after cards before [] = Ok before
scripts_after cards before (raw ∷ raws) = script_at cards (length before) raw >>= (λ s. scripts_after cards (before ++ s ∷ []) raws)

abbrev pub schedule_at : ℕ → Members → Result (List ℕ) Where
schedule_at scripts doc = do
  ds ← or_at place.Schedule (items_or_none (get_member (codes "schedule") doc))
  bad_item (λ n. place.Schedule) (each_after (schedule_place scripts) [] ds)

-- the scripts and the schedule of a document, behind its cards
abbrev pub after_cards : List CardData → Members → Result (List ScriptData × List ℕ) Where
after_cards cards doc = do
  raws ← raw_scripts_at doc
  scripts ← scripts_after cards [] raws
  schedule ← schedule_at (length scripts) doc
  Ok (scripts, schedule)

abbrev pub with_document : Members → Result SceneData Where
with_document doc = do
  cards ← cards_at doc
  rest ← after_cards cards doc
  Ok (record { cards = cards; scripts = rest.0; schedule = rest.1 })

-- what the bytes of a scene say, or the first place where they are wrong
abbrev pub scene_of : List ℕ → Result SceneData Where
scene_of bytes = do
  doc ← or_at place.NotToml (document bytes)
  with_document doc
