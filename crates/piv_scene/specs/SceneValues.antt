-- A scene (this project's own).
use Rattle.std.specs.Prelude.{◌≡◌, ◌<◌, ◌≤◌, ℕ, true, List, ◌++◌, length, map}
use Rattle.std.specs.List.{AllByRecursion, IsDistinct, flat_map}
use Rattle.std.specs.Str.{bytes_eq}
use Rattle.script_line.specs.Playable.{ArePlayable}
use Rattle.script_line.specs.Scripts.{ScriptData}
use Rattle.scene_cards.specs.Cards.{named}
use Rattle.scene_cards.specs.CardValues.{CardValue, AreCards, card_value}
use Rattle.piv_scene.specs.Documents.{SceneData}
use Rattle.piv_scene.specs.SceneLimits.{all_lines}
use Rattle.piv_scene.specs.Scripts.{names_known}

pub record SceneValue : Type 0 where
  pub cards : List CardValue
  pub scripts : List ScriptData
  pub schedule : List ℕ

abbrev pub scene_value : SceneData → SceneValue
scene_value d = record { cards = map card_value d.cards; scripts = d.scripts; schedule = d.schedule }

-- the names of its cards, and of their readers, each card's for contact first
abbrev pub names_of_cards : List CardValue → List (List ℕ)
names_of_cards cards = map (λ c. c.name) cards

abbrev pub names_of_readers : List CardValue → List (List ℕ)
names_of_readers cards = flat_map (λ c. named c.contact ++ named c.contactless) cards

-- a script whose lines can be played, and name cards and readers that there are
pub record IsScriptOf (cards readers : List (List ℕ)) (script : ScriptData) : Type 0 where
  pub playable : ArePlayable script.lines
  pub known : AllByRecursion (λ line. names_known cards readers line ≡ true) script.lines

-- what holds of each scene
pub record IsScene (s : SceneValue) : Type 0 where
  -- a device can begin with each of the cards
  pub cards : AreCards s.cards
  pub some_cards : 1 ≤ length s.cards
  pub few_cards : length s.cards ≤ 8
  pub card_names : IsDistinct bytes_eq (names_of_cards s.cards)
  pub reader_names : IsDistinct bytes_eq (names_of_readers s.cards)
  pub scripts : AllByRecursion (IsScriptOf (names_of_cards s.cards) (names_of_readers s.cards)) s.scripts
  pub few_scripts : length s.scripts ≤ 64
  pub few_lines : length (all_lines s.scripts) ≤ 4096
  pub schedule : AllByRecursion (λ place. place < length s.scripts) s.schedule
  pub few_places : length s.schedule ≤ 65536
