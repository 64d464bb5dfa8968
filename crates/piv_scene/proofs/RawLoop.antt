-- A loop over scripts whose lines are read.
use Rattle.std.proofs.Common.{◌≡◌, ℕ, ◌+◌, ◌<◌, ◌≤◌, List, [], ◌∷◌, ◌++◌, length, drop, get_or, map, Result, Ok, Err, refl}
use Rattle.std.proofs.lemmas.List.{drop_all, drop_more}
use Rattle.piv_model.specs.declared.places.Where.{Where}
use Rattle.script_line.specs.Scripts.{ScriptData}
use Rattle.scene_table.specs.declared.fault.SceneFault.{SceneFault}
use Rattle.scene_table.specs.declared.fault.SceneFault.TheVariants.{Bad, TooLarge, NoMemory}
use Rattle.piv_scene.specs.declared.scripts.LentScript.{LentScript}
use Rattle.piv_scene.specs.Views.{raw_view}
use Rattle.scene_cards.specs.Cards.{CardData}
use Rattle.scene_table.specs.Answers.{GivesPlace}
use Rattle.piv_scene.specs.Documents.{script_at, scripts_after}

pub raw-next : (names : List CardData) (done : List ScriptData) (raws : List LentScript) (i : ℕ) (x : LentScript) (s : ScriptData) → i < length raws → x ≡ get_or raws i x
    → script_at names (length done) (raw_view x) ≡ Ok s
    → scripts_after names done (map raw_view (drop i raws)) ≡ scripts_after names (done ++ s ∷ []) (map raw_view (drop (i + 1) raws))
unfolding scripts_after
raw-next names done raws i x s h at_i ok = rw (drop_more raws i x h, ← at_i, ok) refl

pub raw-stop : (names : List CardData) (done : List ScriptData) (raws : List LentScript) (i : ℕ) (x : LentScript) (w : Where) → i < length raws → x ≡ get_or raws i x
    → script_at names (length done) (raw_view x) ≡ Err w → scripts_after names done (map raw_view (drop i raws)) ≡ Err w
unfolding scripts_after
raw-stop names done raws i x w h at_i bad = rw (drop_more raws i x h, ← at_i, bad) refl

pub raw-end : (names : List CardData) (done : List ScriptData) (raws : List LentScript) (i : ℕ) → length raws ≤ i → scripts_after names done (map raw_view (drop i raws)) ≡ Ok done
unfolding scripts_after
raw-end names done raws i h = rw (drop_all i raws h) refl

-- a fault of a part is the fault of the whole
pub pass_on : {X Y Z W : Type 0} (view : X → Y) (part_view : Z → W) (e : SceneFault) (part : Result W Where) (total : Result Y Where)
    → ((w : Where) → part ≡ Err w → total ≡ Err w) → GivesPlace part_view (Err e) part → GivesPlace view (Err e) total
pass_on view part_view (Bad w) part total same h = same w h
pass_on view part_view (TooLarge l) part total same h = h
pass_on view part_view NoMemory part total same h = tt
