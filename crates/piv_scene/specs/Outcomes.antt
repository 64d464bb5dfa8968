-- What is answered for the bytes of a scene: the input's length is tested first, then the places are, then the limits of
-- what was read (this project's own).
use Rattle.std.specs.Prelude.{◌≡◌, ⊤, ℕ, nat_lt, if◌then◌else◌, List, length, Option, Some, None, Result, Ok, Err}
use Rattle.piv_model.specs.declared.places.Limit.{Limit}
use Rattle.piv_model.specs.declared.places.Limit.TheVariants.{Input}
use Rattle.piv_model.specs.declared.places.Where.{Where}
use Rattle.scene_table.specs.declared.fault.SceneFault.{SceneFault}
use Rattle.scene_table.specs.declared.fault.SceneFault.TheVariants.{Bad, TooLarge, NoMemory}
use Rattle.piv_scene.specs.Documents.{SceneData, scene_of}
use Rattle.piv_scene.specs.SceneLimits.{first_limit}
use Rattle.piv_scene.specs.SceneValues.{SceneValue, scene_value}

abbrev pub limited : Option Limit → SceneData → Result SceneValue SceneFault
limited None d = Ok (scene_value d)
limited (Some l) d = Err (TooLarge l)

abbrev pub judged : Result SceneData Where → Result SceneValue SceneFault
judged (Err w) = Err (Bad w)
judged (Ok d) = limited (first_limit d) d

abbrev pub outcome : List ℕ → Result SceneValue SceneFault
outcome bytes = if nat_lt 8388608 (length bytes) then Err (TooLarge Input) else judged (scene_of bytes)

-- an answer is the one wanted, unless memory was wanting
abbrev pub Answers : {A : Type 0} → Result A SceneFault → Result A SceneFault → Type 0
Answers (Ok a) wanted = wanted ≡ Ok a
Answers (Err (Bad w)) wanted = wanted ≡ Err (Bad w)
Answers (Err (TooLarge l)) wanted = wanted ≡ Err (TooLarge l)
Answers (Err NoMemory) wanted = ⊤
