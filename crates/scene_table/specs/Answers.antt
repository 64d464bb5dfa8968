-- What is answered for a definition that gives a value, nothing, or a place.
use Rattle.std.specs.Prelude.{◌≡◌, ⊤, Option, Some, None, Result, Ok, Err}
use Rattle.piv_model.specs.declared.places.Where.{Where}
use Rattle.line_words.specs.declared.fault.LineFault.{LineFault}
use Rattle.line_words.specs.declared.fault.LineFault.TheVariants.{Malformed, NoMemory}
use Rattle.scene_table.specs.declared.fault.SceneFault.{SceneFault}
use Rattle.scene_table.specs.declared.fault.SceneFault.TheVariants as scene

-- what is given is what the definition gives, unless memory was wanting
abbrev pub GivesBy : {A B : Type 0} → (A → B) → Result A LineFault → Option B → Type 0
GivesBy view (Ok x) read = read ≡ Some (view x)
GivesBy view (Err Malformed) read = read ≡ None
GivesBy view (Err NoMemory) read = ⊤

abbrev pub GivesPlace : {A B : Type 0} → (A → B) → Result A SceneFault → Result B Where → Type 0
GivesPlace view (Ok x) read = read ≡ Ok (view x)
GivesPlace view (Err (scene.Bad w)) read = read ≡ Err w
GivesPlace view (Err (scene.TooLarge l)) read = ⊥
GivesPlace view (Err scene.NoMemory) read = ⊤

abbrev pub IsPlaceUnlessMemory : SceneFault → Where → Type 0
IsPlaceUnlessMemory (scene.Bad w) p = w ≡ p
IsPlaceUnlessMemory (scene.TooLarge l) p = ⊥
IsPlaceUnlessMemory scene.NoMemory p = ⊤
