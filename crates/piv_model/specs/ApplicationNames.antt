-- The names of the card's applications (SP 800-73-4 part 1, the identifier of the PIV application; the idle application is
-- this project's own).
use Rattle.std.specs.Prelude.{ℕ, ◌||◌, if◌then◌else◌, List, [], ◌∷◌, take, Option, Some, None}
use Rattle.std.specs.Str.{bytes_eq}
use Rattle.piv_model.specs.declared.kinds.Application.{Application}
use Rattle.piv_model.specs.declared.kinds.Application.TheVariants.{Piv, Idle}

-- the full name of the PIV application
abbrev pub full_aid : List ℕ
full_aid = 0xA0 ∷ 0x00 ∷ 0x00 ∷ 0x03 ∷ 0x08 ∷ 0x00 ∷ 0x00 ∷ 0x10 ∷ 0x00 ∷ 0x01 ∷ 0x00 ∷ []

-- its truncated name, without the version
abbrev pub truncated_aid : List ℕ
truncated_aid = take 9 full_aid

-- the name of the idle application
abbrev pub idle_aid : List ℕ
idle_aid = 0xF0 ∷ 0x49 ∷ 0x44 ∷ 0x4C ∷ 0x45 ∷ []

-- the application of a name
unfoldable pub application_named : List ℕ → Option Application
application_named name =
    if bytes_eq name full_aid || bytes_eq name truncated_aid then Some Piv
    else if bytes_eq name idle_aid then Some Idle
    else None
