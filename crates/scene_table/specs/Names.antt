-- Names that are taken (this project's own).
use Rattle.std.specs.Prelude.{◌≡◌, ℕ, Bool, if◌then◌else◌, List, Option, Some, None}
use Rattle.std.specs.List.{list_any}
use Rattle.std.specs.Str.{bytes_eq}

abbrev pub is_among : List (List ℕ) → List ℕ → Bool
is_among names name = list_any (λ n. bytes_eq n name) names

-- a name that isn't taken
abbrev pub fresh : List (List ℕ) → List ℕ → Option (List ℕ)
fresh taken name = if is_among taken name then None else Some name

-- the same names, in any order and any number
abbrev pub HaveSame : List (List ℕ) → List (List ℕ) → Type 0
HaveSame some others = (name : List ℕ) → is_among some name ≡ is_among others name
