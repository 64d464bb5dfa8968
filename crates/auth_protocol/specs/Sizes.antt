-- A field by its size.
use Rattle.std.specs.Prelude.{◌≡◌, ℕ, List, [], ◌∷◌, Option, Some, None}
use Rattle.auth_protocol.specs.declared.form.Field.{Field}
use Rattle.auth_protocol.specs.declared.form.Field.TheVariants.{Absent, Empty, Sixteen}

abbrev pub IsField : Option (List ℕ) → Field → Type 0
IsField None field = field ≡ Absent
IsField (Some []) field = field ≡ Empty
IsField (Some (b ∷ x)) field = field ≡ Sixteen (b ∷ x)
