-- The lines that can be played (this project's own).
use Rattle.std.specs.Prelude.{◌≡◌, ◌≤◌, ℕ, true, List, length, Some, slice_get}
use Rattle.script_line.specs.declared.line.Line.{Line}
use Rattle.script_line.specs.declared.line.Line.TheVariants.{Select, PutHex, PutFill, Crypt, Admin, Apdu}
use Rattle.script_line.specs.Lines.{is_key_length}

-- the lengths that lines have at most, and the lengths of a key
abbrev pub IsPlayable : Line → Type 0
IsPlayable (Select h aid) = length aid ≤ 16
IsPlayable (PutHex h oid value) = length value ≤ 16512
IsPlayable (PutFill h oid size fill) = size ≤ 16512
IsPlayable (Crypt h algorithm key input) = length input ≤ 255
IsPlayable (Admin h algorithm key) = is_key_length (length key) ≡ true
IsPlayable (Apdu h bytes) = length bytes ≤ 512
IsPlayable _ = Unit {0}

abbrev pub ArePlayable : List Line → Type 0
ArePlayable lines = (k : ℕ) (line : Line) → slice_get lines k ≡ Some line → IsPlayable line
