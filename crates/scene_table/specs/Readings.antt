-- How a list in a document is read: each item after the ones before it (this project's own).
use Rattle.std.specs.Prelude.{ℕ, ℤ, zero, suc, pos, negsuc, if◌then◌else◌, List, [], ◌∷◌, ◌++◌, length, Bool, true, false, Option, Some, None, Result, Ok, Err}
use Rattle.std.specs.Str.{is_utf8}
use Rattle.toml.specs.Data.{Data, table, string, Items, no_items, item, Members, as_integer, as_array}
use Rattle.toml.specs.Parse.{parse_document}
use Rattle.line_words.specs.Words.{◌>>=◌}

-- the document that the bytes are, if they are one
abbrev pub document : List ℕ → Option Members
document bytes = if is_utf8 bytes then parse_document bytes else None

-- a number from 1
abbrev pub positive : ℤ → Option ℕ
positive (pos zero) = None
positive (pos (suc n)) = Some (suc n)
positive (negsuc n) = None

abbrev pub from_one : Data → Option ℕ
from_one d = as_integer d >>= positive

-- a number from 0
abbrev pub natural : ℤ → Option ℕ
natural (pos n) = Some n
natural (negsuc n) = None

abbrev pub from_zero : Data → Option ℕ
from_zero d = as_integer d >>= natural

-- a key that may be absent
abbrev pub or_default : {A : Type 0} → A → (Data → Option A) → Option Data → Option A
or_default absent read None = Some absent
or_default absent read (Some d) = read d

-- an item that read, or the number of those before it
abbrev pub at_item : {A : Type 0} → ℕ → (A → Result (List A) ℕ) → Option A → Result (List A) ℕ
at_item n more None = Err n
at_item n more (Some a) = more a

-- what the items read as, each one known those before it, or the place of the first that doesn't read
unfoldable pub each_after : {A : Type 0} → (List A → Data → Option A) → List A → Items → Result (List A) ℕ
each_after read before no_items = Ok before
each_after read before (item d ds) = at_item (length before) (λ a. each_after read (before ++ a ∷ []) ds) (read before d)

-- the items of a key that may be absent, or none where it is no array
abbrev pub items_or_none : Option Data → Option Items
items_or_none None = Some no_items
items_or_none (Some d) = as_array d

-- items of which each is a string, or a table
abbrev pub all_strings : Items → Bool
all_strings no_items = true
all_strings (item (string s) ds) = all_strings ds
all_strings (item _ ds) = false

abbrev pub all_tables : Items → Bool
all_tables no_items = true
all_tables (item (table t) ds) = all_tables ds
all_tables (item _ ds) = false
