-- The words of a script's line (this project's own).
use Rattle.std.specs.Prelude.{◌≡◌, ◌^◌, ⊤, ℕ, ◌==◌, ◌&&◌, ◌||◌, nat_le, nat_lt, Bool, true, false, not, if◌then◌else◌, List, [], ◌∷◌, length, codes, map, Option, Some, None, Result, Ok, Err, option_and_then}
use Rattle.std.specs.List.{slice_split, list_all}
use Rattle.std.specs.Borrow.{Bor}
use Rattle.std.specs.Result.{result_ok}
use Rattle.std.specs.Str.{bytes_eq, all_ascii_digits}
use Rattle.std.specs.Str.Parse.{digits_value}
use Rattle.std.specs.Char.{is_ascii_digit, is_ascii_alphanumeric}
use Rattle.hex.specs.Hex.{decode_of, decode_sized}
use Rattle.line_words.specs.declared.fault.LineFault.{LineFault}
use Rattle.line_words.specs.declared.fault.LineFault.TheVariants.{Malformed, NoMemory}

infixl 10 ◌>>=◌
abbrev pub ◌>>=◌ : {A B : Type 0} → Option A → (A → Option B) → Option B
o >>= f = option_and_then f o

-- what a reader gives is what the definition reads, unless memory was wanting
abbrev pub Gives : {A : Type 0} → Result A LineFault → Option A → Type 0
Gives (Ok x) read = read ≡ Some x
Gives (Err Malformed) read = read ≡ None
Gives (Err NoMemory) read = ⊤

-- the words of a text: each ends at a space or with the text
abbrev pub is_space : ℕ → Bool
is_space b = b == 32

unfoldable pub words : List ℕ → List (List ℕ)
words text = slice_split is_space text

abbrev pub texts : List (Bor (List ℕ)) → List (List ℕ)
texts words = map (λ w. w.now) words

-- a word of which a test holds
abbrev pub if_so : (List ℕ → Bool) → List ℕ → Option (List ℕ)
if_so test word = if test word then Some word else None

-- 1 to 32 letters, digits, dashes or underscores
abbrev pub is_name_byte : ℕ → Bool
is_name_byte b = is_ascii_alphanumeric b || b == 45 || b == 95

unfoldable pub is_name : List ℕ → Bool
is_name word = nat_le 1 (length word) && nat_le (length word) 32 && list_all is_name_byte word

abbrev pub name_word : List ℕ → Option (List ℕ)
name_word word = if_so is_name word

-- 1 to 64 digits and points
abbrev pub is_oid_byte : ℕ → Bool
is_oid_byte b = is_ascii_digit b || b == 46

unfoldable pub is_oid : List ℕ → Bool
is_oid word = nat_le 1 (length word) && nat_le (length word) 64 && list_all is_oid_byte word

abbrev pub oid_word : List ℕ → Option (List ℕ)
oid_word word = if_so is_oid word

-- the bytes that a word spells: an even number of digits of either case, or a dash for none
unfoldable pub bytes_word : List ℕ → Option (List ℕ)
bytes_word [] = None
bytes_word (b ∷ rest) = if bytes_eq (b ∷ rest) (45 ∷ []) then Some [] else result_ok (decode_of (b ∷ rest))

-- one byte, two digits
abbrev pub only_byte : List ℕ → Option ℕ
only_byte (b ∷ []) = Some b
only_byte _ = None

unfoldable pub byte_word : List ℕ → Option ℕ
byte_word word = result_ok (decode_sized word 1) >>= only_byte

-- a number of 64 bits in decimal without leading zeros
abbrev pub is_plain : List ℕ → Bool
is_plain [] = false
is_plain (b ∷ rest) = not (b == 43) && (not (b == 48) || length rest == 0)

unfoldable pub number_word : List ℕ → Option ℕ
number_word word =
    if is_plain word && all_ascii_digits word && nat_lt (digits_value 10 word) (2 ^ 64)
    then Some (digits_value 10 word) else None

-- how a connection is opened
abbrev pub mode : Bool → List ℕ
mode true = codes "shared"
mode false = codes "exclusive"

abbrev pub mode_word : List ℕ → Option Bool
mode_word word = if bytes_eq word (codes "shared") then Some true else if bytes_eq word (codes "exclusive") then Some false else None
