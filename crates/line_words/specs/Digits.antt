-- Bytes as words of upper case digits, written and read (this project's own).
use Rattle.std.specs.Prelude.{◌/◌, ◌%◌, ◌*◌, ◌+◌, ℕ, if◌then◌else◌, List, [], ◌∷◌, codes, Option, Some, None}
use Rattle.std.specs.Result.{result_ok}
use Rattle.std.specs.Str.{bytes_eq}
use Rattle.hex.specs.Hex.{decode_of, encode_upper}
use Rattle.line_words.specs.Words.{◌>>=◌, only_byte}

-- ---- written

-- two digits, and four
abbrev pub byte_text : ℕ → List ℕ
byte_text b = encode_upper (b ∷ [])

abbrev pub status_text : ℕ → List ℕ
status_text sw = encode_upper (sw / 256 ∷ sw % 256 ∷ [])

-- a dash where there are none
abbrev pub bytes_text : List ℕ → List ℕ
bytes_text [] = codes "-"
bytes_text (b ∷ bytes) = encode_upper (b ∷ bytes)

-- ---- read

-- the bytes, if the word spells them so
abbrev pub if_spelled : List ℕ → List ℕ → Option (List ℕ)
if_spelled w bytes = if bytes_eq (encode_upper bytes) w then Some bytes else None

unfoldable pub upper_word : List ℕ → Option (List ℕ)
upper_word w = result_ok (decode_of w) >>= if_spelled w

abbrev pub upper_byte : List ℕ → Option ℕ
upper_byte w = upper_word w >>= only_byte

abbrev pub two_bytes : List ℕ → Option ℕ
two_bytes (high ∷ low ∷ []) = Some (high * 256 + low)
two_bytes _ = None

abbrev pub status_word : List ℕ → Option ℕ
status_word w = upper_word w >>= two_bytes

abbrev pub some_bytes : List ℕ → Option (List ℕ)
some_bytes [] = None
some_bytes (b ∷ bytes) = Some (b ∷ bytes)

abbrev pub some_upper : List ℕ → Option (List ℕ)
some_upper w = upper_word w >>= some_bytes

abbrev pub body_word : List ℕ → Option (List ℕ)
body_word w = if bytes_eq w (codes "-") then Some [] else some_upper w
