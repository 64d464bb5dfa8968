-- Values of a document: names, and bytes by their digits (this project's own; a PIN is that of SP 800-73-4 part 2).
use Rattle.std.specs.Prelude.{ℕ, ◌==◌, nat_le, Bool, if◌then◌else◌, List, ◌++◌, length, replicate, ◌-◌, Option, Some, None}
use Rattle.std.specs.Result.{result_ok}
use Rattle.hex.specs.Hex.{decode_of}
use Rattle.toml.specs.Data.{Data, as_str}
use Rattle.piv_model.specs.declared.start.KeyBytes.{KeyBytes}
use Rattle.piv_model.specs.Forms.{is_pin, is_puk}
use Rattle.line_words.specs.Words.{◌>>=◌, name_word, only_byte}

-- what passes a test
abbrev pub such_that : {A : Type 0} → (A → Bool) → A → Option A
such_that test a = if test a then Some a else None

abbrev pub name_value : Data → Option (List ℕ)
name_value d = as_str d >>= name_word

-- an even number of digits of either case
abbrev pub digits : Data → Option (List ℕ)
digits d = as_str d >>= (λ text. result_ok (decode_of text))

abbrev pub some_digits : Data → Option (List ℕ)
some_digits d = digits d >>= such_that (λ bytes. nat_le 1 (length bytes))

abbrev pub one_byte : Data → Option ℕ
one_byte d = digits d >>= only_byte

abbrev pub random_value : Data → Option (List ℕ)
random_value d = digits d >>= such_that (λ bytes. length bytes == 32)

abbrev pub pin_value : Data → Option (List ℕ)
pin_value d = digits d >>= such_that is_pin

abbrev pub optional_pin : Data → Option (Option (List ℕ))
optional_pin d = pin_value d >>= (λ pin. Some (Some pin))

abbrev pub puk_value : Data → Option (List ℕ)
puk_value d = digits d >>= such_that is_puk

-- the length of a key gives its algorithm; behind the key stand zeros
abbrev pub padded : List ℕ → List ℕ
padded key = key ++ replicate (32 - length key) 0

abbrev pub key_bytes : List ℕ → Option KeyBytes
key_bytes key =
    if length key == 16 then Some (record { algorithm = 0x08; bytes = padded key })
    else if length key == 24 then Some (record { algorithm = 0x0A; bytes = padded key })
    else if length key == 32 then Some (record { algorithm = 0x0C; bytes = padded key })
    else None

abbrev pub key_value : Data → Option KeyBytes
key_value d = digits d >>= key_bytes
