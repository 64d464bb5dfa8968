-- Reading one element from left to right: its parts and what follows it, or the first fault.
use Rattle.std.specs.Prelude.{ℕ, zero, suc, ◌+◌, ◌*◌, ◌%◌, nat_lt, ◌==◌, if◌then◌else◌, List, [], ◌∷◌, length, take, drop, Result, Ok, Err}
use Rattle.ber_tlv.specs.declared.fault.TlvKind.{TlvKind}
use Rattle.ber_tlv.specs.declared.fault.TlvKind.TheVariants.{TagLong, LengthBad, Short}

-- what was read, and the bytes that follow
abbrev pub Read : Type 0 → Type 0
Read A = Result (A × List ℕ) TlvKind

infixl 10 ◌>>=◌
abbrev pub ◌>>=◌ : {A B : Type 0} → Result A TlvKind → (A → Result B TlvKind) → Result B TlvKind
(Ok x) >>= f = f x
(Err kind) >>= f = Err kind

-- the last of three bytes of a tag
abbrev pub last_tag_at : ℕ → List ℕ → Read ℕ
last_tag_at n [] = Err Short
last_tag_at n (c ∷ rest) = if nat_lt c 0x80 then Ok (0x100 * n + c, rest) else Err TagLong

abbrev pub next_tag_at : ℕ → List ℕ → Read ℕ
next_tag_at a [] = Err Short
next_tag_at a (b ∷ rest) =
    if nat_lt b 0x80 then Ok (0x100 * a + b, rest) else last_tag_at (0x100 * a + b) rest

unfoldable pub tag_at : List ℕ → Read ℕ
tag_at [] = Err Short
tag_at (a ∷ rest) = if a % 32 == 31 then next_tag_at a rest else Ok (a, rest)

-- so many bytes as one number, the highest first
abbrev pub number_at : ℕ → ℕ → List ℕ → Read ℕ
number_at zero n rest = Ok (n, rest)
number_at (suc more) n [] = Err Short
number_at (suc more) n (b ∷ rest) = number_at more (0x100 * n + b) rest

abbrev pub any_length_at : List ℕ → Read ℕ
any_length_at [] = Err Short
any_length_at (form ∷ rest) =
    if nat_lt form 0x80 then Ok (form, rest)
    else if form == 0x81 then number_at 1 0 rest
    else if form == 0x82 then number_at 2 0 rest
    else if form == 0x83 then number_at 3 0 rest
    else Err LengthBad

unfoldable pub length_at : List ℕ → Read ℕ
length_at bytes = do
  n ← any_length_at bytes
  if nat_lt 65535 n.0 then Err LengthBad else Ok n

unfoldable pub value_at : ℕ → List ℕ → Read (List ℕ)
value_at n bytes = if nat_lt (length bytes) n then Err Short else Ok (take n bytes, drop n bytes)

-- a tag and a value, and what follows the element
unfoldable pub parts_at : List ℕ → Read (ℕ × List ℕ)
parts_at bytes = do
  tag ← tag_at bytes
  len ← length_at tag.1
  value ← value_at len.0 len.1
  Ok ((tag.0, value.0), value.1)
