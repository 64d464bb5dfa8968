-- Reading a tag gives a tag, and each tag is read, whatever follows it.
use Rattle.std.proofs.Common.{◌≡◌, ◌≢◌, arith, ℕ, ◌+◌, ◌*◌, ◌%◌, ◌≤◌, List, [], ◌∷◌, ◌++◌, Ok, Err, refl, inl, inr}
use Rattle.std.proofs.lemmas.Bool.{lt-ltb, le-ltb, eq-eqb, ne_eqb, cases_lt, cases_eq}
use Rattle.ber_tlv.specs.declared.fault.TlvKind.TheVariants.{TagLong, LengthBad, Short}
use Rattle.ber_tlv.specs.Elements.{IsTag}
use Rattle.ber_tlv.specs.Faults.{HasLongTag}
use Rattle.ber_tlv.specs.Reading.{Read, last_tag_at, next_tag_at, tag_at}

-- the bytes begin with those of a number, and this follows
pub record Takes (Is : List ℕ → ℕ → Type 0) (bytes : List ℕ) (n : ℕ) (rest : List ℕ) : Type 0 where
  pub front : List ℕ
  pub is : Is front n
  pub whole : bytes ≡ front ++ rest

-- more bytes would make them a tag
pub record LacksTag (bytes : List ℕ) : Type 0 where
  pub missing : List ℕ
  pub some_missing : missing ≢ []
  pub tag : List ℕ
  pub number : ℕ
  pub is_tag : IsTag tag number
  pub whole : bytes ++ missing ≡ tag

pub some_bytes : (b : ℕ) (bytes : List ℕ) → b ∷ bytes ≢ []
some_bytes b bytes e = cc

abbrev pub TagMeans : List ℕ → Read ℕ → Type 0
TagMeans bytes (Ok x) = Takes IsTag bytes x.0 x.1
TagMeans bytes (Err TagLong) = HasLongTag bytes
TagMeans bytes (Err LengthBad) = ⊥
TagMeans bytes (Err Short) = LacksTag bytes

last_means : (a b : ℕ) (rest : List ℕ) → a % 32 ≡ 31 → 0x80 ≤ b → TagMeans (a ∷ b ∷ rest) (last_tag_at (0x100 * a + b) rest)
last_means a b [] wide high = record { missing = 0 ∷ []; some_missing = some_bytes 0 []; tag = a ∷ b ∷ 0 ∷ []; number = 0x100 * (0x100 * a + b) + 0; is_tag = (wide, high, omega arith, refl); whole = refl }
last_means a b (c ∷ rest) wide high =
    elim (cases_lt c 0x80) [
      | inl lt ↦ rw (lt-ltb c 0x80 lt) (record { front = a ∷ b ∷ c ∷ []; is = (wide, high, lt, refl); whole = refl })
      | inr le ↦ rw (le-ltb c 0x80 le) (wide, high, le)
    ]

next_means : (a : ℕ) (rest : List ℕ) → a % 32 ≡ 31 → TagMeans (a ∷ rest) (next_tag_at a rest)
next_means a [] wide = record { missing = 0 ∷ []; some_missing = some_bytes 0 []; tag = a ∷ 0 ∷ []; number = 0x100 * a + 0; is_tag = (wide, omega arith, refl); whole = refl }
next_means a (b ∷ rest) wide =
    elim (cases_lt b 0x80) [
      | inl lt ↦ rw (lt-ltb b 0x80 lt) (record { front = a ∷ b ∷ []; is = (wide, lt, refl); whole = refl })
      | inr le ↦ rw (le-ltb b 0x80 le) (last_means a b rest wide le)
    ]

pub tag_means : (bytes : List ℕ) → TagMeans bytes (tag_at bytes)
unfolding tag_at
tag_means [] = record { missing = 0 ∷ []; some_missing = some_bytes 0 []; tag = 0 ∷ []; number = 0; is_tag = (λ e. absurd (omega (arith, e)), refl); whole = refl }
tag_means (a ∷ rest) =
    elim (cases_eq (a % 32) 31) [
      | inl wide ↦ rw (eq-eqb (a % 32) 31 wide) (next_means a rest wide)
      | inr one ↦ rw (ne_eqb (a % 32) 31 one) (record { front = a ∷ []; is = (one, refl); whole = refl })
    ]

pub tag_again : (tag : List ℕ) (n : ℕ) (rest : List ℕ) → IsTag tag n → tag_at (tag ++ rest) ≡ Ok (n, rest)
unfolding tag_at
tag_again [] n rest h = absurd h
tag_again (a ∷ []) n rest h = rw (ne_eqb (a % 32) 31 h.0, h.1) refl
tag_again (a ∷ b ∷ []) n rest h = rw (eq-eqb (a % 32) 31 h.0, lt-ltb b 0x80 h.1, h.2) refl
tag_again (a ∷ b ∷ c ∷ []) n rest h = rw (eq-eqb (a % 32) 31 h.0, le-ltb b 0x80 h.1, lt-ltb c 0x80 h.2, h.3) refl
tag_again (a ∷ b ∷ c ∷ d ∷ more) n rest h = absurd h

pub long_tag_again : (bytes : List ℕ) → HasLongTag bytes → tag_at bytes ≡ Err TagLong
unfolding tag_at
long_tag_again [] h = absurd h
long_tag_again (a ∷ []) h = absurd h
long_tag_again (a ∷ b ∷ []) h = absurd h
long_tag_again (a ∷ b ∷ c ∷ rest) h = rw (eq-eqb (a % 32) 31 h.0, le-ltb b 0x80 h.1, le-ltb c 0x80 h.2) refl
