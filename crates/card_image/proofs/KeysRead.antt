-- Keys that were read off a row.
use Rattle.std.proofs.Common.{◌≡◌, inl, inr, ◌+◌, ◌-◌, ◌==◌, ◌||◌, if◌then◌else◌, ℕ, List, length, take, drop, get_or, Option, Some, None, IfSome, IsTrue, Bool, true, false, refl, ap, sym, ◌∙◌, subst, arith}
use Rattle.std.proofs.lemmas.Bool.{and_parts}
use Rattle.std.proofs.lemmas.Bool.Decides.{nat_tests}
use Rattle.nvm_device.specs.Bytes.{bytes_at}
use Rattle.piv_model.specs.declared.kinds.KeyId.{KeyId}
use Rattle.piv_model.specs.Cipher.{IsKey}
use Rattle.piv_model.specs.Memory.{CardKey}
use Rattle.piv_model.specs.Sound.{key_size, is_algorithm, is_card_key}
use Rattle.card_image.specs.Header.{header_of, key_in}
use Rattle.card_image.specs.Places.{place_of_key}

part_is : (keys : List ℕ) (at size : ℕ) → take ((at + size) - at) (drop at keys) ≡ bytes_at keys at size
unfolding bytes_at
part_is keys at size = let e : (at + size) - at ≡ size = omega arith in rw e refl

pub key_told : (told : Option (List ℕ)) (which : KeyId) (keys key : List ℕ) (at size : ℕ)
    → IfSome told (λ row. keys ≡ (header_of row).keys) → at ≡ place_of_key which → size ≡ key_size (get_or keys at 0)
    → key ≡ take ((at + 1 + size) - (at + 1)) (drop (at + 1) keys)
    → IfSome told (λ row. key ≡ (key_in (header_of row).keys (place_of_key which)).key)
key_told None which keys key at size read is_at is_size is = tt
key_told (Some row) which keys key at size read is_at is_size is =
    is ∙ part_is keys (at + 1) size ∙ ap (bytes_at keys (at + 1)) is_size
    ∙ ap (λ a. bytes_at keys (a + 1) (key_size (get_or keys a 0))) is_at
    ∙ ap (λ (k : List ℕ). bytes_at k (place_of_key which + 1) (key_size (get_or k (place_of_key which) 0))) read

-- the number of an algorithm, by the size of its key
pub algorithm_is : (key : CardKey) (n : ℕ) → IsTrue (is_card_key key)
    → (length key.key ≡ 16 → n ≡ 0x08) → (length key.key ≡ 24 → n ≡ 0x0A) → (length key.key ≡ 32 → n ≡ 0x0C)
    → n ≡ key.algorithm
algorithm_is key n is small middle long =
    let parts = and_parts (is_algorithm key.algorithm) (length key.key == key_size key.algorithm) is in
    let size : length key.key ≡ key_size key.algorithm = (let t = parts.1 in grind (arith, nat_tests)) in
    by_size (key.algorithm == 0x08) (key.algorithm == 0x0A) (key.algorithm == 0x0C) refl refl refl parts.0 size
  where
    by_size : (a b c : Bool) → (key.algorithm == 0x08) ≡ a → (key.algorithm == 0x0A) ≡ b → (key.algorithm == 0x0C) ≡ c
        → (a || b || c) ≡ true → length key.key ≡ (if a then 16 else if b then 24 else 32) → n ≡ key.algorithm
    by_size true b c is_a is_b is_c one size = small size ∙ (let e : 0x08 ≡ key.algorithm = grind (arith, nat_tests) in e)
    by_size false true c is_a is_b is_c one size = middle size ∙ (let e : 0x0A ≡ key.algorithm = grind (arith, nat_tests) in e)
    by_size false false true is_a is_b is_c one size = long size ∙ (let e : 0x0C ≡ key.algorithm = grind (arith, nat_tests) in e)
    by_size false false false is_a is_b is_c one size = cc

-- one of the three
pub algorithm_known : (key : List ℕ) (n : ℕ) → IsKey key
    → (length key ≡ 16 → n ≡ 0x08) → (length key ≡ 24 → n ≡ 0x0A) → (length key ≡ 32 → n ≡ 0x0C) → IsTrue (is_algorithm n)
algorithm_known key n is small middle long = elim is.size [
  | inl size ↦ subst (λ k. IsTrue (is_algorithm k)) (sym (small size)) refl
  | inr more ↦ elim more [
    | inl size ↦ subst (λ k. IsTrue (is_algorithm k)) (sym (middle size)) refl
    | inr size ↦ subst (λ k. IsTrue (is_algorithm k)) (sym (long size)) refl
  ]
]
