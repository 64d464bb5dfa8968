-- Every entry of every table is the value of the definition.
use Rattle.std.proofs.Common.{◌≡◌, ℕ, ◌==◌, ◌<◌, ◌&&◌, nat_lt, Bool, true, List, [], ◌∷◌, slice_index, refl, ap, sym, ◌∙◌}
use Rattle.std.proofs.lemmas.Bool.{and_parts, eqb-true, ltb-true}
use Rattle.piv_model.specs.Field.{product, remainder, mul, power_x, search_inverse, inverse, affine, sub_byte}
use Rattle.piv_model.proofs.FieldTests.{all_below, all_below_at}
use Rattle.aes_block.specs.declared.tables.TheConstants.{SBOX, MIX_0, MIX_1, MIX_2, MIX_3, POWERS}
use Rattle.aes_block.specs.declared.back_tables.TheConstants.{UNSUB, UNMIX_0, UNMIX_1, UNMIX_2, UNMIX_3}
use Rattle.aes_block.specs.Words.{first, second, third, fourth, bytes_of, multiples}

sbox_ok : all_below (λ b. slice_index SBOX b == sub_byte b) 256 ≡ true
unfolding product remainder mul search_inverse inverse affine sub_byte
sbox_ok = refl

pub sbox_entry : (b : ℕ) → b < 256 → slice_index SBOX b ≡ sub_byte b
sbox_entry b h = eqb-true (slice_index SBOX b) (sub_byte b) (all_below_at (λ b. slice_index SBOX b == sub_byte b) 256 b sbox_ok h)

-- the inverse of the S-box, by the S-box
abbrev is_unsub : ℕ → Bool
is_unsub b = nat_lt (slice_index UNSUB b) 256 && (slice_index SBOX (slice_index UNSUB b) == b) && (slice_index UNSUB (slice_index SBOX b) == b)

unsub_ok : all_below is_unsub 256 ≡ true
unsub_ok = refl

-- the byte with this S-box value
pub record IsUnsub (b : ℕ) : Type 0 where
  pub small : slice_index UNSUB b < 256
  pub sub : sub_byte (slice_index UNSUB b) ≡ b
  pub unsub : slice_index UNSUB (sub_byte b) ≡ b

pub unsub_entry : (b : ℕ) → b < 256 → IsUnsub b
unsub_entry b h =
    let parts = and_parts _ _ (all_below_at is_unsub 256 b unsub_ok h) in
    let two = and_parts _ _ parts.0 in
    let small : slice_index UNSUB b < 256 = ltb-true (slice_index UNSUB b) 256 two.0 in
    record {
      small = small;
      sub = sym (sbox_entry (slice_index UNSUB b) small) ∙ eqb-true (slice_index SBOX (slice_index UNSUB b)) b two.1;
      unsub = ap (slice_index UNSUB) (sym (sbox_entry b h)) ∙ eqb-true (slice_index UNSUB (slice_index SBOX b)) b parts.1;
    }

-- the bytes of the entry at b are four products of f b
abbrev has_multiples : List ℕ → (ℕ → ℕ) → ℕ → ℕ → ℕ → ℕ → ℕ → Bool
has_multiples t f p q r u b =
    (first (slice_index t b) == mul p (f b)) && (second (slice_index t b) == mul q (f b))
    && (third (slice_index t b) == mul r (f b)) && (fourth (slice_index t b) == mul u (f b))

four : {a b c d w x y z : ℕ} → a ≡ w → b ≡ x → c ≡ y → d ≡ z → a ∷ b ∷ c ∷ d ∷ [] ≡ w ∷ x ∷ y ∷ z ∷ []
four h i j k = λ n. h n ∷ i n ∷ j n ∷ k n ∷ []

column_entry : (t : List ℕ) (f : ℕ → ℕ) (p q r u : ℕ) → all_below (has_multiples t f p q r u) 256 ≡ true
    → (b : ℕ) → b < 256 → bytes_of (slice_index t b) ≡ multiples p q r u (f b)
column_entry t f p q r u test b h =
    let parts = and_parts _ _ (all_below_at (has_multiples t f p q r u) 256 b test h) in
    let three = and_parts _ _ parts.0 in
    let two = and_parts _ _ three.0 in
    four (eqb-true _ _ two.0) (eqb-true _ _ two.1) (eqb-true _ _ three.1) (eqb-true _ _ parts.1)

mixed_entry : (t : List ℕ) (p q r u : ℕ) → all_below (has_multiples t (slice_index SBOX) p q r u) 256 ≡ true
    → (b : ℕ) → b < 256 → bytes_of (slice_index t b) ≡ multiples p q r u (sub_byte b)
mixed_entry t p q r u test b h = column_entry t (slice_index SBOX) p q r u test b h ∙ ap (multiples p q r u) (sbox_entry b h)

pub mix_0_entry : (b : ℕ) → b < 256 → bytes_of (slice_index MIX_0 b) ≡ multiples 2 1 1 3 (sub_byte b)
unfolding product remainder mul
mix_0_entry = mixed_entry MIX_0 2 1 1 3 refl

pub mix_1_entry : (b : ℕ) → b < 256 → bytes_of (slice_index MIX_1 b) ≡ multiples 3 2 1 1 (sub_byte b)
unfolding product remainder mul
mix_1_entry = mixed_entry MIX_1 3 2 1 1 refl

pub mix_2_entry : (b : ℕ) → b < 256 → bytes_of (slice_index MIX_2 b) ≡ multiples 1 3 2 1 (sub_byte b)
unfolding product remainder mul
mix_2_entry = mixed_entry MIX_2 1 3 2 1 refl

pub mix_3_entry : (b : ℕ) → b < 256 → bytes_of (slice_index MIX_3 b) ≡ multiples 1 1 3 2 (sub_byte b)
unfolding product remainder mul
mix_3_entry = mixed_entry MIX_3 1 1 3 2 refl

pub unmix_0_entry : (b : ℕ) → b < 256 → bytes_of (slice_index UNMIX_0 b) ≡ multiples 14 9 13 11 b
unfolding product remainder mul
unmix_0_entry = column_entry UNMIX_0 (λ b. b) 14 9 13 11 refl

pub unmix_1_entry : (b : ℕ) → b < 256 → bytes_of (slice_index UNMIX_1 b) ≡ multiples 11 14 9 13 b
unfolding product remainder mul
unmix_1_entry = column_entry UNMIX_1 (λ b. b) 11 14 9 13 refl

pub unmix_2_entry : (b : ℕ) → b < 256 → bytes_of (slice_index UNMIX_2 b) ≡ multiples 13 11 14 9 b
unfolding product remainder mul
unmix_2_entry = column_entry UNMIX_2 (λ b. b) 13 11 14 9 refl

pub unmix_3_entry : (b : ℕ) → b < 256 → bytes_of (slice_index UNMIX_3 b) ≡ multiples 9 13 11 14 b
unfolding product remainder mul
unmix_3_entry = column_entry UNMIX_3 (λ b. b) 9 13 11 14 refl

powers_ok : all_below (λ n. slice_index POWERS n == power_x n) 11 ≡ true
unfolding power_x remainder
powers_ok = refl

pub power_entry : (n : ℕ) → n < 11 → slice_index POWERS n ≡ power_x n
power_entry n h = eqb-true (slice_index POWERS n) (power_x n) (all_below_at (λ n. slice_index POWERS n == power_x n) 11 n powers_ok h)
