-- A product is linear in its second factor.
use Rattle.std.proofs.Common.{◌≡◌, ℕ, zero, suc, ◌+◌, ◌*◌, ◌/◌, ◌%◌, ◌^◌, ◌<◌, refl, sym, ap, ◌∙◌, arith}
use Rattle.std.proofs.Math.Nat.{zero-mul}
use Rattle.std.specs.Int.Bits.{bit_xor, xor_assoc, xor_comm, xor_self, xor_zero_r}
use Rattle.std.proofs.lemmas.Nat.{xor_mod, xor_shr}
use Rattle.piv_model.specs.Field.{coefficient, product, remainder, mul}

-- the middle two of four change places
pub interchange : (p q r s : ℕ) → bit_xor (bit_xor p q) (bit_xor r s) ≡ bit_xor (bit_xor p r) (bit_xor q s)
interchange p q r s =
    xor_assoc p q (bit_xor r s) ∙ ap (bit_xor p) (sym (xor_assoc q r s) ∙ ap (λ (x : ℕ). bit_xor x s) (xor_comm q r) ∙ xor_assoc r q s)
    ∙ sym (xor_assoc p r (bit_xor q s))

coefficient_add : (a b i : ℕ) → coefficient (bit_xor a b) i ≡ bit_xor (coefficient a i) (coefficient b i)
coefficient_add a b i = ap (λ (x : ℕ). x % 2) (xor_shr a b i) ∙ xor_mod (a / 2 ^ i) (b / 2 ^ i) 1

digit_times : (x y c : ℕ) → x < 2 → y < 2 → bit_xor x y * c ≡ bit_xor (x * c) (y * c)
digit_times zero y c hx hy = rw zero-mul refl
digit_times (suc zero) zero c hx hy = rw (zero-mul, xor_zero_r (1 * c)) refl
digit_times (suc zero) (suc zero) c hx hy = rw (xor_self (1 * c), zero-mul) refl
digit_times (suc zero) (suc (suc y)) c hx hy = absurd (omega arith)
digit_times (suc (suc x)) y c hx hy = absurd (omega arith)

-- a multiple of c by a coefficient
multiple_add : (a b i c : ℕ) → coefficient (bit_xor a b) i * c ≡ bit_xor (coefficient a i * c) (coefficient b i * c)
multiple_add a b i c =
    ap (λ (x : ℕ). x * c) (coefficient_add a b i) ∙ digit_times (coefficient a i) (coefficient b i) c (omega arith) (omega arith)

product_add : (n c a b : ℕ) → product n c (bit_xor a b) ≡ bit_xor (product n c a) (product n c b)
unfolding product
product_add zero c a b = refl
product_add (suc n) c a b =
    rw (multiple_add a b 0 c, xor_shr a b 1, product_add n (2 * c) (a / 2) (b / 2))
    (interchange (coefficient a 0 * c) (coefficient b 0 * c) (product n (2 * c) (a / 2)) (product n (2 * c) (b / 2)))

remainder_add : (n a b : ℕ) → remainder n (bit_xor a b) ≡ bit_xor (remainder n a) (remainder n b)
unfolding remainder
remainder_add zero a b = refl
remainder_add (suc n) a b =
    let m = 0x11B * 2 ^ n in
    ap (λ (x : ℕ). remainder n (bit_xor (bit_xor a b) x)) (multiple_add a b (8 + n) m)
    ∙ ap (remainder n) (interchange a b (coefficient a (8 + n) * m) (coefficient b (8 + n) * m))
    ∙ remainder_add n (bit_xor a (coefficient a (8 + n) * m)) (bit_xor b (coefficient b (8 + n) * m))

pub mul_add : (c a b : ℕ) → mul c (bit_xor a b) ≡ bit_xor (mul c a) (mul c b)
unfolding mul
mul_add c a b = ap (remainder 7) (product_add 8 c a b) ∙ remainder_add 7 (product 8 c a) (product 8 c b)
