-- Bytes as polynomials over GF(2) modulo x^8 + x^4 + x^3 + x + 1 (FIPS 197, section 4), and the
-- S-box (section 5.1.1). A polynomial is a number whose bit i is the coefficient of x^i, so the sum
-- of two is `bit_xor`.
use Rattle.std.specs.Prelude.{ℕ, zero, suc, ◌+◌, ◌*◌, ◌/◌, ◌%◌, ◌^◌, ◌==◌, true, false, bit_xor}

-- the coefficient of x^i
abbrev pub coefficient : ℕ → ℕ → ℕ
coefficient p i = p / 2 ^ i % 2

-- a times b, of degree below n: a b0 + (x a) (b1 + b2 x + ..)
unfoldable pub product : ℕ → ℕ → ℕ → ℕ
product zero a b = 0
product (suc n) a b = bit_xor (coefficient b 0 * a) (product n (2 * a) (b / 2))

-- the remainder of p, of degree below 8 + n: a multiple of the modulus for each coefficient from
-- the highest down to that of x^8
unfoldable pub remainder : ℕ → ℕ → ℕ
remainder zero p = p
remainder (suc n) p = remainder n (bit_xor p (coefficient p (8 + n) * (0x11B * 2 ^ n)))

-- the product of two bytes
unfoldable pub mul : ℕ → ℕ → ℕ
mul a b = remainder 7 (product 8 a b)

-- x^n, for n up to 16
unfoldable pub power_x : ℕ → ℕ
power_x n = remainder 9 (2 ^ n)

-- the first number from k on, of n numbers, whose product with b is 1, or 0
unfoldable pub search_inverse : ℕ → ℕ → ℕ → ℕ
search_inverse zero k b = 0
search_inverse (suc n) k b = elim (mul b k == 1) [ true ↦ k | false ↦ search_inverse n (k + 1) b ]

-- the inverse of a byte, and 0 for 0
unfoldable pub inverse : ℕ → ℕ
inverse b = search_inverse 255 1 b

-- bit i of a byte, indices modulo 8
abbrev pub bit : ℕ → ℕ → ℕ
bit b i = coefficient b (i % 8)

-- bit i of the S-box's affine map
abbrev pub affine_bit : ℕ → ℕ → ℕ
affine_bit b i =
    (bit b i + bit b (i + 4) + bit b (i + 5) + bit b (i + 6) + bit b (i + 7) + bit 0x63 i) % 2

unfoldable pub affine : ℕ → ℕ
affine b =
    affine_bit b 0 + 2 * affine_bit b 1 + 4 * affine_bit b 2 + 8 * affine_bit b 3
    + 16 * affine_bit b 4 + 32 * affine_bit b 5 + 64 * affine_bit b 6 + 128 * affine_bit b 7

-- the S-box
unfoldable pub sub_byte : ℕ → ℕ
sub_byte b = affine (inverse b)
