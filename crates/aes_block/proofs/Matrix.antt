-- The matrix with first row 14 11 13 9 undoes that of MixColumns, and is undone by it.
use Rattle.std.proofs.Common.{◌≡◌, ℕ, ◌<◌, ◌==◌, Bool, true, List, ◌∷◌, refl, ◌∙◌}
use Rattle.std.proofs.lemmas.Bool.{eqb-true}
use Rattle.std.specs.Int.Bits.{bit_xor, xor_zero_r}
use Rattle.piv_model.specs.Field.{product, remainder, mul}
use Rattle.piv_model.specs.Cipher.{row_times, each_column}
use Rattle.piv_model.proofs.CipherBytes.{IsBytes, none, more}
use Rattle.piv_model.proofs.FieldTests.{all_below, all_below_at}
use Rattle.piv_model.proofs.FieldLinear.{interchange, mul_add}

abbrev pub sum4 : ℕ → ℕ → ℕ → ℕ → ℕ
sum4 a b c d = bit_xor (bit_xor a b) (bit_xor c d)

-- four sums of four, added, are four sums down the columns
transpose : (a0 a1 a2 a3 b0 b1 b2 b3 : ℕ) → bit_xor (sum4 a0 a1 a2 a3) (sum4 b0 b1 b2 b3)
    ≡ sum4 (bit_xor a0 b0) (bit_xor a1 b1) (bit_xor a2 b2) (bit_xor a3 b3)
transpose a0 a1 a2 a3 b0 b1 b2 b3 =
    rw (interchange (bit_xor a0 a1) (bit_xor a2 a3) (bit_xor b0 b1) (bit_xor b2 b3), interchange a0 a1 b0 b1, interchange a2 a3 b2 b3) refl

transpose4 : (a0 a1 a2 a3 b0 b1 b2 b3 c0 c1 c2 c3 d0 d1 d2 d3 : ℕ)
    → sum4 (sum4 a0 a1 a2 a3) (sum4 b0 b1 b2 b3) (sum4 c0 c1 c2 c3) (sum4 d0 d1 d2 d3)
    ≡ sum4 (sum4 a0 b0 c0 d0) (sum4 a1 b1 c1 d1) (sum4 a2 b2 c2 d2) (sum4 a3 b3 c3 d3)
transpose4 a0 a1 a2 a3 b0 b1 b2 b3 c0 c1 c2 c3 d0 d1 d2 d3 =
    rw (transpose a0 a1 a2 a3 b0 b1 b2 b3, transpose c0 c1 c2 c3 d0 d1 d2 d3)
    (transpose (bit_xor a0 b0) (bit_xor a1 b1) (bit_xor a2 b2) (bit_xor a3 b3) (bit_xor c0 d0) (bit_xor c1 d1) (bit_xor c2 d2) (bit_xor c3 d3))

-- a product of a sum of four products
mul_sum4 : (p a b c d : ℕ) → mul p (sum4 a b c d) ≡ sum4 (mul p a) (mul p b) (mul p c) (mul p d)
mul_sum4 p a b c d = rw (mul_add p (bit_xor a b) (bit_xor c d), mul_add p a b, mul_add p c d) refl

-- what one byte adds to a row of the two matrices' product
unfoldable pub path : ℕ → ℕ → ℕ → ℕ → ℕ → ℕ → ℕ → ℕ → ℕ → ℕ
path p q r t p1 q1 r1 t1 a = sum4 (mul p (mul p1 a)) (mul q (mul q1 a)) (mul r (mul r1 a)) (mul t (mul t1 a))

-- a row after the matrix with first row p1 q1 r1 t1
after : (p q r t p1 q1 r1 t1 a b c d : ℕ)
    → row_times p q r t (row_times p1 q1 r1 t1 a b c d) (row_times t1 p1 q1 r1 a b c d) (row_times r1 t1 p1 q1 a b c d) (row_times q1 r1 t1 p1 a b c d)
    ≡ sum4 (path p q r t p1 t1 r1 q1 a) (path p q r t q1 p1 t1 r1 b) (path p q r t r1 q1 p1 t1 c) (path p q r t t1 r1 q1 p1 d)
unfolding row_times path
after p q r t p1 q1 r1 t1 a b c d =
    rw (
      mul_sum4 p (mul p1 a) (mul q1 b) (mul r1 c) (mul t1 d),
      mul_sum4 q (mul t1 a) (mul p1 b) (mul q1 c) (mul r1 d),
      mul_sum4 r (mul r1 a) (mul t1 b) (mul p1 c) (mul q1 d),
      mul_sum4 t (mul q1 a) (mul r1 b) (mul t1 c) (mul p1 d),
    )
    (transpose4 (mul p (mul p1 a)) (mul p (mul q1 b)) (mul p (mul r1 c)) (mul p (mul t1 d)) (mul q (mul t1 a)) (mul q (mul p1 b)) (mul q (mul q1 c)) (mul q (mul r1 d)) (mul r (mul r1 a)) (mul r (mul t1 b)) (mul r (mul p1 c)) (mul r (mul q1 d)) (mul t (mul q1 a)) (mul t (mul r1 b)) (mul t (mul t1 c)) (mul t (mul p1 d)))

-- the byte itself, or nothing
abbrev is_one : ℕ → ℕ → ℕ → ℕ → ℕ → ℕ → ℕ → ℕ → Bool
is_one p q r t p1 q1 r1 t1 = all_below (λ a. path p q r t p1 q1 r1 t1 a == a) 256

abbrev is_none : ℕ → ℕ → ℕ → ℕ → ℕ → ℕ → ℕ → ℕ → Bool
is_none p q r t p1 q1 r1 t1 = all_below (λ a. path p q r t p1 q1 r1 t1 a == 0) 256

one : (p q r t p1 q1 r1 t1 a : ℕ) → is_one p q r t p1 q1 r1 t1 ≡ true → a < 256 → path p q r t p1 q1 r1 t1 a ≡ a
one p q r t p1 q1 r1 t1 a test h = eqb-true _ a (all_below_at (λ a. path p q r t p1 q1 r1 t1 a == a) 256 a test h)

nothing : (p q r t p1 q1 r1 t1 a : ℕ) → is_none p q r t p1 q1 r1 t1 ≡ true → a < 256 → path p q r t p1 q1 r1 t1 a ≡ 0
nothing p q r t p1 q1 r1 t1 a test h = eqb-true _ 0 (all_below_at (λ a. path p q r t p1 q1 r1 t1 a == 0) 256 a test h)

-- each row of the inverse matrix after the matrix gives back its byte
pub back_0 : (a b c d : ℕ) → a < 256 → b < 256 → c < 256 → d < 256
    → row_times 14 11 13 9 (row_times 2 3 1 1 a b c d) (row_times 1 2 3 1 a b c d) (row_times 1 1 2 3 a b c d) (row_times 3 1 1 2 a b c d) ≡ a
unfolding path mul product remainder
back_0 a b c d ha hb hc hd =
    after 14 11 13 9 2 3 1 1 a b c d
    ∙ (λ i. sum4 (one 14 11 13 9 2 1 1 3 a refl ha i) (nothing 14 11 13 9 3 2 1 1 b refl hb i) (nothing 14 11 13 9 1 3 2 1 c refl hc i) (nothing 14 11 13 9 1 1 3 2 d refl hd i))
    ∙ xor_zero_r (bit_xor a 0) ∙ xor_zero_r a

pub back_1 : (a b c d : ℕ) → a < 256 → b < 256 → c < 256 → d < 256
    → row_times 9 14 11 13 (row_times 2 3 1 1 a b c d) (row_times 1 2 3 1 a b c d) (row_times 1 1 2 3 a b c d) (row_times 3 1 1 2 a b c d) ≡ b
unfolding path mul product remainder
back_1 a b c d ha hb hc hd =
    after 9 14 11 13 2 3 1 1 a b c d
    ∙ (λ i. sum4 (nothing 9 14 11 13 2 1 1 3 a refl ha i) (one 9 14 11 13 3 2 1 1 b refl hb i) (nothing 9 14 11 13 1 3 2 1 c refl hc i) (nothing 9 14 11 13 1 1 3 2 d refl hd i))
    ∙ xor_zero_r b

pub back_2 : (a b c d : ℕ) → a < 256 → b < 256 → c < 256 → d < 256
    → row_times 13 9 14 11 (row_times 2 3 1 1 a b c d) (row_times 1 2 3 1 a b c d) (row_times 1 1 2 3 a b c d) (row_times 3 1 1 2 a b c d) ≡ c
unfolding path mul product remainder
back_2 a b c d ha hb hc hd =
    after 13 9 14 11 2 3 1 1 a b c d
    ∙ (λ i. sum4 (nothing 13 9 14 11 2 1 1 3 a refl ha i) (nothing 13 9 14 11 3 2 1 1 b refl hb i) (one 13 9 14 11 1 3 2 1 c refl hc i) (nothing 13 9 14 11 1 1 3 2 d refl hd i))
    ∙ xor_zero_r c

pub back_3 : (a b c d : ℕ) → a < 256 → b < 256 → c < 256 → d < 256
    → row_times 11 13 9 14 (row_times 2 3 1 1 a b c d) (row_times 1 2 3 1 a b c d) (row_times 1 1 2 3 a b c d) (row_times 3 1 1 2 a b c d) ≡ d
unfolding path mul product remainder
back_3 a b c d ha hb hc hd =
    after 11 13 9 14 2 3 1 1 a b c d
    ∙ (λ i. sum4 (nothing 11 13 9 14 2 1 1 3 a refl ha i) (nothing 11 13 9 14 3 2 1 1 b refl hb i) (nothing 11 13 9 14 1 3 2 1 c refl hc i) (one 11 13 9 14 1 1 3 2 d refl hd i))
    ∙ refl

-- and each row of the matrix after its inverse
pub there_0 : (a b c d : ℕ) → a < 256 → b < 256 → c < 256 → d < 256
    → row_times 2 3 1 1 (row_times 14 11 13 9 a b c d) (row_times 9 14 11 13 a b c d) (row_times 13 9 14 11 a b c d) (row_times 11 13 9 14 a b c d) ≡ a
unfolding path mul product remainder
there_0 a b c d ha hb hc hd =
    after 2 3 1 1 14 11 13 9 a b c d
    ∙ (λ i. sum4 (one 2 3 1 1 14 9 13 11 a refl ha i) (nothing 2 3 1 1 11 14 9 13 b refl hb i) (nothing 2 3 1 1 13 11 14 9 c refl hc i) (nothing 2 3 1 1 9 13 11 14 d refl hd i))
    ∙ xor_zero_r (bit_xor a 0) ∙ xor_zero_r a

pub there_1 : (a b c d : ℕ) → a < 256 → b < 256 → c < 256 → d < 256
    → row_times 1 2 3 1 (row_times 14 11 13 9 a b c d) (row_times 9 14 11 13 a b c d) (row_times 13 9 14 11 a b c d) (row_times 11 13 9 14 a b c d) ≡ b
unfolding path mul product remainder
there_1 a b c d ha hb hc hd =
    after 1 2 3 1 14 11 13 9 a b c d
    ∙ (λ i. sum4 (nothing 1 2 3 1 14 9 13 11 a refl ha i) (one 1 2 3 1 11 14 9 13 b refl hb i) (nothing 1 2 3 1 13 11 14 9 c refl hc i) (nothing 1 2 3 1 9 13 11 14 d refl hd i))
    ∙ xor_zero_r b

pub there_2 : (a b c d : ℕ) → a < 256 → b < 256 → c < 256 → d < 256
    → row_times 1 1 2 3 (row_times 14 11 13 9 a b c d) (row_times 9 14 11 13 a b c d) (row_times 13 9 14 11 a b c d) (row_times 11 13 9 14 a b c d) ≡ c
unfolding path mul product remainder
there_2 a b c d ha hb hc hd =
    after 1 1 2 3 14 11 13 9 a b c d
    ∙ (λ i. sum4 (nothing 1 1 2 3 14 9 13 11 a refl ha i) (nothing 1 1 2 3 11 14 9 13 b refl hb i) (one 1 1 2 3 13 11 14 9 c refl hc i) (nothing 1 1 2 3 9 13 11 14 d refl hd i))
    ∙ xor_zero_r c

pub there_3 : (a b c d : ℕ) → a < 256 → b < 256 → c < 256 → d < 256
    → row_times 3 1 1 2 (row_times 14 11 13 9 a b c d) (row_times 9 14 11 13 a b c d) (row_times 13 9 14 11 a b c d) (row_times 11 13 9 14 a b c d) ≡ d
unfolding path mul product remainder
there_3 a b c d ha hb hc hd =
    after 3 1 1 2 14 11 13 9 a b c d
    ∙ (λ i. sum4 (nothing 3 1 1 2 14 9 13 11 a refl ha i) (nothing 3 1 1 2 11 14 9 13 b refl hb i) (nothing 3 1 1 2 13 11 14 9 c refl hc i) (one 3 1 1 2 9 13 11 14 d refl hd i))
    ∙ refl

column : {a b c d w x y z : ℕ} {xs ys : List ℕ} → a ≡ w → b ≡ x → c ≡ y → d ≡ z → xs ≡ ys → a ∷ b ∷ c ∷ d ∷ xs ≡ w ∷ x ∷ y ∷ z ∷ ys
column h i j k l = λ n. h n ∷ i n ∷ j n ∷ k n ∷ l n

pub unmix-mix : {s : List ℕ} → IsBytes 16 s → each_column 14 11 13 9 (each_column 2 3 1 1 s) ≡ s
unfolding each_column
unmix-mix (more {b = b0} h0 (more {b = b1} h1 (more {b = b2} h2 (more {b = b3} h3 (more {b = c0} i0 (more {b = c1} i1 (more {b = c2} i2 (more {b = c3} i3 (more {b = d0} j0 (more {b = d1} j1 (more {b = d2} j2 (more {b = d3} j3 (more {b = e0} k0 (more {b = e1} k1 (more {b = e2} k2 (more {b = e3} k3 none)))))))))))))))) =
    column (back_0 b0 b1 b2 b3 h0 h1 h2 h3) (back_1 b0 b1 b2 b3 h0 h1 h2 h3) (back_2 b0 b1 b2 b3 h0 h1 h2 h3) (back_3 b0 b1 b2 b3 h0 h1 h2 h3)
    (column (back_0 c0 c1 c2 c3 i0 i1 i2 i3) (back_1 c0 c1 c2 c3 i0 i1 i2 i3) (back_2 c0 c1 c2 c3 i0 i1 i2 i3) (back_3 c0 c1 c2 c3 i0 i1 i2 i3)
    (column (back_0 d0 d1 d2 d3 j0 j1 j2 j3) (back_1 d0 d1 d2 d3 j0 j1 j2 j3) (back_2 d0 d1 d2 d3 j0 j1 j2 j3) (back_3 d0 d1 d2 d3 j0 j1 j2 j3)
    (column (back_0 e0 e1 e2 e3 k0 k1 k2 k3) (back_1 e0 e1 e2 e3 k0 k1 k2 k3) (back_2 e0 e1 e2 e3 k0 k1 k2 k3) (back_3 e0 e1 e2 e3 k0 k1 k2 k3) refl)))

pub mix-unmix : {s : List ℕ} → IsBytes 16 s → each_column 2 3 1 1 (each_column 14 11 13 9 s) ≡ s
unfolding each_column
mix-unmix (more {b = b0} h0 (more {b = b1} h1 (more {b = b2} h2 (more {b = b3} h3 (more {b = c0} i0 (more {b = c1} i1 (more {b = c2} i2 (more {b = c3} i3 (more {b = d0} j0 (more {b = d1} j1 (more {b = d2} j2 (more {b = d3} j3 (more {b = e0} k0 (more {b = e1} k1 (more {b = e2} k2 (more {b = e3} k3 none)))))))))))))))) =
    column (there_0 b0 b1 b2 b3 h0 h1 h2 h3) (there_1 b0 b1 b2 b3 h0 h1 h2 h3) (there_2 b0 b1 b2 b3 h0 h1 h2 h3) (there_3 b0 b1 b2 b3 h0 h1 h2 h3)
    (column (there_0 c0 c1 c2 c3 i0 i1 i2 i3) (there_1 c0 c1 c2 c3 i0 i1 i2 i3) (there_2 c0 c1 c2 c3 i0 i1 i2 i3) (there_3 c0 c1 c2 c3 i0 i1 i2 i3)
    (column (there_0 d0 d1 d2 d3 j0 j1 j2 j3) (there_1 d0 d1 d2 d3 j0 j1 j2 j3) (there_2 d0 d1 d2 d3 j0 j1 j2 j3) (there_3 d0 d1 d2 d3 j0 j1 j2 j3)
    (column (there_0 e0 e1 e2 e3 k0 k1 k2 k3) (there_1 e0 e1 e2 e3 k0 k1 k2 k3) (there_2 e0 e1 e2 e3 k0 k1 k2 k3) (there_3 e0 e1 e2 e3 k0 k1 k2 k3) refl)))
