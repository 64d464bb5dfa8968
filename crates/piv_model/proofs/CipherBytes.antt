-- Each state, each word and what is enciphered are bytes.
use Rattle.std.proofs.Common.{◌≡◌, ℕ, zero, suc, ◌<◌, ◌≤◌, ◌+◌, ◌-◌, ◌*◌, ◌/◌, ◌%◌, ◌==◌, ◌&&◌, nat_lt, Bool, true, false, List, [], ◌∷◌, ◌++◌, length, get_or, slice_index, inl, inr, refl, arith, lt-ltb, le-ltb, length-append}
use Rattle.std.specs.Prelude.{◌⊎◌, if◌then◌else◌, All}
use Rattle.std.proofs.lemmas.Bool.{cases_lt, ltb-true}
use Rattle.std.proofs.lemmas.Nat.{xor_of_8, div_below}
use Rattle.std.proofs.Math.Numerals.{add-one}
use Rattle.std.specs.Int.Bits.{bit_xor}
use Rattle.piv_model.specs.Field.{product, remainder, mul, power_x, affine, sub_byte, inverse}
use Rattle.piv_model.specs.Cipher.{IsBlock, IsKey, add_bytes, sub_bytes, shift_rows, row_times, each_column, mix_columns, rotate_word, schedule_term, next_word, words, round_key, state_after, all_rounds, encipher}
use Rattle.piv_model.proofs.FieldTests.{all_below, all_below_at}

-- n bytes
pub data IsBytes : ℕ → List ℕ → Type 0 where
  none : IsBytes zero []
  more : {n b : ℕ} {bs : List ℕ} → b < 256 → IsBytes n bs → IsBytes (suc n) (b ∷ bs)

pub bytes_from : (n : ℕ) (s : List ℕ) → length s ≡ n → All (λ b. b < 256) s → IsBytes n s
bytes_from zero [] e h = none
bytes_from (suc n) [] e h = absurd (omega arith)
bytes_from zero (b ∷ bs) e h = absurd (omega arith)
bytes_from (suc n) (b ∷ bs) e h = more (h 0 0 (omega arith)) (bytes_from n bs (omega arith) (λ k d lt. h (suc k) d (omega arith)))

pub all_bytes : {n : ℕ} {s : List ℕ} → IsBytes n s → All (λ b. b < 256) s
all_bytes none k d lt = absurd (omega arith)
all_bytes (more h hs) zero d lt = h
all_bytes (more h hs) (suc k) d lt = all_bytes hs k d (omega arith)

pub length-bytes : {n : ℕ} {s : List ℕ} → IsBytes n s → length s ≡ n
length-bytes none = refl
length-bytes (more h hs) = let rest = length-bytes hs in omega arith

pub block_of : {s : List ℕ} → IsBytes 16 s → IsBlock s
block_of h = record { size = length-bytes h; bytes = all_bytes h }

pub of_block : {s : List ℕ} → IsBlock s → IsBytes 16 s
of_block {s} h = bytes_from 16 s h.size h.bytes

-- ---- the steps of a round

pub add_bytes-bytes : {n : ℕ} {s k : List ℕ} → IsBytes n s → IsBytes n k → IsBytes n (add_bytes s k)
unfolding add_bytes
add_bytes-bytes none none = none
add_bytes-bytes (more {b = a} h hs) (more {b = k} l ls) = more (xor_of_8 a k h l) (add_bytes-bytes hs ls)

pub affine_lt : (b : ℕ) → affine b < 256
unfolding affine
affine_lt b = omega arith

pub sub_lt : (b : ℕ) → sub_byte b < 256
unfolding sub_byte
sub_lt b = affine_lt (inverse b)

pub sub_bytes-bytes : {n : ℕ} {s : List ℕ} → IsBytes n s → IsBytes n (sub_bytes s)
unfolding sub_bytes
sub_bytes-bytes none = none
sub_bytes-bytes (more {b = b} h hs) = more (sub_lt b) (sub_bytes-bytes hs)

pub shift_rows-bytes : {s : List ℕ} → IsBytes 16 s → IsBytes 16 (shift_rows s)
shift_rows-bytes (more h0 (more h1 (more h2 (more h3 (more h4 (more h5 (more h6 (more h7 (more h8 (more h9 (more h10 (more h11 (more h12 (more h13 (more h14 (more h15 none)))))))))))))))) =
    more h0 (more h5 (more h10 (more h15 (more h4 (more h9 (more h14 (more h3 (more h8 (more h13 (more h2 (more h7 (more h12 (more h1 (more h6 (more h11 none)))))))))))))))

-- a byte times this is a byte
abbrev pub keeps_bytes : ℕ → Bool
keeps_bytes p = all_below (λ a. nat_lt (mul p a) 256) 256

mul_lt : (p a : ℕ) → keeps_bytes p ≡ true → a < 256 → mul p a < 256
mul_lt p a test h = ltb-true (mul p a) 256 (all_below_at (λ a. nat_lt (mul p a) 256) 256 a test h)

row_lt : (p q r t a b c d : ℕ) → keeps_bytes p ≡ true → keeps_bytes q ≡ true → keeps_bytes r ≡ true → keeps_bytes t ≡ true
    → a < 256 → b < 256 → c < 256 → d < 256 → row_times p q r t a b c d < 256
unfolding row_times
row_lt p q r t a b c d hp hq hr ht ha hb hc hd =
    xor_of_8 (bit_xor (mul p a) (mul q b)) (bit_xor (mul r c) (mul t d))
    (xor_of_8 (mul p a) (mul q b) (mul_lt p a hp ha) (mul_lt q b hq hb))
    (xor_of_8 (mul r c) (mul t d) (mul_lt r c hr hc) (mul_lt t d ht hd))

column_bytes : (p q r t : ℕ) → keeps_bytes p ≡ true → keeps_bytes q ≡ true → keeps_bytes r ≡ true → keeps_bytes t ≡ true
    → {a b c d n : ℕ} {rest : List ℕ} → a < 256 → b < 256 → c < 256 → d < 256 → IsBytes n rest
    → IsBytes (suc (suc (suc (suc n)))) (row_times p q r t a b c d ∷ row_times t p q r a b c d ∷ row_times r t p q a b c d ∷ row_times q r t p a b c d ∷ rest)
column_bytes p q r t hp hq hr ht {a} {b} {c} {d} ha hb hc hd h =
    more (row_lt p q r t a b c d hp hq hr ht ha hb hc hd)
    (more (row_lt t p q r a b c d ht hp hq hr ha hb hc hd)
    (more (row_lt r t p q a b c d hr ht hp hq ha hb hc hd)
    (more (row_lt q r t p a b c d hq hr ht hp ha hb hc hd) h)))

pub each_column-bytes : (p q r t : ℕ) → keeps_bytes p ≡ true → keeps_bytes q ≡ true → keeps_bytes r ≡ true → keeps_bytes t ≡ true
    → {s : List ℕ} → IsBytes 16 s → IsBytes 16 (each_column p q r t s)
unfolding each_column
each_column-bytes p q r t hp hq hr ht (more h0 (more h1 (more h2 (more h3 (more h4 (more h5 (more h6 (more h7 (more h8 (more h9 (more h10 (more h11 (more h12 (more h13 (more h14 (more h15 none)))))))))))))))) =
    column_bytes p q r t hp hq hr ht h0 h1 h2 h3
    (column_bytes p q r t hp hq hr ht h4 h5 h6 h7
    (column_bytes p q r t hp hq hr ht h8 h9 h10 h11
    (column_bytes p q r t hp hq hr ht h12 h13 h14 h15 none)))

one_keeps : keeps_bytes 1 ≡ true
unfolding mul product remainder
one_keeps = refl

two_keeps : keeps_bytes 2 ≡ true
unfolding mul product remainder
two_keeps = refl

three_keeps : keeps_bytes 3 ≡ true
unfolding mul product remainder
three_keeps = refl

pub mix_columns-bytes : {s : List ℕ} → IsBytes 16 s → IsBytes 16 (mix_columns s)
mix_columns-bytes h = each_column-bytes 2 3 1 1 two_keeps three_keeps one_keeps one_keeps h

-- ---- the key schedule

pub data AreWords : List (List ℕ) → Type 0 where
  no_words : AreWords []
  one_word : {w : List ℕ} {ws : List (List ℕ)} → IsBytes 4 w → AreWords ws → AreWords (w ∷ ws)

word_of : {ws : List (List ℕ)} (j : ℕ) → AreWords ws → j < length ws → IsBytes 4 (get_or ws j [])
word_of j no_words h = absurd (omega arith)
word_of zero (one_word w ws) h = w
word_of (suc j) (one_word w ws) h = word_of j ws (omega arith)

words_push : {ws : List (List ℕ)} {w : List ℕ} → AreWords ws → IsBytes 4 w → AreWords (ws ++ w ∷ [])
words_push no_words h = one_word h no_words
words_push (one_word w ws) h = one_word w (words_push ws h)

either : (b : Bool) {n : ℕ} {x y : List ℕ} → IsBytes n x → IsBytes n y → IsBytes n (if b then x else y)
either true h l = h
either false h l = l

powers_below : all_below (λ n. nat_lt (power_x n) 256) 11 ≡ true
unfolding power_x remainder
powers_below = refl

power_lt : (n : ℕ) → n < 11 → power_x n < 256
power_lt n h = ltb-true (power_x n) 256 (all_below_at (λ n. nat_lt (power_x n) 256) 11 n powers_below h)

rotate_bytes : {w : List ℕ} → IsBytes 4 w → IsBytes 4 (rotate_word w)
rotate_bytes (more a (more b (more c (more d none)))) = more b (more c (more d (more a none)))

constant_bytes : (p : ℕ) → p < 256 → IsBytes 4 (p ∷ 0 ∷ 0 ∷ 0 ∷ [])
constant_bytes p h = more h (more (omega arith) (more (omega arith) (more (omega arith) none)))

term_bytes : (nk i : ℕ) {w : List ℕ} → i / nk < 11 → IsBytes 4 w → IsBytes 4 (schedule_term nk i w)
unfolding schedule_term
term_bytes nk i reach h =
    either (i % nk == 0) (add_bytes-bytes (sub_bytes-bytes (rotate_bytes h)) (constant_bytes (power_x (i / nk - 1)) (power_lt (i / nk - 1) (omega arith))))
    (either (nk == 8 && i % 8 == 4) (sub_bytes-bytes h) h)

next_bytes : (nk : ℕ) (key : List ℕ) (i : ℕ) (ws : List (List ℕ)) → 4 ≤ nk → i < 4 * (nk + 7) → ((k : ℕ) → slice_index key k < 256)
    → AreWords ws → length ws ≡ i → IsBytes 4 (next_word nk key i ws)
unfolding next_word
next_bytes nk key i ws some place small h e =
    elim (cases_lt i nk) [
      | inl early ↦ rw (lt-ltb i nk early) (more (small (4 * i)) (more (small (4 * i + 1)) (more (small (4 * i + 2)) (more (small (4 * i + 3)) none))))
      | inr late ↦
          let back : i - nk < length ws = omega arith in
          let last : i - 1 < length ws = omega arith in
          let reach : i / nk < 11 = div_below i nk 11 (omega arith) (omega arith) in
          rw (le-ltb i nk late) (add_bytes-bytes (word_of (i - nk) h back) (term_bytes nk i reach (word_of (i - 1) h last)))
    ]

pub length-words : (nk : ℕ) (key : List ℕ) (n : ℕ) → length (words nk key n) ≡ n
unfolding words
length-words nk key zero = refl
length-words nk key (suc n) = rw (length-append, length-words nk key n) (add-one n)

words_bytes : (nk : ℕ) (key : List ℕ) (n : ℕ) → 4 ≤ nk → n ≤ 4 * (nk + 7) → ((k : ℕ) → slice_index key k < 256) → AreWords (words nk key n)
unfolding words
words_bytes nk key zero some place small = no_words
words_bytes nk key (suc n) some place small =
    let h = words_bytes nk key n some (omega arith) small in
    words_push h (next_bytes nk key n (words nk key n) some (omega arith) small h (length-words nk key n))

four : {a b c d : List ℕ} → IsBytes 4 a → IsBytes 4 b → IsBytes 4 c → IsBytes 4 d → IsBytes 16 (a ++ b ++ c ++ d)
four (more p0 (more p1 (more p2 (more p3 none)))) (more q0 (more q1 (more q2 (more q3 none)))) (more r0 (more r1 (more r2 (more r3 none)))) (more s0 (more s1 (more s2 (more s3 none)))) =
    more p0 (more p1 (more p2 (more p3 (more q0 (more q1 (more q2 (more q3 (more r0 (more r1 (more r2 (more r3 (more s0 (more s1 (more s2 (more s3 none)))))))))))))))

-- all words of a key of four to eight words
pub record IsSchedule (nk : ℕ) (ws : List (List ℕ)) : Type 0 where
  pub words : AreWords ws
  pub long : length ws ≡ 4 * (nk + 7)

pub round_key-bytes : {nk : ℕ} {ws : List (List ℕ)} (k : ℕ) → IsSchedule nk ws → k < nk + 7 → IsBytes 16 (round_key ws k)
unfolding round_key
round_key-bytes {nk} {ws} k h l =
    let long = h.long in
    four (word_of (4 * k) h.words (omega arith)) (word_of (4 * k + 1) h.words (omega arith)) (word_of (4 * k + 2) h.words (omega arith)) (word_of (4 * k + 3) h.words (omega arith))

pub schedule_of : (nk : ℕ) (key : List ℕ) → 4 ≤ nk → All (λ b. b < 256) key → IsSchedule nk (words nk key (4 * (nk + 7)))
schedule_of nk key some small =
    let long = length-words nk key (4 * (nk + 7)) in
    record { words = words_bytes nk key (4 * (nk + 7)) some (omega arith) (below key small); long = long }
  where
    below : (xs : List ℕ) → All (λ b. b < 256) xs → (k : ℕ) → slice_index xs k < 256
    below [] h k = omega arith
    below (b ∷ bs) h zero = h 0 0 (omega arith)
    below (b ∷ bs) h (suc k) = below bs (λ j d lt. h (suc j) d (omega arith)) k

-- ---- the cipher

pub state-bytes : {nk : ℕ} {ws : List (List ℕ)} {x : List ℕ} (r : ℕ) → IsSchedule nk ws → r < nk + 7 → IsBytes 16 x → IsBytes 16 (state_after ws x r)
unfolding state_after
state-bytes zero h l b = add_bytes-bytes b (round_key-bytes 0 h (omega arith))
state-bytes (suc r) h l b =
    add_bytes-bytes (mix_columns-bytes (shift_rows-bytes (sub_bytes-bytes (state-bytes r h (omega arith) b)))) (round_key-bytes (suc r) h l)

pub all_rounds-bytes : {nk : ℕ} {ws : List (List ℕ)} {x : List ℕ} → IsSchedule nk ws → IsBytes 16 x → IsBytes 16 (all_rounds nk ws x)
unfolding all_rounds
all_rounds-bytes {nk} h b =
    add_bytes-bytes (shift_rows-bytes (sub_bytes-bytes (state-bytes (nk + 5) h (omega arith) b))) (round_key-bytes (nk + 6) h (omega arith))

-- the schedule of a key
pub key_schedule : {key : List ℕ} → IsKey key → IsSchedule (length key / 4) (words (length key / 4) key (4 * (length key / 4 + 7)))
key_schedule {key} h = schedule_of (length key / 4) key (four_words h.size) h.bytes
  where
    four_words : {n : ℕ} → (n ≡ 16) ⊎ (n ≡ 24) ⊎ (n ≡ 32) → 4 ≤ n / 4
    four_words s = omega arith

pub encipher-block : {key x : List ℕ} → IsKey key → IsBlock x → IsBlock (encipher key x)
unfolding encipher
encipher-block h b = block_of (all_rounds-bytes (key_schedule h) (of_block b))
