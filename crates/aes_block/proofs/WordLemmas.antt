-- Words and blocks as bytes.
use Rattle.std.proofs.Common.{◌≡◌, ℕ, zero, suc, ◌/◌, ◌%◌, ◌^◌, ◌<◌, List, [], ◌∷◌, ◌++◌, length, get_or, slice_index, refl, ap, ◌∙◌, arith}
use Rattle.std.specs.Int.{w32, from_be_bytes}
use Rattle.std.specs.Int.Bits.{bit_xor, xor_assoc, xor_self, xor_zero_r}
use Rattle.std.proofs.lemmas.Nat.{xor_mod, xor_shr, be_bytes_4}
use Rattle.piv_model.specs.Cipher.{add_bytes}
use Rattle.piv_model.proofs.CipherBytes.{IsBytes, none, more}
use Rattle.aes_block.specs.Words.{first, second, third, fourth, bytes_of, all_bytes_of}

-- a list of n numbers
pub data Sized : ℕ → List ℕ → Type 0 where
  nil : Sized zero []
  next : {n b : ℕ} {bs : List ℕ} → Sized n bs → Sized (suc n) (b ∷ bs)

pub sized : (n : ℕ) (s : List ℕ) → length s ≡ n → Sized n s
sized zero [] e = nil
sized (suc n) [] e = absurd (omega arith)
sized zero (b ∷ bs) e = absurd (omega arith)
sized (suc n) (b ∷ bs) e = next (sized n bs (omega arith))

pub bytes_within : (n : ℕ) (s : List ℕ) → length s ≡ n → ((i : ℕ) → slice_index s i < 256) → IsBytes n s
bytes_within zero [] e h = none
bytes_within (suc n) [] e h = absurd (omega arith)
bytes_within zero (b ∷ bs) e h = absurd (omega arith)
bytes_within (suc n) (b ∷ bs) e h = more (h 0) (bytes_within n bs (omega arith) (λ i. h (suc i)))

byte_xor : (a b k : ℕ) → bit_xor a b / 2 ^ k % 2 ^ 8 ≡ bit_xor (a / 2 ^ k % 2 ^ 8) (b / 2 ^ k % 2 ^ 8)
byte_xor a b k = ap (λ (x : ℕ). x % 2 ^ 8) (xor_shr a b k) ∙ xor_mod (a / 2 ^ k) (b / 2 ^ k) 8

pub bytes_of-xor : (a b : ℕ) → bytes_of (bit_xor a b) ≡ add_bytes (bytes_of a) (bytes_of b)
unfolding add_bytes
bytes_of-xor a b = λ i. byte_xor a b 24 i ∷ byte_xor a b 16 i ∷ byte_xor a b 8 i ∷ xor_mod a b 8 i ∷ []

-- four words' bytes, joined
pub joined : (a b c d : ℕ) {p q r t : List ℕ} → bytes_of a ≡ p → bytes_of b ≡ q → bytes_of c ≡ r → bytes_of d ≡ t
    → all_bytes_of (a ∷ b ∷ c ∷ d ∷ []) ≡ p ++ (q ++ (r ++ t))
unfolding all_bytes_of
joined a b c d hp hq hr ht = λ i. hp i ++ (hq i ++ (hr i ++ ht i))

small_four : {a b c d : ℕ} → a < 256 → b < 256 → c < 256 → d < 256 → (i : ℕ) → get_or (a ∷ b ∷ c ∷ d ∷ []) i 0 < 256
small_four ha hb hc hd zero = ha
small_four ha hb hc hd (suc zero) = hb
small_four ha hb hc hd (suc (suc zero)) = hc
small_four ha hb hc hd (suc (suc (suc zero))) = hd
small_four ha hb hc hd (suc (suc (suc (suc i)))) = omega arith

-- a word that is made of four bytes has them
pub bytes_of-made : {a b c d : ℕ} (n : ℕ) → a < 256 → b < 256 → c < 256 → d < 256 → n ≡ from_be_bytes w32 (a ∷ b ∷ c ∷ d ∷ []) → bytes_of n ≡ a ∷ b ∷ c ∷ d ∷ []
bytes_of-made {a} {b} {c} {d} n ha hb hc hd e = be_bytes_4 (a ∷ b ∷ c ∷ d ∷ []) n refl (small_four ha hb hc hd) e

-- a block by its places
pub block_places : {s : List ℕ} → Sized 16 s
    → (slice_index s 0 ∷ slice_index s 1 ∷ slice_index s 2 ∷ slice_index s 3 ∷ [])
    ++ ((slice_index s 4 ∷ slice_index s 5 ∷ slice_index s 6 ∷ slice_index s 7 ∷ [])
    ++ ((slice_index s 8 ∷ slice_index s 9 ∷ slice_index s 10 ∷ slice_index s 11 ∷ [])
    ++ (slice_index s 12 ∷ slice_index s 13 ∷ slice_index s 14 ∷ slice_index s 15 ∷ []))) ≡ s
block_places (next (next (next (next (next (next (next (next (next (next (next (next (next (next (next (next nil)))))))))))))))) = refl

pub four_places : {s : List ℕ} → Sized 4 s → slice_index s 0 ∷ slice_index s 1 ∷ slice_index s 2 ∷ slice_index s 3 ∷ [] ≡ s
four_places (next (next (next (next nil)))) = refl

pub all_bytes_of-xor : {s k : List ℕ} → Sized 4 s → Sized 4 k
    → all_bytes_of (bit_xor (slice_index s 0) (slice_index k 0) ∷ bit_xor (slice_index s 1) (slice_index k 1) ∷ bit_xor (slice_index s 2) (slice_index k 2) ∷ bit_xor (slice_index s 3) (slice_index k 3) ∷ [])
    ≡ add_bytes (all_bytes_of s) (all_bytes_of k)
unfolding all_bytes_of add_bytes
all_bytes_of-xor (next {b = a} (next {b = b} (next {b = c} (next {b = d} nil)))) (next {b = i} (next {b = j} (next {b = k} (next {b = l} nil)))) =
    joined _ _ _ _ (bytes_of-xor a i) (bytes_of-xor b j) (bytes_of-xor c k) (bytes_of-xor d l)

-- what words are made of is bytes
pub all_bytes_of-bytes : {s : List ℕ} → Sized 4 s → IsBytes 16 (all_bytes_of s)
unfolding all_bytes_of
all_bytes_of-bytes (next {b = a} (next {b = b} (next {b = c} (next {b = d} nil)))) = word a (word b (word c (word d none)))
  where
    word : (w : ℕ) {n : ℕ} {rest : List ℕ} → IsBytes n rest → IsBytes (suc (suc (suc (suc n)))) (first w ∷ second w ∷ third w ∷ fourth w ∷ rest)
    word w h = more (omega arith) (more (omega arith) (more (omega arith) (more (omega arith) h)))

add_twice : (a k : ℕ) → bit_xor (bit_xor a k) k ≡ a
add_twice a k = xor_assoc a k k ∙ ap (bit_xor a) (xor_self k) ∙ xor_zero_r a

pub add_bytes-twice : {n : ℕ} {s k : List ℕ} → IsBytes n s → IsBytes n k → add_bytes (add_bytes s k) k ≡ s
unfolding add_bytes
add_bytes-twice none none = refl
add_bytes-twice (more {b = a} h hs) (more {b = k} l ls) = λ i. add_twice a k i ∷ add_bytes-twice hs ls i

pub add_words-twice : {s k : List ℕ} → Sized 4 s → Sized 4 k → add_bytes (add_bytes (all_bytes_of s) (all_bytes_of k)) (all_bytes_of k) ≡ all_bytes_of s
add_words-twice h l = add_bytes-twice (all_bytes_of-bytes h) (all_bytes_of-bytes l)
