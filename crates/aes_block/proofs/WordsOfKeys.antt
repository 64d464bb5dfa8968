-- The words of the schedule, one by one, and the key's bytes.
use Rattle.std.proofs.Common.{◌≡◌, ℕ, zero, suc, ◌<◌, ◌≤◌, ◌+◌, ◌-◌, ◌*◌, ◌/◌, ◌%◌, List, [], ◌∷◌, ◌++◌, length, take, set, slice_index, inl, inr, refl, sym, ap, ◌∙◌, arith, lt-ltb, le-ltb, append_assoc}
use Rattle.std.specs.Prelude.{◌⊎◌, All}
use Rattle.std.proofs.lemmas.Bool.{cases_lt}
use Rattle.std.proofs.lemmas.Grind.{take-set_at}
use Rattle.std.proofs.lemmas.List.{take_all, take-set-le, length-take-le}
use Rattle.std.proofs.Math.Numerals.{add-one}
use Rattle.std.proofs.Math.Seq.{take-suc}
use Rattle.std.specs.Int.Bits.{bit_xor, xor_zero_r}
use Rattle.piv_model.specs.Field.{sub_byte}
use Rattle.piv_model.specs.Cipher.{IsKey, add_bytes, sub_bytes, rotate_word, schedule_term, next_word, words, all_rounds, encipher}
use Rattle.aes_block.specs.Words.{first, second, third, fourth, bytes_of, all_bytes_of, each_bytes_of, schedule_of}
use Rattle.aes_block.proofs.WordLemmas.{bytes_of-xor}
use Rattle.aes_block.proofs.RoundSteps.{word_at}

-- ---- what is added to a word

pub rotated_term : (w p : ℕ) {a b c d : ℕ} → a ≡ sub_byte (second w) → b ≡ sub_byte (third w) → c ≡ sub_byte (fourth w) → d ≡ sub_byte (first w)
    → bit_xor a p ∷ b ∷ c ∷ d ∷ [] ≡ add_bytes (sub_bytes (rotate_word (bytes_of w))) (p ∷ 0 ∷ 0 ∷ 0 ∷ [])
unfolding add_bytes sub_bytes
rotated_term w p ha hb hc hd =
    λ i. bit_xor (ha i) p ∷ (hb ∙ sym (xor_zero_r (sub_byte (third w)))) i ∷ (hc ∙ sym (xor_zero_r (sub_byte (fourth w)))) i ∷ (hd ∙ sym (xor_zero_r (sub_byte (first w)))) i ∷ []

-- ---- one more word

each_bytes_of-append : (xs : List ℕ) (w : ℕ) → each_bytes_of (xs ++ w ∷ []) ≡ each_bytes_of xs ++ bytes_of w ∷ []
unfolding each_bytes_of
each_bytes_of-append [] w = refl
each_bytes_of-append (x ∷ xs) w = ap (λ ys. bytes_of x ∷ ys) (each_bytes_of-append xs w)

pub words-zero : (nk : ℕ) (key ws : List ℕ) → each_bytes_of (take 0 ws) ≡ words nk key 0
unfolding words each_bytes_of
words-zero nk key ws = refl

pub words-more : (nk : ℕ) (key : List ℕ) (i : ℕ) (ws : List ℕ) (w : ℕ) → i < length ws → each_bytes_of (take i ws) ≡ words nk key i
    → bytes_of w ≡ next_word nk key i (words nk key i) → each_bytes_of (take (i + 1) (set ws i w)) ≡ words nk key (i + 1)
unfolding words
words-more nk key i ws w h same made =
    ap each_bytes_of (take-set_at ws i (i + 1) w refl h) ∙ each_bytes_of-append (take i ws) w ∙ rw (same, made, add-one i) refl

pub early_word : (nk : ℕ) (key : List ℕ) (i : ℕ) (before : List (List ℕ)) → i < nk
    → slice_index key (4 * i) ∷ slice_index key (4 * i + 1) ∷ slice_index key (4 * i + 2) ∷ slice_index key (4 * i + 3) ∷ [] ≡ next_word nk key i before
unfolding next_word
early_word nk key i before h = rw (lt-ltb i nk h) refl

pub late_word : (nk : ℕ) (key : List ℕ) (i : ℕ) (ws : List ℕ) (t : ℕ) → 0 < nk → nk ≤ i → i ≤ length ws → each_bytes_of (take i ws) ≡ words nk key i
    → bytes_of t ≡ schedule_term nk i (bytes_of (slice_index ws (i - 1)))
    → bytes_of (bit_xor (slice_index ws (i - nk)) t) ≡ next_word nk key i (words nk key i)
unfolding next_word
late_word nk key i ws t some h long same made =
    let back : i - nk < i = omega arith in
    let last : i - 1 < i = omega arith in
    bytes_of-xor (slice_index ws (i - nk)) t
    ∙ rw (le-ltb i nk h, ← same, word_at i ws (i - nk) long back, word_at i ws (i - 1) long last, ← made) refl

-- ---- the key's bytes

all_bytes_of-append : (xs : List ℕ) (w : ℕ) → all_bytes_of (xs ++ w ∷ []) ≡ all_bytes_of xs ++ bytes_of w
unfolding all_bytes_of
all_bytes_of-append [] w = refl
all_bytes_of-append (x ∷ xs) w = ap (λ ys. first x ∷ second x ∷ third x ∷ fourth x ∷ ys) (all_bytes_of-append xs w)

take_one : (xs : List ℕ) (j m : ℕ) → m ≡ j + 1 → j < length xs → take m xs ≡ take j xs ++ slice_index xs j ∷ []
take_one xs j m e h = ap (λ n. take n xs) (e ∙ add-one j) ∙ take-suc xs j 0 h

take_four : (xs : List ℕ) (n : ℕ) → n + 4 ≤ length xs
    → take (n + 4) xs ≡ take n xs ++ (slice_index xs n ∷ slice_index xs (n + 1) ∷ slice_index xs (n + 2) ∷ slice_index xs (n + 3) ∷ [])
take_four xs n h =
    take_one xs (n + 3) (n + 4) (omega arith) (omega arith)
    ∙ ap (λ ys. ys ++ slice_index xs (n + 3) ∷ []) (take_one xs (n + 2) (n + 3) (omega arith) (omega arith))
    ∙ ap (λ ys. (ys ++ slice_index xs (n + 2) ∷ []) ++ slice_index xs (n + 3) ∷ []) (take_one xs (n + 1) (n + 2) (omega arith) (omega arith))
    ∙ ap (λ ys. ((ys ++ slice_index xs (n + 1) ∷ []) ++ slice_index xs (n + 2) ∷ []) ++ slice_index xs (n + 3) ∷ []) (take_one xs n (n + 1) refl (omega arith))
    ∙ simp append_assoc

pub key_bytes-zero : (key ws : List ℕ) → all_bytes_of (take 0 ws) ≡ take (4 * 0) key
unfolding all_bytes_of
key_bytes-zero key ws = refl

pub key_bytes-more : (key : List ℕ) (i : ℕ) (ws : List ℕ) (w : ℕ) → i < length ws → 4 * i + 4 ≤ length key → all_bytes_of (take i ws) ≡ take (4 * i) key
    → bytes_of w ≡ slice_index key (4 * i) ∷ slice_index key (4 * i + 1) ∷ slice_index key (4 * i + 2) ∷ slice_index key (4 * i + 3) ∷ []
    → all_bytes_of (take (i + 1) (set ws i w)) ≡ take (4 * (i + 1)) key
key_bytes-more key i ws w h room same made =
    let four_more : 4 * i + 4 ≡ 4 * (i + 1) = omega arith in
    ap all_bytes_of (take-set_at ws i (i + 1) w refl h) ∙ all_bytes_of-append (take i ws) w
    ∙ (λ j. same j ++ made j) ∙ sym (take_four key (4 * i) room) ∙ ap (λ n. take n key) four_more

pub key_bytes-whole : (nk : ℕ) (key ws : List ℕ) → length key ≡ 4 * nk → all_bytes_of (take nk ws) ≡ take (4 * nk) key → all_bytes_of (take nk ws) ≡ key
key_bytes-whole nk key ws e same = same ∙ take_all (4 * nk) key (omega arith)

pub key_bytes-kept : (nk : ℕ) (key : List ℕ) (i : ℕ) (ws : List ℕ) (w : ℕ) → nk ≤ i → all_bytes_of (take nk ws) ≡ key → all_bytes_of (take nk (set ws i w)) ≡ key
key_bytes-kept nk key i ws w h same = ap all_bytes_of (take-set-le nk ws i w h) ∙ same

-- ---- a key as its words

length-all_bytes_of : (xs : List ℕ) → length (all_bytes_of xs) ≡ 4 * length xs
unfolding all_bytes_of
length-all_bytes_of [] = refl
length-all_bytes_of (x ∷ xs) = let rest = length-all_bytes_of xs in omega arith

all_bytes_of-small : (xs : List ℕ) → All (λ b. b < 256) (all_bytes_of xs)
unfolding all_bytes_of
all_bytes_of-small [] k d h = absurd (omega arith)
all_bytes_of-small (x ∷ xs) zero d h = omega arith
all_bytes_of-small (x ∷ xs) (suc zero) d h = omega arith
all_bytes_of-small (x ∷ xs) (suc (suc zero)) d h = omega arith
all_bytes_of-small (x ∷ xs) (suc (suc (suc zero))) d h = omega arith
all_bytes_of-small (x ∷ xs) (suc (suc (suc (suc k)))) d h = all_bytes_of-small xs k d (omega arith)

pub length-key : (nk : ℕ) (ws : List ℕ) → nk ≤ length ws → length (all_bytes_of (take nk ws)) ≡ 4 * nk
length-key nk ws h = length-all_bytes_of (take nk ws) ∙ ap (λ n. 4 * n) (length-take-le nk ws h)

-- a length of four, six or eight words
sizes : (nk : ℕ) → 4 ≤ nk → nk ≤ 8 → nk % 2 ≡ 0 → (4 * nk ≡ 16) ⊎ (4 * nk ≡ 24) ⊎ (4 * nk ≡ 32)
sizes nk low high even =
    elim (cases_lt nk 5) [
      | inl four ↦ inl (omega arith)
      | inr more ↦ elim (cases_lt nk 7) [ inl six ↦ inr (inl (omega arith)) | inr eight ↦ inr (inr (omega arith)) ]
    ]

pub key_of : (nk : ℕ) (ws : List ℕ) → 4 ≤ nk → nk ≤ 8 → nk % 2 ≡ 0 → nk ≤ length ws → IsKey (all_bytes_of (take nk ws))
key_of nk ws low high even h =
    record { size = rw (length-key nk ws h) (sizes nk low high even); bytes = all_bytes_of-small (take nk ws) }

pub encipher-is : (nk : ℕ) (key x : List ℕ) → length key ≡ 4 * nk → all_rounds nk (words nk key (4 * (nk + 7))) x ≡ encipher key x
unfolding encipher
encipher-is nk key x e =
    let same : length key / 4 ≡ nk = omega arith in
    rw same refl

-- what a key's invariant says of its value
pub record IsExpanded (nk : ℕ) (ws key : List ℕ) : Type 0 where
  pub is_key : IsKey key
  pub size : length key ≡ 4 * nk
  pub cipher : (x : List ℕ) → all_rounds nk (schedule_of nk ws) x ≡ encipher key x

pub expanded : (nk : ℕ) (ws key : List ℕ) → (4 ≤ nk) × (nk ≤ 8) × (nk % 2 ≡ 0) → length ws ≡ 60
    → schedule_of nk ws ≡ words nk (all_bytes_of (take nk ws)) (4 * (nk + 7)) → all_bytes_of (take nk ws) ≡ key → IsExpanded nk ws key
expanded nk ws key size sixty all view =
    let low = size.0 in
    let high = size.1 in
    let room : nk ≤ length ws = omega arith in
    let long : length key ≡ 4 * nk = ap length (sym view) ∙ length-key nk ws room in
    let same : (k : List ℕ) → all_bytes_of (take nk ws) ≡ k → IsKey k = λ k e. rw (← e) (key_of nk ws low high size.2 room) in
    record {
      is_key = same key view;
      size = long;
      cipher = λ x. ap (λ s. all_rounds nk s x) (all ∙ ap (λ k. words nk k (4 * (nk + 7))) view) ∙ encipher-is nk key x long;
    }
