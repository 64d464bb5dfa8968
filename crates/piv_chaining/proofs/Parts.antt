-- Parts of a list.
use Rattle.std.proofs.Common.{◌≡◌, ℕ, zero, suc, ◌+◌, ◌-◌, ◌≤◌, ◌<◌, List, [], ◌∷◌, length, take, drop, refl, ap, sym, ◌∙◌, arith, length-drop}
use Rattle.std.specs.Prelude.{min}
use Rattle.std.proofs.lemmas.List.{length-take-le}
use Rattle.piv_model.specs.StatusWords.{piece_word}
use Rattle.piv_chaining.specs.Waiting.{Waiting}

drop-drop : (g n : ℕ) (xs : List ℕ) → drop (g + n) xs ≡ drop n (drop g xs)
drop-drop g n [] = none (g + n) n g
  where
    none : (a b c : ℕ) → drop {A = ℕ} a [] ≡ drop b (drop c [])
    none zero zero zero = refl
    none zero zero (suc c) = refl
    none zero (suc b) zero = refl
    none zero (suc b) (suc c) = refl
    none (suc a) zero zero = refl
    none (suc a) zero (suc c) = refl
    none (suc a) (suc b) zero = refl
    none (suc a) (suc b) (suc c) = refl
drop-drop zero n (x ∷ xs) = ap (λ k. drop k (x ∷ xs)) (omega arith)
drop-drop (suc g) n (x ∷ xs) = ap (λ k. drop k (x ∷ xs)) (let e : suc g + n ≡ suc (g + n) = omega arith in e) ∙ drop-drop g n xs

take-most : (n most : ℕ) (xs : List ℕ) → n ≡ min (length xs) most → take n xs ≡ take most xs
take-most zero zero xs h = refl
take-most zero (suc m) [] h = refl
take-most zero (suc m) (x ∷ xs) h = absurd (let e : 0 ≡ min (suc (length xs)) (suc m) = h in omega arith)
take-most (suc n) m [] h = absurd (let e : suc n ≡ min 0 m = h in omega arith)
take-most (suc n) zero (x ∷ xs) h = absurd (let e : suc n ≡ min (suc (length xs)) 0 = h in omega arith)
take-most (suc n) (suc m) (x ∷ xs) h = ap (λ ys. x ∷ ys) (take-most n m xs (let e : suc n ≡ min (suc (length xs)) (suc m) = h in omega arith))

drop-most : (n most : ℕ) (xs : List ℕ) → n ≡ min (length xs) most → drop n xs ≡ drop most xs
drop-most zero zero xs h = refl
drop-most zero (suc m) [] h = refl
drop-most zero (suc m) (x ∷ xs) h = absurd (let e : 0 ≡ min (suc (length xs)) (suc m) = h in omega arith)
drop-most (suc n) m [] h = absurd (let e : suc n ≡ min 0 m = h in omega arith)
drop-most (suc n) zero (x ∷ xs) h = absurd (let e : suc n ≡ min (suc (length xs)) 0 = h in omega arith)
drop-most (suc n) (suc m) (x ∷ xs) h = drop-most n m xs (let e : suc n ≡ min (suc (length xs)) (suc m) = h in omega arith)

-- a step over a list of which g were given
pub stepped : (bs : List ℕ) (g n most word : ℕ) (old : Waiting) → g ≤ length bs → n ≡ min (length bs - g) most → 0 < length bs - g
    → old.waiting ≡ drop g bs → old.used ≡ length bs → word ≡ piece_word (length bs - g - n)
    → (old.waiting ≡ [] → ⊥) × (word ≡ piece_word (length old.waiting - most))
    × (record { waiting = drop (g + n) bs; piece = take ((g + n) - g) (drop g bs); used = length bs }
    ≡ record old { waiting = drop most old.waiting; piece = take most old.waiting })
stepped bs g n most word old within is some waits used says =
    let size : length (drop g bs) ≡ length bs - g = length-drop g bs in
    let m : n ≡ min (length (drop g bs)) most = is ∙ ap (λ k. min k most) (sym size) in
    let whole : length old.waiting ≡ length bs - g = ap length waits ∙ size in
    let w = drop-drop g n bs ∙ drop-most n most (drop g bs) m ∙ ap (drop most) (sym waits) in
    let e : (g + n) - g ≡ n = omega arith in
    let p = ap (λ k. take k (drop g bs)) e ∙ take-most n most (drop g bs) m ∙ ap (take most) (sym waits) in
    let same : length bs - g - n ≡ length old.waiting - most = omega arith in (
      (λ none. absurd (let z : length old.waiting ≡ 0 = ap length none in omega arith)),
      says ∙ ap piece_word same,
      (λ i. record { waiting = w i; piece = p i; used = sym used i }),
    )

-- what was given is dropped
pub left-over : (bs : List ℕ) (g n : ℕ) (w : List ℕ) → n ≤ length bs - g → w ≡ drop g bs
    → drop (g + n) bs ≡ drop (length (take ((g + n) - g) (drop g bs))) w
left-over bs g n w few waits =
    let e : (g + n) - g ≡ n = omega arith in
    let size : length (take ((g + n) - g) (drop g bs)) ≡ n = ap (λ k. length (take k (drop g bs))) e ∙ length-take-le n (drop g bs) (let l = length-drop g bs in omega arith) in
    drop-drop g n bs ∙ ap (drop n) (sym waits) ∙ ap (λ k. drop k w) (sym size)

pub ruleset part_laws = (stepped)
