-- Room behind what waits, and what is written into it.
use Rattle.std.proofs.Common.{◌≡◌, ℕ, suc, ◌+◌, ◌-◌, ◌≤◌, List, [], ◌∷◌, ◌++◌, length, take, drop, replicate, ap, sym, ◌∙◌, arith, length-drop}
use Rattle.std.proofs.lemmas.List.{length-take-le, length-append, length-replicate, take_at, drop_at, take-append-le, drop-append-le}
use Rattle.piv_chaining.specs.Waiting.{Waiting}
use Rattle.piv_chaining.specs.Lending.{with_written}

take-past : (xs ys : List ℕ) (n : ℕ) → take (length xs + n) (xs ++ ys) ≡ xs ++ take n ys
take-past [] ys n = ap (λ k. take k ys) (let e : 0 + n ≡ n = omega arith in e)
take-past (x ∷ xs) ys n =
    ap (λ k. take k (x ∷ xs ++ ys)) (let e : suc (length xs) + n ≡ suc (length xs + n) = omega arith in e)
    ∙ ap (λ zs. x ∷ zs) (take-past xs ys n)

abbrev filled : ℕ → List ℕ → List ℕ
filled size w = w ++ drop (length w) (replicate size 0)

filled-size : (size : ℕ) (w : List ℕ) → size ≤ length (filled size w)
filled-size size w =
    let a = length-append w (drop (length w) (replicate size 0)) in
    let b : length (drop (length w) (replicate {A = ℕ} size 0)) ≡ length (replicate {A = ℕ} size 0) - length w = length-drop (length w) (replicate {A = ℕ} size 0) in
    let c : length (replicate {A = ℕ} size 0) ≡ size = length-replicate {A = ℕ} size 0 in
    omega arith

-- the bytes after room of this size was written
pub written : (xs v w : List ℕ) (size start len : ℕ) → v ≡ xs ++ replicate size 0 → start ≡ length xs → len ≡ start + size
    → take len ((take start v ++ (w ++ drop (length w) (drop start v))) ++ drop (length (take start v ++ (w ++ drop (length w) (drop start v)))) v)
    ≡ xs ++ take size (filled size w)
written xs v w size start len grown at whole =
    let front : take start v ≡ xs = ap (take start) grown ∙ take_at xs (replicate size 0) start (sym at) in
    let back : drop start v ≡ replicate size 0 = ap (drop start) grown ∙ drop_at xs (replicate size 0) start (sym at) in
    let mid : take start v ++ (w ++ drop (length w) (drop start v)) ≡ xs ++ filled size w =
    (λ i. front i ++ (w ++ drop (length w) (back i))) in
    let few : len ≤ length (xs ++ filled size w) = (let a = length-append xs (filled size w) in let b = filled-size size w in omega arith) in
    let count : len ≡ length xs + size = whole ∙ ap (λ k. k + size) at in
    ap (λ zs. take len (zs ++ drop (length zs) v)) mid
    ∙ take-append-le len (xs ++ filled size w) (drop (length (xs ++ filled size w)) v) few
    ∙ ap (λ k. take k (xs ++ filled size w)) count
    ∙ take-past xs (filled size w) size

-- what the pieces then are
pub seen : (xs ys w : List ℕ) (from given size : ℕ) (p : Waiting) → from ≤ given → given ≤ length xs
    → p.waiting ≡ drop given xs → p.piece ≡ take (given - from) (drop from xs) → p.used ≡ length xs
    → ys ≡ xs ++ take size (filled size w)
    → record { waiting = drop given ys; piece = take (given - from) (drop from ys); used = length ys } ≡ with_written p size w
seen xs ys w from given size p low high waits piece used is =
    let r = take size (filled size w) in
    let a = ap (drop given) is ∙ drop-append-le given xs r high ∙ ap (λ zs. zs ++ r) (sym waits) in
    let early : from ≤ length xs = omega arith in
    let few : given - from ≤ length (drop from xs) = (let l = length-drop from xs in omega arith) in
    let b = ap (λ zs. take (given - from) (drop from zs)) is ∙ ap (take (given - from)) (drop-append-le from xs r early)
    ∙ take-append-le (given - from) (drop from xs) r few ∙ sym piece in
    let n : length r ≡ size = length-take-le size (filled size w) (filled-size size w) in
    let c : length ys ≡ p.used + size = (let l = ap length is in let m = length-append xs r in omega arith) in
    (λ i. record { waiting = a i; piece = b i; used = c i })

-- what fills the room is what comes behind
pub whole : (w : List ℕ) (size : ℕ) → length w ≡ size → take size (filled size w) ≡ w
whole w size e = take_at w (drop (length w) (replicate size 0)) size e

pub ruleset rooms = (whole)
