-- Parts of a row, and writes over them.
use Rattle.std.proofs.Common.{◌≡◌, inl, inr, ℕ, ◌+◌, ◌-◌, ◌<◌, ◌≤◌, List, [], ◌++◌, length, take, drop, get_or, ap, sym, ◌∙◌, arith, length-append, length-take, length-drop, take-append-drop}
use Rattle.std.proofs.lemmas.List.{places, same_lists, drop-drop, drop-take, take-take, get_or-take, get_or-drop}
use Rattle.nvm_device.specs.Bytes.{bytes_at, overwrite, AreApart}

pub length-bytes_at : (row : List ℕ) (place n : ℕ) → place + n ≤ length row → length (bytes_at row place n) ≡ n
unfolding bytes_at
length-bytes_at row place n within = omega (arith, length-take n (drop place row), length-drop place row)

pub length-overwrite : (row : List ℕ) (place : ℕ) (bytes : List ℕ) → place + length bytes ≤ length row → length (overwrite row place bytes) ≡ length row
unfolding overwrite
length-overwrite row place bytes within =
    omega (arith, length-append (take place row) (bytes ++ drop (place + length bytes) row), length-append bytes (drop (place + length bytes) row), length-take place row, length-drop (place + length bytes) row)

-- what stands there, written again
pub overwrite_same : (row : List ℕ) (place n : ℕ) → place + n ≤ length row → overwrite row place (bytes_at row place n) ≡ row
unfolding overwrite bytes_at
overwrite_same row place n within =
    let size : length (take n (drop place row)) ≡ n = omega (arith, length-take n (drop place row), length-drop place row) in
    rw size (rw (← drop-drop) (rw take-append-drop (take-append-drop place row)))

-- no byte
pub overwrite_none : (row : List ℕ) (place : ℕ) → overwrite row place [] ≡ row
unfolding overwrite
overwrite_none row place =
    let here : place + 0 ≡ place = omega arith in
    ap (λ k. take place row ++ drop k row) here ∙ take-append-drop place row

-- a part of a part
pub bytes_at-bytes_at : (row : List ℕ) (place n at m : ℕ) → at + m ≤ n → bytes_at (bytes_at row place n) at m ≡ bytes_at row (place + at) m
unfolding bytes_at
bytes_at-bytes_at row place n at m within =
    let all : at + (n - at) ≡ n = omega arith in
    ap (λ k. take m (drop at (take k (drop place row)))) (sym all) ∙ ap (take m) (drop-take at (n - at) (drop place row))
    ∙ take-take m (n - at) (drop at (drop place row)) (omega arith) ∙ ap (take m) (drop-drop at place row)

-- the front of a part that stands
pub bytes_at-front : (row bytes : List ℕ) (place n : ℕ) → n ≤ length bytes → bytes_at row place (length bytes) ≡ bytes → bytes_at row place n ≡ take n bytes
unfolding bytes_at
bytes_at-front row bytes place n le is = sym (take-take n (length bytes) (drop place row) le) ∙ ap (take n) is

pub get_or-bytes_at : (row : List ℕ) (place n k d : ℕ) → k < n → get_or (bytes_at row place n) k d ≡ get_or row (place + k) d
unfolding bytes_at
get_or-bytes_at row place n k d below = rw get_or-take (get_or-drop place row k d)

-- outside of what is written
pub get_or-overwrite_below : (row : List ℕ) (place : ℕ) (bytes : List ℕ) (k d : ℕ) → k < place → place + length bytes ≤ length row → get_or (overwrite row place bytes) k d ≡ get_or row k d
unfolding overwrite
get_or-overwrite_below row place bytes k d below within = grind (arith, places)

pub get_or-overwrite_above : (row : List ℕ) (place : ℕ) (bytes : List ℕ) (k d : ℕ) → place + length bytes ≤ k → place + length bytes ≤ length row → get_or (overwrite row place bytes) k d ≡ get_or row k d
unfolding overwrite
get_or-overwrite_above row place bytes k d above within = grind (arith, places)

-- inside of it
pub get_or-overwrite_at : (row : List ℕ) (place : ℕ) (bytes : List ℕ) (k d : ℕ) → k < length bytes → place + length bytes ≤ length row → get_or (overwrite row place bytes) (place + k) d ≡ get_or bytes k d
unfolding overwrite
get_or-overwrite_at row place bytes k d below within = grind (arith, places)

pub bytes_at-overwrite_below : (row : List ℕ) (place : ℕ) (bytes : List ℕ) (at n : ℕ) → at + n ≤ place → place + length bytes ≤ length row → bytes_at (overwrite row place bytes) at n ≡ bytes_at row at n
bytes_at-overwrite_below row place bytes at n below within =
    let size = length-overwrite row place bytes within in
    let old = length-bytes_at row at n (omega arith) in
    let new = length-bytes_at (overwrite row place bytes) at n (omega arith) in
    same_lists _ _ (new ∙ sym old) (λ k d h.
    let here : k < n = omega arith in
    get_or-bytes_at (overwrite row place bytes) at n k d here ∙ get_or-overwrite_below row place bytes (at + k) d (omega arith) within ∙ sym (get_or-bytes_at row at n k d here))

pub bytes_at-overwrite_above : (row : List ℕ) (place : ℕ) (bytes : List ℕ) (at n : ℕ) → place + length bytes ≤ at → at + n ≤ length row → place + length bytes ≤ length row → bytes_at (overwrite row place bytes) at n ≡ bytes_at row at n
bytes_at-overwrite_above row place bytes at n above fits within =
    let size = length-overwrite row place bytes within in
    let old = length-bytes_at row at n fits in
    let new = length-bytes_at (overwrite row place bytes) at n (omega arith) in
    same_lists _ _ (new ∙ sym old) (λ k d h.
    let here : k < n = omega arith in
    get_or-bytes_at (overwrite row place bytes) at n k d here ∙ get_or-overwrite_above row place bytes (at + k) d (omega arith) within ∙ sym (get_or-bytes_at row at n k d here))

pub bytes_at-overwrite : (row : List ℕ) (place : ℕ) (bytes : List ℕ) → place + length bytes ≤ length row → bytes_at (overwrite row place bytes) place (length bytes) ≡ bytes
bytes_at-overwrite row place bytes within =
    let size = length-overwrite row place bytes within in
    let new = length-bytes_at (overwrite row place bytes) place (length bytes) (omega arith) in
    same_lists _ _ new (λ k d h.
    let here : k < length bytes = omega arith in
    get_or-bytes_at (overwrite row place bytes) place (length bytes) k d here ∙ get_or-overwrite_at row place bytes k d here within)

-- a byte of a part that stands
pub get_or-part : (row bytes : List ℕ) (place k : ℕ) → k < length bytes → bytes_at row place (length bytes) ≡ bytes → get_or row (place + k) 0 ≡ get_or bytes k 0
get_or-part row bytes place k below is = sym (get_or-bytes_at row place (length bytes) k 0 below) ∙ ap (λ (l : List ℕ). get_or l k 0) is

-- a part apart from what is written
pub bytes_at-overwrite_apart : (row : List ℕ) (place : ℕ) (bytes : List ℕ) (at n : ℕ) → AreApart place (length bytes) at n → at + n ≤ length row → place + length bytes ≤ length row → bytes_at (overwrite row place bytes) at n ≡ bytes_at row at n
bytes_at-overwrite_apart row place bytes at n (inl above) fits within = bytes_at-overwrite_above row place bytes at n above fits within
bytes_at-overwrite_apart row place bytes at n (inr below) fits within = bytes_at-overwrite_below row place bytes at n below within

pub get_or-overwrite_apart : (row : List ℕ) (place : ℕ) (bytes : List ℕ) (k : ℕ) → AreApart k 1 place (length bytes) → place + length bytes ≤ length row → get_or (overwrite row place bytes) k 0 ≡ get_or row k 0
get_or-overwrite_apart row place bytes k (inl below) within = get_or-overwrite_below row place bytes k 0 (omega arith) within
get_or-overwrite_apart row place bytes k (inr above) within = get_or-overwrite_above row place bytes k 0 above within

-- two writes, one behind the other
more_at : (row : List ℕ) (place : ℕ) (a b : List ℕ) (at k d : ℕ) → at ≡ place + length a → at + length b ≤ length row → get_or (overwrite (overwrite row place a) at b) k d ≡ get_or (overwrite row place (a ++ b)) k d
unfolding overwrite
more_at row place a b at k d is within = grind (arith, places)

pub overwrite_more : (row : List ℕ) (place : ℕ) (a b : List ℕ) (at : ℕ) → at ≡ place + length a → at + length b ≤ length row → overwrite (overwrite row place a) at b ≡ overwrite row place (a ++ b)
overwrite_more row place a b at is within =
    let first : place + length a ≤ length row = omega arith in
    let both : place + length (a ++ b) ≤ length row = omega (arith, length-append a b) in
    let size = length-overwrite row place a first in
    let again = length-overwrite (overwrite row place a) at b (omega arith) in
    let once = length-overwrite row place (a ++ b) both in
    same_lists _ _ (again ∙ size ∙ sym once) (λ k d h. more_at row place a b at k d is within)
