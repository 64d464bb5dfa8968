-- A row that zeros fill up: its parts, and writes over it.
use Rattle.std.proofs.Common.{◌≡◌, ℕ, ◌+◌, ◌-◌, ◌<◌, ◌≤◌, List, [], ◌++◌, length, take, drop, replicate, get_or, ap, sym, refl, ◌∙◌, arith, append_assoc, length-append, length-take, length-drop, min}
use Rattle.std.proofs.lemmas.List.{append-nil, replicate-append-replicate, length-replicate, take-append-le, drop-append-le, take_min, drop_min, same_lists, places}
use Rattle.nvm_device.specs.Bytes.{bytes_at, overwrite, zeros, filled_up}
use Rattle.nvm_device.specs.Laws.{length-filled_up}
use Rattle.nvm_device.proofs.Row.{length-bytes_at, length-overwrite, get_or-bytes_at}

-- whether or not it is long enough
pub length-filled_up-any : (row : List ℕ) (size : ℕ) → length (filled_up row size) ≡ length row + (size - length row)
unfolding filled_up zeros
length-filled_up-any row size =
    let zeros : List ℕ = replicate (size - length row) 0 in
    omega (arith, length-append row zeros, length-replicate {A = ℕ} (size - length row) 0)

-- no byte
pub filled_up_none : (size : ℕ) → filled_up [] size ≡ zeros size
unfolding filled_up zeros
filled_up_none size =
    let all : size - 0 ≡ size = omega arith in
    ap (λ n. replicate n 0) all

-- a row that is long enough
pub filled_up_long : (row : List ℕ) (size : ℕ) → size ≤ length row → filled_up row size ≡ row
unfolding filled_up zeros
filled_up_long row size long =
    let none : size - length row ≡ 0 = omega arith in
    rw none (append-nil row)

-- a row that was filled up before, to less
pub filled_up_again : (row : List ℕ) (n size : ℕ) → n ≤ size → filled_up (filled_up row n) size ≡ filled_up row size
unfolding filled_up zeros
filled_up_again row n size more =
    let front : List ℕ = replicate (n - length row) 0 in
    let left : ℕ = size - length (row ++ front) in
    let long : length (row ++ front) ≡ length row + (n - length row) = omega (arith, length-append row front, length-replicate {A = ℕ} (n - length row) 0) in
    let all : (n - length row) + left ≡ size - length row = omega arith in
    let both : front ++ replicate left 0 ≡ replicate (size - length row) 0 = rw (← all) (replicate-append-replicate (n - length row) left 0) in
    append_assoc row front (replicate left 0) ∙ ap (λ (l : List ℕ). row ++ l) both

pub overwrite-filled_up : (row : List ℕ) (size place : ℕ) (bytes : List ℕ) → place + length bytes ≤ length row → overwrite (filled_up row size) place bytes ≡ filled_up (overwrite row place bytes) size
unfolding filled_up zeros overwrite
overwrite-filled_up row size place bytes within =
    let same = length-overwrite row place bytes within in
    let behind : List ℕ = replicate (size - length row) 0 in
    let first = take-append-le place row behind (omega arith) in
    let last = drop-append-le (place + length bytes) row behind within in
    rw (same, first, last) (simp append_assoc)

-- a write over the row, filled up before as far as it goes
pub overwrite-filled_up-to : (row : List ℕ) (size place : ℕ) (bytes : List ℕ) → place + length bytes ≤ size → overwrite (filled_up row size) place bytes ≡ filled_up (overwrite (filled_up row (place + length bytes)) place bytes) size
overwrite-filled_up-to row size place bytes within =
    let end = place + length bytes in
    let long = length-filled_up-any row end in
    ap (λ (l : List ℕ). overwrite l place bytes) (sym (filled_up_again row end size within)) ∙ overwrite-filled_up (filled_up row end) size place bytes (omega arith)

pub length-overwrite-filled_up : (row : List ℕ) (size place : ℕ) (bytes : List ℕ) → length row ≤ size → place + length bytes ≤ size → length (overwrite (filled_up row (place + length bytes)) place bytes) ≤ size
length-overwrite-filled_up row size place bytes le within =
    let long = length-filled_up-any row (place + length bytes) in
    omega (arith, length-overwrite (filled_up row (place + length bytes)) place bytes (omega arith))

-- the bytes from a place on that the row has, and zeros behind them
pub bytes_filled_up : (row : List ℕ) (place n start count : ℕ) → start ≡ min place (length row) → count ≡ min (length row - start) n → take count (drop start row) ++ replicate (n - count) 0 ≡ filled_up (bytes_at row place n) n
unfolding filled_up zeros bytes_at
bytes_filled_up row place n start count from many =
    let rest : List ℕ = drop start row in
    let same : rest ≡ drop place row = ap (λ k. drop k row) from ∙ drop_min place row in
    let size : count ≡ min n (length rest) = omega (arith, length-drop start row) in
    let part : take count rest ≡ take n (drop place row) = ap (λ k. take k rest) size ∙ take_min n rest ∙ ap (take n) same in
    let long : length (take n (drop place row)) ≡ count = ap length (sym part) ∙ omega (arith, length-take count rest, length-drop start row) in
    rw (long, part) refl

get_or-filled_up : (row : List ℕ) (size k d : ℕ) → k < size → get_or (filled_up row size) k d ≡ get_or row k 0
unfolding filled_up zeros
get_or-filled_up row size k d below = grind (arith, places)

length-bytes_at-le : (row : List ℕ) (place n : ℕ) → length (bytes_at row place n) ≤ n
unfolding bytes_at
length-bytes_at-le row place n = omega (arith, length-take n (drop place row))

pub bytes_at-filled_up : (row : List ℕ) (size place n : ℕ) → length row ≤ size → place + n ≤ size → bytes_at (filled_up row size) place n ≡ filled_up (bytes_at row place n) n
bytes_at-filled_up row size place n le within =
    let all = length-filled_up row size le in
    let few = length-bytes_at-le row place n in
    let one = length-bytes_at (filled_up row size) place n (omega arith) in
    let other = length-filled_up (bytes_at row place n) n few in
    same_lists _ _ (one ∙ sym other) (λ k d h.
    let here : k < n = omega arith in
    get_or-bytes_at (filled_up row size) place n k d here ∙ get_or-filled_up row size (place + k) d (omega arith) ∙ sym (get_or-filled_up (bytes_at row place n) n k d here ∙ get_or-bytes_at row place n k 0 here))
