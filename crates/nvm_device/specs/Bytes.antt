-- A row of bytes: its ranges, and writes over them.
use Rattle.std.specs.Prelude.{◌⊎◌, ℕ, ◌+◌, ◌-◌, ◌≤◌, List, ◌++◌, length, take, drop, replicate}

-- n bytes from a place on
unfoldable pub bytes_at : List ℕ → ℕ → ℕ → List ℕ
bytes_at row place n = take n (drop place row)

-- the row with these bytes from a place on
unfoldable pub overwrite : List ℕ → ℕ → List ℕ → List ℕ
overwrite row place bytes = take place row ++ (bytes ++ drop (place + length bytes) row)

-- so many zero bytes; it doesn't unfold by itself, since a device has a million of them
unfoldable pub zeros : ℕ → List ℕ
zeros n = replicate n 0

-- these bytes, and zeros behind them up to the size
unfoldable pub filled_up : List ℕ → ℕ → List ℕ
filled_up bytes size = bytes ++ zeros (size - length bytes)

-- n places from a on and m places from b on have none in common
abbrev pub AreApart : ℕ → ℕ → ℕ → ℕ → Type 0
AreApart a n b m = (a + n ≤ b) ⊎ (b + m ≤ a)
