-- How a reply is sent (ISO/IEC 7816-4).
use Rattle.std.specs.Prelude.{ℕ, List, [], ◌∷◌, ◌++◌, ◌/◌, ◌%◌}

-- its data, and its status word behind them
abbrev pub reply_bytes : List ℕ → ℕ → List ℕ
reply_bytes body word = body ++ (word / 256) ∷ (word % 256) ∷ []
