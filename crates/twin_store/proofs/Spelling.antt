-- The two bytes of a length.
use Rattle.std.proofs.Common.{◌≡◌, ℕ, ◌≤◌, List, [], ◌∷◌, length, set, take, refl, arith}

pub take_two : (buffer : List ℕ) (a b : ℕ) → 2 ≤ length buffer → take 2 (set (set buffer 0 a) 1 b) ≡ a ∷ b ∷ []
take_two [] a b long = absurd (omega arith)
take_two (x ∷ []) a b long = absurd (omega arith)
take_two (x ∷ y ∷ buffer) a b long = refl
