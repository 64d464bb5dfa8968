-- The tries of a history without entries.
use Rattle.std.proofs.Common.{◌≡◌, ℕ, List, [], ◌∷◌, suc, length, arith}
use Rattle.piv_model.specs.declared.kinds.RefId.{RefId}
use Rattle.piv_model.specs.declared.history.Entry.{Entry}
use Rattle.piv_model.specs.Memory.{reference}
use Rattle.piv_model.specs.Base.{Base}
use Rattle.piv_rules.specs.Memories.{tries}
use Rattle.piv_rules.specs.Lent.{past_of}
use Rattle.piv_rules.proofs.Steps.{tries-nil}

pub tries-empty : (B : Base) (entries : List Entry) (r : RefId) → length entries ≡ 0
    → tries B (past_of entries) r ≡ (reference B.memory r).tries
tries-empty B [] r h = tries-nil B r
tries-empty B (e ∷ entries) r h = absurd (none (length entries) h)
  where
    none : (n : ℕ) → suc n ≡ 0 → ⊥
    none n k = omega (arith, k)
