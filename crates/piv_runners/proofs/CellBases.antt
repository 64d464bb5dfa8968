-- The bases of one card more.
use Rattle.std.specs.Prelude.{slice_get}
use Rattle.std.proofs.Common.{◌≡◌, ℕ, zero, suc, ◌+◌, ◌<◌, List, [], ◌∷◌, ◌++◌, length, take, get_or, Some, refl, ap, subst, arith}
use Rattle.scene_cards.specs.CardValues.{CardValue}
use Rattle.card_cell.specs.declared.base.CellBase.{CellBase}
use Rattle.scene_cells.specs.Raised.{cell_base, cell_bases}

more : (turns : ℕ) (cards : List CardValue) (losses : List ℕ) (k : ℕ) (base : CellBase) → length losses ≡ length cards → k < length losses
    → ((c : CardValue) → slice_get cards k ≡ Some c → base ≡ cell_base c.start c.plan turns (get_or losses k 0))
    → cell_bases turns (take k cards) (take k losses) ++ base ∷ [] ≡ cell_bases turns (take (suc k) cards) (take (suc k) losses)
more turns [] [] k base same lt is = absurd (omega (arith, lt))
more turns [] (lost ∷ losses) k base same lt is = absurd (omega (arith, same))
more turns (card ∷ cards) [] k base same lt is = absurd (omega (arith, lt))
more turns (card ∷ cards) (lost ∷ losses) zero base same lt is = ap (λ (b : CellBase). b ∷ []) (is card refl)
more turns (card ∷ cards) (lost ∷ losses) (suc k) base same lt is =
    ap (λ (l : List CellBase). cell_base card.start card.plan turns lost ∷ l)
    (more turns cards losses k base (omega (arith, same)) (omega (arith, lt)) is)

pub bases-more : (turns : ℕ) (cards : List CardValue) (losses : List ℕ) (k : ℕ) (base : CellBase) → length losses ≡ length cards → k < length losses
    → ((c : CardValue) → slice_get cards k ≡ Some c → base ≡ cell_base c.start c.plan turns (get_or losses k 0))
    → cell_bases turns (take k cards) (take k losses) ++ base ∷ [] ≡ cell_bases turns (take (k + 1) cards) (take (k + 1) losses)
bases-more turns cards losses k base same lt is =
    let next : suc k ≡ k + 1 = omega arith in
    subst (λ (n : ℕ). cell_bases turns (take k cards) (take k losses) ++ base ∷ [] ≡ cell_bases turns (take n cards) (take n losses)) next
    (more turns cards losses k base same lt is)
