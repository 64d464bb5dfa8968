-- One turn keeps the numbers of a store.
use Rattle.std.specs.Prelude.{min, if◌then◌else◌}
use Rattle.std.proofs.Common.{◌≡◌, ◌≤◌, ◌<◌, ◌+◌, ◌-◌, ◌^◌, ℕ, Bool, true, false, ◌∷◌, ◌∙◌, arith}
use Rattle.std.proofs.lemmas.List.Sums.{sum_by-cons}
use mathlib.Core.Bool.{cond}
use Rattle.piv_model.specs.Entries.{CardEntry, Past}
use Rattle.piv_model.specs.Stores.{StoreState}
use Rattle.card_cell.specs.Losses.{is_loss, loss_count, IsCounted, IsTallied}

pub tallied : (planned before : ℕ) (H : Past) (e : CardEntry) (old new : StoreState) → IsTallied planned before H old
    → IsCounted (is_loss e) old new → IsTallied planned before (e ∷ H) new
tallied planned before H e old new t counted = go (is_loss e) (sum_by-cons (λ x. cond (is_loss x) 1 0) e H) counted
  where
    go : (b : Bool) → loss_count (e ∷ H) ≡ (if b then 1 else 0) + loss_count H → IsCounted b old new → IsTallied planned before (e ∷ H) new
    go false n c =
        let l = c.0 in
        let low = t.low in
        record {
          span = c.1 ∙ t.span;
          low = omega arith;
          most = λ few. (let m = t.most (omega arith) in omega arith);
          some = λ few rose. (let m = t.some (omega arith) (omega arith) in omega arith);
        }
    go true n c =
        let rose = c.0 in
        let grew = rose.0 in
        let one = rose.1 in
        let low = t.low in
        record {
          span = c.1 ∙ t.span;
          low = omega arith;
          most = λ few. (let m = t.most (omega arith) in more new.power.losses (old.power.losses + 1) few one (omega arith) n);
          some = λ few up. omega arith;
        }
      where
        more : (now next : ℕ) → now < 2 ^ 64 - 1 → min next (2 ^ 64 - 1) ≤ now → before + loss_count H + 1 ≤ next
            → loss_count (e ∷ H) ≡ 1 + loss_count H → before + loss_count (e ∷ H) ≤ now
        more now next few one m n = omega arith
