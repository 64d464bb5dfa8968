-- How a plan of losses goes on by one entry (this project's own).
use Rattle.std.specs.Prelude.{◌≡◌, ℕ, true, false, List, ◌∷◌, Some}
use Rattle.power_loss.specs.Due.{is_due, after_writes, after_loss}
use Rattle.piv_model.specs.Base.{Base}
use Rattle.piv_model.specs.Entries.{CardEntry, Past, Call, Cut}
use Rattle.piv_rules.specs.Plans.{IsPlanOf, cost}

-- what an entry makes of the numbers that are told: a Call needs that none comes within its writes, and a command that lost
-- power that one does
abbrev pub IsToldAfter : (ℕ → ℕ) → Base → Past → CardEntry → List ℕ → List ℕ → Type 0
IsToldAfter put_cost B G (Call c k word block) old new =
    (is_due (cost put_cost B G c k) old ≡ false) × (new ≡ after_writes (cost put_cost B G c k) old)
IsToldAfter put_cost B G (Cut (Some r)) old new = (is_due (cost put_cost B G r.0 r.1) old ≡ true) × (new ≡ after_loss old)
IsToldAfter put_cost B G _ old new = new ≡ old

abbrev pub PlansGoOn : Type 0
PlansGoOn = (put_cost : ℕ → ℕ) (B : Base) (L : List ℕ) (G : Past) (e : CardEntry) (old new : List ℕ)
    → IsPlanOf put_cost B L G old → IsToldAfter put_cost B G e old new → IsPlanOf put_cost B L (e ∷ G) new
