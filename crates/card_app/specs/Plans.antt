-- When losses are due after an entry, and how a plan of losses goes on, where the store tells when they are due.
use Rattle.std.specs.Prelude.{ℕ, List, ◌∷◌, IfSome}
use Rattle.piv_model.specs.Base.{Base}
use Rattle.piv_model.specs.Entries.{CardEntry, Past}
use Rattle.piv_model.specs.Stores.{StoreState}
use Rattle.piv_rules.specs.Plans.{IsPlanOf}
use Rattle.card_laws.specs.PlanSteps.{IsToldAfter}

-- a command loses power exactly where the first number is at most its cost, which the numbers then fall by; every other
-- entry leaves them
abbrev pub DueFollows : (ℕ → ℕ) → Base → Past → CardEntry → StoreState → StoreState → Type 0
DueFollows put_cost B H e old new =
    IfSome old.power.due (λ told. IfSome new.power.due (λ later. IsToldAfter put_cost B H e told later))

abbrev pub GoesOn : (ℕ → ℕ) → Base → List ℕ → Past → CardEntry → StoreState → StoreState → Type 0
GoesOn put_cost B L H e old new = IfSome old.power.due (λ told.
    IsPlanOf put_cost B L H told → IfSome new.power.due (λ later. IsPlanOf put_cost B L (e ∷ H) later))
