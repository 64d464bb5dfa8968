-- What was set and not ended since (this project's own).
use Rattle.std.specs.Prelude.{◌≡◌, Bool, true, ◌∷◌, ◌++◌}
use Rattle.piv_model.specs.Entries.{CardEntry, Past}
use Rattle.piv_rules.specs.Lookback.{none_since}

-- some entry of the history sets it, and none since ends it
pub record Lasts (sets : CardEntry → Bool) (ends : Past → CardEntry → Bool) (H : Past) : Type 0 where
  pub since : Past
  pub entry : CardEntry
  pub before : Past
  pub whole : H ≡ since ++ entry ∷ before
  pub set : sets entry ≡ true
  pub lasts : none_since ends since (entry ∷ before) ≡ true
