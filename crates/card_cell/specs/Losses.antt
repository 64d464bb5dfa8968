-- Losses of power in a history and in a store's count (this project's own).
use Rattle.std.specs.Prelude.{◌≡◌, ◌≤◌, ◌<◌, ◌+◌, ◌-◌, ◌^◌, ℕ, Bool, true, false, count_by, Some}
use Rattle.power_loss.specs.Told.{Rose}
use Rattle.piv_model.specs.Entries.{CardEntry, Past, Cut}
use Rattle.piv_model.specs.Stores.{StoreState}
use Rattle.card_commands.specs.Executes.{TellsAlike}

-- a command lost power
abbrev pub is_loss : CardEntry → Bool
is_loss (Cut (Some r)) = true
is_loss _ = false

abbrev pub loss_count : Past → ℕ
loss_count H = count_by is_loss H

-- the losses rose exactly where a command lost power, the span stands, and what is told is told
abbrev pub IsCounted : Bool → StoreState → StoreState → Type 0
IsCounted true old new =
    Rose old.power.losses new.power.losses × (new.power.span ≡ old.power.span) × TellsAlike old new
IsCounted false old new =
    (new.power.losses ≡ old.power.losses) × (new.power.span ≡ old.power.span) × TellsAlike old new

-- the numbers of a store, after a history that began with a plan of so many losses and so many losses counted
pub record IsTallied (planned before : ℕ) (H : Past) (s : StoreState) : Type 0 where
  pub span : s.power.span ≡ planned
  pub low : before ≤ s.power.losses
  pub most : s.power.losses < 2 ^ 64 - 1 → before + loss_count H ≤ s.power.losses
  pub some : s.power.losses < 2 ^ 64 - 1 → before < s.power.losses → 1 ≤ loss_count H
