-- A card without a Global PIN (SP 800-73-4 part 1, the Global PIN is optional).
use Rattle.std.specs.Prelude.{◌≡◌, ◌↔◌, ℕ, Bool, true, false, None}
use Rattle.piv_model.specs.declared.kinds.Interface.TheVariants.{Contact}
use Rattle.piv_model.specs.declared.kinds.RefId.TheVariants.{GlobalPin}
use Rattle.piv_model.specs.declared.kinds.Rule.TheVariants as rule
use Rattle.piv_model.specs.Commands.{CardCommand}
use Rattle.piv_model.specs.Entries.{Past}
use Rattle.piv_model.specs.Base.{Base, profile}
use Rattle.piv_rules.specs.declared.lookback.Login.TheVariants as login
use Rattle.piv_rules.specs.Asks.{Ask, Logout, Query, Compare, ask}
use Rattle.piv_rules.specs.Connections.{side}
use Rattle.piv_rules.specs.Logins.{in_force}
use Rattle.piv_rules.specs.Answers.{situation_of, holds}

abbrev pub names_global : Ask → Bool
names_global (Compare GlobalPin p purpose) = true
names_global (Query GlobalPin) = true
names_global (Logout GlobalPin) = true
names_global _ = false

-- no command names it
abbrev pub NoCommandNamesIt : Type 0
NoCommandNamesIt = (B : Base) (k : CardCommand) → B.memory.global ≡ None → names_global (ask (profile B) k) ≡ false

-- its login is never in force
abbrev pub ItIsNeverInForce : Type 0
ItIsNeverInForce = (B : Base) (H : Past) (c : ℕ) → B.memory.global ≡ None → in_force B H c login.Global ≡ false

-- the rule PIN asks for contact and the login by the PIN
abbrev pub ThePinAloneOpens : Type 0
ThePinAloneOpens = (B : Base) (H : Past) (c : ℕ) → B.memory.global ≡ None
    → (holds (situation_of B H c) rule.Pin ≡ true) ↔ ((side H c ≡ Contact) × (in_force B H c login.Pin ≡ true))
