-- What entitles a connection to use an object or a key (SP 800-73-4 part 1, access rules; one status for each connection is
-- this project's own).
use Rattle.std.specs.Prelude.{◌≡◌, ◌⊎◌, ℕ, ◌-◌, Bool, true, List, ◌∷◌, ◌++◌, Option, Some, is_some}
use Rattle.piv_model.specs.declared.kinds.Interface.TheVariants.{Contact}
use Rattle.piv_model.specs.declared.kinds.Rule.{Rule}
use Rattle.piv_model.specs.declared.kinds.Rule.TheVariants as rule
use Rattle.piv_model.specs.declared.kinds.RefId.TheVariants.{Pin}
use Rattle.piv_model.specs.Commands.{CardCommand}
use Rattle.piv_model.specs.Entries.{CardEntry, Past, Call}
use Rattle.piv_model.specs.Base.{Base, profile}
use Rattle.piv_rules.specs.declared.lookback.Login.{Login}
use Rattle.piv_rules.specs.declared.lookback.Login.TheVariants as login
use Rattle.piv_rules.specs.Asks.{ask}
use Rattle.piv_rules.specs.Connections.{side, breaks, by_call}
use Rattle.piv_rules.specs.Logins.{login_after}
use Rattle.piv_rules.specs.Memories.{mem}
use Rattle.piv_rules.specs.Answers.{global_counts}
use Rattle.piv_rules.specs.Lookback.{none_since}

-- a Call of c sets or ends the login x
abbrev pub touches : Base → ℕ → Login → Past → CardEntry → Bool
touches B c x G e = is_some (by_call (profile B) c (login_after x) e)

-- a Call of c set the login x, no Call of c touched it since, and nothing broke c since
pub record IsLoggedIn (B : Base) (H : Past) (c : ℕ) (x : Login) : Type 0 where
  pub since : Past
  pub before : Past
  pub command : CardCommand
  pub word : ℕ
  pub block : Option (List ℕ)
  pub whole : H ≡ since ++ Call c command word block ∷ before
  pub sets : login_after x (ask (profile B) command) word block ≡ Some true
  pub untouched : none_since (touches B c x) since (Call c command word block ∷ before) ≡ true
  pub unbroken : none_since (breaks c) since (Call c command word block ∷ before) ≡ true

-- what a rule asks of the connection that uses an object or a key
abbrev pub IsEntitled : Base → Past → ℕ → Rule → Type 0
IsEntitled B H c rule.Always = Unit {0}
IsEntitled B H c rule.ContactUse = side H c ≡ Contact
IsEntitled B H c rule.Pin =
    (side H c ≡ Contact)
    × (IsLoggedIn B H c login.Pin ⊎ (IsLoggedIn B H c login.Global × (global_counts (mem B H) ≡ true)))
IsEntitled B H c rule.Admin = (side H c ≡ Contact) × IsLoggedIn B H c login.Admin
IsEntitled B H c rule.Never = ⊥
IsEntitled B H c rule.Response = ⊥
