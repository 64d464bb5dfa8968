-- The logins of a connection, and the random block that it may still answer: what sets them, and what ends them
-- (SP 800-73-4 part 1, security status; part 2, VERIFY, CHANGE REFERENCE DATA, RESET RETRY COUNTER and GENERAL
-- AUTHENTICATE; one status for each connection is this project's own).
use Rattle.std.specs.Prelude.{ℕ, Bool, true, false, ◌==◌, ◌||◌, List, Option, Some, None, is_some, if◌then◌else◌}
use Rattle.piv_model.specs.declared.kinds.Application.TheVariants.{Idle}
use Rattle.piv_model.specs.declared.kinds.RefId.TheVariants.{Pin, Puk, GlobalPin}
use Rattle.piv_model.specs.Entries.{Past}
use Rattle.piv_model.specs.Base.{Base, profile}
use Rattle.piv_rules.specs.declared.lookback.Login.{Login}
use Rattle.piv_rules.specs.declared.lookback.Login.TheVariants as login
use Rattle.piv_rules.specs.StatusWords.{is_granted, is_mismatched}
use Rattle.piv_rules.specs.Lookback.{last_of}
use Rattle.piv_rules.specs.Asks.{Ask, Select, Logout, Compare, AskChallenge, External, AskWitness, Mutual, Verify, Change, Unblock}
use Rattle.piv_rules.specs.Connections.{on_connection}

-- a comparison logs in where it matches, and ends the login where it doesn't
abbrev pub compared : ℕ → Option Bool
compared word = if is_granted word then Some true else if is_mismatched word then Some false else None

-- an entry that only ends a login
abbrev pub ends_if : Bool → Option Bool
ends_if b = if b then Some false else None

abbrev pub pin_after : Ask → ℕ → Option (List ℕ) → Option Bool
pin_after (Compare Pin p Verify) word block = compared word
pin_after (Compare Pin p (Change n)) word block = compared word
pin_after (Compare Puk p (Unblock n)) word block = ends_if (is_mismatched word)
pin_after (Logout Pin) word block = ends_if (is_granted word)
pin_after (Select Idle) word block = ends_if (is_granted word)
pin_after _ word block = None

-- a change of application leaves the login of the Global PIN
abbrev pub global_after : Ask → ℕ → Option (List ℕ) → Option Bool
global_after (Compare GlobalPin p Verify) word block = compared word
global_after (Compare GlobalPin p (Change n)) word block = compared word
global_after (Logout GlobalPin) word block = ends_if (is_granted word)
global_after _ word block = None

-- the right answer to a challenge logs in; a wrong one, and every draw of a block, ends the login
abbrev pub answered : ℕ → Option (List ℕ) → Option Bool
answered word block =
    if is_granted word then Some true else if is_some block || (word == 0x6982) then Some false else None

abbrev pub admin_after : Ask → ℕ → Option (List ℕ) → Option Bool
admin_after (External x) word block = answered word block
admin_after (Mutual w x) word block = answered word block
admin_after (Select Idle) word block = ends_if (is_some block || is_granted word)
admin_after _ word block = ends_if (is_some block)

abbrev pub login_after : Login → Ask → ℕ → Option (List ℕ) → Option Bool
login_after login.Pin = pin_after
login_after login.Global = global_after
login_after login.Admin = admin_after

-- in force: the last entry that touches the login of c sets it
abbrev pub in_force : Base → Past → ℕ → Login → Bool
in_force B H c x = last_of (on_connection (profile B) c false (login_after x)) false H

-- the block that a connection may still answer: the last Call of c, with no break since, drew it
pub data Pending : Type 0 where
  NonePending : Pending
  Challenge : List ℕ → Pending
  Witness : List ℕ → Pending

abbrev pub pending_by : Ask → Option (List ℕ) → Pending
pending_by AskChallenge (Some block) = Challenge block
pending_by AskWitness (Some block) = Witness block
pending_by _ _ = NonePending

abbrev pub pending_after : Ask → ℕ → Option (List ℕ) → Option Pending
pending_after a word block = Some (pending_by a block)

abbrev pub pending : Base → Past → ℕ → Pending
pending B H c = last_of (on_connection (profile B) c NonePending pending_after) NonePending H
