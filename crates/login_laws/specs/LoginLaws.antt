-- What logs in on a connection and what ends a login; by these alone a login is in force and an access rule holds
-- (SP 800-73-4 part 1, security status; part 2, the commands of the card edge; one status for each connection is this
-- project's own). Words and breaks are read afresh here, so that an error in the definitions' own tests can't hide.
use Rattle.std.specs.Prelude.{◌≡◌, ◌↔◌, ◌<◌, ℕ, Bool, true, false, ◌&&◌, ◌||◌, ◌==◌, ◌/◌, List, Option, IsTrue}
use Rattle.piv_model.specs.declared.kinds.Application.TheVariants.{Idle}
use Rattle.piv_model.specs.declared.kinds.Interface.TheVariants.{Contact}
use Rattle.piv_model.specs.declared.kinds.RefId.{RefId}
use Rattle.piv_model.specs.declared.kinds.RefId.TheVariants.{Pin, Puk, GlobalPin}
use Rattle.piv_model.specs.declared.kinds.Rule.{Rule}
use Rattle.piv_model.specs.Commands.{CardCommand}
use Rattle.piv_model.specs.Entries.{CardEntry, Past, Opened, Call, Reset, Cut}
use Rattle.piv_model.specs.Base.{Base, profile, is_valid}
use Rattle.piv_rules.specs.declared.lookback.Login.{Login}
use Rattle.piv_rules.specs.declared.lookback.Login.TheVariants as login
use Rattle.piv_rules.specs.Asks.{Ask, Purpose, Select, Logout, Compare, AskChallenge, External, AskWitness, Mutual, Verify, Change, Unblock, ask}
use Rattle.piv_rules.specs.Connections.{same_side, side}
use Rattle.piv_rules.specs.Memories.{same_reference, tries, secret}
use Rattle.piv_rules.specs.Logins.{in_force}
use Rattle.piv_rules.specs.Answers.{situation_of, holds}
use Rattle.piv_rules.specs.Legal.{IsLegal, IsAllowed}
use Rattle.piv_rules.specs.Entitled.{IsEntitled}
use Rattle.login_laws.specs.Lasts.{Lasts}

-- VERIFY or CHANGE REFERENCE DATA presents this reference
abbrev pub presents : RefId → Ask → Bool
presents r (Compare s p Verify) = same_reference r s
presents r (Compare s p (Change n)) = same_reference r s
presents r _ = false

-- RESET RETRY COUNTER presents the PUK
abbrev pub unblocks : Ask → Bool
unblocks (Compare Puk p (Unblock n)) = true
unblocks _ = false

-- VERIFY with P1 FF
abbrev pub logs_out : RefId → Ask → Bool
logs_out r (Logout s) = same_reference r s
logs_out r _ = false

abbrev pub goes_idle : Ask → Bool
goes_idle (Select Idle) = true
goes_idle _ = false

-- GENERAL AUTHENTICATE asks for a block, and answers with what was made of it
abbrev pub requests : Ask → Bool
requests AskChallenge = true
requests AskWitness = true
requests _ = false

abbrev pub responds : Ask → Bool
responds (External x) = true
responds (Mutual w x) = true
responds _ = false

-- 63 C0 to 63 CF
abbrev pub is_miss : ℕ → Bool
is_miss word = word / 16 == 0x63C

-- a command with this answer logs in
abbrev pub logs_in_by : Login → Ask → ℕ → Bool
logs_in_by login.Pin a word = presents Pin a && (word == 0x9000)
logs_in_by login.Global a word = presents GlobalPin a && (word == 0x9000)
logs_in_by login.Admin a word = responds a && (word == 0x9000)

-- a command with this answer ends a login: a mismatch does, a wrong PUK that of the PIN, a logout, the idle application all
-- but that of the Global PIN, and a wrong response and every new request that of the administration key
abbrev pub ends_by : Login → Ask → ℕ → Bool
ends_by login.Pin a word =
    ((presents Pin a || unblocks a) && is_miss word) || ((logs_out Pin a || goes_idle a) && (word == 0x9000))
ends_by login.Global a word = (presents GlobalPin a && is_miss word) || (logs_out GlobalPin a && (word == 0x9000))
ends_by login.Admin a word = (responds a && (word == 0x6982)) || ((requests a || goes_idle a) && (word == 0x9000))

-- the entry logs in on c
abbrev pub logs_in : Base → ℕ → Login → CardEntry → Bool
logs_in B c x (Call d k word block) = (d == c) && logs_in_by x (ask (profile B) k) word
logs_in B c x _ = false

-- the entry, after G, puts c back: c is opened, its side is reset, or power is lost
abbrev pub puts_back : ℕ → Past → CardEntry → Bool
puts_back c G (Opened d i shared) = d == c
puts_back c G (Reset i) = same_side i (side G c)
puts_back c G (Cut r) = true
puts_back c G _ = false

-- it ends the login x of c: a command of c that ends it, or what puts c back
abbrev pub ends : Base → ℕ → Login → Past → CardEntry → Bool
ends B c x G (Call d k word block) = (d == c) && ends_by x (ask (profile B) k) word
ends B c x G e = puts_back c G e

-- some command logged in on c, and nothing since ended it
abbrev pub HasLogin : Base → Past → ℕ → Login → Type 0
HasLogin B H c x = Lasts (logs_in B c x) (ends B c x) H

abbrev pub LoginsAreInForce : Type 0
LoginsAreInForce = (B : Base) (H : Past) (c : ℕ) (x : Login) → IsLegal B H → (in_force B H c x ≡ true) ↔ HasLogin B H c x

-- a rule holds exactly where the connection is entitled by it
abbrev pub RulesHoldForTheEntitled : Type 0
RulesHoldForTheEntitled = (B : Base) (H : Past) (c : ℕ) (r : Rule) → (holds (situation_of B H c) r ≡ true) ↔ IsEntitled B H c r

-- a command that presents this reference, on contact, with the value that it has, and with a try left
pub record IsPresented (B : Base) (G : Past) (c : ℕ) (r : RefId) (k : CardCommand) : Type 0 where
  pub candidate : List ℕ
  pub purpose : Purpose
  pub asks : ask (profile B) k ≡ Compare r candidate purpose
  pub right : candidate ≡ secret B G r
  pub left : 0 < tries B G r
  pub contact : side G c ≡ Contact

-- who logs in knew the PIN, or the Global PIN; for the administration key see the answers to challenges
abbrev pub PinsArePresented : Type 0
PinsArePresented = (B : Base) (G : Past) (c : ℕ) (k : CardCommand) (word : ℕ) (block : Option (List ℕ))
    → IsTrue (is_valid B) → IsAllowed B G (Call c k word block) → logs_in_by login.Pin (ask (profile B) k) word ≡ true
    → IsPresented B G c Pin k

abbrev pub GlobalPinsArePresented : Type 0
GlobalPinsArePresented = (B : Base) (G : Past) (c : ℕ) (k : CardCommand) (word : ℕ) (block : Option (List ℕ))
    → IsTrue (is_valid B) → IsAllowed B G (Call c k word block) → logs_in_by login.Global (ask (profile B) k) word ≡ true
    → IsPresented B G c GlobalPin k
