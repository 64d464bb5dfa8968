-- The selected application, what a change of it leaves, and what a break leaves (SP 800-73-4 part 2, SELECT; the idle
-- application and the breaks are this project's own).
use Rattle.std.specs.Prelude.{◌≡◌, ◌↔◌, ℕ, Bool, true, false, ◌&&◌, ◌==◌, [], None}
use Rattle.piv_model.specs.declared.kinds.Application.TheVariants.{Piv, Idle}
use Rattle.piv_model.specs.Commands.{CardCommand}
use Rattle.piv_model.specs.Entries.{CardEntry, Past, ◌▸◌, Call}
use Rattle.piv_model.specs.Base.{Base, profile}
use Rattle.piv_rules.specs.declared.lookback.Login.{Login}
use Rattle.piv_rules.specs.declared.lookback.Login.TheVariants as login
use Rattle.piv_rules.specs.Asks.{Ask, Refused, Select, ask}
use Rattle.piv_rules.specs.Connections.{selected}
use Rattle.piv_rules.specs.Logins.{in_force, NonePending, pending}
use Rattle.piv_rules.specs.Acts.{CardRecord, Records, entries}
use Rattle.piv_rules.specs.Frames.{chain, rest}
use Rattle.login_laws.specs.Lasts.{Lasts}
use Rattle.login_laws.specs.LoginLaws.{goes_idle, puts_back}

abbrev pub goes_to_piv : Ask → Bool
goes_to_piv (Select Piv) = true
goes_to_piv _ = false

-- a granted SELECT of PIV on c
abbrev pub selects : Base → ℕ → CardEntry → Bool
selects B c (Call d k word block) = (d == c) && (goes_to_piv (ask (profile B) k) && (word == 0x9000))
selects B c _ = false

-- a granted SELECT of the idle application on c, and what puts c back
abbrev pub deselects : Base → ℕ → Past → CardEntry → Bool
deselects B c G (Call d k word block) = (d == c) && (goes_idle (ask (profile B) k) && (word == 0x9000))
deselects B c G e = puts_back c G e

-- PIV is selected exactly where it was, and nothing since took it away
abbrev pub SelectionsLast : Type 0
SelectionsLast = (B : Base) (H : Past) (c : ℕ) → (selected B H c ≡ true) ↔ Lasts (selects B c) (deselects B c) H

-- a change to the idle application ends the logins by the PIN and by the administration key, and leaves that by the Global PIN
pub record IsIdle (B : Base) (H G : Past) (c : ℕ) : Type 0 where
  pub selected : selected B H c ≡ false
  pub pin : in_force B H c login.Pin ≡ false
  pub admin : in_force B H c login.Admin ≡ false
  pub global : in_force B H c login.Global ≡ in_force B G c login.Global
  pub pending : pending B H c ≡ NonePending

abbrev pub IdleEndsLogins : Type 0
IdleEndsLogins = (B : Base) (H : Past) (c : ℕ) (k : CardCommand) → ask (profile B) k ≡ Select Idle
    → IsIdle B (H ▸ Call c k 0x9000 None) H c

-- a command of no good form, and a name that no application has among them, leave the application and every login, and drop
-- what is pending
pub record IsLeft (B : Base) (H G : Past) (c : ℕ) : Type 0 where
  pub selected : selected B H c ≡ selected B G c
  pub logins : (x : Login) → in_force B H c x ≡ in_force B G c x
  pub pending : pending B H c ≡ NonePending

abbrev pub RefusalsLeaveLogins : Type 0
RefusalsLeaveLogins = (B : Base) (H : Past) (c : ℕ) (k : CardCommand) (w : ℕ) → ask (profile B) k ≡ Refused w
    → IsLeft B (H ▸ Call c k w None) H c

-- after a break nothing is left of a connection: no application but idle, no login, nothing pending, no chain, no rest
pub record IsFresh (B : Base) (R : Records) (c : ℕ) : Type 0 where
  pub selected : selected B (entries R) c ≡ false
  pub logins : (x : Login) → in_force B (entries R) c x ≡ false
  pub pending : pending B (entries R) c ≡ NonePending
  pub chain : chain R c ≡ None
  pub rest : rest B R c ≡ []

abbrev pub BreaksLeaveNothing : Type 0
BreaksLeaveNothing = (B : Base) (R : Records) (r : CardRecord) (c : ℕ) → puts_back c (entries R) r.entry ≡ true → IsFresh B (R ▸ r) c
