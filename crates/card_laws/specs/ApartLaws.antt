-- No connection changes what another has (this project's own).
use Rattle.std.specs.Prelude.{◌≡◌, ℕ, ◌-◌, false, None}
use Rattle.piv_model.specs.declared.kinds.Application.TheVariants.{Piv}
use Rattle.piv_model.specs.Commands.{CardCommand}
use Rattle.piv_model.specs.Entries.{CardEntry, Past, ◌▸◌, Call}
use Rattle.piv_model.specs.Base.{Base, profile}
use Rattle.piv_rules.specs.declared.lookback.Login.{Login}
use Rattle.piv_rules.specs.Asks.{Select, ask}
use Rattle.piv_rules.specs.Connections.{on, side, breaks, is_exchange_on, is_call_on}
use Rattle.piv_rules.specs.Logins.{in_force, pending}
use Rattle.piv_rules.specs.Channels.{channel}
use Rattle.piv_rules.specs.Acts.{CardRecord, Records, entries}
use Rattle.piv_rules.specs.Frames.{chain, rest}

-- no entry but a command on c, its opening, a reset of its side and a loss of power changes a login of c
abbrev pub LoginsAreApart : Type 0
LoginsAreApart = (B : Base) (H : Past) (e : CardEntry) (c : ℕ) (x : Login)
    → is_call_on c e ≡ false → breaks c H e ≡ false → in_force B (H ▸ e) c x ≡ in_force B H c x

-- nor its application or its pending block
abbrev pub ChannelsAreApart : Type 0
ChannelsAreApart = (B : Base) (H : Past) (e : CardEntry) (c : ℕ)
    → is_call_on c e ≡ false → breaks c H e ≡ false → channel B (H ▸ e) c ≡ channel B H c

-- the open chain and the waiting data of c are changed by its own exchanges and its breaks alone
abbrev pub FramesAreApart : Type 0
FramesAreApart = (B : Base) (R : Records) (r : CardRecord) (c : ℕ)
    → is_exchange_on c r.entry ≡ false → breaks c (entries R) r.entry ≡ false
    → (chain (R ▸ r) c ≡ chain R c) × (rest B (R ▸ r) c ≡ rest B R c)

-- selecting PIV again keeps the logins
abbrev pub ReselectingKeeps : Type 0
ReselectingKeeps = (B : Base) (H : Past) (c : ℕ) (k : CardCommand) (word : ℕ) (x : Login)
    → ask (profile B) k ≡ Select Piv → in_force B (H ▸ Call c k word None) c x ≡ in_force B H c x
