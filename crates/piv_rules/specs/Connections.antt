-- What a history says of the card's power, of its connections and of their applications (this project's own; the
-- application is that of SP 800-73-4 part 2, SELECT). A history has its newest entry first.
use Rattle.std.specs.Prelude.{ℕ, Bool, true, false, not, ◌&&◌, ◌==◌, List, count_by, Option, Some, None, if◌then◌else◌}
use Rattle.piv_model.specs.declared.kinds.Application.TheVariants.{Piv, Idle}
use Rattle.piv_model.specs.declared.kinds.Interface.{Interface}
use Rattle.piv_model.specs.declared.kinds.Interface.TheVariants.{Contact, Contactless}
use Rattle.piv_model.specs.Entries.{CardEntry, Past, Opened, Closed, Call, Part, Rest, Bad, Reset, Cut, Up}
use Rattle.piv_model.specs.Base.{Base, Profile, profile}
use Rattle.piv_rules.specs.StatusWords.{is_granted}
use Rattle.piv_rules.specs.Lookback.{last_of, some_entry}
use Rattle.piv_rules.specs.Asks.{Ask, Select, ask}

abbrev pub same_side : Interface → Interface → Bool
same_side Contact Contact = true
same_side Contactless Contactless = true
same_side Contact Contactless = false
same_side Contactless Contact = false

-- on: there is no Cut, or an Up stands after the last one
abbrev pub power_after : Past → CardEntry → Option Bool
power_after G (Cut running) = Some false
power_after G (Up took) = Some true
power_after G _ = None

abbrev pub on : Past → Bool
on H = last_of power_after true H

-- open: there is an Opened of c and no Closed of c
abbrev pub opens : ℕ → Past → CardEntry → Bool
opens c G (Opened d interface shared) = d == c
opens c G _ = false

abbrev pub closes : ℕ → Past → CardEntry → Bool
closes c G (Closed d) = d == c
closes c G _ = false

abbrev pub is_open : Past → ℕ → Bool
is_open H c = some_entry (opens c) H && not (some_entry (closes c) H)

-- side: the interface of Opened(c). Numbers are used once; contact where c was never opened.
abbrev pub opened_on : ℕ → Past → CardEntry → Option Interface
opened_on c G (Opened d interface shared) = if d == c then Some interface else None
opened_on c G _ = None

abbrev pub side : Past → ℕ → Interface
side H c = last_of (opened_on c) Contact H

-- exclusive: Opened(c) says so
abbrev pub opened_exclusive : ℕ → Past → CardEntry → Option Bool
opened_exclusive c G (Opened d interface shared) = if d == c then Some (not shared) else None
opened_exclusive c G _ = None

abbrev pub is_exclusive : Past → ℕ → Bool
is_exclusive H c = last_of (opened_exclusive c) false H

-- epoch: the number of resets of the interface and of losses of power
abbrev pub is_epoch_end : Interface → CardEntry → Bool
is_epoch_end i (Reset j) = same_side i j
is_epoch_end i (Cut running) = true
is_epoch_end i _ = false

abbrev pub epoch : Past → Interface → ℕ
epoch H i = count_by (is_epoch_end i) H

-- the breaks of c put it back to the start: its opening, a reset of its side, and every loss of power
abbrev pub breaks : ℕ → Past → CardEntry → Bool
breaks c G (Opened d interface shared) = d == c
breaks c G (Reset i) = same_side i (side G c)
breaks c G (Cut running) = true
breaks c G _ = false

-- an exchange of c: a command, a part of a chain, a piece of a reply, or bytes that are refused
abbrev pub is_exchange_on : ℕ → CardEntry → Bool
is_exchange_on c (Call d k word block) = d == c
is_exchange_on c (Part d) = d == c
is_exchange_on c (Rest d) = d == c
is_exchange_on c (Bad d word) = d == c
is_exchange_on c _ = false

-- a command on c
abbrev pub is_call_on : ℕ → CardEntry → Bool
is_call_on c (Call d k word block) = d == c
is_call_on c _ = false

-- what the exchanges of c have led to, one entry later: a break of c begins anew, an exchange of c makes a step, and all
-- else leaves what was before
abbrev pub by_exchange : {A : Type 0} → ℕ → A → (A → A) → Past → CardEntry → A → A
by_exchange c start step G e before =
    if breaks c G e then start
    else if is_exchange_on c e then step before
    else before

-- what the last break of c, or call on c that has a say, says; `call` reads a call's ask, word and block
abbrev pub by_call : {A : Type 0} → Profile → ℕ → (Ask → ℕ → Option (List ℕ) → Option A) → CardEntry → Option A
by_call m c call (Call d k word block) = if d == c then call (ask m k) word block else None
by_call m c call _ = None

abbrev pub on_connection : {A : Type 0} → Profile → ℕ → A → (Ask → ℕ → Option (List ℕ) → Option A) → Past → CardEntry → Option A
on_connection m c start call G e = if breaks c G e then Some start else by_call m c call e

-- PIV is selected exactly where the last of a break and a granted SELECT is a SELECT of PIV
abbrev pub selected_after : Ask → ℕ → Option (List ℕ) → Option Bool
selected_after (Select Piv) word block = if is_granted word then Some true else None
selected_after (Select Idle) word block = if is_granted word then Some false else None
selected_after _ word block = None

abbrev pub selected : Base → Past → ℕ → Bool
selected B H c = last_of (on_connection (profile B) c false selected_after) false H
