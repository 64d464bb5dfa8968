-- Connections leave one another's logins.
use Rattle.std.proofs.Common.{◌≡◌, ℕ, false, List, Option, None, refl, eq-eqb}
use Rattle.piv_model.specs.declared.kinds.Application.TheVariants.{Piv}
use Rattle.piv_model.specs.Entries.{CardEntry, Opened, Closed, Call, Part, Rest, Bad, Reset, Cut, Up, Note}
use Rattle.piv_model.specs.Base.{Base, profile}
use Rattle.piv_rules.specs.declared.lookback.Login.{Login}
use Rattle.piv_rules.specs.declared.lookback.Login.TheVariants as login
use Rattle.piv_rules.specs.Asks.{Ask, Select}
use Rattle.piv_rules.specs.Connections.{by_call, selected_after, is_call_on}
use Rattle.piv_rules.specs.Logins.{login_after, pin_after, global_after, admin_after, pending_after}
use Rattle.piv_rules.specs.Channels.{channel}
use Rattle.piv_rules.specs.Frames.{chain, rest}
use Rattle.card_laws.specs.ApartLaws.{LoginsAreApart, ChannelsAreApart, FramesAreApart, ReselectingKeeps}

-- an entry that is no call on c says nothing of it
by_call-other : {A : Type 0} (B : Base) (c : ℕ) (f : Ask → ℕ → Option (List ℕ) → Option A) (e : CardEntry)
    → is_call_on c e ≡ false → by_call (profile B) c f e ≡ None
by_call-other B c f (Call d k word block) h = rw h refl
by_call-other B c f (Opened d i shared) h = refl
by_call-other B c f (Closed d) h = refl
by_call-other B c f (Part d) h = refl
by_call-other B c f (Rest d) h = refl
by_call-other B c f (Bad d word) h = refl
by_call-other B c f (Reset i) h = refl
by_call-other B c f (Cut r) h = refl
by_call-other B c f (Up t) h = refl
by_call-other B c f (Note a w) h = refl

pub LoginsAreApart-law : LoginsAreApart
LoginsAreApart-law B H e c x apart unbroken = rw (unbroken, by_call-other B c (login_after x) e apart) refl

reselected : (x : Login) (word : ℕ) → login_after x (Select Piv) word None ≡ None
reselected login.Pin word = refl
reselected login.Global word = refl
reselected login.Admin word = refl

pub ReselectingKeeps-law : ReselectingKeeps
ReselectingKeeps-law B H c k word x h = rw (eq-eqb c c refl, h, reselected x word) refl

pub ChannelsAreApart-law : ChannelsAreApart
unfolding channel
ChannelsAreApart-law B H e c apart unbroken =
    rw (
      unbroken,
      by_call-other B c selected_after e apart,
      by_call-other B c pin_after e apart,
      by_call-other B c global_after e apart,
      by_call-other B c admin_after e apart,
      by_call-other B c pending_after e apart,
    ) refl

pub FramesAreApart-law : FramesAreApart
unfolding chain rest
FramesAreApart-law B R r c apart unbroken = (rw (unbroken, apart) refl, rw (unbroken, apart) refl)

pub ruleset apart_laws = (LoginsAreApart-law, ChannelsAreApart-law, FramesAreApart-law, ReselectingKeeps-law)
