-- A card without a Global PIN.
use Rattle.std.specs.Prelude.{if◌then◌else◌, ◌==◌, ◌&&◌, ◌||◌, ◌↔◌, is_some}
use Rattle.std.proofs.Common.{◌≡◌, ℕ, Bool, true, false, List, [], ◌∷◌, Option, Some, None, refl, ap, unwrap_or}
use Rattle.piv_model.specs.declared.kinds.Interface.{Interface}
use Rattle.piv_model.specs.declared.kinds.Interface.TheVariants.{Contact, Contactless}
use Rattle.piv_model.specs.declared.kinds.RefId.TheVariants.{GlobalPin}
use Rattle.piv_model.specs.Entries.{CardEntry, Opened, Closed, Call, Part, Rest, Bad, Reset, Cut, Up, Note}
use Rattle.piv_model.specs.Memory.{Memory}
use Rattle.piv_model.specs.Base.{Base, profile}
use Rattle.piv_rules.specs.declared.lookback.Login.TheVariants as login
use Rattle.piv_rules.specs.Asks.{Ask, Logout, Query, Compare, ask}
use Rattle.piv_rules.specs.Connections.{side, breaks, by_call}
use Rattle.piv_rules.specs.Logins.{in_force, global_after}
use Rattle.piv_rules.specs.Memories.{mem}
use Rattle.piv_rules.specs.Answers.{is_contact, global_counts}
use Rattle.piv_rules.specs.Channels.{channel}
use Rattle.login_laws.specs.AskLaws.{IsProper}
use Rattle.login_laws.specs.GlobalLaws.{names_global, NoCommandNamesIt, ItIsNeverInForce, ThePinAloneOpens}
use Rattle.login_laws.proofs.Asking.{AsksAreProper-law}

none-proper : (m : Memory) (a : Ask) → is_some m.global ≡ false → IsProper m a → names_global a ≡ false
none-proper m (Compare GlobalPin p purpose) none h = absurd (let e = h.0 in cc)
none-proper m (Query GlobalPin) none h = absurd (let e = h.0 in cc)
none-proper m (Logout GlobalPin) none h = absurd (let e = h.0 in cc)
none-proper m a none h = refl

pub NoCommandNamesIt-law : NoCommandNamesIt
NoCommandNamesIt-law B k none = none-proper B.memory (ask (profile B) k) (ap (λ o. is_some o) none) (AsksAreProper-law B k)

quiet : (a : Ask) (word : ℕ) (block : Option (List ℕ)) → names_global a ≡ false → global_after a word block ≡ None
quiet (Compare GlobalPin p purpose) word block h = absurd (cc)
quiet (Logout GlobalPin) word block h = absurd (cc)
quiet a word block h = refl

says-nothing : (B : Base) (c : ℕ) (e : CardEntry) → B.memory.global ≡ None → by_call (profile B) c global_after e ≡ None
says-nothing B c (Call d k word block) none = go (d == c) (quiet (ask (profile B) k) word block (NoCommandNamesIt-law B k none))
  where
    go : (own : Bool) → global_after (ask (profile B) k) word block ≡ None → (if own then global_after (ask (profile B) k) word block else None) ≡ None
    go true h = h
    go false h = refl
says-nothing B c (Opened d i shared) none = refl
says-nothing B c (Closed d) none = refl
says-nothing B c (Part d) none = refl
says-nothing B c (Rest d) none = refl
says-nothing B c (Bad d word) none = refl
says-nothing B c (Reset i) none = refl
says-nothing B c (Cut r) none = refl
says-nothing B c (Up t) none = refl
says-nothing B c (Note a w) none = refl

pub ItIsNeverInForce-law : ItIsNeverInForce
ItIsNeverInForce-law B [] c none = refl
ItIsNeverInForce-law B (e ∷ H) c none = rw (says-nothing B c e none) (go (breaks c H e) (ItIsNeverInForce-law B H c none))
  where
    go : (b : Bool) → in_force B H c login.Global ≡ false → unwrap_or (if b then Some false else None) (in_force B H c login.Global) ≡ false
    go true ih = refl
    go false ih = ih

pin-alone : (i : Interface) (p g : Bool) → ((is_contact i && (p || (false && g))) ≡ true) ↔ ((i ≡ Contact) × (p ≡ true))
pin-alone Contact true g = ((λ h. (refl, refl)), (λ h. refl))
pin-alone Contact false g = ((λ h. absurd (cc)), (λ h. absurd (let e = h.1 in cc)))
pin-alone Contactless p g = ((λ h. absurd (cc)), (λ h. absurd (let f = ap is_contact h.0 in cc)))

pub ThePinAloneOpens-law : ThePinAloneOpens
unfolding channel
ThePinAloneOpens-law B H c none = rw (ItIsNeverInForce-law B H c none) (pin-alone (side H c) (in_force B H c login.Pin) (global_counts (mem B H)))

pub ruleset global_laws = (NoCommandNamesIt-law, ItIsNeverInForce-law, ThePinAloneOpens-law)
