-- The selected application, and what a break leaves.
use Rattle.std.specs.Prelude.{if◌then◌else◌, ◌==◌, ◌&&◌}
use Rattle.std.proofs.Common.{◌≡◌, ℕ, Bool, true, false, List, [], ◌∷◌, Option, Some, None, refl, sym, ◌∙◌, eq-eqb}
use Rattle.piv_model.specs.declared.kinds.Application.TheVariants.{Piv, Idle}
use Rattle.piv_model.specs.Entries.{CardEntry, Past, Opened, Closed, Call, Part, Rest, Bad, Reset, Cut, Up, Note}
use Rattle.piv_model.specs.Base.{Base, profile}
use Rattle.piv_rules.specs.declared.lookback.Login.{Login}
use Rattle.piv_rules.specs.declared.lookback.Login.TheVariants as login
use Rattle.piv_rules.specs.Asks.{Ask, Select, ask}
use Rattle.piv_rules.specs.Connections.{breaks, on_connection, selected_after}
use Rattle.piv_rules.specs.Logins.{in_force}
use Rattle.piv_rules.specs.Acts.{entries}
use Rattle.card_laws.proofs.ConnectionLaws.{chain-break, rest-break}
use Rattle.login_laws.specs.LoginLaws.{goes_idle, puts_back}
use Rattle.login_laws.specs.ApplicationLaws.{goes_to_piv, selects, deselects, SelectionsLast, IdleEndsLogins, RefusalsLeaveLogins, BreaksLeaveNothing}
use Rattle.login_laws.proofs.Lasting.{said, Agrees, lasts-exactly}

select-said : (a : Ask) (word : ℕ) (block : Option (List ℕ))
    → selected_after a word block ≡ said (goes_to_piv a && (word == 0x9000)) (goes_idle a && (word == 0x9000))
select-said (Select Piv) word block = go ((word == 0x9000))
  where
    go : (b : Bool) → (if b then Some true else None) ≡ said b false
    go true = refl
    go false = refl
select-said (Select Idle) word block = refl
select-said a word block = refl

call-said : (a : Ask) (word : ℕ) (block : Option (List ℕ)) (own : Bool)
    → (if own then selected_after a word block else None)
    ≡ said (own && (goes_to_piv a && (word == 0x9000))) (own && (goes_idle a && (word == 0x9000)))
call-said a word block true = select-said a word block
call-said a word block false = refl

entry-said : (B : Base) (H : Past) (e : CardEntry) (c : ℕ)
    → on_connection (profile B) c false selected_after H e ≡ said (selects B c e) (deselects B c H e)
entry-said B H (Call d k word block) c = call-said (ask (profile B) k) word block (d == c)
entry-said B H (Opened d i shared) c = refl
entry-said B H (Reset i) c = refl
entry-said B H (Cut r) c = refl
entry-said B H (Closed d) c = refl
entry-said B H (Part d) c = refl
entry-said B H (Rest d) c = refl
entry-said B H (Bad d word) c = refl
entry-said B H (Up t) c = refl
entry-said B H (Note a w) c = refl

agrees : (B : Base) (H : Past) (c : ℕ) → Agrees (on_connection (profile B) c false selected_after) (selects B c) (deselects B c) H
agrees B [] c = tt
agrees B (e ∷ H) c = (agrees B H c, entry-said B H e c)

pub SelectionsLast-law : SelectionsLast
SelectionsLast-law B H c = lasts-exactly _ (selects B c) (deselects B c) H (agrees B H c)

pub IdleEndsLogins-law : IdleEndsLogins
IdleEndsLogins-law B H c k asks = record {
  selected = rw (eq-eqb c c refl, asks) refl;
  pin = rw (eq-eqb c c refl, asks) refl;
  admin = rw (eq-eqb c c refl, asks) refl;
  global = rw (eq-eqb c c refl, asks) refl;
  pending = rw (eq-eqb c c refl, asks) refl;
}

pub RefusalsLeaveLogins-law : RefusalsLeaveLogins
RefusalsLeaveLogins-law B H c k w asks = record {
  selected = rw (eq-eqb c c refl, asks) refl;
  logins = logins;
  pending = rw (eq-eqb c c refl, asks) refl;
}
  where
    logins : (x : Login) → in_force B (Call c k w None ∷ H) c x ≡ in_force B H c x
    logins login.Pin = rw (eq-eqb c c refl, asks) refl
    logins login.Global = rw (eq-eqb c c refl, asks) refl
    logins login.Admin = rw (eq-eqb c c refl, asks) refl

same-breaks : (c : ℕ) (G : Past) (e : CardEntry) → puts_back c G e ≡ breaks c G e
same-breaks c G (Call d k word block) = refl
same-breaks c G (Opened d i shared) = refl
same-breaks c G (Reset i) = refl
same-breaks c G (Cut r) = refl
same-breaks c G (Closed d) = refl
same-breaks c G (Part d) = refl
same-breaks c G (Rest d) = refl
same-breaks c G (Bad d word) = refl
same-breaks c G (Up t) = refl
same-breaks c G (Note a w) = refl

pub BreaksLeaveNothing-law : BreaksLeaveNothing
BreaksLeaveNothing-law B R r c broken =
    let h : breaks c (entries R) r.entry ≡ true = sym (same-breaks c (entries R) r.entry) ∙ broken in
    record {
      selected = rw h refl;
      logins = λ x. rw h refl;
      pending = rw h refl;
      chain = chain-break R r c h;
      rest = rest-break B R r c h;
    }

pub ruleset application_laws = (SelectionsLast-law, IdleEndsLogins-law, RefusalsLeaveLogins-law, BreaksLeaveNothing-law)
