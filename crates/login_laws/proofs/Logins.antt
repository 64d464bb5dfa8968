-- A login is in force by what logged in and what ended it.
use Rattle.std.specs.Prelude.{if◌then◌else◌, ◌==◌, not, ◌&&◌, ◌||◌, ◌⊎◌, ◌↔◌, is_some}
use Rattle.std.proofs.Common.{◌≡◌, ℕ, Bool, true, false, List, [], ◌∷◌, ◌++◌, Option, Some, None, refl, ap, ◌∙◌, arith, unwrap_or, inl, inr, eq-eqb}
use Rattle.std.proofs.lemmas.Bool.Decides.{nat_tests}
use Rattle.piv_model.specs.declared.kinds.Application.TheVariants.{Piv, Idle}
use Rattle.piv_model.specs.declared.kinds.Rule.TheVariants as rule
use Rattle.piv_model.specs.declared.kinds.RefId.TheVariants.{Pin, Puk, GlobalPin}
use Rattle.piv_model.specs.Entries.{CardEntry, Past, Opened, Closed, Call, Part, Rest, Bad, Reset, Cut, Up, Note}
use Rattle.piv_model.specs.Base.{Base, profile}
use Rattle.piv_rules.specs.declared.lookback.Login.{Login}
use Rattle.piv_rules.specs.declared.lookback.Login.TheVariants as login
use Rattle.piv_rules.specs.StatusWords.{is_granted, is_mismatched}
use Rattle.piv_rules.specs.Asks.{Ask, Refused, Select, Get, Put, Logout, Query, Compare, Internal, AskChallenge, External, AskWitness, Mutual, Verify, Change, Unblock, ask}
use Rattle.piv_rules.specs.Connections.{side, breaks, by_call, on_connection}
use Rattle.piv_rules.specs.Logins.{login_after, in_force}
use Rattle.piv_rules.specs.Memories.{mem}
use Rattle.piv_rules.specs.Answers.{is_contact, global_counts}
use Rattle.piv_rules.specs.Channels.{channel}
use Rattle.piv_rules.specs.Legal.{IsLegal, IsAllowed, asks_block}
use Rattle.piv_rules.specs.RandomBlocks.{next_block}
use Rattle.piv_rules.specs.Lookback.{none_since}
use Rattle.piv_rules.specs.Entitled.{touches, IsLoggedIn}
use Rattle.command_laws.proofs.Uses.{logged_in}
use Rattle.login_laws.specs.LoginLaws.{is_miss, logs_in_by, ends_by, logs_in, ends, LoginsAreInForce, RulesHoldForTheEntitled}
use Rattle.login_laws.proofs.Lasting.{said, Agrees, lasts-exactly}
use Rattle.login_laws.proofs.Bools.{and-first, and-last, contact-iff, not-true}

-- ---- what one command says

-- the words, as the definitions and as the laws read them
pub miss-is : (word : ℕ) → is_miss word ≡ is_mismatched word
miss-is word = grind (arith, nat_tests)

-- a block is borne by a granted request alone
abbrev Borne : Ask → ℕ → Option (List ℕ) → Type 0
Borne a word block = is_some block ≡ (asks_block a && is_granted word)

pin-said : (a : Ask) (word : ℕ) (block : Option (List ℕ))
    → login_after login.Pin a word block ≡ said (logs_in_by login.Pin a word) (ends_by login.Pin a word)
pin-said (Compare Pin p Verify) word block = rw (miss-is word) (grind (arith, nat_tests))
pin-said (Compare Pin p (Change n)) word block = rw (miss-is word) (grind (arith, nat_tests))
pin-said (Compare Pin p (Unblock n)) word block = refl
pin-said (Compare Puk p Verify) word block = refl
pin-said (Compare Puk p (Change n)) word block = refl
pin-said (Compare Puk p (Unblock n)) word block = rw (miss-is word) (grind (arith, nat_tests))
pin-said (Compare GlobalPin p Verify) word block = refl
pin-said (Compare GlobalPin p (Change n)) word block = refl
pin-said (Compare GlobalPin p (Unblock n)) word block = refl
pin-said (Logout Pin) word block = grind (arith, nat_tests)
pin-said (Logout Puk) word block = refl
pin-said (Logout GlobalPin) word block = refl
pin-said (Select Idle) word block = grind (arith, nat_tests)
pin-said (Select Piv) word block = refl
pin-said (Refused w) word block = refl
pin-said (Get id) word block = refl
pin-said (Put id v) word block = refl
pin-said (Query r) word block = refl
pin-said (Internal x) word block = refl
pin-said AskChallenge word block = refl
pin-said (External x) word block = refl
pin-said AskWitness word block = refl
pin-said (Mutual w x) word block = refl

global-said : (a : Ask) (word : ℕ) (block : Option (List ℕ))
    → login_after login.Global a word block ≡ said (logs_in_by login.Global a word) (ends_by login.Global a word)
global-said (Compare GlobalPin p Verify) word block = rw (miss-is word) (grind (arith, nat_tests))
global-said (Compare GlobalPin p (Change n)) word block = rw (miss-is word) (grind (arith, nat_tests))
global-said (Compare GlobalPin p (Unblock n)) word block = refl
global-said (Compare Pin p Verify) word block = refl
global-said (Compare Pin p (Change n)) word block = refl
global-said (Compare Pin p (Unblock n)) word block = refl
global-said (Compare Puk p Verify) word block = refl
global-said (Compare Puk p (Change n)) word block = refl
global-said (Compare Puk p (Unblock n)) word block = refl
global-said (Logout GlobalPin) word block = grind (arith, nat_tests)
global-said (Logout Pin) word block = refl
global-said (Logout Puk) word block = refl
global-said (Select x) word block = refl
global-said (Refused w) word block = refl
global-said (Get id) word block = refl
global-said (Put id v) word block = refl
global-said (Query r) word block = refl
global-said (Internal x) word block = refl
global-said AskChallenge word block = refl
global-said (External x) word block = refl
global-said AskWitness word block = refl
global-said (Mutual w x) word block = refl

admin-said : (a : Ask) (word : ℕ) (block : Option (List ℕ)) → Borne a word block
    → login_after login.Admin a word block ≡ said (logs_in_by login.Admin a word) (ends_by login.Admin a word)
admin-said (External x) word block borne = rw borne (grind (arith, nat_tests))
admin-said (Mutual w x) word block borne = rw borne (grind (arith, nat_tests))
admin-said AskChallenge word block borne = rw borne (grind (arith, nat_tests))
admin-said AskWitness word block borne = rw borne (grind (arith, nat_tests))
admin-said (Select Idle) word block borne = rw borne (grind (arith, nat_tests))
admin-said (Select Piv) word block borne = rw borne refl
admin-said (Compare r p purpose) word block borne = rw borne refl
admin-said (Logout r) word block borne = rw borne refl
admin-said (Refused w) word block borne = rw borne refl
admin-said (Get id) word block borne = rw borne refl
admin-said (Put id v) word block borne = rw borne refl
admin-said (Query r) word block borne = rw borne refl
admin-said (Internal x) word block borne = rw borne refl

login-said : (x : Login) (a : Ask) (word : ℕ) (block : Option (List ℕ)) → Borne a word block
    → login_after x a word block ≡ said (logs_in_by x a word) (ends_by x a word)
login-said login.Pin a word block borne = pin-said a word block
login-said login.Global a word block borne = global-said a word block
login-said login.Admin a word block borne = admin-said a word block borne

-- ---- what one entry says

borne : (B : Base) (H : Past) (a : Ask) (word : ℕ) (block : Option (List ℕ)) (b : Bool) → (asks_block a && is_granted word) ≡ b
    → block ≡ (if b then Some (next_block B H) else None) → Borne a word block
borne B H a word block true is e = rw (e, is) refl
borne B H a word block false is e = rw (e, is) refl

call-said : (B : Base) (H : Past) (c d : ℕ) (x : Login) (a : Ask) (word : ℕ) (block : Option (List ℕ)) (own : Bool) → Borne a word block
    → (if own then login_after x a word block else None) ≡ said (own && logs_in_by x a word) (own && ends_by x a word)
call-said B H c d x a word block true h = login-said x a word block h
call-said B H c d x a word block false h = refl

entry-said : (B : Base) (H : Past) (e : CardEntry) (c : ℕ) (x : Login) → IsAllowed B H e
    → on_connection (profile B) c false (login_after x) H e ≡ said (logs_in B c x e) (ends B c x H e)
entry-said B H (Call d k word block) c x allowed =
    call-said B H c d x (ask (profile B) k) word block (d == c) (borne B H (ask (profile B) k) word block _ refl allowed.3)
entry-said B H (Opened d i shared) c x allowed = refl
entry-said B H (Reset i) c x allowed = refl
entry-said B H (Cut r) c x allowed = refl
entry-said B H (Closed d) c x allowed = refl
entry-said B H (Part d) c x allowed = refl
entry-said B H (Rest d) c x allowed = refl
entry-said B H (Bad d word) c x allowed = refl
entry-said B H (Up t) c x allowed = refl
entry-said B H (Note a w) c x allowed = refl

-- ---- the history

login-agrees : (B : Base) (H : Past) (c : ℕ) (x : Login) → IsLegal B H
    → Agrees (on_connection (profile B) c false (login_after x)) (logs_in B c x) (ends B c x) H
login-agrees B [] c x legal = tt
login-agrees B (e ∷ H) c x legal = (login-agrees B H c x legal.0, entry-said B H e c x legal.1)

pub LoginsAreInForce-law : LoginsAreInForce
LoginsAreInForce-law B H c x legal = lasts-exactly _ (logs_in B c x) (ends B c x) H (login-agrees B H c x legal)

-- ---- the entries that touch a login

untouched-said : (B : Base) (G : Past) (e : CardEntry) (c : ℕ) (x : Login) → touches B c x G e ≡ false → breaks c G e ≡ false
    → on_connection (profile B) c false (login_after x) G e ≡ None
untouched-said B G e c x untouched unbroken = rw unbroken (go (by_call (profile B) c (login_after x) e) untouched)
  where
    go : (o : Option Bool) → is_some o ≡ false → o ≡ None
    go None h = refl
    go (Some b) h = absurd (cc)

still-logged_in : (B : Base) (L G : Past) (e : CardEntry) (c : ℕ) (x : Login)
    → none_since (touches B c x) L (e ∷ G) ≡ true → none_since (breaks c) L (e ∷ G) ≡ true
    → in_force B (e ∷ G) c x ≡ true → in_force B (L ++ e ∷ G) c x ≡ true
still-logged_in B [] G e c x untouched unbroken h = h
still-logged_in B (f ∷ L) G e c x untouched unbroken h =
    let ih = still-logged_in B L G e c x (and-last (not (touches B c x (L ++ e ∷ G) f)) _ untouched)
    (and-last (not (breaks c (L ++ e ∷ G) f)) _ unbroken) h in
    ap (λ o. unwrap_or o (in_force B (L ++ e ∷ G) c x))
    (untouched-said B (L ++ e ∷ G) f c x (not-true _ (and-first (not (touches B c x (L ++ e ∷ G) f)) _ untouched))
    (not-true _ (and-first (not (breaks c (L ++ e ∷ G) f)) _ unbroken))) ∙ ih

in-force : (B : Base) (H : Past) (c : ℕ) (x : Login) → IsLoggedIn B H c x → in_force B H c x ≡ true
in-force B H c x l =
    ap (λ J. in_force B J c x) l.whole
    ∙ still-logged_in B l.since l.before (Call c l.command l.word l.block) c x l.untouched l.unbroken
    (rw (eq-eqb c c refl, l.sets) refl)

-- the same by the entries that touch the login, in every history
logged-in : (B : Base) (H : Past) (c : ℕ) (x : Login) → (in_force B H c x ≡ true) ↔ IsLoggedIn B H c x
logged-in B H c x = (logged_in B H c x, in-force B H c x)

-- ---- rules

both-iff : (a b : Bool) (P Q : Type 0) → ((a ≡ true) ↔ P) → ((b ≡ true) ↔ Q) → ((a && b) ≡ true) ↔ (P × Q)
both-iff true b P Q h k = ((λ e. (h.0 refl, k.0 e)), (λ p. k.1 p.1))
both-iff false b P Q h k = ((λ e. absurd (cc)), (λ p. absurd (let f = h.1 p.0 in cc)))

either-iff : (a b : Bool) (P Q : Type 0) → ((a ≡ true) ↔ P) → ((b ≡ true) ↔ Q) → ((a || b) ≡ true) ↔ (P ⊎ Q)
either-iff true b P Q h k = ((λ e. inl (h.0 refl)), (λ p. refl))
either-iff false b P Q h k = ((λ e. inr (k.0 e)), from)
  where
    from : P ⊎ Q → b ≡ true
    from (inl p) = absurd (let f = h.1 p in cc)
    from (inr q) = k.1 q

pub RulesHoldForTheEntitled-law : RulesHoldForTheEntitled
unfolding channel
RulesHoldForTheEntitled-law B H c rule.Always = ((λ h. tt), (λ h. refl))
RulesHoldForTheEntitled-law B H c rule.ContactUse = contact-iff (side H c)
RulesHoldForTheEntitled-law B H c rule.Pin =
    both-iff (is_contact (side H c)) _ _ _ (contact-iff (side H c))
    (either-iff (in_force B H c login.Pin) _ _ _ (logged-in B H c login.Pin)
    (both-iff (in_force B H c login.Global) (global_counts (mem B H)) _ _ (logged-in B H c login.Global) ((λ h. h), (λ h. h))))
RulesHoldForTheEntitled-law B H c rule.Admin =
    both-iff (is_contact (side H c)) _ _ _ (contact-iff (side H c)) (logged-in B H c login.Admin)
RulesHoldForTheEntitled-law B H c rule.Never = ((λ h. absurd (cc)), (λ h. absurd h))
RulesHoldForTheEntitled-law B H c rule.Response = ((λ h. absurd (cc)), (λ h. absurd h))

pub ruleset login_laws = (LoginsAreInForce-law, RulesHoldForTheEntitled-law)
