-- A command is served by its rule alone.
use Rattle.std.specs.Prelude.{if◌then◌else◌, ◌==◌, not, ◌&&◌, ◌||◌, ◌⊎◌}
use Rattle.std.proofs.Common.{◌≡◌, ◌≤◌, ℕ, ◌-◌, Bool, true, false, List, [], ◌∷◌, Option, Some, None, refl, ap, sym, ◌∙◌, arith, unwrap_or, eqb-true, inl, inr}
use Rattle.std.proofs.lemmas.Bool.Decides.{nat_tests}
use Rattle.piv_model.specs.declared.kinds.Interface.{Interface}
use Rattle.piv_model.specs.declared.kinds.Interface.TheVariants.{Contact, Contactless}
use Rattle.piv_model.specs.declared.kinds.Rule.{Rule}
use Rattle.piv_model.specs.declared.kinds.Rule.TheVariants as rule
use Rattle.piv_model.specs.declared.kinds.RefId.{RefId}
use Rattle.piv_model.specs.Commands.{CardCommand}
use Rattle.piv_model.specs.Entries.{CardEntry, Past, Opened, Closed, Call, Part, Rest, Bad, Reset, Cut, Up, Note}
use Rattle.piv_model.specs.Memory.{Memory, reference}
use Rattle.piv_model.specs.Base.{Base, profile}
use Rattle.piv_model.specs.StatusWords.{tries_word}
use Rattle.piv_rules.specs.declared.lookback.Login.{Login}
use Rattle.piv_rules.specs.declared.lookback.Login.TheVariants as login
use Rattle.piv_rules.specs.declared.table.Conditions.{Conditions}
use Rattle.piv_rules.specs.StatusWords.{is_granted}
use Rattle.piv_rules.specs.Asks.{Ask, Refused, Query, Compare, ask}
use Rattle.piv_rules.specs.Connections.{side, breaks, by_call}
use Rattle.piv_rules.specs.Logins.{login_after, in_force}
use Rattle.piv_rules.specs.Memories.{mem}
use Rattle.piv_rules.specs.Answers.{Situation, situation_of, answer, answer_in, answer_to, holds, rule_of, is_contact, refusal, tries_left, global_counts, conditions, word_by}
use Rattle.piv_rules.specs.Channels.{channel}
use Rattle.piv_rules.specs.Entitled.{IsLoggedIn, IsEntitled}
use Rattle.piv_rules.proofs.TableLaws.{answer_to-word}
use Rattle.command_laws.specs.UseLaws.{UsesAreEntitled, OnlyWrongResponsesAreDenied}
use Rattle.command_laws.proofs.Limits.{few-tries}

-- ---- logins

-- one entry more that breaks nothing
logged_in-more : (B : Base) (H : Past) (c : ℕ) (x : Login) (e : CardEntry) → breaks c H e ≡ false
    → by_call (profile B) c (login_after x) e ≡ None → IsLoggedIn B H c x → IsLoggedIn B (e ∷ H) c x
logged_in-more B H c x e unbroken quiet l = record {
  since = e ∷ l.since;
  before = l.before;
  command = l.command;
  word = l.word;
  block = l.block;
  whole = ap (λ G. e ∷ G) l.whole;
  sets = l.sets;
  untouched = rw quiet l.untouched;
  unbroken = rw (← l.whole, unbroken) l.unbroken;
}

logged_in-now : (B : Base) (H : Past) (c d : ℕ) (k : CardCommand) (word : ℕ) (block : Option (List ℕ)) (x : Login) → d ≡ c
    → login_after x (ask (profile B) k) word block ≡ Some true → IsLoggedIn B (Call d k word block ∷ H) c x
logged_in-now B H c d k word block x same sets = record {
  since = [];
  before = H;
  command = k;
  word = word;
  block = block;
  whole = ap (λ n. Call n k word block ∷ H) same;
  sets = sets;
  untouched = refl;
  unbroken = refl;
}

by-call : (B : Base) (H : Past) (c : ℕ) (x : Login) (e : CardEntry) → breaks c H e ≡ false → (in_force B H c x ≡ true → IsLoggedIn B H c x)
    → unwrap_or (by_call (profile B) c (login_after x) e) (in_force B H c x) ≡ true → IsLoggedIn B (e ∷ H) c x
by-call B H c x (Call d k word block) unbroken ih h = own (d == c) refl h
  where
    said : (o : Option Bool) → (d == c) ≡ true → login_after x (ask (profile B) k) word block ≡ o → unwrap_or o (in_force B H c x) ≡ true
        → IsLoggedIn B (Call d k word block ∷ H) c x
    said None same e j = logged_in-more B H c x (Call d k word block) unbroken (rw (same, e) refl) (ih j)
    said (Some true) same e j = logged_in-now B H c d k word block x (eqb-true d c same) e
    said (Some false) same e j = absurd (cc)

    own : (b : Bool) → (d == c) ≡ b
        → unwrap_or (if b then login_after x (ask (profile B) k) word block else None) (in_force B H c x) ≡ true
        → IsLoggedIn B (Call d k word block ∷ H) c x
    own true is j = said (login_after x (ask (profile B) k) word block) is refl j
    own false is j = logged_in-more B H c x (Call d k word block) unbroken (rw is refl) (ih j)
by-call B H c x (Opened d i shared) unbroken ih h = logged_in-more B H c x _ unbroken refl (ih h)
by-call B H c x (Closed d) unbroken ih h = logged_in-more B H c x _ unbroken refl (ih h)
by-call B H c x (Part d) unbroken ih h = logged_in-more B H c x _ unbroken refl (ih h)
by-call B H c x (Rest d) unbroken ih h = logged_in-more B H c x _ unbroken refl (ih h)
by-call B H c x (Bad d word) unbroken ih h = logged_in-more B H c x _ unbroken refl (ih h)
by-call B H c x (Reset i) unbroken ih h = logged_in-more B H c x _ unbroken refl (ih h)
by-call B H c x (Cut r) unbroken ih h = logged_in-more B H c x _ unbroken refl (ih h)
by-call B H c x (Up t) unbroken ih h = logged_in-more B H c x _ unbroken refl (ih h)
by-call B H c x (Note a w) unbroken ih h = logged_in-more B H c x _ unbroken refl (ih h)

-- a login in force was set by a Call of c, and nothing broke c since
pub logged_in : (B : Base) (H : Past) (c : ℕ) (x : Login) → in_force B H c x ≡ true → IsLoggedIn B H c x
logged_in B [] c x h = absurd (cc)
logged_in B (e ∷ H) c x h = go (breaks c H e) refl (logged_in B H c x) h
  where
    go : (b : Bool) → breaks c H e ≡ b → (in_force B H c x ≡ true → IsLoggedIn B H c x)
        → unwrap_or (if b then Some false else by_call (profile B) c (login_after x) e) (in_force B H c x) ≡ true → IsLoggedIn B (e ∷ H) c x
    go true is ih j = absurd (cc)
    go false is ih j = by-call B H c x e is ih j

-- ---- rules

contact : (i : Interface) → is_contact i ≡ true → i ≡ Contact
contact Contact h = refl
contact Contactless h = absurd (cc)

and-first : (a b : Bool) → (a && b) ≡ true → a ≡ true
and-first true b h = refl
and-first false b h = absurd (cc)

and-last : (a b : Bool) → (a && b) ≡ true → b ≡ true
and-last true b h = h
and-last false b h = absurd (cc)

or-either : (a b : Bool) → (a || b) ≡ true → (a ≡ true) ⊎ (b ≡ true)
or-either true b h = inl refl
or-either false b h = inr h

pin_entitled : (B : Base) (H : Past) (c : ℕ)
    → (in_force B H c login.Pin ≡ true) ⊎ ((in_force B H c login.Global && global_counts (mem B H)) ≡ true)
    → IsLoggedIn B H c login.Pin ⊎ (IsLoggedIn B H c login.Global × (global_counts (mem B H) ≡ true))
pin_entitled B H c (inl h) = inl (logged_in B H c login.Pin h)
pin_entitled B H c (inr h) = inr (logged_in B H c login.Global (and-first _ _ h), and-last (in_force B H c login.Global) _ h)

entitled-holds : (B : Base) (H : Past) (c : ℕ) (r : Rule) → holds (situation_of B H c) r ≡ true → IsEntitled B H c r
unfolding channel
entitled-holds B H c rule.Always h = tt
entitled-holds B H c rule.ContactUse h = contact (side H c) h
entitled-holds B H c rule.Pin h =
    (contact (side H c) (and-first _ _ h), pin_entitled B H c (or-either (in_force B H c login.Pin) _ (and-last (is_contact (side H c)) _ h)))
entitled-holds B H c rule.Admin h =
    (contact (side H c) (and-first _ _ h), logged_in B H c login.Admin (and-last (is_contact (side H c)) _ h))
entitled-holds B H c rule.Never h = absurd (cc)
entitled-holds B H c rule.Response h = absurd (cc)

-- ---- answers

refused-holds : (s : Situation) (a : Ask) (w : ℕ) → refusal a ≡ Some w → holds s (rule_of s.interface a) ≡ true
refused-holds s (Refused v) w h = refl
refused-holds s a w h = absurd (cc)

-- what is granted had its rule
granted-holds : (s : Situation) (a : Ask) → is_granted (answer_to s a).word ≡ true → holds s (rule_of s.interface a) ≡ true
granted-holds s a h = go s.channel.piv (refusal a) (holds s (rule_of s.interface a)) (refused-holds s a) (sym (ap is_granted (answer_to-word s a)) ∙ h)
  where
    go : (piv : Bool) (refused : Option ℕ) (held : Bool) → ((w : ℕ) → refused ≡ Some w → held ≡ true)
        → is_granted (word_by (record (conditions s a) { piv = piv; refusal = refused; permitted = held })) ≡ true → held ≡ true
    go false r held f j = absurd (cc)
    go true (Some w) held f j = f w refl
    go true None true f j = refl
    go true None false f j = absurd (cc)

pub UsesAreEntitled-law : UsesAreEntitled
unfolding answer answer_in
UsesAreEntitled-law B H c k word block legal granted other =
    let is_word : word ≡ (answer_to (situation_of B H c) (ask (profile B) k)).word = rw other at legal.1.2 in
    entitled-holds B H c _ (granted-holds (situation_of B H c) (ask (profile B) k) (sym (ap is_granted is_word) ∙ granted))

-- where the rule holds, 69 82 is the word of a wrong response
wrong-only : (piv lacks wrong blocked unequal unknown absent full : Bool) (n : ℕ) → n ≤ 15
    → (if not piv then 0x6D00
    else if lacks then 0x6A80
    else if wrong then 0x6982
    else if blocked then 0x6983
    else if unequal then tries_word (n - 1)
    else if unknown then tries_word n
    else if absent then 0x6A82
    else if full then 0x6A84
    else 0x9000) ≡ 0x6982 → wrong ≡ true
wrong-only piv lacks wrong blocked unequal unknown absent full n few h = grind (arith, nat_tests)

denied-wrong : (t : Conditions) → t.refusal ≡ None → t.permitted ≡ true → t.tries ≤ 15 → word_by t ≡ 0x6982 → t.wrong ≡ true
denied-wrong t formed held few h =
    wrong-only t.piv t.lacks_pending t.wrong t.blocked t.differs t.unknown_login t.absent t.no_room t.tries few (rw (formed, held) at h)

few-left : (m : Memory) (a : Ask) → ((r : RefId) → (reference m r).tries ≤ 15) → tries_left m a ≤ 15
few-left m (Compare r p purpose) few = few r
few-left m (Query r) few = few r
few-left m a few = omega arith

pub OnlyWrongResponsesAreDenied-law : OnlyWrongResponsesAreDenied
unfolding answer answer_in channel
OnlyWrongResponsesAreDenied-law B H c k valid other formed held h =
    let is_word : (answer_to (situation_of B H c) (ask (profile B) k)).word ≡ 0x6982 = rw other at h in
    denied-wrong (conditions (situation_of B H c) (ask (profile B) k)) formed held
    (few-left (mem B H) (ask (profile B) k) (few-tries B H valid)) (sym (answer_to-word (situation_of B H c) (ask (profile B) k)) ∙ is_word)

pub ruleset use_laws = (UsesAreEntitled-law, OnlyWrongResponsesAreDenied-law)
