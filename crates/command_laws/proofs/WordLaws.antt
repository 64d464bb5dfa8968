-- When each status word comes: the table read for each thing that can be asked.
use Rattle.std.specs.Prelude.{if◌then◌else◌, not, ◌&&◌, ◌||◌, ◌↔◌, ◌⊎◌, length}
use Rattle.std.specs.Str.{bytes_eq}
use Rattle.std.proofs.Common.{◌≡◌, ◌≢◌, ◌≤◌, ◌<◌, ℕ, ◌-◌, Bool, true, false, List, Option, Some, None, refl, ap, ◌∙◌, arith, subst, inl, inr}
use Rattle.std.proofs.lemmas.Bool.Decides.{nat_tests}
use Rattle.piv_model.specs.declared.kinds.Interface.{Interface}
use Rattle.piv_model.specs.declared.kinds.Interface.TheVariants.{Contact, Contactless}
use Rattle.piv_model.specs.declared.kinds.Rule.{Rule}
use Rattle.piv_model.specs.declared.kinds.Rule.TheVariants as rule
use Rattle.piv_model.specs.declared.kinds.RefId.{RefId}
use Rattle.piv_model.specs.declared.kinds.RefId.TheVariants.{Pin, Puk, GlobalPin}
use Rattle.piv_model.specs.Commands.{CardCommand}
use Rattle.piv_model.specs.Entries.{Past}
use Rattle.piv_model.specs.Memory.{CardKey, reference, stored, fits}
use Rattle.piv_model.specs.Objects.{read_rule_of}
use Rattle.piv_model.specs.Base.{Base}
use Rattle.piv_model.specs.StatusWords.{tries_word}
use Rattle.piv_rules.specs.declared.lookback.Login.TheVariants as login
use Rattle.piv_rules.specs.StatusWords.{is_mismatched}
use Rattle.piv_rules.specs.Asks.{Ask, Refused, Get, Put, Logout, Query, Compare, Internal, AskChallenge, External, AskWitness, Mutual, Purpose}
use Rattle.piv_rules.specs.Connections.{side, selected}
use Rattle.piv_rules.specs.Logins.{in_force, Pending, NonePending, Challenge, Witness, pending}
use Rattle.piv_rules.specs.Channels.{channel}
use Rattle.piv_rules.specs.Memories.{mem, tries, secret, object}
use Rattle.piv_rules.specs.Answers.{Situation, Reply, only, situation_of, holds, status, is_contact, global_counts, object_data, data_of, lacks_pending, is_wrong, enciphered, template_with, answer, answer_in, answer_to}
use Rattle.piv_rules.proofs.Memories.{stored-mem, reference-mem}
use Rattle.command_laws.specs.AnswerWords.{AsksFor, IsReady, Allows, is_logged_in, SelectWords, RefusedWords, GetWords, PutWords, CompareWords, QueryWords, IsServedOnContact, LogoutWords, RequestWords, IsResponseReply, ResponseWords, InternalWords, right_response, right_witness}
use Rattle.command_laws.proofs.Limits.{few-tries}

-- the answer to a command that isn't SELECT
answer-asks : (B : Base) (H : Past) (c : ℕ) (k : CardCommand) (a : Ask) → AsksFor B k a → answer B H c k ≡ answer_to (situation_of B H c) a
unfolding answer answer_in
answer-asks B H c k a asks = rw (asks.0, asks.1) refl

pub SelectWords-law : SelectWords
unfolding answer answer_in
SelectWords-law B H c k is = ((λ w asks. rw (is, asks) refl), (λ asks. rw (is, asks) refl), (λ asks. rw (is, asks) refl))

refused-reply : (s : Situation) (w : ℕ) → (s.channel.piv ≡ false → answer_to s (Refused w) ≡ only 0x6D00) × (s.channel.piv ≡ true → answer_to s (Refused w) ≡ only w)
unfolding answer_to
refused-reply s w = ((λ h. rw h refl), (λ h. rw h refl))

pub RefusedWords-law : RefusedWords
unfolding channel
RefusedWords-law B H c k w asks = rw (answer-asks B H c k (Refused w) asks) (refused-reply (situation_of B H c) w)

-- ---- contact

-- a side is one of two
contact-is : (i : Interface) → (is_contact i ≡ true) ↔ (i ≡ Contact)
contact-is Contact = ((λ h. refl), (λ h. refl))
contact-is Contactless = ((λ h. absurd (cc)), (λ h. absurd (other h)))
  where
    other : ¬ (Contactless ≡ Contact)
    other h = let f = ap is_contact h in cc

contactless-is : (i : Interface) → (is_contact i ≡ false) ↔ (i ≡ Contactless)
contactless-is Contactless = ((λ h. refl), (λ h. refl))
contactless-is Contact = ((λ h. absurd (cc)), (λ h. absurd (other h)))
  where
    other : ¬ (Contact ≡ Contactless)
    other h = let f = ap is_contact h in cc

-- ---- GET DATA and PUT DATA

get-unselected : (s : Situation) (id : ℕ) → ((answer_to s (Get id)).word ≡ 0x6D00) ↔ (s.channel.piv ≡ false)
unfolding answer_to
get-unselected s id = grind (arith, nat_tests)

get-denied : (s : Situation) (id : ℕ) → ((answer_to s (Get id)).word ≡ 0x6982) ↔ ((s.channel.piv ≡ true) × (holds s (read_rule_of id s.interface) ≡ false))
unfolding answer_to
get-denied s id = grind (arith, nat_tests)

get-absent : (s : Situation) (id : ℕ) (v : List ℕ) → stored s.memory id ≡ v → ((answer_to s (Get id)).word ≡ 0x6A82)
    ↔ ((s.channel.piv ≡ true) × (holds s (read_rule_of id s.interface) ≡ true) × (length v ≡ 0))
unfolding answer_to
get-absent s id v h = rw (← h) (grind (arith, nat_tests))

get-served : (s : Situation) (id : ℕ) (v : List ℕ) → stored s.memory id ≡ v → ((answer_to s (Get id)).word ≡ 0x9000)
    ↔ ((s.channel.piv ≡ true) × (holds s (read_rule_of id s.interface) ≡ true) × (length v ≢ 0))
unfolding answer_to
get-served s id v h = rw (← h) (grind (arith, nat_tests))

get-value : (s : Situation) (id : ℕ) (v : List ℕ) → stored s.memory id ≡ v → (answer_to s (Get id)).word ≡ 0x9000
    → (answer_to s (Get id)).body ≡ object_data id v
unfolding answer_to
get-value s id v h = rw (← h) (λ granted. grind (arith, nat_tests))

-- the side and the logins of a history, against the test of an access rule
abbrev sided : Base → Past → ℕ → Bool → Type 0
sided B H c b = (b ≡ true) ↔ (side H c ≡ Contact)

both-iff : (a b : Bool) (P Q : Type 0) → ((a ≡ true) ↔ P) → ((b ≡ true) ↔ Q) → ((a && b) ≡ true) ↔ (P × Q)
both-iff true b P Q h k = ((λ e. (h.0 refl, k.0 e)), (λ p. k.1 p.1))
both-iff false b P Q h k = ((λ e. absurd (cc)), (λ p. absurd (let f = h.1 p.0 in cc)))

either-iff : (a b : Bool) → ((a || b) ≡ true) ↔ ((a ≡ true) ⊎ (b ≡ true))
either-iff true b = ((λ e. inl refl), (λ p. refl))
either-iff false true = ((λ e. inr refl), (λ p. refl))
either-iff false false = ((λ e. absurd (cc)), (λ p. absurd (neither p)))
  where
    neither : ((false ≡ true) ⊎ (false ≡ true)) → ⊥
    neither (inl e) = cc
    neither (inr e) = cc

pin-iff : (a b g : Bool) → ((a || (b && g)) ≡ true) ↔ ((a ≡ true) ⊎ ((b ≡ true) × (g ≡ true)))
pin-iff a b g = let e = either-iff a (b && g) in let k = both-iff b g (b ≡ true) (g ≡ true) ((λ x. x), (λ x. x)) ((λ x. x), (λ x. x)) in
    ((λ h. to k (e.0 h)), (λ h. e.1 (from k h)))
  where
    to : (((b && g) ≡ true) ↔ ((b ≡ true) × (g ≡ true))) → ((a ≡ true) ⊎ ((b && g) ≡ true)) → (a ≡ true) ⊎ ((b ≡ true) × (g ≡ true))
    to k (inl h) = inl h
    to k (inr h) = inr (k.0 h)

    from : (((b && g) ≡ true) ↔ ((b ≡ true) × (g ≡ true))) → ((a ≡ true) ⊎ ((b ≡ true) × (g ≡ true))) → (a ≡ true) ⊎ ((b && g) ≡ true)
    from k (inl h) = inl h
    from k (inr h) = inr (k.1 h)

allows : (B : Base) (H : Past) (c : ℕ) (r : Rule) → (holds (situation_of B H c) r ≡ true) ↔ Allows B H c r
unfolding channel
allows B H c rule.Always = ((λ h. tt), (λ h. refl))
allows B H c rule.ContactUse = contact-is (side H c)
allows B H c rule.Pin =
    both-iff (is_contact (side H c)) _ _ _ (contact-is (side H c))
    (pin-iff (in_force B H c login.Pin) (in_force B H c login.Global) (global_counts (mem B H)))
allows B H c rule.Admin = both-iff (is_contact (side H c)) _ _ _ (contact-is (side H c)) ((λ h. h), (λ h. h))
allows B H c rule.Never = ((λ h. absurd (cc)), (λ h. absurd h))
allows B H c rule.Response = ((λ h. absurd (cc)), (λ h. absurd h))

-- where the test fails, and where it holds
denied-by : {A P : Type 0} (p : Bool) (h : Bool) → ((h ≡ true) ↔ P) → (A ↔ ((p ≡ true) × (h ≡ false))) → A ↔ ((p ≡ true) × ¬ P)
denied-by p true e k = ((λ a. absurd (let f = (k.0 a).1 in cc)), (λ q. absurd (q.1 (e.0 refl))))
denied-by p false e k = ((λ a. ((k.0 a).0, (λ x. let f = e.1 x in cc))), (λ q. k.1 (q.0, refl)))

allowed-by : {A P Q : Type 0} (p : Bool) (h : Bool) → ((h ≡ true) ↔ P) → (A ↔ ((p ≡ true) × (h ≡ true) × Q)) → A ↔ ((p ≡ true) × P × Q)
allowed-by p h e k = ((λ a. let x = k.0 a in (x.0, e.0 x.1, x.2)), (λ q. k.1 (q.0, e.1 q.1, q.2)))

pub GetWords-law : GetWords
unfolding channel
GetWords-law B H c id k asks small =
    let is = stored-mem B H id small in
    let allowed = allows B H c (read_rule_of id (side H c)) in
    rw (answer-asks B H c k (Get id) asks) (record {
      unselected = get-unselected (situation_of B H c) id;
      denied = denied-by (selected B H c) (holds (situation_of B H c) (read_rule_of id (side H c))) allowed (get-denied (situation_of B H c) id);
      absent = allowed-by (selected B H c) _ allowed (get-absent (situation_of B H c) id (object B H id) is);
      served = allowed-by (selected B H c) _ allowed (get-served (situation_of B H c) id (object B H id) is);
      value = get-value (situation_of B H c) id (object B H id) is;
    })

put-unselected : (s : Situation) (id : ℕ) (v : List ℕ) → ((answer_to s (Put id v)).word ≡ 0x6D00) ↔ (s.channel.piv ≡ false)
unfolding answer_to
put-unselected s id v = grind (arith, nat_tests)

put-denied : (s : Situation) (id : ℕ) (v : List ℕ) → ((answer_to s (Put id v)).word ≡ 0x6982)
    ↔ ((s.channel.piv ≡ true) × (holds s rule.Admin ≡ false))
unfolding answer_to
put-denied s id v = grind (arith, nat_tests)

put-full : (s : Situation) (id : ℕ) (v : List ℕ) → ((answer_to s (Put id v)).word ≡ 0x6A84)
    ↔ ((s.channel.piv ≡ true) × (holds s rule.Admin ≡ true) × (fits s.memory v ≡ false))
unfolding answer_to
put-full s id v = grind (arith, nat_tests)

put-served : (s : Situation) (id : ℕ) (v : List ℕ) → ((answer_to s (Put id v)).word ≡ 0x9000)
    ↔ ((s.channel.piv ≡ true) × (holds s rule.Admin ≡ true) × (fits s.memory v ≡ true))
unfolding answer_to
put-served s id v = grind (arith, nat_tests)

pub PutWords-law : PutWords
unfolding channel
PutWords-law B H c id v k asks =
    let allowed = allows B H c rule.Admin in
    rw (answer-asks B H c k (Put id v) asks) (record {
      unselected = put-unselected (situation_of B H c) id v;
      denied = denied-by (selected B H c) (holds (situation_of B H c) rule.Admin) allowed (put-denied (situation_of B H c) id v);
      full = allowed-by (selected B H c) _ allowed (put-full (situation_of B H c) id v);
      served = allowed-by (selected B H c) _ allowed (put-served (situation_of B H c) id v);
    })

-- ---- comparisons

compare-unselected : (s : Situation) (ref : RefId) (p : List ℕ) (purpose : Purpose) → (reference s.memory ref).tries ≤ 15
    → ((answer_to s (Compare ref p purpose)).word ≡ 0x6D00) ↔ (s.channel.piv ≡ false)
unfolding answer_to
compare-unselected s ref p purpose few = grind (arith, nat_tests)

compare-denied : (s : Situation) (ref : RefId) (p : List ℕ) (purpose : Purpose) → (reference s.memory ref).tries ≤ 15
    → ((answer_to s (Compare ref p purpose)).word ≡ 0x6982) ↔ ((s.channel.piv ≡ true) × (s.interface ≡ Contactless))
unfolding answer_to
compare-denied s ref p purpose few = let i = contactless-is s.interface in grind (arith, nat_tests)

compare-blocked : (s : Situation) (ref : RefId) (p : List ℕ) (purpose : Purpose) → (reference s.memory ref).tries ≤ 15
    → ((answer_to s (Compare ref p purpose)).word ≡ 0x6983)
    ↔ (((s.channel.piv ≡ true) × (s.interface ≡ Contact)) × ((reference s.memory ref).tries ≡ 0))
unfolding answer_to
compare-blocked s ref p purpose few = let i = contact-is s.interface in grind (arith, nat_tests)

compare-differs : (s : Situation) (ref : RefId) (p : List ℕ) (purpose : Purpose) → (reference s.memory ref).tries ≤ 15
    → (is_mismatched (answer_to s (Compare ref p purpose)).word ≡ true)
    ↔ (((s.channel.piv ≡ true) × (s.interface ≡ Contact)) × (0 < (reference s.memory ref).tries) × (bytes_eq p (reference s.memory ref).secret ≡ false))
unfolding answer_to
compare-differs s ref p purpose few = let i = contact-is s.interface in grind (arith, nat_tests)

compare-left : (s : Situation) (ref : RefId) (p : List ℕ) (purpose : Purpose) → (reference s.memory ref).tries ≤ 15
    → is_mismatched (answer_to s (Compare ref p purpose)).word ≡ true
    → (answer_to s (Compare ref p purpose)).word ≡ tries_word ((reference s.memory ref).tries - 1)
unfolding answer_to
compare-left s ref p purpose few h = grind (arith, nat_tests)

compare-served : (s : Situation) (ref : RefId) (p : List ℕ) (purpose : Purpose) → (reference s.memory ref).tries ≤ 15
    → ((answer_to s (Compare ref p purpose)).word ≡ 0x9000)
    ↔ (((s.channel.piv ≡ true) × (s.interface ≡ Contact)) × (0 < (reference s.memory ref).tries) × (bytes_eq p (reference s.memory ref).secret ≡ true))
unfolding answer_to
compare-served s ref p purpose few = let i = contact-is s.interface in grind (arith, nat_tests)

-- the reply to a comparison, over a situation whose reference has so many tries and this secret
record IsCompared (s : Situation) (n : ℕ) (q p : List ℕ) (r : Reply) : Type 0 where
  unselected : (r.word ≡ 0x6D00) ↔ (s.channel.piv ≡ false)
  denied : (r.word ≡ 0x6982) ↔ ((s.channel.piv ≡ true) × (s.interface ≡ Contactless))
  blocked : (r.word ≡ 0x6983) ↔ (((s.channel.piv ≡ true) × (s.interface ≡ Contact)) × (n ≡ 0))
  differs : (is_mismatched r.word ≡ true) ↔ (((s.channel.piv ≡ true) × (s.interface ≡ Contact)) × (0 < n) × (bytes_eq p q ≡ false))
  left : is_mismatched r.word ≡ true → r.word ≡ tries_word (n - 1)
  served : (r.word ≡ 0x9000) ↔ (((s.channel.piv ≡ true) × (s.interface ≡ Contact)) × (0 < n) × (bytes_eq p q ≡ true))

compared-now : (s : Situation) (ref : RefId) (p : List ℕ) (purpose : Purpose) → (reference s.memory ref).tries ≤ 15
    → IsCompared s (reference s.memory ref).tries (reference s.memory ref).secret p (answer_to s (Compare ref p purpose))
compared-now s ref p purpose few = record {
  unselected = compare-unselected s ref p purpose few;
  denied = compare-denied s ref p purpose few;
  blocked = compare-blocked s ref p purpose few;
  differs = compare-differs s ref p purpose few;
  left = compare-left s ref p purpose few;
  served = compare-served s ref p purpose few;
}

pub CompareWords-law : CompareWords
unfolding channel
CompareWords-law B H c ref p purpose k valid have asks =
    let is = reference-mem B H ref have in
    let few = few-tries B H valid ref in
    let now : IsCompared (situation_of B H c) (tries B H ref) (secret B H ref) p (answer B H c k) =
    rw (answer-asks B H c k (Compare ref p purpose) asks)
    (subst (λ x. IsCompared (situation_of B H c) x.tries x.secret p (answer_to (situation_of B H c) (Compare ref p purpose))) is
    (compared-now (situation_of B H c) ref p purpose few)) in
    record {
      unselected = now.unselected;
      denied = now.denied;
      blocked = now.blocked;
      differs = now.differs;
      left = now.left;
      served = now.served;
    }

-- ---- queries and logouts

record IsQueried (s : Situation) (ref : RefId) (n : ℕ) (r : Reply) : Type 0 where
  unselected : (r.word ≡ 0x6D00) ↔ (s.channel.piv ≡ false)
  denied : (r.word ≡ 0x6982) ↔ ((s.channel.piv ≡ true) × (s.interface ≡ Contactless))
  differs : (is_mismatched r.word ≡ true) ↔ (((s.channel.piv ≡ true) × (s.interface ≡ Contact)) × (status s.channel ref ≡ false))
  left : is_mismatched r.word ≡ true → r.word ≡ tries_word n
  served : (r.word ≡ 0x9000) ↔ (((s.channel.piv ≡ true) × (s.interface ≡ Contact)) × (status s.channel ref ≡ true))

query-unselected : (s : Situation) (ref : RefId) → (reference s.memory ref).tries ≤ 15 → ((answer_to s (Query ref)).word ≡ 0x6D00) ↔ (s.channel.piv ≡ false)
unfolding answer_to
query-unselected s ref few = grind (arith, nat_tests)

query-denied : (s : Situation) (ref : RefId) → (reference s.memory ref).tries ≤ 15
    → ((answer_to s (Query ref)).word ≡ 0x6982) ↔ ((s.channel.piv ≡ true) × (s.interface ≡ Contactless))
unfolding answer_to
query-denied s ref few = let i = contactless-is s.interface in grind (arith, nat_tests)

query-differs : (s : Situation) (ref : RefId) → (reference s.memory ref).tries ≤ 15
    → (is_mismatched (answer_to s (Query ref)).word ≡ true) ↔ (((s.channel.piv ≡ true) × (s.interface ≡ Contact)) × (status s.channel ref ≡ false))
unfolding answer_to
query-differs s ref few = let i = contact-is s.interface in grind (arith, nat_tests)

query-left : (s : Situation) (ref : RefId) → (reference s.memory ref).tries ≤ 15 → is_mismatched (answer_to s (Query ref)).word ≡ true
    → (answer_to s (Query ref)).word ≡ tries_word (reference s.memory ref).tries
unfolding answer_to
query-left s ref few h = grind (arith, nat_tests)

query-served : (s : Situation) (ref : RefId) → (reference s.memory ref).tries ≤ 15
    → ((answer_to s (Query ref)).word ≡ 0x9000) ↔ (((s.channel.piv ≡ true) × (s.interface ≡ Contact)) × (status s.channel ref ≡ true))
unfolding answer_to
query-served s ref few = let i = contact-is s.interface in grind (arith, nat_tests)

queried-now : (s : Situation) (ref : RefId) → (reference s.memory ref).tries ≤ 15
    → IsQueried s ref (reference s.memory ref).tries (answer_to s (Query ref))
queried-now s ref few = record {
  unselected = query-unselected s ref few;
  denied = query-denied s ref few;
  differs = query-differs s ref few;
  left = query-left s ref few;
  served = query-served s ref few;
}

status-is : (B : Base) (H : Past) (c : ℕ) (r : RefId) → status (channel B H c) r ≡ is_logged_in B H c r
unfolding channel
status-is B H c Pin = refl
status-is B H c Puk = refl
status-is B H c GlobalPin = refl

pub QueryWords-law : QueryWords
unfolding channel
QueryWords-law B H c ref k valid have asks =
    let is = reference-mem B H ref have in
    let few = few-tries B H valid ref in
    let now : IsQueried (situation_of B H c) ref (tries B H ref) (answer B H c k) =
    rw (answer-asks B H c k (Query ref) asks)
    (subst (λ x. IsQueried (situation_of B H c) ref x.tries (answer_to (situation_of B H c) (Query ref))) is
    (queried-now (situation_of B H c) ref few)) in
    let login : status (channel B H c) ref ≡ is_logged_in B H c ref = status-is B H c ref in
    record {
      unselected = now.unselected;
      denied = now.denied;
      differs = subst (λ (b : Bool). (is_mismatched (answer B H c k).word ≡ true) ↔ (IsReady B H c × (b ≡ false))) login now.differs;
      left = now.left;
      served = subst (λ (b : Bool). ((answer B H c k).word ≡ 0x9000) ↔ (IsReady B H c × (b ≡ true))) login now.served;
    }

-- an ask whose only bars are the application and the contact interface
abbrev asks_contact : Ask → Bool
asks_contact (Logout r) = true
asks_contact AskChallenge = true
asks_contact AskWitness = true
asks_contact _ = false

on_contact : (s : Situation) (w : ℕ)
    → w ≡ (if not s.channel.piv then 0x6D00 else if not (is_contact s.interface) then 0x6982 else 0x9000)
    → ((w ≡ 0x6D00) ↔ (s.channel.piv ≡ false)) × ((w ≡ 0x6982) ↔ ((s.channel.piv ≡ true) × (s.interface ≡ Contactless)))
    × ((w ≡ 0x9000) ↔ ((s.channel.piv ≡ true) × (s.interface ≡ Contact)))
on_contact s w h = (grind (arith, nat_tests), let i = contactless-is s.interface in grind (arith, nat_tests), let i = contact-is s.interface in grind (arith, nat_tests))

contact-word : (s : Situation) (a : Ask) → asks_contact a ≡ true
    → (answer_to s a).word ≡ (if not s.channel.piv then 0x6D00 else if not (is_contact s.interface) then 0x6982 else 0x9000)
unfolding answer_to
contact-word s (Logout r) h = grind (arith, nat_tests)
contact-word s AskChallenge h = grind (arith, nat_tests)
contact-word s AskWitness h = grind (arith, nat_tests)
contact-word s a h = absurd (cc)

served-on_contact : (B : Base) (H : Past) (c : ℕ) (k : CardCommand) (a : Ask) → asks_contact a ≡ true → AsksFor B k a
    → IsServedOnContact B H c (answer B H c k)
unfolding channel
served-on_contact B H c k a is asks =
    let facts = on_contact (situation_of B H c) (answer_to (situation_of B H c) a).word (contact-word (situation_of B H c) a is) in
    rw (answer-asks B H c k a asks) (record { unselected = facts.0; denied = facts.1; served = facts.2 })

pub LogoutWords-law : LogoutWords
LogoutWords-law B H c ref k asks = served-on_contact B H c k (Logout ref) refl asks

granted-data : (s : Situation) (a : Ask) → (a ≡ AskChallenge) ⊎ (a ≡ AskWitness) → (answer_to s a).word ≡ 0x9000 → (answer_to s a).body ≡ data_of s a
unfolding answer_to
granted-data s a (inl e) = rw e (λ h. grind (arith, nat_tests))
granted-data s a (inr e) = rw e (λ h. grind (arith, nat_tests))

pub RequestWords-law : RequestWords
unfolding mem channel
RequestWords-law B H c k = (
  (λ asks. (
    served-on_contact B H c k AskChallenge refl asks,
    rw (answer-asks B H c k AskChallenge asks) (granted-data (situation_of B H c) AskChallenge (inl refl)),
  )),
  (λ asks. (
    served-on_contact B H c k AskWitness refl asks,
    rw (answer-asks B H c k AskWitness asks) (granted-data (situation_of B H c) AskWitness (inr refl)),
  )),
)

-- ---- responses

record IsResponded (s : Situation) (right : Option Bool) (w : ℕ) : Type 0 where
  unselected : (w ≡ 0x6D00) ↔ (s.channel.piv ≡ false)
  denied : (w ≡ 0x6982) ↔ (((s.channel.piv ≡ true) × (s.interface ≡ Contactless)) ⊎ (((s.channel.piv ≡ true) × (s.interface ≡ Contact)) × (right ≡ Some false)))
  not_pending : (w ≡ 0x6A80) ↔ (((s.channel.piv ≡ true) × (s.interface ≡ Contact)) × (right ≡ None))
  served : (w ≡ 0x9000) ↔ (((s.channel.piv ≡ true) × (s.interface ≡ Contact)) × (right ≡ Some true))

abbrev response_word : Bool → Bool → Option Bool → ℕ
response_word false contact right = 0x6D00
response_word true false right = 0x6982
response_word true true None = 0x6A80
response_word true true (Some false) = 0x6982
response_word true true (Some true) = 0x9000

-- when each word of a response comes
responded : (s : Situation) (right : Option Bool) (w : ℕ) → w ≡ response_word s.channel.piv (is_contact s.interface) right → IsResponded s right w
responded s None w h = record {
  unselected = let i = contact-is s.interface in grind (arith, nat_tests);
  denied = let i = contact-is s.interface in let j = contactless-is s.interface in grind (arith, nat_tests);
  not_pending = let i = contact-is s.interface in grind (arith, nat_tests);
  served = let i = contact-is s.interface in grind (arith, nat_tests);
}
responded s (Some right) w h = record {
  unselected = let i = contact-is s.interface in grind (arith, nat_tests);
  denied = let i = contact-is s.interface in let j = contactless-is s.interface in grind (arith, nat_tests);
  not_pending = let i = contact-is s.interface in grind (arith, nat_tests);
  served = let i = contact-is s.interface in grind (arith, nat_tests);
}

-- the words of a response, by whether it is right
abbrev response_if : Bool → Bool → Bool → Bool → ℕ
response_if piv contact lacks wrong =
    if not piv then 0x6D00 else if not contact then 0x6982 else if lacks then 0x6A80 else if wrong then 0x6982 else 0x9000

right-if : (b : Bool) (piv contact : Bool) → response_if piv contact false (not b) ≡ response_word piv contact (Some b)
right-if b false contact = refl
right-if b true false = refl
right-if true true true = refl
right-if false true true = refl

none-if : (wrong : Bool) (piv contact : Bool) → response_if piv contact true wrong ≡ response_word piv contact None
none-if wrong false contact = refl
none-if wrong true false = refl
none-if wrong true true = refl

external-if : (s : Situation) (x : List ℕ) → (answer_to s (External x)).word
    ≡ response_if s.channel.piv (is_contact s.interface) (lacks_pending s.channel.pending (External x)) (is_wrong s.memory.admin s.channel.pending (External x))
unfolding answer_to
external-if s x = grind (arith, nat_tests)

mutual-if : (s : Situation) (w x : List ℕ) → (answer_to s (Mutual w x)).word
    ≡ response_if s.channel.piv (is_contact s.interface) (lacks_pending s.channel.pending (Mutual w x)) (is_wrong s.memory.admin s.channel.pending (Mutual w x))
unfolding answer_to
mutual-if s w x = grind (arith, nat_tests)

mutual-data : (s : Situation) (w x : List ℕ) → (answer_to s (Mutual w x)).word ≡ 0x9000
    → (answer_to s (Mutual w x)).body ≡ data_of s (Mutual w x)
unfolding answer_to
mutual-data s w x h = grind (arith, nat_tests)

external-right : (B : Base) (x : List ℕ) (p : Pending) (piv contact : Bool)
    → response_if piv contact (lacks_pending p (External x)) (is_wrong B.memory.admin p (External x)) ≡ response_word piv contact (right_response B x p)
external-right B x (Challenge block) piv contact = right-if (bytes_eq x (enciphered B.memory.admin block)) piv contact
external-right B x (Witness block) piv contact = none-if false piv contact
external-right B x NonePending piv contact = none-if false piv contact

mutual-right : (key : CardKey) (w x : List ℕ) (p : Pending) (piv contact : Bool)
    → response_if piv contact (lacks_pending p (Mutual w x)) (is_wrong key p (Mutual w x)) ≡ response_word piv contact (right_witness w p)
mutual-right key w x (Witness block) piv contact = right-if (bytes_eq w block) piv contact
mutual-right key w x (Challenge block) piv contact = none-if false piv contact
mutual-right key w x NonePending piv contact = none-if false piv contact

responses : (B : Base) (H : Past) (c : ℕ) (right : Option Bool) (r : Reply)
    → r.word ≡ response_word (selected B H c) (is_contact (side H c)) right → IsResponseReply B H c right r
unfolding channel
responses B H c right r h =
    let facts = responded (situation_of B H c) right r.word h in
    record { unselected = facts.unselected; denied = facts.denied; not_pending = facts.not_pending; served = facts.served }

-- no command changes a key
admin-mem : (B : Base) (H : Past) → (mem B H).admin ≡ B.memory.admin
unfolding mem
admin-mem B H = refl

pub ResponseWords-law : ResponseWords
unfolding channel
ResponseWords-law B H c k = (by_response, by_witness)
  where
    by_response : (x : List ℕ) → AsksFor B k (External x) → IsResponseReply B H c (right_response B x (pending B H c)) (answer B H c k)
    by_response x asks =
        rw (answer-asks B H c k (External x) asks) (responses B H c _ _
        (external-if (situation_of B H c) x ∙ ap (λ key. response_if (selected B H c) (is_contact (side H c)) (lacks_pending (pending B H c) (External x)) (is_wrong key (pending B H c) (External x))) (admin-mem B H)
        ∙ external-right B x (pending B H c) (selected B H c) (is_contact (side H c))))

    by_witness : (w x : List ℕ) → AsksFor B k (Mutual w x) → IsResponseReply B H c (right_witness w (pending B H c)) (answer B H c k)
        × ((answer B H c k).word ≡ 0x9000 → (answer B H c k).body ≡ template_with 0x82 (enciphered B.memory.admin x))
    by_witness w x asks =
        rw (answer-asks B H c k (Mutual w x) asks) (
          responses B H c _ _ (mutual-if (situation_of B H c) w x ∙ mutual-right (mem B H).admin w x (pending B H c) (selected B H c) (is_contact (side H c))),
          λ granted. mutual-data (situation_of B H c) w x granted ∙ ap (λ key. template_with 0x82 (enciphered key x)) (admin-mem B H),
        )

internal-reply : (s : Situation) (x : List ℕ) → (s.channel.piv ≡ false → answer_to s (Internal x) ≡ only 0x6D00)
    × (s.channel.piv ≡ true → answer_to s (Internal x) ≡ record { word = 0x9000; body = template_with 0x82 (enciphered s.memory.card_auth x) })
unfolding answer_to
internal-reply s x = ((λ h. rw h refl), (λ h. rw h refl))

pub InternalWords-law : InternalWords
unfolding mem channel
InternalWords-law B H c x k asks = rw (answer-asks B H c k (Internal x) asks) (internal-reply (situation_of B H c) x)

pub ruleset word_laws = (
  SelectWords-law,
  RefusedWords-law,
  GetWords-law,
  PutWords-law,
  CompareWords-law,
  QueryWords-law,
  LogoutWords-law,
  RequestWords-law,
  ResponseWords-law,
  InternalWords-law,
)
