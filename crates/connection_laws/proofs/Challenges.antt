-- Challenges and Witnesses.
use Rattle.std.specs.Prelude.{if◌then◌else◌, ◌==◌, not, ◌&&◌, ◌⊎◌, ◌↔◌, cond, count_by}
use Rattle.std.specs.Str.{bytes_eq}
use Rattle.std.proofs.Common.{◌≡◌, ℕ, ◌+◌, Bool, true, false, List, [], ◌∷◌, ◌++◌, Option, Some, None, refl, ap, sym, ◌∙◌, arith, unwrap_or, inl, inr, eq-eqb, eqb-true}
use Rattle.std.proofs.lemmas.List.Recursion.{is_count_by}
use Rattle.std.proofs.lemmas.Slice.Eq.{bytes_eq-Decides}
use Rattle.piv_model.specs.declared.kinds.Interface.{Interface}
use Rattle.piv_model.specs.declared.kinds.Interface.TheVariants.{Contact, Contactless}
use Rattle.piv_model.specs.Commands.{CardCommand}
use Rattle.piv_model.specs.Entries.{CardEntry, Past, Opened, Closed, Call, Part, Rest, Bad, Reset, Cut, Up, Note}
use Rattle.piv_model.specs.Base.{Base, profile}
use Rattle.piv_rules.specs.StatusWords.{is_granted}
use Rattle.piv_rules.specs.Asks.{Ask, AskChallenge, External, AskWitness, Mutual, ask}
use Rattle.piv_rules.specs.Connections.{breaks, by_call, is_call_on}
use Rattle.piv_rules.specs.Logins.{Pending, NonePending, Challenge, Witness, pending, pending_by, pending_after}
use Rattle.piv_rules.specs.RandomBlocks.{random_block, draws, draws_count, next_block}
use Rattle.piv_rules.specs.Answers.{enciphered, answer, Reply}
use Rattle.piv_rules.specs.Legal.{IsLegal, IsAllowed, asks_block, block_borne}
use Rattle.piv_rules.specs.Lookback.{none_since}
use Rattle.command_laws.specs.AnswerWords.{IsElsewhere, IsReady, IsResponseReply, right_response, right_witness}
use Rattle.command_laws.proofs.WordLaws.{ResponseWords-law}
use Rattle.login_laws.specs.LoginLaws.{requests}
use Rattle.login_laws.proofs.Writers.{other-command}
use Rattle.login_laws.proofs.Bools.{and-first, and-last, granted-word, not-true}
use Rattle.connection_laws.specs.ChallengeLaws.{FollowsRequest, ChallengesFollowRequests, WitnessesFollowRequests, WasCompared, IsResponse, ResponsesAnswerChallenges, MutualsAnswerWitnesses, bears, BlocksComeInTurn, RequestsBearBlocks}
use Rattle.connection_laws.proofs.Openings.{legal-part}

-- ---- blocks

same-requests : (a : Ask) → asks_block a ≡ requests a
same-requests AskChallenge = refl
same-requests AskWitness = refl
same-requests a = refl

-- a block that is borne is the next one, of a granted request
borne : (B : Base) (G : Past) (k : CardCommand) (word : ℕ) (block : List ℕ) → Some block ≡ block_borne B G k word
    → (requests (ask (profile B) k) ≡ true) × (word ≡ 0x9000) × (block ≡ next_block B G)
borne B G k word block h = go (asks_block (ask (profile B) k)) (is_granted word) refl refl h
  where
    go : (a g : Bool) → asks_block (ask (profile B) k) ≡ a → is_granted word ≡ g
        → Some block ≡ (if a && g then Some (next_block B G) else None)
        → (requests (ask (profile B) k) ≡ true) × (word ≡ 0x9000) × (block ≡ next_block B G)
    go true true asks granted e = (sym (same-requests (ask (profile B) k)) ∙ asks, granted-word word granted, (let f : block ≡ next_block B G = cc in f))
    go true false asks granted e = absurd (cc)
    go false g asks granted e = absurd (cc)

-- blocks are counted as the definitions count them
draws-is : (e : CardEntry) → draws e ≡ bears e
draws-is (Call c k word None) = refl
draws-is (Call c k word (Some block)) = refl
draws-is (Opened c i shared) = refl
draws-is (Closed c) = refl
draws-is (Part c) = refl
draws-is (Rest c) = refl
draws-is (Bad c word) = refl
draws-is (Reset i) = refl
draws-is (Cut r) = refl
draws-is (Up t) = refl
draws-is (Note a w) = refl

borne_before : Past → ℕ
borne_before [] = 0
borne_before (e ∷ G) = cond (bears e) (1 + borne_before G) (borne_before G)

same-count : (G : Past) → draws_count G ≡ count_by bears G
unfolding borne_before
same-count G =
    sym (is_count_by borne_before draws refl (λ e G. rw (draws-is e) refl) G) ∙ is_count_by borne_before bears refl (λ e G. refl) G

same-block : (B : Base) (G : Past) → next_block B G ≡ random_block B.random (count_by bears G)
same-block B G = ap (random_block B.random) (same-count G)

pub BlocksComeInTurn-law : BlocksComeInTurn
BlocksComeInTurn-law B L G c k word block legal =
    let b = borne B G k word block (legal-part B L (Call c k word (Some block) ∷ G) legal).1.3 in (b.0, b.1, b.2 ∙ same-block B G)

pub RequestsBearBlocks-law : RequestsBearBlocks
RequestsBearBlocks-law B L G c k block legal asks =
    (legal-part B L (Call c k 0x9000 block ∷ G) legal).1.3 ∙ rw (same-requests (ask (profile B) k) ∙ asks) (ap (λ b. Some b) (same-block B G))

-- ---- what is pending

record WasDrawn (a : Ask) (block : Option (List ℕ)) (request : Ask) (drawn : List ℕ) : Type 0 where
  asks : a ≡ request
  bears : block ≡ Some drawn

drawn-challenge : (a : Ask) (block : Option (List ℕ)) (b : List ℕ) → pending_by a block ≡ Challenge b → WasDrawn a block AskChallenge b
drawn-challenge AskChallenge (Some x) b h = record { asks = refl; bears = ap (λ y. Some y) (let e : x ≡ b = cc in e) }
drawn-challenge AskWitness (Some x) b h = absurd (cc)
drawn-challenge a block b h = absurd (cc)

drawn-witness : (a : Ask) (block : Option (List ℕ)) (b : List ℕ) → pending_by a block ≡ Witness b → WasDrawn a block AskWitness b
drawn-witness AskWitness (Some x) b h = record { asks = refl; bears = ap (λ y. Some y) (let e : x ≡ b = cc in e) }
drawn-witness AskChallenge (Some x) b h = absurd (cc)
drawn-witness a block b h = absurd (cc)

follows-now : (B : Base) (H : Past) (c d : ℕ) (k : CardCommand) (word : ℕ) (block : Option (List ℕ)) (request : Ask) (b : List ℕ) → d ≡ c
    → IsAllowed B H (Call d k word block) → WasDrawn (ask (profile B) k) block request b → FollowsRequest B (Call d k word block ∷ H) c request b
follows-now B H c d k word block request b same allowed w = record {
  since = [];
  command = k;
  before = H;
  whole = (λ j. Call (same j) k ((borne B H k word b (sym w.bears ∙ allowed.3)).1 j) (w.bears j) ∷ H);
  asks = w.asks;
  last = refl;
  unbroken = refl;
}

follows-more : (B : Base) (H : Past) (c : ℕ) (e : CardEntry) (request : Ask) (b : List ℕ) → is_call_on c e ≡ false → breaks c H e ≡ false
    → FollowsRequest B H c request b → FollowsRequest B (e ∷ H) c request b
follows-more B H c e request b other unbroken f = record {
  since = e ∷ f.since;
  command = f.command;
  before = f.before;
  whole = ap (λ G. e ∷ G) f.whole;
  asks = f.asks;
  last = rw other f.last;
  unbroken = rw (← f.whole, unbroken) f.unbroken;
}

-- a way to read what is pending as a request and a block
abbrev Reads : (List ℕ → Pending) → Ask → Type 0
Reads made request =
    ((b : List ℕ) → ¬ (NonePending ≡ made b))
    × ((a : Ask) (block : Option (List ℕ)) (b : List ℕ) → pending_by a block ≡ made b → WasDrawn a block request b)
    × ((b : List ℕ) → pending_by request (Some b) ≡ made b)

call-follows : (B : Base) (H : Past) (c : ℕ) (e : CardEntry) (made : List ℕ → Pending) (request : Ask) (b : List ℕ) → Reads made request
    → breaks c H e ≡ false → IsAllowed B H e → (pending B H c ≡ made b → FollowsRequest B H c request b)
    → unwrap_or (by_call (profile B) c pending_after e) (pending B H c) ≡ made b → FollowsRequest B (e ∷ H) c request b
call-follows B H c (Call d k word block) made request b reads unbroken allowed ih h = go (d == c) refl h
  where
    go : (own : Bool) → (d == c) ≡ own
        → unwrap_or (if own then Some (pending_by (ask (profile B) k) block) else None) (pending B H c) ≡ made b
        → FollowsRequest B (Call d k word block ∷ H) c request b
    go true e j = follows-now B H c d k word block request b (eqb-true d c e) allowed (reads.1 (ask (profile B) k) block b j)
    go false e j = follows-more B H c (Call d k word block) request b e unbroken (ih j)
call-follows B H c (Opened d i shared) made request b reads unbroken allowed ih h = follows-more B H c _ request b refl unbroken (ih h)
call-follows B H c (Closed d) made request b reads unbroken allowed ih h = follows-more B H c _ request b refl unbroken (ih h)
call-follows B H c (Part d) made request b reads unbroken allowed ih h = follows-more B H c _ request b refl unbroken (ih h)
call-follows B H c (Rest d) made request b reads unbroken allowed ih h = follows-more B H c _ request b refl unbroken (ih h)
call-follows B H c (Bad d word) made request b reads unbroken allowed ih h = follows-more B H c _ request b refl unbroken (ih h)
call-follows B H c (Reset i) made request b reads unbroken allowed ih h = follows-more B H c _ request b refl unbroken (ih h)
call-follows B H c (Cut r) made request b reads unbroken allowed ih h = follows-more B H c _ request b refl unbroken (ih h)
call-follows B H c (Up t) made request b reads unbroken allowed ih h = follows-more B H c _ request b refl unbroken (ih h)
call-follows B H c (Note a w) made request b reads unbroken allowed ih h = follows-more B H c _ request b refl unbroken (ih h)

follows : (B : Base) (H : Past) (c : ℕ) (made : List ℕ → Pending) (request : Ask) (b : List ℕ) → Reads made request → IsLegal B H
    → pending B H c ≡ made b → FollowsRequest B H c request b
follows B [] c made request b reads legal h = absurd (reads.0 b h)
follows B (e ∷ H) c made request b reads legal h = go (breaks c H e) refl (follows B H c made request b reads legal.0) h
  where
    go : (broken : Bool) → breaks c H e ≡ broken → (pending B H c ≡ made b → FollowsRequest B H c request b)
        → unwrap_or (if broken then Some NonePending else by_call (profile B) c pending_after e) (pending B H c) ≡ made b
        → FollowsRequest B (e ∷ H) c request b
    go true is ih j = absurd (reads.0 b j)
    go false is ih j = call-follows B H c e made request b reads is legal.1 ih j

other-call : (B : Base) (c : ℕ) (e : CardEntry) → is_call_on c e ≡ false → by_call (profile B) c pending_after e ≡ None
other-call B c (Call d k word block) h = rw h refl
other-call B c (Opened d i shared) h = refl
other-call B c (Closed d) h = refl
other-call B c (Part d) h = refl
other-call B c (Rest d) h = refl
other-call B c (Bad d word) h = refl
other-call B c (Reset i) h = refl
other-call B c (Cut r) h = refl
other-call B c (Up t) h = refl
other-call B c (Note a w) h = refl

still-pending : (B : Base) (L G : Past) (c : ℕ) → none_since (λ F e. is_call_on c e) L G ≡ true → none_since (breaks c) L G ≡ true
    → pending B (L ++ G) c ≡ pending B G c
still-pending B [] G c last unbroken = refl
still-pending B (e ∷ L) G c last unbroken =
    rw (not-true _ (and-first (not (breaks c (L ++ G) e)) _ unbroken), other-call B c e (not-true _ (and-first (not (is_call_on c e)) _ last)))
    (still-pending B L G c (and-last (not (is_call_on c e)) _ last) (and-last (not (breaks c (L ++ G) e)) _ unbroken))

stays : (B : Base) (H : Past) (c : ℕ) (made : List ℕ → Pending) (request : Ask) (b : List ℕ) → Reads made request
    → FollowsRequest B H c request b → pending B H c ≡ made b
stays B H c made request b reads f =
    ap (λ J. pending B J c) f.whole ∙ still-pending B f.since (Call c f.command 0x9000 (Some b) ∷ f.before) c f.last f.unbroken
    ∙ rw (eq-eqb c c refl, f.asks) (reads.2 b)

none-challenge : (b : List ℕ) → ¬ (NonePending ≡ Challenge b)
none-challenge b h = cc

none-witness : (b : List ℕ) → ¬ (NonePending ≡ Witness b)
none-witness b h = cc

reads-challenge : Reads Challenge AskChallenge
reads-challenge = (none-challenge, drawn-challenge, (λ b. refl))

reads-witness : Reads Witness AskWitness
reads-witness = (none-witness, drawn-witness, (λ b. refl))

pub ChallengesFollowRequests-law : ChallengesFollowRequests
ChallengesFollowRequests-law B H c block legal =
    (follows B H c Challenge AskChallenge block reads-challenge legal, stays B H c Challenge AskChallenge block reads-challenge)

pub WitnessesFollowRequests-law : WitnessesFollowRequests
WitnessesFollowRequests-law B H c block legal =
    (follows B H c Witness AskWitness block reads-witness legal, stays B H c Witness AskWitness block reads-witness)

-- ---- answers

-- an answer that was compared was right or wrong
record Judged (right : Option Bool) (word : ℕ) : Type 0 where
  verdict : Bool
  is : right ≡ Some verdict
  told : (word ≡ 0x9000) ↔ (verdict ≡ true)

apart : ¬ (Contactless ≡ Contact)
apart h = absurd (let f = ap is_near h in cc)
  where
    is_near : Interface → Bool
    is_near Contact = true
    is_near Contactless = false

words-apart : ¬ (◌≡◌ {A = ℕ} 0x6982 0x9000)
words-apart h = omega arith

judged : (B : Base) (H : Past) (c word : ℕ) (right : Option Bool) (r : Reply) → word ≡ r.word → IsResponseReply B H c right r
    → WasCompared B H c word → Judged right word
judged B H c word right r is reply (inl granted) =
    record { verdict = true; is = (reply.served.0 (sym is ∙ granted)).1; told = ((λ h. refl), (λ h. granted)) }
judged B H c word right r is reply (inr wrong) = go (reply.denied.0 (sym is ∙ wrong.0))
  where
    go : IsElsewhere B H c ⊎ (IsReady B H c × (right ≡ Some false)) → Judged right word
    go (inl e) = absurd (apart (sym e.1 ∙ wrong.1))
    go (inr e) = record { verdict = false; is = e.1; told = ((λ h. absurd (words-apart (sym wrong.0 ∙ h))), (λ h. absurd (cc))) }

pub ResponsesAnswerChallenges-law : ResponsesAnswerChallenges
ResponsesAnswerChallenges-law B H c k word block x legal asks compared =
    let other = other-command (profile B) k (External x) asks refl in
    let reply = (ResponseWords-law B H c k).0 x (other, asks) in
    go (pending B H c) refl (judged B H c word (right_response B x (pending B H c)) (answer B H c k) legal.1.2 reply compared)
  where
    go : (p : Pending) → pending B H c ≡ p → Judged (right_response B x p) word → IsResponse B H c AskChallenge word (λ b. x ≡ enciphered B.memory.admin b)
    go (Challenge b) is j =
        let v : j.verdict ≡ bytes_eq x (enciphered B.memory.admin b) = let e = j.is in cc in
        let d = bytes_eq-Decides x (enciphered B.memory.admin b) in
        record {
          block = b;
          follows = (ChallengesFollowRequests-law B H c b legal.0).0 is;
          right = ((λ h. d.0 (sym v ∙ j.told.0 h)), (λ h. j.told.1 (v ∙ d.1 h)));
        }
    go (Witness b) is j = absurd (let e = j.is in cc)
    go NonePending is j = absurd (let e = j.is in cc)

pub MutualsAnswerWitnesses-law : MutualsAnswerWitnesses
MutualsAnswerWitnesses-law B H c k word block w x legal asks compared =
    let other = other-command (profile B) k (Mutual w x) asks refl in
    let reply = ((ResponseWords-law B H c k).1 w x (other, asks)).0 in
    go (pending B H c) refl (judged B H c word (right_witness w (pending B H c)) (answer B H c k) legal.1.2 reply compared)
  where
    go : (p : Pending) → pending B H c ≡ p → Judged (right_witness w p) word → IsResponse B H c AskWitness word (λ b. w ≡ b)
    go (Witness b) is j =
        let v : j.verdict ≡ bytes_eq w b = let e = j.is in cc in
        let d = bytes_eq-Decides w b in
        record {
          block = b;
          follows = (WitnessesFollowRequests-law B H c b legal.0).0 is;
          right = ((λ h. d.0 (sym v ∙ j.told.0 h)), (λ h. j.told.1 (v ∙ d.1 h)));
        }
    go (Challenge b) is j = absurd (let e = j.is in cc)
    go NonePending is j = absurd (let e = j.is in cc)

pub ruleset challenge_laws = (ChallengesFollowRequests-law, WitnessesFollowRequests-law, ResponsesAnswerChallenges-law, MutualsAnswerWitnesses-law, BlocksComeInTurn-law, RequestsBearBlocks-law)
