-- The pieces of a reply.
use Rattle.std.specs.Prelude.{if◌then◌else◌, not, ◌&&◌, ◌||◌, ◌==◌, Result, Ok, Err}
use Rattle.std.proofs.Common.{◌≡◌, ℕ, zero, suc, ◌-◌, Bool, true, false, List, [], ◌∷◌, ◌++◌, Option, Some, None, refl, ap, sym, ◌∙◌, arith, inl, inr, subst, eqb-true, length, take, drop, length-take, length-drop, append_assoc}
use Rattle.std.proofs.lemmas.Bool.Decides.{nat_tests}
use Rattle.piv_model.specs.declared.history.Refusal.{Refusal}
use Rattle.piv_model.specs.Commands.{CardCommand, CardApdu}
use Rattle.piv_model.specs.Chains.{Link, PartOf, WholeOf, RefusedBy, linked}
use Rattle.piv_model.specs.Entries.{CardEntry, Opened, Closed, Call, Part, Rest, Bad, Reset, Cut, Up, Note}
use Rattle.piv_model.specs.StatusWords.{piece_word}
use Rattle.piv_model.specs.Base.{Base}
use Rattle.piv_rules.specs.Connections.{breaks, is_exchange_on}
use Rattle.piv_rules.specs.Answers.{answer, Reply}
use Rattle.piv_rules.specs.Acts.{CardAct, Connect, Disconnect, Exchange, ResetSide, CutPower, PowerOn, CardAnswer, Replied, CardRecord, Records, entries}
use Rattle.piv_rules.specs.Frames.{Frame, BadFrame, PartFrame, RestFrame, WholeFrame, frame, next_piece, get_response, fetches, frame_of, frame_by, chain, rest, given_length}
use Rattle.piv_rules.specs.Turns.{IsTurnedBy, Runs, refused, IsExchanged, cut_reply}
use Rattle.card_laws.proofs.Apart.{FramesAreApart-law}
use Rattle.card_laws.proofs.ConnectionLaws.{rest-call, rest-rest}
use Rattle.login_laws.proofs.Bools.{and-first, and-last, not-true}
use Rattle.connection_laws.specs.PieceLaws.{replied, replied_word, is_piece_of, takes_pieces, pieces, PiecesJoin, GivesData, IsAnnounced, WordsTellWhatIsLeft}

-- ---- what an answer gives

-- some first bytes of the whole, with the word for those that are left
record IsPiece (whole : List ℕ) (a : CardAnswer) : Type 0 where
  most : ℕ
  is : a ≡ Replied (take most whole) (piece_word (length whole - most))

not-bad : (v w : ℕ) (piece : List ℕ) → BadFrame v ≡ RestFrame piece w → ⊥
not-bad v w piece h = cc

not-linked : (l : Link) (most w : ℕ) (piece : List ℕ) → frame_by l most ≡ RestFrame piece w → ⊥
not-linked (PartOf k) most w piece h = cc
not-linked (WholeOf k) most w piece h = cc
not-linked (RefusedBy v) most w piece h = cc

next-piece : (waiting : List ℕ) (most : ℕ) (piece : List ℕ) (w : ℕ) → next_piece waiting most ≡ RestFrame piece w → IsPiece waiting (Replied piece w)
next-piece [] most piece w h = absurd (not-bad _ w piece h)
next-piece (b ∷ bs) most piece w h =
    record { most = most; is = let e : piece ≡ take most (b ∷ bs) = cc in let f : w ≡ piece_word (length (b ∷ bs) - most) = cc in λ j. Replied (e j) (f j) }

response-piece : (k : CardCommand) (most : ℕ) (waiting piece : List ℕ) (w : ℕ) → get_response k most waiting ≡ RestFrame piece w
    → IsPiece waiting (Replied piece w)
response-piece k most waiting piece w h = go (not (length k.body == 0)) (not ((k.p1 == 0) && (k.p2 == 0))) h
  where
    go : (a b : Bool) → (if a then BadFrame 0x6700 else if b then BadFrame 0x6A86 else next_piece waiting most) ≡ RestFrame piece w
        → IsPiece waiting (Replied piece w)
    go true b j = absurd (not-bad _ w piece j)
    go false true j = absurd (not-bad _ w piece j)
    go false false j = next-piece waiting most piece w j

frame-piece : (x : Result CardApdu ℕ) (chained : Option CardCommand) (waiting piece : List ℕ) (w : ℕ)
    → frame_of x chained waiting ≡ RestFrame piece w → IsPiece waiting (Replied piece w)
frame-piece (Err v) chained waiting piece w h = absurd (not-bad v w piece h)
frame-piece (Ok a) chained waiting piece w h = go (fetches a chained) h
  where
    go : (b : Bool) → (if b then get_response a.command a.most waiting else frame_by (linked chained a) a.most) ≡ RestFrame piece w
        → IsPiece waiting (Replied piece w)
    go true j = response-piece a.command a.most waiting piece w j
    go false j = absurd (not-linked (linked chained a) a.most w piece j)

abbrev Gave : Base → Records → CardEntry → CardAnswer → Type 0
Gave B R (Call d k word block) a = word ≡ 0x9000 → IsPiece (answer B (entries R) d k).body a
Gave B R (Rest d) a = IsPiece (rest B R d) a
Gave B R _ a = Unit {0}

cut-piece : (r : Reply) (most : ℕ) → r.word ≡ 0x9000 → IsPiece r.body (cut_reply r most)
cut-piece r most h = record { most = most; is = rw h refl }

gave-exchanged : (B : Base) (R : Records) (c : ℕ) (bytes : List ℕ) (f : Frame) (e : CardEntry) (a : CardAnswer) → frame B R c bytes ≡ f
    → IsExchanged B (entries R) c f e a → Gave B R e a
unfolding frame
gave-exchanged B R c bytes (BadFrame w) e a is t = rw t.0 tt
gave-exchanged B R c bytes PartFrame e a is t = rw t.0 tt
gave-exchanged B R c bytes (RestFrame piece w) e a is t =
    rw (t.0, t.1) (frame-piece _ (chain R c) (rest B R c) piece w is)
gave-exchanged B R c bytes (WholeFrame k most) e a is (inl t) = rw (t.0, t.1) (λ h. cut-piece (answer B (entries R) c k) most h)
gave-exchanged B R c bytes (WholeFrame k most) e a is (inr t) = rw t.0 tt

gave-turned : (B : Base) (R : Records) (act : CardAct) (e : CardEntry) (a : CardAnswer) (o : Option Refusal) → IsTurnedBy o B R act e a → Gave B R e a
gave-turned B R act e a (Some w) t = rw t.0 tt
gave-turned B R (Connect i shared) e a None t = rw t.0 tt
gave-turned B R (Disconnect c) e a None t = rw t.0 tt
gave-turned B R (Exchange c known bytes) e a None t = gave-exchanged B R c bytes (frame B R c bytes) e a refl t
gave-turned B R (ResetSide i) e a None t = rw t.0 tt
gave-turned B R CutPower e a None t = rw t.0 tt
gave-turned B R PowerOn e a None (t, m, is_up, told) = rw is_up tt

-- ---- parts of a list

cut : (n : ℕ) (ws : List ℕ) → take n ws ++ drop (length (take n ws)) ws ≡ ws
cut zero ws = refl
cut (suc n) [] = refl
cut (suc n) (x ∷ ws) = ap (λ xs. x ∷ xs) (cut n ws)

left-over : (n : ℕ) (ws : List ℕ) → length (drop (length (take n ws)) ws) ≡ length ws - n
left-over n ws = simp (length-drop, length-take) (omega arith)

-- ---- one record

-- the data of an answer and those that wait after it are the whole
pub record Parted (whole : List ℕ) (a : CardAnswer) (left : List ℕ) : Type 0 where
  pub parts : replied a ++ left ≡ whole
  pub word : replied_word a ≡ piece_word (length left)

parted : (whole : List ℕ) (a : CardAnswer) (left : List ℕ) → left ≡ drop (given_length a) whole → IsPiece whole a → Parted whole a left
parted whole a left is p =
    let e : left ≡ drop (length (take p.most whole)) whole = is ∙ ap (λ x. drop (given_length x) whole) p.is in
    record {
      parts = ap (λ x. replied x ++ left) p.is ∙ ap (λ xs. take p.most whole ++ xs) e ∙ cut p.most whole;
      word = ap replied_word p.is ∙ ap piece_word (sym (ap (λ xs. length xs) e ∙ left-over p.most whole));
    }

turned-parts : (B : Base) (R : Records) (r : CardRecord) → Runs B (r ∷ R) → Gave B R r.entry r.answer
turned-parts B R r runs = gave-turned B R r.act r.entry r.answer (refused (entries R) r.act) runs.1

call-parts : (B : Base) (R : Records) (r : CardRecord) (c : ℕ) (k : CardCommand) (block : Option (List ℕ)) → Runs B (r ∷ R)
    → r.entry ≡ Call c k 0x9000 block → Parted (answer B (entries R) c k).body r.answer (rest B (r ∷ R) c)
call-parts B R r c k block runs is =
    parted (answer B (entries R) c k).body r.answer (rest B (r ∷ R) c)
    (subst (λ e. rest B (record { act = r.act; entry = e; answer = r.answer } ∷ R) c ≡ drop (given_length r.answer) (answer B (entries R) c k).body)
    (sym is) (rest-call B R c r.act r.answer k 0x9000 block))
    (subst (λ e. Gave B R e r.answer) is (turned-parts B R r runs) refl)

rest-parts : (B : Base) (R : Records) (r : CardRecord) (c : ℕ) → Runs B (r ∷ R) → r.entry ≡ Rest c
    → Parted (rest B R c) r.answer (rest B (r ∷ R) c)
rest-parts B R r c runs is =
    parted (rest B R c) r.answer (rest B (r ∷ R) c)
    (subst (λ e. rest B (record { act = r.act; entry = e; answer = r.answer } ∷ R) c ≡ drop (given_length r.answer) (rest B R c))
    (sym is) (rest-rest B R c r.act r.answer))
    (subst (λ e. Gave B R e r.answer) is (turned-parts B R r runs))

-- ---- all pieces

-- one more record of which c takes a piece or nothing
one-more : (B : Base) (R : Records) (r : CardRecord) (c : ℕ) → Runs B (r ∷ R) → breaks c (entries R) r.entry ≡ false
    → (is_piece_of c r.entry || not (is_exchange_on c r.entry)) ≡ true
    → (if is_piece_of c r.entry then replied r.answer else []) ++ rest B (r ∷ R) c ≡ rest B R c
one-more B R r c runs unbroken h = go r.entry refl h
  where
    other : (e : CardEntry) → r.entry ≡ e → is_piece_of c e ≡ false → is_exchange_on c e ≡ false
        → (if is_piece_of c r.entry then replied r.answer else []) ++ rest B (r ∷ R) c ≡ rest B R c
    other e is none apart =
        rw (ap (is_piece_of c) is ∙ none) (FramesAreApart-law B R r c (ap (is_exchange_on c) is ∙ apart) unbroken).1

    piece : (d : ℕ) (b : Bool) → (d == c) ≡ b → r.entry ≡ Rest d → (b || not b) ≡ true
        → (if is_piece_of c r.entry then replied r.answer else []) ++ rest B (r ∷ R) c ≡ rest B R c
    piece d true own is j =
        rw (ap (is_piece_of c) is ∙ own) (rest-parts B R r c runs (is ∙ ap Rest (eqb-true d c own))).parts
    piece d false own is j = other (Rest d) is own own

    go : (e : CardEntry) → r.entry ≡ e → (is_piece_of c e || not (is_exchange_on c e)) ≡ true
        → (if is_piece_of c r.entry then replied r.answer else []) ++ rest B (r ∷ R) c ≡ rest B R c
    go (Rest d) is j = piece d (d == c) refl is j
    go (Call d k word block) is j = other _ is refl (not-true _ j)
    go (Part d) is j = other _ is refl (not-true _ j)
    go (Bad d word) is j = other _ is refl (not-true _ j)
    go (Opened d i shared) is j = other _ is refl refl
    go (Closed d) is j = other _ is refl refl
    go (Reset i) is j = other _ is refl refl
    go (Cut x) is j = other _ is refl refl
    go (Up t) is j = other _ is refl refl
    go (Note n w) is j = other _ is refl refl

-- the pieces and what waits are what waited
join-rest : (B : Base) (L R : Records) (c : ℕ) → Runs B (L ++ R) → takes_pieces c L R ≡ true → pieces c L ++ rest B (L ++ R) c ≡ rest B R c
join-rest B [] R c runs h = refl
join-rest B (r ∷ L) R c runs h =
    let here = and-first (not (breaks c (entries (L ++ R)) r.entry) && (is_piece_of c r.entry || not (is_exchange_on c r.entry))) _ h in
    let one = one-more B (L ++ R) r c runs (not-true _ (and-first (not (breaks c (entries (L ++ R)) r.entry)) _ here))
    (and-last (not (breaks c (entries (L ++ R)) r.entry)) _ here) in
    let more = join-rest B L R c runs.0 (and-last (not (breaks c (entries (L ++ R)) r.entry) && (is_piece_of c r.entry || not (is_exchange_on c r.entry))) _ h) in
    rw append_assoc (ap (λ xs. pieces c L ++ xs) one ∙ more)

runs-part : (B : Base) (L R : Records) → Runs B (L ++ R) → Runs B R
runs-part B [] R runs = runs
runs-part B (r ∷ L) R runs = runs-part B L R runs.0

pub PiecesJoin-law : PiecesJoin
PiecesJoin-law B L R r c k block runs is h =
    ap (λ xs. replied r.answer ++ xs) (join-rest B L (r ∷ R) c runs h) ∙ (call-parts B R r c k block (runs-part B L (r ∷ R) runs) is).parts

-- ---- words

announced : (word n : ℕ) → word ≡ piece_word n → IsAnnounced word n
announced word n h = record {
  last = ((λ e. grind (arith, nat_tests)), (λ e. grind (arith, nat_tests)));
  few = λ a b. grind (arith, nat_tests);
  many = λ a. grind (arith, nat_tests);
}

pub WordsTellWhatIsLeft-law : WordsTellWhatIsLeft
WordsTellWhatIsLeft-law B R r c runs gives = go r.entry refl gives
  where
    go : (e : CardEntry) → r.entry ≡ e → GivesData c e → IsAnnounced (replied_word r.answer) (length (rest B (r ∷ R) c))
    go (Call d k word block) is g =
        announced _ _ (call-parts B R r c k block runs (is ∙ (λ j. Call (g.0 j) k (g.1 j) block))).word
    go (Rest d) is g = announced _ _ (rest-parts B R r c runs (is ∙ ap Rest g)).word
    go (Opened d i shared) is g = absurd g
    go (Closed d) is g = absurd g
    go (Part d) is g = absurd g
    go (Bad d word) is g = absurd g
    go (Reset i) is g = absurd g
    go (Cut x) is g = absurd g
    go (Up t) is g = absurd g
    go (Note n w) is g = absurd g

pub ruleset piece_laws = (PiecesJoin-law, WordsTellWhatIsLeft-law)
