-- What a piece of a reply follows.
use Rattle.std.specs.Prelude.{if◌then◌else◌, ◌==◌, not, ◌&&◌, cond, count_by, option_map}
use Rattle.std.proofs.Common.{◌≡◌, ℕ, ◌+◌, Bool, true, false, List, [], ◌∷◌, ◌++◌, Option, Some, None, refl, ap, sym, ◌∙◌, arith, eq-eqb, eqb-true, length}
use Rattle.std.proofs.lemmas.List.Recursion.{is_count_by}
use Rattle.piv_model.specs.Commands.{CardCommand}
use Rattle.piv_model.specs.Entries.{CardEntry, Past, Opened, Closed, Call, Part, Rest, Bad, Reset, Cut, Up, Note}
use Rattle.piv_model.specs.Base.{Base}
use Rattle.piv_rules.specs.StatusWords.{is_granted}
use Rattle.piv_rules.specs.Connections.{breaks, is_exchange_on}
use Rattle.piv_rules.specs.Answers.{answer}
use Rattle.piv_rules.specs.Legal.{Fetched, with_rest, fetch_step, fetched, MayFetch}
use Rattle.piv_rules.specs.Lookback.{none_since}
use Rattle.login_laws.proofs.Bools.{and-first, and-last, granted-word, not-true}
use Rattle.connection_laws.specs.PieceLaws.{is_piece_of, is_other_exchange, HasMore, PiecesFollowReplies}

-- the pieces that c took
taken : ℕ → Past → ℕ
taken c [] = 0
taken c (e ∷ L) = cond (is_piece_of c e) (1 + taken c L) (taken c L)

taken-are : (c : ℕ) (L : Past) → taken c L ≡ count_by (is_piece_of c) L
unfolding taken
taken-are c L = is_count_by (taken c) (is_piece_of c) refl (λ e G. refl) L

-- an entry that is no exchange of c is no piece of c
no-piece : (c : ℕ) (e : CardEntry) → is_exchange_on c e ≡ false → is_piece_of c e ≡ false
no-piece c (Rest d) h = h
no-piece c (Opened d i shared) h = refl
no-piece c (Closed d) h = refl
no-piece c (Call d k word block) h = refl
no-piece c (Part d) h = refl
no-piece c (Bad d word) h = refl
no-piece c (Reset i) h = refl
no-piece c (Cut r) h = refl
no-piece c (Up t) h = refl
no-piece c (Note a w) h = refl

-- a granted command of c, and what c exchanged since
record IsFetched (B : Base) (H : Past) (c : ℕ) (f : Fetched) : Type 0 where
  since : Past
  command : CardCommand
  block : Option (List ℕ)
  before : Past
  whole : H ≡ since ++ Call c command 0x9000 block ∷ before
  alone : none_since (is_other_exchange c) since (Call c command 0x9000 block ∷ before) ≡ true
  unbroken : none_since (breaks c) since (Call c command 0x9000 block ∷ before) ≡ true
  rests : f.rests ≡ taken c since
  size : f.size ≡ length (answer B before c command).body

fetched-now : (B : Base) (G : Past) (c d : ℕ) (k : CardCommand) (word : ℕ) (block : Option (List ℕ)) (f : Fetched) → d ≡ c → word ≡ 0x9000
    → Some (record { size = length (answer B G c k).body; rests = 0 }) ≡ Some f → IsFetched B (Call d k word block ∷ G) c f
unfolding taken
fetched-now B G c d k word block f own granted h =
    let is : record { size = length (answer B G c k).body; rests = 0 } ≡ f = cc in
    record {
      since = [];
      command = k;
      block = block;
      before = G;
      whole = λ j. Call (own j) k (granted j) block ∷ G;
      alone = refl;
      unbroken = refl;
      rests = sym (ap (λ (x : Fetched). x.rests) is);
      size = sym (ap (λ (x : Fetched). x.size) is);
    }

-- one entry more, that is no other exchange of c and no break of c
fetched-more : (B : Base) (G : Past) (c : ℕ) (e : CardEntry) (f g : Fetched) → is_other_exchange c G e ≡ false → breaks c G e ≡ false
    → f.size ≡ g.size → f.rests ≡ cond (is_piece_of c e) (1 + g.rests) g.rests → IsFetched B G c g → IsFetched B (e ∷ G) c f
unfolding taken
fetched-more B G c e f g other unbroken size rests x = record {
  since = e ∷ x.since;
  command = x.command;
  block = x.block;
  before = x.before;
  whole = ap (λ F. e ∷ F) x.whole;
  alone = rw other x.alone;
  unbroken = rw (← x.whole, unbroken) x.unbroken;
  rests = rests ∙ ap (λ n. cond (is_piece_of c e) (1 + n) n) x.rests;
  size = size ∙ x.size;
}

other-false : (c : ℕ) (G : Past) (e : CardEntry) → is_exchange_on c e ≡ false → is_other_exchange c G e ≡ false
other-false c G e h = rw h refl

clash : (b : Bool) (A : Type 0) → b ≡ true → b ≡ false → A
clash b A h k = absurd (cc)

-- an entry that is no exchange of c
fetched-apart : (B : Base) (G : Past) (c : ℕ) (e : CardEntry) (f : Fetched) → is_exchange_on c e ≡ false → breaks c G e ≡ false
    → IsFetched B G c f → IsFetched B (e ∷ G) c f
fetched-apart B G c e f apart unbroken x =
    fetched-more B G c e f f (other-false c G e apart) unbroken refl (rw (no-piece c e apart) refl) x

-- a piece of c
fetched-rest : (B : Base) (G : Past) (c d : ℕ) (f : Fetched) (o : Option Fetched) → (d == c) ≡ true → (fetched B G c ≡ o)
    → ((g : Fetched) → o ≡ Some g → IsFetched B G c g) → option_map with_rest o ≡ Some f → IsFetched B (Rest d ∷ G) c f
fetched-rest B G c d f None own is ih h = absurd (cc)
fetched-rest B G c d f (Some g) own is ih h =
    let e : with_rest g ≡ f = cc in
    fetched-more B G c (Rest d) f g (rw own refl) refl (sym (ap (λ (x : Fetched). x.size) e))
    (rw own (sym (ap (λ (x : Fetched). x.rests) e) ∙ omega arith)) (ih g refl)

fetched-call : (B : Base) (G : Past) (c d : ℕ) (k : CardCommand) (word : ℕ) (block : Option (List ℕ)) (f : Fetched) → (d == c) ≡ true
    → (if is_granted word then Some (record { size = length (answer B G c k).body; rests = 0 }) else None) ≡ Some f
    → IsFetched B (Call d k word block ∷ G) c f
fetched-call B G c d k word block f own h = go (is_granted word) refl h
  where
    go : (b : Bool) → is_granted word ≡ b → (if b then Some (record { size = length (answer B G c k).body; rests = 0 }) else None) ≡ Some f
        → IsFetched B (Call d k word block ∷ G) c f
    go true is j = fetched-now B G c d k word block f (eqb-true d c own) (granted-word word is) j
    go false is j = absurd (cc)

fetched-exchange : (B : Base) (G : Past) (c : ℕ) (e : CardEntry) (f : Fetched) → is_exchange_on c e ≡ true
    → ((g : Fetched) → fetched B G c ≡ Some g → IsFetched B G c g)
    → fetch_step B G c e (fetched B G c) ≡ Some f → IsFetched B (e ∷ G) c f
fetched-exchange B G c (Call d k word block) f own ih h = fetched-call B G c d k word block f own h
fetched-exchange B G c (Rest d) f own ih h = fetched-rest B G c d f (fetched B G c) own refl ih h
fetched-exchange B G c (Part d) f own ih h = absurd (cc)
fetched-exchange B G c (Bad d word) f own ih h = absurd (cc)
fetched-exchange B G c (Opened d i shared) f own ih h = absurd (cc)
fetched-exchange B G c (Closed d) f own ih h = absurd (cc)
fetched-exchange B G c (Reset i) f own ih h = absurd (cc)
fetched-exchange B G c (Cut r) f own ih h = absurd (cc)
fetched-exchange B G c (Up t) f own ih h = absurd (cc)
fetched-exchange B G c (Note a w) f own ih h = absurd (cc)

is-fetched : (B : Base) (H : Past) (c : ℕ) (f : Fetched) → fetched B H c ≡ Some f → IsFetched B H c f
is-fetched B [] c f h = absurd (cc)
is-fetched B (e ∷ G) c f h = go (breaks c G e) (is_exchange_on c e) refl refl (is-fetched B G c) h
  where
    go : (broken own : Bool) → breaks c G e ≡ broken → is_exchange_on c e ≡ own
        → ((g : Fetched) → fetched B G c ≡ Some g → IsFetched B G c g)
        → (if broken then None else if own then fetch_step B G c e (fetched B G c) else fetched B G c) ≡ Some f → IsFetched B (e ∷ G) c f
    go true own is which ih j = absurd (cc)
    go false true is which ih j = fetched-exchange B G c e f which ih j
    go false false is which ih j = fetched-apart B G c e f which is (ih f j)

-- ---- the other way

-- what is fetched after a granted command, and entries that break nothing and exchange nothing but pieces
still-fetched : (B : Base) (L G : Past) (c : ℕ) (k : CardCommand) (block : Option (List ℕ))
    → none_since (is_other_exchange c) L (Call c k 0x9000 block ∷ G) ≡ true → none_since (breaks c) L (Call c k 0x9000 block ∷ G) ≡ true
    → fetched B (L ++ Call c k 0x9000 block ∷ G) c ≡ Some (record { size = length (answer B G c k).body; rests = taken c L })
unfolding taken
still-fetched B [] G c k block alone unbroken = rw (eq-eqb c c refl) refl
still-fetched B (e ∷ L) G c k block alone unbroken =
    step e (not-true _ (and-first (not (breaks c (L ++ Call c k 0x9000 block ∷ G) e)) _ unbroken))
    (not-true _ (and-first (not (is_other_exchange c (L ++ Call c k 0x9000 block ∷ G) e)) _ alone))
    (still-fetched B L G c k block (and-last (not (is_other_exchange c (L ++ Call c k 0x9000 block ∷ G) e)) _ alone)
    (and-last (not (breaks c (L ++ Call c k 0x9000 block ∷ G) e)) _ unbroken))
  where
    apart : (e : CardEntry) → breaks c (L ++ Call c k 0x9000 block ∷ G) e ≡ false → is_exchange_on c e ≡ false
        → fetched B (L ++ Call c k 0x9000 block ∷ G) c ≡ Some (record { size = length (answer B G c k).body; rests = taken c L })
        → fetched B (e ∷ L ++ Call c k 0x9000 block ∷ G) c ≡ Some (record { size = length (answer B G c k).body; rests = taken c (e ∷ L) })
    apart e intact other ih = rw (intact, other, no-piece c e other) ih

    piece : (d : ℕ) (b : Bool) → (d == c) ≡ b
        → fetched B (L ++ Call c k 0x9000 block ∷ G) c ≡ Some (record { size = length (answer B G c k).body; rests = taken c L })
        → fetched B (Rest d ∷ L ++ Call c k 0x9000 block ∷ G) c ≡ Some (record { size = length (answer B G c k).body; rests = taken c (Rest d ∷ L) })
    piece d true own ih = rw (own, ih) (ap (λ n. Some (record { size = length (answer B G c k).body; rests = n })) (omega arith))
    piece d false own ih = apart (Rest d) refl own ih

    and-true : (b : Bool) → (b && true) ≡ false → b ≡ false
    and-true false h = refl
    and-true true h = absurd (cc)

    step : (e : CardEntry) → breaks c (L ++ Call c k 0x9000 block ∷ G) e ≡ false → is_other_exchange c (L ++ Call c k 0x9000 block ∷ G) e ≡ false
        → fetched B (L ++ Call c k 0x9000 block ∷ G) c ≡ Some (record { size = length (answer B G c k).body; rests = taken c L })
        → fetched B (e ∷ L ++ Call c k 0x9000 block ∷ G) c ≡ Some (record { size = length (answer B G c k).body; rests = taken c (e ∷ L) })
    step (Rest d) intact other ih = piece d (d == c) refl ih
    step (Call d j word b) intact other ih = apart (Call d j word b) intact (and-true _ other) ih
    step (Part d) intact other ih = apart (Part d) intact (and-true _ other) ih
    step (Bad d word) intact other ih = apart (Bad d word) intact (and-true _ other) ih
    step (Opened d i shared) intact other ih = apart (Opened d i shared) intact refl ih
    step (Closed d) intact other ih = apart (Closed d) intact refl ih
    step (Reset i) intact other ih = apart (Reset i) intact refl ih
    step (Cut r) intact other ih = apart (Cut r) intact refl ih
    step (Up t) intact other ih = apart (Up t) intact refl ih
    step (Note a w) intact other ih = apart (Note a w) intact refl ih

-- ---- both

may-more : (B : Base) (H : Past) (c : ℕ) (o : Option Fetched) → fetched B H c ≡ o → MayFetch o → HasMore B H c
may-more B H c None is may = absurd may
may-more B H c (Some f) is may =
    let x = is-fetched B H c f is in
    let rests = x.rests ∙ taken-are c x.since in
    let size = x.size in
    record {
      since = x.since;
      command = x.command;
      block = x.block;
      before = x.before;
      whole = x.whole;
      alone = x.alone;
      unbroken = x.unbroken;
      more = omega arith;
    }

more-may : (B : Base) (H : Past) (c : ℕ) → HasMore B H c → MayFetch (fetched B H c)
more-may B H c m =
    let is = ap (λ G. fetched B G c) m.whole ∙ still-fetched B m.since m.before c m.command m.block m.alone m.unbroken in
    let same = taken-are c m.since in
    let more = m.more in
    rw is (omega arith)

pub PiecesFollowReplies-law : PiecesFollowReplies
PiecesFollowReplies-law B H c =
    ((λ a. (a.0, a.1, may-more B H c (fetched B H c) refl a.2)), (λ t. (t.0, t.1, more-may B H c t.2)))

pub ruleset fetching_laws = (PiecesFollowReplies-law)
