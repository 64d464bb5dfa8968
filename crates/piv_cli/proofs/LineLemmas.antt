-- What lines write, one after the other.
use Rattle.std.specs.Prelude.{◌==◌, filter, Result, Ok, Err, IfOk, IsTrue, if◌then◌else◌}
use Rattle.std.specs.List.{slice_split}
use Rattle.std.specs.Str.Lines.{strip_carriage_return}
use Rattle.std.proofs.Common.{◌≡◌, ◌≤◌, ◌<◌, ◌+◌, ℕ, suc, Bool, true, false, length, arith, List, [], ◌∷◌, ◌++◌, refl, ap, sym, subst, ◌∙◌, Some}
use Rattle.std.proofs.lemmas.List.{append-nil, append_assoc, length-map}
use Rattle.std.proofs.lemmas.List.Sums.{count_by-le-length}
use Rattle.std.proofs.lemmas.Bool.Decides.{nat_tests}
use Rattle.hex.specs.Hex.{decode_of, encode_upper}
use Rattle.piv_model.specs.declared.kinds.Took.{Took}
use Rattle.piv_model.specs.declared.store.Store.{Ghosts}
use Rattle.piv_model.specs.Base.{Base}
use Rattle.piv_model.specs.Entries.{Up}
use Rattle.piv_model.specs.Stores.{StoreState}
use Rattle.piv_rules.specs.Acts.{CardRecord, Records, entries}
use Rattle.piv_rules.specs.Connections.{on}
use Rattle.piv_rules.specs.Losses.{MayTake}
use Rattle.piv_rules.specs.Memories.{mem}
use Rattle.piv_rules.specs.RandomBlocks.{draws, draws_count}
use Rattle.challenge_blocks.specs.declared.blocks.Blocks.{Blocks}
use Rattle.challenge_blocks.specs.Blocks.{most_blocks}
use Rattle.challenge_blocks.specs.Next.{IsNext}
use Rattle.card_app.specs.declared.card.Card.{Card}
use Rattle.card_app.specs.After.{epoch_at}
use Rattle.card_app.specs.Stands.{CardStandsFor, attached_count, store_of, store_state}
use Rattle.piv_cli.specs.Lines.{Line, Empty, Garbled, Command, counts, decoded_line, LineWrites, LinesWrite, AreLines, is_newline, kept, opened_first, spelled, text_line}
use Rattle.piv_cli.specs.Outputs.{most_input}
use Rattle.piv_cli.specs.Sessions.{Answers, AreAnswered, IsAfter, IsSteady, LinesLeave, Replies, line_of}

nil-of : (xs : List ℕ) → true ≡ (length xs == 0) → xs ≡ []
nil-of [] none = refl
nil-of (x ∷ xs) none = absurd (let h : length (x ∷ xs) ≡ 0 = grind (arith, nat_tests) in omega arith)

-- a line of which nothing is left
pub empty-kept : (line filtered seen text : List ℕ) → filtered ≡ filter counts line → seen ≡ filtered → text ≡ strip_carriage_return seen
    → true ≡ (length text == 0) → kept line ≡ []
empty-kept line filtered seen text copied same stripped none =
    ap strip_carriage_return (sym copied ∙ sym same) ∙ sym stripped ∙ nil-of text none

pub empty-writes : (B : Base) (R : Records) (text : List ℕ) → text ≡ [] → LineWrites B R (text_line text) [] R
empty-writes B R text none = rw none (refl, refl)

-- a line makes one record at most
line-records : (B : Base) (R : Records) (line : Line) (out : List ℕ) (S : Records) → LineWrites B R line out S → length S ≤ length R + 1
line-records B R Empty out S writes = let same = ap (λ (r : Records). length r) writes.1 in omega arith
line-records B R Garbled out S writes = let same = ap (λ (r : Records). length r) writes.1 in omega arith
line-records B R (Command bytes) out S (r, act, turned, after, written) =
    let same : length S ≡ suc (length R) = ap (λ (x : Records). length x) after in omega arith

-- few records have few blocks
pub draws-few : (R : Records) (rest size : ℕ) → length R + rest ≤ size + 1 → size ≤ most_input → draws_count (entries R) < most_blocks
draws-few R rest size within few =
    let most = count_by-le-length draws (entries R) in
    let same : length (entries R) ≡ length R = length-map R (λ (r : CardRecord). r.entry) in
    omega arith

-- the lines before this rest were answered
pub record SoFar {S T : Type 0} {meaning : Ghosts S T} (B : Base) (first card : Card S T meaning) (blocks : Blocks)
    (input rest out : List ℕ) : Type 0 where
  pub records : Records
  pub stands : IsAfter card blocks B records
  pub few : length records + length rest ≤ length input + 1
  pub writes : (more : List ℕ) (end : Records) → LinesWrite B records (slice_split is_newline rest) more end
      → LinesWrite B opened_first (slice_split is_newline input) (out ++ more) end
  pub steady : IsSteady (store_state first) → IsSteady (store_state card)

pub so-far-begins : {S T : Type 0} {meaning : Ghosts S T} (B : Base) (card : Card S T meaning) (blocks : Blocks) (input out : List ℕ)
    → out ≡ [] → IsAfter card blocks B opened_first → SoFar B card card blocks input input out
so-far-begins B card blocks input out none stands = record {
  records = opened_first;
  stands = stands;
  few = omega arith;
  writes = λ more end writes. rw none writes;
  steady = λ steady. steady;
}

-- one line more was answered: what is left to write goes on from there
pub so-far-more : {S T : Type 0} {meaning : Ghosts S T} (B : Base) (first old card : Card S T meaning) (before blocks : Blocks)
    (input rest line after out out_now : List ℕ) (so_far : SoFar B first old before input rest out)
    → slice_split is_newline rest ≡ line ∷ slice_split is_newline after → length after < length rest
    → Answers B so_far.records (text_line (kept line)) old card blocks out out_now
    → SoFar B first card blocks input after out_now
so-far-more B first old card before blocks input rest line after out out_now so_far split shorter answers = record {
  records = answers.after;
  stands = answers.stands;
  few = let one = line-records B so_far.records (text_line (kept line)) answers.first answers.after answers.writes in
      let few = so_far.few in omega arith;
  writes = λ more end writes.
      let whole : LinesWrite B so_far.records (slice_split is_newline rest) (answers.first ++ more) end =
      subst (λ (ls : List (List ℕ)). LinesWrite B so_far.records ls (answers.first ++ more) end) (sym split)
      (answers.first, answers.after, more, answers.writes, writes, refl) in
      let same : out ++ (answers.first ++ more) ≡ out_now ++ more =
      sym (append_assoc out answers.first more) ∙ ap (λ t. t ++ more) (sym answers.written) in
      subst (λ (t : List ℕ). LinesWrite B opened_first (slice_split is_newline input) t end) same
      (so_far.writes (answers.first ++ more) end whole);
  steady = λ steady. answers.steady (so_far.steady steady);
}

-- the last line was answered
pub so-far-ends : {S T : Type 0} {meaning : Ghosts S T} (B : Base) (first old card : Card S T meaning) (before blocks : Blocks)
    (input rest out out_now : List ℕ) (so_far : SoFar B first old before input rest out)
    → slice_split is_newline rest ≡ rest ∷ []
    → Answers B so_far.records (text_line (kept rest)) old card blocks out out_now
    → AreAnswered B input first card out_now
unfolding AreLines
so-far-ends B first old card before blocks input rest out out_now so_far one answers = record {
  records = answers.after;
  lines =
      let whole : LinesWrite B so_far.records (slice_split is_newline rest) (answers.first ++ []) answers.after =
      subst (λ (ls : List (List ℕ)). LinesWrite B so_far.records ls (answers.first ++ []) answers.after) (sym one)
      (answers.first, answers.after, [], answers.writes, (refl, refl), refl) in
      let same : out ++ (answers.first ++ []) ≡ out_now = ap (λ t. out ++ t) (append-nil answers.first) ∙ sym answers.written in
      subst (λ (t : List ℕ). LinesWrite B opened_first (slice_split is_newline input) t answers.after) same
      (so_far.writes (answers.first ++ []) answers.after whole);
  stands = answers.stands.stands;
  steady = λ steady. answers.steady (so_far.steady steady);
}

-- the store that a card hands back has what the lines left
pub lines-leave : {S T V E : Type 0} {meaning : Ghosts S T} (B : Base) (input : List ℕ) (first card : Card S T meaning) (store : S)
    (old : StoreState) (bytes : V → List ℕ) (r : Result V E) → store ≡ store_of card → old ≡ store_state first
    → ((B : Base) (R : Records) → CardStandsFor card B R → IsTrue (meaning.state store).power.on
    → (meaning.state store).mem ≡ Some (mem B (entries R)))
    → ((B : Base) (R : Records) → CardStandsFor card B R → (meaning.state store).power.on ≡ false
    → (took : Took) × MayTake B (entries R) took × ((meaning.state store).mem ≡ Some (mem B (Up took ∷ entries R))))
    → IfOk r (λ v. AreAnswered B input first card (bytes v)) → IfOk r (λ v. LinesLeave B input (bytes v) old (meaning.state store))
lines-leave {S = S} {meaning = meaning} B input first card store old bytes (Ok v) same begins on_memory off_memory all = record {
  records = all.records;
  lines = all.lines;
  left = record {
    powered = λ is_on. on_memory B all.records all.stands (power ∙ is_on);
    lost = λ is_off. off_memory B all.records all.stands (power ∙ is_off);
  };
  steady = λ steady. subst (λ (s : S). IsSteady (meaning.state s)) (sym same) (all.steady (subst IsSteady begins steady));
}
  where
    power : (meaning.state store).power.on ≡ on (entries all.records)
    power = ap (λ s. (meaning.state s).power.on) same ∙ all.stands.stands.power
lines-leave B input first card store old bytes (Err e) same begins on_memory off_memory all = all

-- ---- one line

some-line : (text : List ℕ) → false ≡ (length text == 0) → text_line text ≡ decoded_line (decode_of text)
some-line [] some = absurd (cc)
some-line (x ∷ xs) some = refl

-- a line that was decoded
pub command-line : (line filtered seen text bytes : List ℕ) (good : Bool) → filtered ≡ filter counts line → seen ≡ filtered
    → text ≡ strip_carriage_return seen → false ≡ (length text == 0) → decoded_line (decode_of text) ≡ line_of good bytes
    → good ≡ true → text_line (kept line) ≡ Command bytes
command-line line filtered seen text bytes good copied same stripped some decoded granted =
    ap text_line (ap strip_carriage_return (sym copied ∙ sym same) ∙ sym stripped) ∙ some-line text some ∙ decoded
    ∙ ap (λ (b : Bool). line_of b bytes) granted

-- what is written for an exchange
pub line-answered : {S T : Type 0} {meaning : Ghosts S T} (B : Base) (R : Records) (line : Line) (bytes : List ℕ)
    (old card : Card S T meaning) (blocks : Blocks) (replied was : Bool) (reply out out_now : List ℕ) → line ≡ Command bytes
    → Replies B R bytes old card blocks replied reply → replied ≡ was
    → out_now ≡ out ++ ((if was then encode_upper reply else 45 ∷ []) ++ 10 ∷ [])
    → Answers B R line old card blocks out out_now
line-answered B R line bytes old card blocks replied was reply out out_now is replies same wrote = record {
  first = spelled replies.made.answer ++ 10 ∷ [];
  after = replies.made ∷ R;
  writes = subst (λ (l : Line). LineWrites B R l (spelled replies.made.answer ++ 10 ∷ []) (replies.made ∷ R)) (sym is)
      (replies.made, replies.act, replies.stands.stands.stands.runs.1, refl, refl);
  stands = replies.stands;
  written = wrote ∙ ap (λ (xs : List ℕ). out ++ (xs ++ 10 ∷ []))
      (sym (replies.spelled ∙ ap (λ (b : Bool). if b then encode_upper reply else 45 ∷ []) same));
  steady = replies.steady;
}

-- ---- before the first line

-- the connection was opened
pub begins : {S T : Type 0} {meaning : Ghosts S T} (B : Base) (free card : Card S T meaning) (blocks : Blocks) (random : List ℕ) (granted : Bool)
    → B.random ≡ random → (granted ≡ false → attached_count free ≡ 16) → attached_count free ≡ 0
    → (granted ≡ true → CardStandsFor card B opened_first) → IsNext random 0 blocks → IsAfter card blocks B opened_first
begins B free card blocks random false same full none opened next = absurd (let sixteen = full refl in omega arith)
begins B free card blocks random true same full none opened next = record {
  stands = opened refl;
  fresh = λ is_on. low;
  next = subst (λ (r : List ℕ). IsNext r 0 blocks) (sym same) next;
}
  where
    low : epoch_at opened_first 1 ≤ 0
    low = let none : epoch_at opened_first 1 ≡ 0 = refl in omega arith
