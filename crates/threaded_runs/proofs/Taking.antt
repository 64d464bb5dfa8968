-- The records of closed turnstiles are shared out among the scripts.
use Rattle.std.specs.Prelude.{reverse, option_map}
use Rattle.std.specs.List.{slice_get}
use Rattle.std.proofs.Common.{◌≡◌, ◌⊎◌, inl, inr, ◌∙◌, ℕ, ◌<◌, ◌≤◌, List, [], length, map, Option, Some, None, refl, sym, ap, subst, arith}
use Rattle.std.proofs.lemmas.List.{length-map, length-reverse, reverse-reverse}
use Rattle.std.proofs.lemmas.Option.{slice_get_within, slice_get_past, slice_get-map}
use Rattle.turnstile.specs.Records.{placed}
use Rattle.turnstile_rows.specs.Rows.{ArePassesOf, AreClosed, StandAtStart, bases_of}
use Rattle.turnstile_rows.specs.Gathered.{Owns, HasAll, own_of, row_of, own_in}
use Rattle.turnstile_rows.proofs.Lists.{at_mapped, within}
use Rattle.turnstile_rows.proofs.Merged.{owns_placed, placed_owns}
use Rattle.piv_model.specs.declared.store.Store.{Ghosts}
use Rattle.piv_model.specs.declared.answers.ApiAnswer.{ApiAnswer}
use Rattle.script_line.specs.declared.line.Line.{Line}
use Rattle.piv_rules.specs.Acts.{CardRecord, Records}
use Rattle.client_api.specs.Ports.{AreInside}
use Rattle.client_api.specs.Readers.{Names}
use Rattle.client_api.specs.Playing.{Move, Plays}
use Rattle.client_api.specs.Players.{Played}
use Rattle.card_cell.specs.declared.base.CellBase.{CellBase}
use Rattle.card_cell.specs.declared.cell.CardCell.{CardCell}
use Rattle.card_cell.specs.Holds.{IsHeld}
use Rattle.script_runs.specs.Runs.{Scripts}
use Rattle.script_runs.specs.Turns.{AllPlayable, HasTurns, FullHasCause, NeverFull, all_turns}
use Rattle.script_runs.specs.Shares.{share_of, record_at, Has, IsTaker, PlaysOut, SharesOut}
use Rattle.script_runs.proofs.Going.{full_stays}
use Rattle.script_runs.proofs.Filling.{shares_never_fill}
use Rattle.script_runs.proofs.Handles.{uses_its_own}
use Rattle.client_threads.specs.declared.held_cell.HeldCell.{HeldCell}
use Rattle.client_threads.specs.Held.{cell_of, HoldsAll}
use Rattle.client_threads.specs.Passes.{CellGate, CellPass, owns_of, seen_of, seen_at, turns_of, turns_at}
use Rattle.cell_port.specs.Owned.{HoldAll}
use Rattle.threaded_runs.specs.Workers.{PlayedOver}
use Rattle.threaded_runs.specs.Shared.{AreShared}
use Rattle.threaded_runs.specs.AtOnce.{turns_with, card_turns, HasRun, StillHold}
use Rattle.threaded_runs.proofs.Mapped.{mapped_at, Collected, collect, lt_or_le}
use Rattle.threaded_runs.proofs.Owning.{there_by, has_owns, owns_has}

abbrev list_of : {A : Type 0} → Option (List A) → List A
list_of None = []
list_of (Some xs) = xs

owns_at : (rs : List CardRecord) (place : ℕ) (r : CardRecord) → slice_get rs place ≡ Some r → Owns (placed 0 rs) place r
owns_at rs place r at = subst (λ (n : ℕ). Owns (placed 0 rs) n r) (omega arith) (owns_placed 0 rs place r at)

-- ---- the records of each card

-- what a held cell stands for, and its first pass has
pub record Keeps {S T : Type 0} {meaning : Ghosts S T} (put_cost : ℕ → ℕ) (gates : List CellGate) (firsts : List CellPass) (k : ℕ) (held : HeldCell S T meaning) (rs : List CardRecord) : Type 0 where
  pub gate : CellGate
  pub first : CellPass
  pub gate_at : slice_get gates k ≡ Some gate
  pub first_at : slice_get firsts k ≡ Some first
  pub stands : HoldsAll put_cost held gate.base rs
  pub own : first.own ≡ placed 0 rs
  pub seen : first.seen ≡ length rs

module _ {S T : Type 0} {meaning : Ghosts S T} (put_cost : ℕ → ℕ) (gates : List CellGate) (firsts : List CellPass) (helds : List (HeldCell S T meaning)) (own : ArePassesOf gates firsts)
    (closed : AreClosed (HoldsAll {S = S} {T = T} {meaning = meaning} put_cost) gates firsts helds) where
  pub kept : Collected helds (Keeps {S = S} {T = T} {meaning = meaning} put_cost gates firsts)
  kept = collect helds (Keeps {S = S} {T = T} {meaning = meaning} put_cost gates firsts) (λ k held at.
      let lt = slice_get_within helds k held at in
      let many = closed.many in
      let firsts_many = own.many in
      let gate = within gates k (omega (arith, lt, many)) in
      let first = within firsts k (omega (arith, lt, many, firsts_many)) in
      let c = closed.each k gate.0 first.0 held gate.1 first.1 at in
      (c.records, record { gate = gate.0; first = first.0; gate_at = gate.1; first_at = first.1; stands = c.stands; own = c.own; seen = c.seen }))

  abbrev pub card_records : ℕ → Records
  card_records card = reverse (list_of (slice_get kept.all card))

  -- a card that there is, with its records
  record Card (card : ℕ) (held : HeldCell S T meaning) : Type 0 where
    pub rs : List CardRecord
    pub is : card_records card ≡ reverse rs
    pub keeps : Keeps {S = S} {T = T} {meaning = meaning} put_cost gates firsts card held rs

  card_at : (card : ℕ) (held : HeldCell S T meaning) → slice_get helds card ≡ Some held → Card card held
  card_at card held at =
      let lt = slice_get_within helds card held at in
      let many = kept.many in
      let rs = within kept.all card (omega (arith, lt, many)) in
      record { rs = rs.0; is = ap (λ (o : Option (List CardRecord)). reverse (list_of o)) rs.1; keeps = kept.each card held rs.0 at rs.1 }

  held_of : (card : ℕ) → card < length gates → (held : HeldCell S T meaning) × Card card held
  held_of card lt =
      let many = closed.many in
      let held = within helds card (omega (arith, lt, many)) in
      (held.0, card_at card held.0 held.1)

  no_card : (card : ℕ) → length gates ≤ card → card_records card ≡ []
  no_card card le =
      let many = closed.many in
      let kept_many = kept.many in
      ap (λ (o : Option (List CardRecord)). reverse (list_of o)) (slice_get_past kept.all card (omega (arith, le, many, kept_many)))

  pub all_held : HoldAll put_cost (map (λ h. cell_of h) helds) (bases_of gates) card_records
  all_held = record {
    many = length-map helds (λ h. cell_of h) ∙ (closed.many ∙ sym (length-map gates (λ g. g.base)));
    each = λ k cell base a b.
        let h = at_mapped (λ (h : HeldCell S T meaning). cell_of h) helds k cell a in
        let g = at_mapped (λ (g : CellGate). g.base) gates k base b in
        let c = card_at k h.0 h.1 in
        let both : Some g.0 ≡ Some c.keeps.gate = sym g.1 ∙ c.keeps.gate_at in
        let same : g.0 ≡ c.keeps.gate = cc in
        let is : c.keeps.gate.base ≡ base = ap (λ (g : CellGate). g.base) (sym same) ∙ sym g.2 in
        subst (λ (z : CardCell S T meaning). IsHeld put_cost z base (card_records k)) (sym h.2)
        (subst (λ (z : CellBase). IsHeld put_cost (cell_of h.0) z (card_records k)) is
        (subst (λ (R : Records). IsHeld put_cost (cell_of h.0) c.keeps.gate.base R) (sym c.is) c.keeps.stands));
  }

  -- ---- the shares

  module _ (names : Names) (scripts : Scripts) (answers : List (List ApiAnswer)) (a : AreShared names scripts gates firsts answers) where
    abbrev pub share : ℕ → List Move
    share k = list_of (slice_get a.shares k)

    -- a script with its share
    record Script (k : ℕ) : Type 0 where
      pub lines : List Line
      pub player : Played
      pub row : List CellPass
      pub moves : List Move
      pub lines_at : slice_get scripts k ≡ Some lines
      pub player_at : slice_get a.players k ≡ Some player
      pub row_at : slice_get a.rows k ≡ Some row
      pub is : share k ≡ moves
      pub played : PlayedOver names gates lines player row moves
      pub long : length row ≡ length gates

    script_of : (k : ℕ) → k < length scripts → Script k
    script_of k lt =
        let lines = within scripts k lt in
        let players_many = a.players_many in
        let rows_many = a.rows_many in
        let shares_many = a.shares_many in
        let player = within a.players k (omega (arith, lt, players_many)) in
        let row = within a.rows k (omega (arith, lt, rows_many)) in
        let moves = within a.shares k (omega (arith, lt, shares_many)) in
        record {
          lines = lines.0;
          player = player.0;
          row = row.0;
          moves = moves.0;
          lines_at = lines.1;
          player_at = player.1;
          row_at = row.1;
          is = ap (λ (o : Option (List Move)). list_of o) moves.1;
          played = a.plays k lines.0 player.0 row.0 moves.0 lines.1 player.1 row.1 moves.1;
          long = a.row_long k row.0 row.1;
        }

    -- the own records of a script on a card are those of its share
    own_is : (k card : ℕ) (s : Script k) → card < length gates → own_in a.rows card k ≡ owns_of card (share_of s.moves)
    own_is k card s lt =
        let long = s.long in
        let p = within s.row card (omega (arith, lt, long)) in
        ap (λ (o : Option (List CellPass)). own_of (slice_get (row_of o) card)) s.row_at ∙ (ap (λ (o : Option CellPass). own_of o) p.1 ∙ s.played.stands.own card p.0 p.1)

    all_of : (card : ℕ) (held : HeldCell S T meaning) (c : Card card held) → HasAll a.rows card c.keeps.first
    all_of card held c = a.gathered card c.keeps.first c.keeps.first_at

    -- a record of a script is the one at its place of its card
    there : (k card place : ℕ) (r : CardRecord) (s : Script k) → k < length scripts → card < length gates → Owns (owns_of card (share_of s.moves)) place r → record_at (card_records card) place ≡ Some r
    there k card place r s lt inside o =
        let h = held_of card inside in
        let c = h.1 in
        let all = all_of card h.0 c in
        let rows_many = a.rows_many in
        let mine : Owns (own_in a.rows card k) place r = subst (λ (l : List (ℕ × CardRecord)). Owns l place r) (sym (own_is k card s inside)) o in
        let first : Owns c.keeps.first.own place r = all.own.into k place r (omega (arith, lt, rows_many)) mine in
        let at = placed_owns 0 c.rs place r (subst (λ (l : List (ℕ × CardRecord)). Owns l place r) c.keeps.own first) in
        let same : at.0 ≡ place = let e = at.1 in omega (arith, e) in
        ap (λ (R : Records). slice_get (reverse R) place) c.is ∙ (ap (λ (l : List CardRecord). slice_get l place) (reverse-reverse c.rs) ∙ subst (λ (n : ℕ). slice_get c.rs n ≡ Some r) same at.2)

    plays_out : (k : ℕ) (lines : List Line) (given : List ApiAnswer) → slice_get scripts k ≡ Some lines → slice_get answers k ≡ Some given → PlaysOut names lines given card_records (share k)
    plays_out k lines given at there_is =
        let lt = slice_get_within scripts k lines at in
        let s = script_of k lt in
        let both : Some s.lines ≡ Some lines = sym s.lines_at ∙ at in
        let same : s.lines ≡ lines = cc in
        let answers_at : slice_get answers k ≡ Some s.player.answers = ap (λ (l : List (List ApiAnswer)). slice_get l k) a.answered ∙ mapped_at (λ (p : Played). p.answers) a.players k s.player s.player_at in
        let both_given : Some given ≡ Some s.player.answers = sym there_is ∙ answers_at in
        let given_is : given ≡ s.player.answers = cc in
        let inside = subst (λ (n : ℕ). AreInside n (share_of s.moves)) s.long s.played.stands.inside in
        subst (λ (ms : List Move). PlaysOut names lines given card_records ms) (sym s.is)
        (subst (λ (ls : List Line). PlaysOut names ls given card_records s.moves) same (record {
          plays = s.played.plays;
          ended = s.played.ended;
          answered = given_is ∙ s.played.answered;
          rises = s.played.rises;
          are_there = there_by card_records (length gates) (share_of s.moves) inside (λ card place r lc o. there k card place r s lt lc o);
          uses_its_own = uses_its_own names s.lines s.moves s.played.plays;
        }))

    -- ---- each place has one taker

    inside_by : (card place : ℕ) → place < length (card_records card) → card < length gates
    inside_by card place lt = go (lt_or_le card (length gates)) where
      go : (card < length gates) ⊎ (length gates ≤ card) → card < length gates
      go (inl h) = h
      go (inr h) = absurd (let none : length (card_records card) ≡ 0 = ap (λ (R : Records). length R) (no_card card h) in omega (arith, none, lt))

    taker : (card place : ℕ) → card < length gates → place < length (card_records card) → (k : ℕ) × IsTaker (length scripts) share card place k
    taker card place inside lt =
        let h = held_of card inside in
        let c = h.1 in
        let n : length (card_records card) ≡ length c.rs = ap (λ (R : Records). length R) c.is ∙ length-reverse c.rs in
        let r = within c.rs place (omega (arith, lt, n)) in
        let first : Owns c.keeps.first.own place r.0 = subst (λ (l : List (ℕ × CardRecord)). Owns l place r.0) (sym c.keeps.own) (owns_at c.rs place r.0 r.1) in
        let j = (all_of card h.0 c).own.from place r.0 first in
        let rows_many = a.rows_many in
        let j_lt = j.1 in
        let below : j.0 < length scripts = omega (arith, j_lt, rows_many) in
        let s = script_of j.0 below in
        let mine = subst (λ (l : List (ℕ × CardRecord)). Owns l place r.0) (own_is j.0 card s inside) j.2 in
        (j.0, record { is_script = below; has = subst (λ (ms : List Move). Has (share_of ms) card place) (sym s.is) (owns_has (share_of s.moves) card place r.0 mine) })

    one : (card place i j : ℕ) → card < length gates → IsTaker (length scripts) share card place i → IsTaker (length scripts) share card place j → i ≡ j
    one card place i j inside p q =
        let h = held_of card inside in
        let c = h.1 in
        let rows_many = a.rows_many in
        let i_lt = p.is_script in
        let j_lt = q.is_script in
        let s = script_of i i_lt in
        let t = script_of j j_lt in
        let r = has_owns (share_of s.moves) card place (subst (λ (ms : List Move). Has (share_of ms) card place) s.is p.has) in
        let u = has_owns (share_of t.moves) card place (subst (λ (ms : List Move). Has (share_of ms) card place) t.is q.has) in
        (all_of card h.0 c).own.once i j place r.0 u.0 (omega (arith, i_lt, rows_many)) (omega (arith, j_lt, rows_many))
        (subst (λ (l : List (ℕ × CardRecord)). Owns l place r.0) (sym (own_is i card s inside)) r.1)
        (subst (λ (l : List (ℕ × CardRecord)). Owns l place u.0) (sym (own_is j card t inside)) u.1)

    pub shared_out : SharesOut names scripts answers card_records share
    shared_out = record {
      many = ap (λ (l : List (List ApiAnswer)). length l) a.answered ∙ (length-map a.players (λ p. p.answers) ∙ a.players_many);
      each = plays_out;
      one_taker = λ card place lt.
          let inside = inside_by card place lt in
          let k = taker card place inside lt in
          (k.0, k.1, λ j t. one card place j k.0 inside t k.1);
    }

    -- ---- no turn was answered Full

    turns_are : (o : Option CellGate) → turns_with (option_map (λ g. g.base) o) ≡ turns_of o
    turns_are None = refl
    turns_are (Some g) = refl

    seen_within : (k : ℕ) (s : Script k) → k < length scripts → (card : ℕ) → seen_at s.row card ≤ length (card_records card)
    seen_within k s lt card = go (lt_or_le card (length gates)) where
      go : (card < length gates) ⊎ (length gates ≤ card) → seen_at s.row card ≤ length (card_records card)
      go (inl inside) =
          let h = held_of card inside in
          let c = h.1 in
          let long = s.long in
          let p = within s.row card (omega (arith, inside, long)) in
          let here : seen_at s.row card ≡ p.0.seen = ap seen_of p.1 in
          let le = (all_of card h.0 c).seen k s.row p.0 s.row_at p.1 in
          let seen = c.keeps.seen in
          let n : length (card_records card) ≡ length c.rs = ap (λ (R : Records). length R) c.is ∙ length-reverse c.rs in
          omega (arith, here, le, seen, n)
      go (inr out) =
          let long = s.long in
          let none : seen_at s.row card ≡ 0 = ap seen_of (slice_get_past s.row card (omega (arith, out, long))) in
          omega (arith, none)

    pub never_full : AllPlayable scripts → HasTurns (length (bases_of gates)) (card_turns (bases_of gates)) (all_turns scripts) → (k : ℕ) → k < length scripts → NeverFull (share k)
    never_full playable room k lt =
        let s = script_of k lt in
        shares_never_fill names scripts card_records share (length (bases_of gates)) (card_turns (bases_of gates)) playable
        (λ j lines at. let b = slice_get_within scripts j lines at in
        let t = script_of j b in
        let both : Some t.lines ≡ Some lines = sym t.lines_at ∙ at in
        let same : t.lines ≡ lines = cc in
        subst (λ (ms : List Move). Plays names lines ms) (sym t.is) (subst (λ (ls : List Line). Plays names ls t.moves) same t.played.plays))
        (λ card place p. taker card place (inside_by card place p) p)
        room k lt
        (subst (λ (ms : List Move). FullHasCause (length (bases_of gates)) (λ card. length (card_records card)) (card_turns (bases_of gates)) ms) (sym s.is)
        (subst (λ (n : ℕ). FullHasCause n (λ card. length (card_records card)) (card_turns (bases_of gates)) s.moves) (sym (length-map gates (λ g. g.base)))
        (full_stays (length gates) (seen_at s.row) (turns_at gates) (λ card. length (card_records card)) (card_turns (bases_of gates)) s.moves
        (λ card. ap turns_with (slice_get-map (λ (g : CellGate). g.base) gates card) ∙ turns_are (slice_get gates card))
        (seen_within k s lt) s.played.full)))

    pub has_run : HasRun put_cost names scripts (bases_of gates) (map (λ h. cell_of h) helds) answers
    has_run = (card_records, share, record { held = all_held; shared = shared_out; never_full = never_full })

  pub still_hold : StillHold put_cost (bases_of gates) (map (λ h. cell_of h) helds)
  still_hold = (card_records, all_held)

-- ---- the start

module _ {S T : Type 0} {meaning : Ghosts S T} (put_cost : ℕ → ℕ) where
  pub stand_at_start : (cells : List (CardCell S T meaning)) (bases : List CellBase) (helds : List (HeldCell S T meaning)) → map (λ h. cell_of h) helds ≡ cells → HoldAll put_cost cells bases (λ k. [])
      → StandAtStart (HoldsAll {S = S} {T = T} {meaning = meaning} put_cost) helds bases
  stand_at_start cells bases helds is hold = record {
    many = sym (length-map helds (λ h. cell_of h)) ∙ (ap (λ (l : List (CardCell S T meaning)). length l) is ∙ hold.many);
    each = λ k held base a b. hold.each k (cell_of held) base (subst (λ (l : List (CardCell S T meaning)). slice_get l k ≡ Some (cell_of held)) is (mapped_at (λ (h : HeldCell S T meaning). cell_of h) helds k held a)) b;
  }

  pub back_at_start : (bases : List CellBase) (helds : List (HeldCell S T meaning)) → StandAtStart (HoldsAll {S = S} {T = T} {meaning = meaning} put_cost) helds bases → StillHold put_cost bases (map (λ h. cell_of h) helds)
  back_at_start bases helds start = (
    λ k. [],
    record {
      many = length-map helds (λ h. cell_of h) ∙ start.many;
      each = λ k cell base a b.
          let h = at_mapped (λ (h : HeldCell S T meaning). cell_of h) helds k cell a in
          subst (λ (z : CardCell S T meaning). IsHeld put_cost z base []) (sym h.2) (start.each k h.0 base h.1 b);
    },
  )
