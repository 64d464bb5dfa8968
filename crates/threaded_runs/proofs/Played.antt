-- Workers who have played their scripts, and what the passes then have.
use Rattle.std.specs.Prelude.{slice_index_or}
use Rattle.std.specs.List.{slice_get}
use Rattle.std.proofs.Common.{◌≡◌, ◌∙◌, ℕ, ◌<◌, Bool, false, List, length, map, replicate, All, Some, sym, ap, subst, arith}
use Rattle.std.proofs.lemmas.List.{length-map}
use Rattle.std.proofs.lemmas.Option.{slice_get_within}
use Rattle.turnstile.specs.Known.{first_pass, split_off}
use Rattle.turnstile_rows.specs.Rows.{ArePassesOf, AreOthers, AreRowsOf, with_out}
use Rattle.turnstile_rows.specs.Gathered.{AreGathered}
use Rattle.turnstile_rows.proofs.Lists.{at_mapped, at_replicate, within, map_map}
use Rattle.piv_model.specs.declared.answers.ApiAnswer.{ApiAnswer}
use Rattle.script_line.specs.declared.line.Line.{Line}
use Rattle.client_api.specs.Readers.{Names}
use Rattle.client_api.specs.Players.{Played}
use Rattle.script_runs.specs.Progress.{begun, AreBegun, scripts_of}
use Rattle.client_threads.specs.Passes.{CellGate, CellPass}
use Rattle.threaded_runs.specs.Workers.{IsHired, HasPlayed, PlayedOver}
use Rattle.threaded_runs.specs.Shared.{AreShared}
use Rattle.threaded_runs.proofs.Mapped.{mapped_at, index_at, index_is, Collected, collect}
use Rattle.threaded_runs.proofs.Dealt.{firsts_new, still_others}

begun_at : (players : List Played) (k : ℕ) (p : Played) → AreBegun players → slice_get players k ≡ Some p → p ≡ begun p.lines
begun_at players k p are at =
    let lines : slice_get (scripts_of players) k ≡ Some p.lines = mapped_at (λ (z : Played). z.lines) players k p at in
    let there : slice_get (map begun (scripts_of players)) k ≡ Some (begun p.lines) = mapped_at begun (scripts_of players) k p.lines lines in
    let both : Some p ≡ Some (begun p.lines) = sym at ∙ (ap (λ (l : List Played). slice_get l k) are ∙ there) in
    cc

-- a worker has a player, a row of passes, and was refused memory or not
module _ {W : Type 0} (player : W → Played) (row : W → List CellPass) (refused : W → Bool) where
  pub all_hired : (workers : List W) (players : List Played) (dealt : List CellPass) (n : ℕ) → map player workers ≡ players → AreBegun players → map row workers ≡ replicate n dealt
      → All (λ w. IsHired dealt (player w) (row w)) workers
  all_hired workers players dealt n ps begins rows k d lt =
      let w : W = slice_index_or workers k d in
      let at = index_at workers k d lt in
      record {
        begins = begun_at players k (player w) begins (subst (λ (l : List Played). slice_get l k ≡ Some (player w)) ps (mapped_at player workers k w at));
        passes_are = sym (at_replicate n dealt k (row w) (subst (λ (l : List (List CellPass)). slice_get l k ≡ Some (row w)) rows (mapped_at row workers k w at)));
      }

  -- what a worker has done, by his place
  abbrev pub Done : Names → List CellGate → List CellPass → List W → List W → Type 0
  Done names gates dealt old new =
      (k : ℕ) (d : W) → k < length old → HasPlayed names gates dealt (player (slice_index_or old k d)).lines (player (slice_index_or new k d)) (row (slice_index_or new k d)) (refused (slice_index_or new k d))

  done_at : (names : Names) (gates : List CellGate) (dealt : List CellPass) (old new : List W) → length new ≡ length old → Done names gates dealt old new → (k : ℕ) (w : W) → slice_get new k ≡ Some w
      → HasPlayed names gates dealt (player (slice_index_or old k w)).lines (player w) (row w) (refused w)
  done_at names gates dealt old new many done k w at =
      let lt = slice_get_within new k w at in
      subst (λ (z : W). HasPlayed names gates dealt (player (slice_index_or old k w)).lines (player z) (row z) (refused z)) (index_is new k w w at) (done k w (omega (arith, lt, many)))

  pub rows_back : (names : Names) (gates : List CellGate) (passes : List CellPass) (old new : List W) → length new ≡ length old → Done names gates (map split_off passes) old new → AreRowsOf gates (map row new)
  rows_back names gates passes old new many done j r e =
      let m = at_mapped row new j r e in
      let h = done_at names gates (map split_off passes) old new many done j m.0 m.1 in
      subst (λ (l : List CellPass). ArePassesOf gates l × AreOthers l) (sym m.2) (h.own, still_others passes (row m.0) h.still)

  pub shared : (names : Names) (gates : List CellGate) (dealt : List CellPass) (players : List Played) (n : ℕ) (firsts : List CellPass) (answers : List (List ApiAnswer)) (old new : List W)
      → map player old ≡ players → length new ≡ length old → Done names gates dealt old new → All (λ w. refused w ≡ false) new
      → AreGathered (map row new) (map (with_out n) (map first_pass gates)) firsts → answers ≡ map (λ w. (player w).answers) new
      → AreShared names (scripts_of players) gates firsts answers
  shared names gates dealt players n firsts answers old new ps many done fine gathered given =
      let count : length (scripts_of players) ≡ length new =
      length-map players (λ (p : Played). p.lines) ∙ (sym (ap (λ (l : List Played). length l) ps) ∙ (length-map old player ∙ sym many)) in
      let moves : Collected new (λ k w moves. PlayedOver names gates (player (slice_index_or old k w)).lines (player w) (row w) moves) = collect new (λ k w moves. PlayedOver names gates (player (slice_index_or old k w)).lines (player w) (row w) moves)
      (λ k w at. (done_at names gates dealt old new many done k w at).played (ok k w at)) in
      record {
        rows = map row new;
        players = map player new;
        shares = moves.all;
        rows_many = length-map new row ∙ sym count;
        players_many = length-map new player ∙ sym count;
        shares_many = moves.many ∙ sym count;
        row_long = λ k r e.
            let m = at_mapped row new k r e in
            let h = done_at names gates dealt old new many done k m.0 m.1 in
            ap (λ (l : List CellPass). length l) m.2 ∙ sym h.own.many;
        plays = λ k lines p r ms a b c d.
            let m = at_mapped player new k p b in
            let q = at_mapped row new k r c in
            let both : Some m.0 ≡ Some q.0 = sym m.1 ∙ q.1 in
            let one : m.0 ≡ q.0 = cc in
            let play = moves.each k m.0 ms m.1 d in
            let lt = slice_get_within new k m.0 m.1 in
            let was = index_at old k m.0 (omega (arith, lt, many)) in
            let is : slice_get (scripts_of players) k ≡ Some (player (slice_index_or old k m.0)).lines =
            mapped_at (λ (z : Played). z.lines) players k (player (slice_index_or old k m.0)) (subst (λ (l : List Played). slice_get l k ≡ Some (player (slice_index_or old k m.0))) ps (mapped_at player old k (slice_index_or old k m.0) was)) in
            let same : Some (player (slice_index_or old k m.0)).lines ≡ Some lines = sym is ∙ a in
            let lines_are : (player (slice_index_or old k m.0)).lines ≡ lines = cc in
            subst (λ (l : List Line). PlayedOver names gates l p r ms) lines_are
            (subst (λ (z : Played). PlayedOver names gates (player (slice_index_or old k m.0)).lines z r ms) (sym m.2)
            (subst (λ (z : List CellPass). PlayedOver names gates (player (slice_index_or old k m.0)).lines (player m.0) z ms) (ap row one ∙ sym q.2) play));
        answered = given ∙ sym (map_map (λ (p : Played). p.answers) player new);
        gathered = λ card first at.
            let lt = slice_get_within firsts card first at in
            let long = gathered.many in
            let before = within (map (with_out n) (map first_pass gates)) card (omega (arith, lt, long)) in
            gathered.each card before.0 first before.1 at (firsts_new gates n card before.0 before.1);
      }
    where
      ok : (k : ℕ) (w : W) → slice_get new k ≡ Some w → refused w ≡ false
      ok k w at = subst (λ (z : W). refused z ≡ false) (index_is new k w w at) (fine k w (slice_get_within new k w at))
