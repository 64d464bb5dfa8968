-- Rows of passes, dealt and gathered.
use Rattle.std.proofs.Common.{◌≡◌, ◌⊎◌, inl, inr, ◌∙◌, ℕ, suc, ◌+◌, ◌-◌, ◌<◌, ◌≤◌, max, List, [], ◌∷◌, ◌++◌, length, map, replicate, Option, Some, sym, refl, ap, subst, arith, length-append, Vec, Global}
use Rattle.std.specs.Prelude.{get_or, option_map}
use Rattle.std.specs.List.{slice_get}
use Rattle.std.proofs.Math.Nat.{le-max_left, le-max_right}
use Rattle.std.proofs.lemmas.List.{length-map}
use Rattle.std.proofs.lemmas.Option.{slice_get_within, slice_get-get_or, slice_get-map}
use Rattle.turnstile.specs.Records.{Apart, merged}
use Rattle.turnstile.specs.Known.{Gate, Known, split_off}
use Rattle.turnstile_rows.specs.Rows.{ArePassesOf, AreFirst, AreOthers, AreRowsOf, HaveOut, one_more_out, with_out, IsJoined, AreJoined}
use Rattle.turnstile_rows.specs.Gathered.{Gathered, row_of, own_of, own_in, HasAll, AreGathered}
use Rattle.turnstile_rows.proofs.Lists.{at_end, before_end, last_is, at_mapped, at_replicate, within, map_map}
use Rattle.turnstile_rows.proofs.Merged.{none_gathered, one_gathered, gathered_as}

module _ {B E : Type 0} where
  -- ---- gathered

  pub gathered_none : (old : List (Known B E)) → AreGathered [] old old
  gathered_none old = record {
    many = refl;
    each = λ place before after a b none.
        let both : Some before ≡ Some after = sym a ∙ b in
        let same : before ≡ after = cc in
        record {
          own = subst (λ (l : List (ℕ × E)). Gathered 0 (own_in {B = B} {E = E} [] place) l) (sym (ap (λ (p : Known B E). p.own) (sym same) ∙ none)) (none_gathered (own_in {B = B} {E = E} [] place));
          seen = λ j row pass c d. absurd (cc);
        };
  }

  own_before : (rows : List (List (Known B E))) (row : List (Known B E)) (place j : ℕ) → j < length rows → own_in rows place j ≡ own_in (rows ++ row ∷ []) place j
  own_before rows row place j lt = ap (λ (o : Option (List (Known B E))). own_of (slice_get (row_of o) place)) (sym (before_end rows row j lt))

  own_last : (rows : List (List (Known B E))) (row : List (Known B E)) (place : ℕ) (pass : Known B E) → slice_get row place ≡ Some pass → own_in (rows ++ row ∷ []) place (length rows) ≡ pass.own
  own_last rows row place pass at = ap (λ (o : Option (List (Known B E))). own_of (slice_get (row_of o) place)) (last_is rows row) ∙ ap (λ (o : Option (Known B E)). own_of o) at

  has_more : (rows : List (List (Known B E))) (row : List (Known B E)) (place : ℕ) (f p q : Known B E) → HasAll rows place f → slice_get row place ≡ Some p → IsJoined f p q → HasAll (rows ++ row ∷ []) place q
  has_more rows row place f p q h at j =
      let n : ℕ = length rows in
      let after : ℕ → List (ℕ × E) = own_in (rows ++ row ∷ []) place in
      let last : after n ≡ p.own = own_last rows row place p at in
      let before : Gathered n after f.own = gathered_as n (own_in rows place) after f.own (own_before rows row place) h.own in
      let apart : Apart f.own (after n) = subst (λ (l : List (ℕ × E)). Apart f.own l) (sym last) j.apart in
      let all : Gathered (n + 1) after (merged f.own (after n)) = one_gathered n after f.own before apart in
      let own : q.own ≡ merged f.own (after n) = ap (λ (x : Known B E). x.own) j.same ∙ ap (λ (l : List (ℕ × E)). merged f.own l) (sym last) in
      let seen : q.seen ≡ max f.seen p.seen = ap (λ (x : Known B E). x.seen) j.same in
      let long : length (rows ++ row ∷ []) ≡ n + 1 = length-append rows (row ∷ []) in
      record {
        own = subst (λ (k : ℕ). Gathered k after q.own) (sym long) (subst (λ (l : List (ℕ × E)). Gathered (n + 1) after l) (sym own) all);
        seen = λ k other pass a b. go k other pass (at_end rows row k other a) b;
      }
    where
      go : (k : ℕ) (other : List (Known B E)) (pass : Known B E) → (slice_get rows k ≡ Some other) ⊎ ((k ≡ length rows) × (row ≡ other)) → slice_get other place ≡ Some pass → pass.seen ≤ q.seen
      go k other pass (inl e) b =
          let le = h.seen k other pass e b in
          let seen : q.seen ≡ max f.seen p.seen = ap (λ (x : Known B E). x.seen) j.same in
          omega (arith, le, seen, le-max_left f.seen p.seen)
      go k other pass (inr e) b =
          let both : Some p ≡ Some pass = sym at ∙ (ap (λ (l : List (Known B E)). slice_get l place) e.1 ∙ b) in
          let same : p ≡ pass = cc in
          let is : p.seen ≡ pass.seen = ap (λ (x : Known B E). x.seen) same in
          let seen : q.seen ≡ max f.seen p.seen = ap (λ (x : Known B E). x.seen) j.same in
          omega (arith, is, seen, le-max_right f.seen p.seen)

  pub gathered_more : (gates : List (Gate B)) (rows : List (List (Known B E))) (row old mid new : List (Known B E)) → ArePassesOf gates mid → ArePassesOf gates row → AreGathered rows old mid → AreJoined mid row new
      → AreGathered (rows ++ row ∷ []) old new
  gathered_more gates rows row old mid new own mine g j = record {
    many = j.many ∙ g.many;
    each = λ place before after a b none.
        let lt = slice_get_within new place after b in
        let mid_many = j.many in
        let own_many = own.many in
        let row_many = mine.many in
        let f = within mid place (omega (arith, lt, mid_many)) in
        let p = within row place (omega (arith, lt, mid_many, own_many, row_many)) in
        has_more rows row place f.0 p.0 after (g.each place before f.0 a f.1 none) p.1 (j.each place f.0 p.0 after f.1 p.1 b);
  }

  pub out_less : (gates : List (Gate B)) (n : ℕ) (row mid new : List (Known B E)) → ArePassesOf gates mid → ArePassesOf gates row → HaveOut n mid → AreJoined mid row new → HaveOut (n - 1) new
  out_less gates n row mid new own mine out j place after b =
      let lt = slice_get_within new place after b in
      let mid_many = j.many in
      let own_many = own.many in
      let row_many = mine.many in
      let f = within mid place (omega (arith, lt, mid_many)) in
      let p = within row place (omega (arith, lt, mid_many, own_many, row_many)) in
      let was = out place f.0 f.1 in
      let is : after.out ≡ f.0.out - 1 = ap (λ (x : Known B E). x.out) (j.each place f.0 p.0 after f.1 p.1 b).same in
      is ∙ ap (λ (k : ℕ). k - 1) was

  -- ---- dealt

  pub none_out : (passes : List (Known B E)) → HaveOut 0 passes → passes ≡ map (with_out 0) passes
  none_out [] out = refl
  none_out (p ∷ ps) out =
      let here : p.out ≡ 0 = out 0 p refl in
      let rest = none_out ps (λ k q e. out (suc k) q e) in
      let same : p ≡ with_out 0 p = ap (λ (n : ℕ). record p { out = n }) here in
      λ i. same i ∷ rest i

  pub have_out : (n : ℕ) (passes : List (Known B E)) → HaveOut n (map (with_out n) passes)
  have_out n passes k q e = let m = at_mapped (with_out n) passes k q e in ap (λ (x : Known B E). x.out) m.2

  pub own_kept : (f : Known B E → Known B E) (gates : List (Gate B)) (passes : List (Known B E)) → ((p : Known B E) → ((f p).table ≡ p.table) × ((f p).base ≡ p.base)) → ArePassesOf gates passes → ArePassesOf gates (map f passes)
  own_kept f gates passes keeps own = record {
    many = own.many ∙ sym (length-map passes f);
    each = λ k gate q here there.
        let m = at_mapped f passes k q there in
        let of = own.each k gate m.0 here m.1 in
        let same = keeps m.0 in
        (ap (λ (x : Known B E). x.table) m.2 ∙ (same.0 ∙ of.0), ap (λ (x : Known B E). x.base) m.2 ∙ (same.1 ∙ of.1));
  }

  pub first_kept : (n : ℕ) (passes : List (Known B E)) → AreFirst passes → AreFirst (map (with_out n) passes)
  first_kept n passes all k q e = let m = at_mapped (with_out n) passes k q e in ap (λ (x : Known B E). x.is_first) m.2 ∙ all k m.0 m.1

  pub rows_of : (gates : List (Gate B)) (passes : List (Known B E)) (n : ℕ) → ArePassesOf gates passes → AreRowsOf gates (replicate n (map split_off passes))
  rows_of gates passes n own j row e =
      let same = at_replicate n (map split_off passes) j row e in
      subst (λ (l : List (Known B E)). ArePassesOf gates l × AreOthers l) same (
        own_kept split_off gates passes (λ p. (refl, refl)) own,
        λ k q at. let m = at_mapped split_off passes k q at in ap (λ (x : Known B E). x.is_first) m.2,
      )

  pub one_more : (n : ℕ) (passes : List (Known B E)) → map one_more_out (map (with_out n) passes) ≡ map (with_out (n + 1)) passes
  one_more n passes = map_map one_more_out (with_out n) passes

  pub same_split : (n : ℕ) (passes : List (Known B E)) → map split_off (map (with_out n) passes) ≡ map split_off passes
  same_split n passes = map_map split_off (with_out n) passes

  -- a row that was taken from the list
  pub row_at : (gates : List (Gate B)) (rows : List (Vec (Known B E) Global)) (k : ℕ) (row : Vec (Known B E) Global) → k < length rows → row ≡ get_or rows k row → AreRowsOf gates (map (λ v. v.items) rows)
      → ArePassesOf gates row.items × AreOthers row.items
  row_at gates rows k row lt is all =
      let at : slice_get rows k ≡ Some row = slice_get-get_or rows k row lt ∙ ap Some (sym is) in
      all k row.items (slice_get-map (λ (v : Vec (Known B E) Global). v.items) rows k ∙ ap (λ (o : Option (Vec (Known B E) Global)). option_map (λ v. v.items) o) at)
