-- Passes that are joined, the last one first.
use Rattle.std.proofs.Common.{◌≡◌, ◌∙◌, ℕ, ◌+◌, ◌<◌, ◌≤◌, List, [], ◌∷◌, ◌++◌, length, take, set, Some, sym, refl, subst, arith, length-set}
use mathlib.Core.Logic.{dite}
use native.Mathlib.Decide.{ℕ_discrete}
use Rattle.std.specs.Prelude.{slice_index_or}
use Rattle.std.specs.List.{slice_get}
use Rattle.std.proofs.lemmas.Option.{slice_get_within}
use Rattle.turnstile.specs.Known.{Gate, Known}
use Rattle.turnstile_rows.specs.Rows.{ArePassesOf, AreJoined, IsJoined}
use Rattle.turnstile_rows.proofs.Lists.{set_same, set_apart, popped, read_at}

module _ {B E : Type 0} where
  -- from the place n on each pass was joined, and below it the first one is as it was
  pub record JoinedFrom (n : ℕ) (old others new : List (Known B E)) : Type 0 where
    pub many : length new ≡ length old
    pub below : (k : ℕ) → k < n → slice_get new k ≡ slice_get old k
    pub above : (k : ℕ) (f p q : Known B E) → n ≤ k → slice_get old k ≡ Some f → slice_get others k ≡ Some p → slice_get new k ≡ Some q → IsJoined f p q

  pub joined_on : (n m : ℕ) (old others new : List (Known B E)) (f p q : Known B E) → m ≡ n + 1 → JoinedFrom m old others new → slice_get new n ≡ Some f → slice_get others n ≡ Some p → IsJoined f p q → JoinedFrom n old others (set new n q)
  joined_on n m old others new f p q one j at is joins = record {
    many = length-set new n q ∙ j.many;
    below = λ k lt. set_apart new n k q (λ s. omega (arith, s, lt)) ∙ j.below k (omega (arith, lt, one));
    above = λ k f' p' q' le f_at p_at q_at. dite (ℕ_discrete k n)
        (λ s. let n_lt : n < m = omega (arith, one) in
        let a : Some f ≡ Some f' = sym at ∙ (j.below n n_lt ∙ subst (λ (i : ℕ). slice_get old i ≡ Some f') s f_at) in
        let b : Some p ≡ Some p' = sym is ∙ subst (λ (i : ℕ). slice_get others i ≡ Some p') s p_at in
        let c : q ≡ q' = set_same new n q q' (subst (λ (i : ℕ). slice_get (set new n q) i ≡ Some q') s q_at) in
        let a' : f ≡ f' = cc in
        let b' : p ≡ p' = cc in
        subst (λ (z : Known B E). IsJoined f' p' z) c (subst (λ (z : Known B E). IsJoined f' z q) b' (subst (λ (z : Known B E). IsJoined z p q) a' joins)))
        (λ s. j.above k f' p' q' (let n' = s in omega (arith, le, one, n')) f_at p_at (sym (set_apart new n k q s) ∙ q_at));
  }

  pub joined_all : (old others new : List (Known B E)) → JoinedFrom 0 old others new → AreJoined old others new
  joined_all old others new j = record { many = j.many; each = λ k f p q a b c. j.above k f p q (omega arith) a b c }

  pub none_joined : (old others : List (Known B E)) → JoinedFrom (length others) old others old
  none_joined old others = record {
    many = refl;
    below = λ k lt. refl;
    above = λ k f p q le a b c. absurd (let lt = slice_get_within others k p b in omega (arith, le, lt));
  }

  -- a pass that was taken from the end, with its turnstile and the first pass
  pub record Picked (gates : List (Gate B)) (firsts all old xs : List (Known B E)) (pass first : Known B E) (card : ℕ) (gate : Gate B) : Type 0 where
    pub gate_at : slice_get gates card ≡ Some gate
    pub first_at : slice_get firsts card ≡ Some first
    pub pass_at : slice_get all card ≡ Some pass
    pub left : xs ≡ take (length xs) all
    pub one : length old ≡ length xs + 1

  pub picked : (gates : List (Gate B)) (firsts all old xs : List (Known B E)) (pass first : Known B E) (card : ℕ) (gate : Gate B) → ArePassesOf gates firsts → ArePassesOf gates all
      → old ≡ xs ++ pass ∷ [] → old ≡ take (length old) all → card ≡ length xs → gate ≡ slice_index_or gates card gate → first ≡ slice_index_or firsts card first
      → Picked gates firsts all old xs pass first card gate
  picked gates firsts all old xs pass first card gate own mine items left at read_gate read_first =
      let p = popped all old xs pass items left in
      let inside = p.inside in
      let many = mine.many in
      let same = own.many in
      record {
        gate_at = read_at gates gates card gate (omega (arith, at, inside, many)) refl read_gate;
        first_at = read_at firsts firsts card first (omega (arith, at, inside, many, same)) refl read_first;
        pass_at = subst (λ (k : ℕ). slice_get all k ≡ Some pass) (sym at) p.at;
        left = p.left;
        one = p.one;
      }
