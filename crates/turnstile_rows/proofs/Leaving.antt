-- Values that leave for a turnstile, and come back from it.
use Rattle.std.proofs.Common.{◌≡◌, inl, inr, ◌⊎◌, ◌∙◌, ℕ, suc, ◌<◌, List, [], ◌∷◌, ◌++◌, length, map, Some, sym, refl, ap, subst, arith, length-append, append_assoc, append-nil}
use Rattle.std.specs.Prelude.{reverse}
use Rattle.std.specs.List.{slice_get}
use Rattle.std.proofs.lemmas.List.{reverse-append, map-append}
use Rattle.std.proofs.lemmas.Option.{slice_get_within}
use Rattle.turnstile.specs.Known.{Gate, Known, first_pass}
use Rattle.turnstile.specs.Records.{placed}
use Rattle.turnstile.specs.Turns.{Closed}
use Rattle.turnstile_rows.specs.Rows.{bases_of, StandAtStart, StandBehind}
use Rattle.turnstile_rows.proofs.Lists.{last_is, longer_at, at_end, unsnoc, same_ends}

module _ {X B E : Type 0} (stands_for : X → B → List E → Type 0) where
  pub start_less : (xs : List X) (x : X) (bs : List B) (b : B) → StandAtStart stands_for (xs ++ x ∷ []) (bs ++ b ∷ []) → StandAtStart stands_for xs bs × stands_for x b []
  start_less xs x bs b s =
      let e = s.many in
      let same : length xs ≡ length bs = omega (arith, e, length-append xs (x ∷ []), length-append bs (b ∷ [])) in (
        record { many = same; each = λ k value base here there. s.each k value base (longer_at xs (x ∷ []) k value here) (longer_at bs (b ∷ []) k base there) },
        s.each (length xs) x b (last_is xs x) (subst (λ (n : ℕ). slice_get (bs ++ b ∷ []) n ≡ Some b) (sym same) (last_is bs b)),
      )

  pub start_more : (xs : List X) (x : X) (bs : List B) (b : B) → StandAtStart stands_for xs bs → stands_for x b [] → StandAtStart stands_for (xs ++ x ∷ []) (bs ++ b ∷ [])
  start_more xs x bs b s h =
      let same = s.many in
      record {
        many = omega (arith, same, length-append xs (x ∷ []), length-append bs (b ∷ []));
        each = λ k value base here there. go k value base (at_end xs x k value here) (at_end bs b k base there);
      }
    where
      go : (k : ℕ) (value : X) (base : B) → (slice_get xs k ≡ Some value) ⊎ ((k ≡ length xs) × (x ≡ value)) → (slice_get bs k ≡ Some base) ⊎ ((k ≡ length bs) × (b ≡ base)) → stands_for value base []
      go k value base (inl p) (inl q) = s.each k value base p q
      go k value base (inl p) (inr q) = absurd (let same = s.many in let le = slice_get_within xs k value p in let at = q.0 in omega (arith, same, le, at))
      go k value base (inr p) (inl q) = absurd (let same = s.many in let le = slice_get_within bs k base q in let at = p.0 in omega (arith, same, le, at))
      go k value base (inr p) (inr q) = subst (λ (z : B). stands_for value z []) q.1 (subst (λ (z : X). stands_for z b []) p.1 h)

  -- a value leaves, to stand behind a turnstile with its base
  pub record Leaves (values : List X) (value : X) (gates : List (Gate B)) (bases : List B) : Type 0 where
    pub inside : length values < length bases
    pub stands : (b : B) → slice_get bases (length values) ≡ Some b → stands_for value b []
    pub behind : (g : Gate B) → slice_get bases (length values) ≡ Some g.base → StandBehind stands_for values (gates ++ g ∷ []) bases

  more_gates : (gates : List (Gate B)) (g : Gate B) → bases_of (reverse (gates ++ g ∷ [])) ≡ g.base ∷ bases_of (reverse gates)
  more_gates gates g = ap (λ (l : List (Gate B)). bases_of l) (reverse-append gates (g ∷ []))

  pub leaves : (values : List X) (value : X) (gates : List (Gate B)) (bases : List B) → StandBehind stands_for (values ++ value ∷ []) gates bases → Leaves values value gates bases
  leaves values value gates bases s =
      let many = s.start.many in
      let n : length s.front ≡ suc (length values) = omega (arith, many, length-append values (value ∷ [])) in
      let split = unsnoc s.front (length values) n in
      let fs : List B = split.0 in
      let f : B = split.1 in
      let less = start_less values value fs f (subst (λ (l : List B). StandAtStart stands_for (values ++ value ∷ []) l) split.2 s.start) in
      let len : length fs ≡ length values = sym less.0.many in
      let whole : bases ≡ (fs ++ f ∷ []) ++ bases_of (reverse gates) = s.rest ∙ ap (λ (l : List B). l ++ bases_of (reverse gates)) split.2 in
      let here : slice_get bases (length values) ≡ Some f =
      subst (λ (l : List B). slice_get l (length values) ≡ Some f) (sym whole)
      (longer_at (fs ++ f ∷ []) (bases_of (reverse gates)) (length values) f (subst (λ (n : ℕ). slice_get (fs ++ f ∷ []) n ≡ Some f) len (last_is fs f))) in
      record {
        inside = slice_get_within bases (length values) f here;
        stands = λ b at. let both : Some f ≡ Some b = sym here ∙ at in let same : f ≡ b = cc in subst (λ (z : B). stands_for value z []) same less.1;
        behind = λ g at. let both : Some f ≡ Some g.base = sym here ∙ at in
            let same : f ≡ g.base = cc in
            record {
              front = fs;
              start = less.0;
              rest = whole ∙ (append_assoc fs (f ∷ []) (bases_of (reverse gates)) ∙ (ap (λ (z : B). fs ++ z ∷ bases_of (reverse gates)) same ∙ ap (λ (l : List B). fs ++ l) (sym (more_gates gates g))));
            };
      }

  -- the value of the last turnstile comes back
  pub comes_back : (values : List X) (value : X) (gates : List (Gate B)) (g : Gate B) (bases : List B) → StandBehind stands_for values (gates ++ g ∷ []) bases → stands_for value g.base [] → StandBehind stands_for (values ++ value ∷ []) gates bases
  comes_back values value gates g bases s h = record {
    front = s.front ++ g.base ∷ [];
    start = start_more values value s.front g.base s.start h;
    rest = s.rest ∙ (ap (λ (l : List B). s.front ++ l) (more_gates gates g) ∙ sym (append_assoc s.front (g.base ∷ []) (bases_of (reverse gates))));
  }

  -- a turnstile that was closed by its first pass as it was made has no record
  pub closed_at_start : (g : Gate B) (value : X) → Closed stands_for g.base value (first_pass {B = B} {E = E} g) → stands_for value g.base []
  closed_at_start g value c = subst (λ (rs : List E). stands_for value g.base rs) (go c.records c.own) c.stands where
    go : (rs : List E) → [] ≡ placed 0 rs → rs ≡ []
    go [] e = refl
    go (r ∷ rs) e = absurd (cc)

  -- all have left
  pub all_behind : (gates : List (Gate B)) (bases : List B) → StandBehind stands_for [] gates bases → bases_of (reverse gates) ≡ bases
  all_behind gates bases s = go s.front s.start.many s.rest where
    go : (front : List B) → 0 ≡ length front → bases ≡ front ++ bases_of (reverse gates) → bases_of (reverse gates) ≡ bases
    go [] e r = sym r
    go (f ∷ fs) e r = absurd (omega (arith, e))

  -- none has left
  pub none_behind : (values : List X) (bases : List B) → StandAtStart stands_for values bases → StandBehind stands_for values [] bases
  none_behind values bases s = record { front = bases; start = s; rest = sym (append-nil bases) }

  pub all_back : (values : List X) (bases : List B) → StandBehind stands_for values [] bases → StandAtStart stands_for values bases
  all_back values bases s = subst (λ (l : List B). StandAtStart stands_for values l) (sym (s.rest ∙ append-nil s.front)) s.start

-- first passes as they were made, without the last
pub unwound : {B E : Type 0} (old gates : List (Gate B)) (g : Gate B) (before firsts : List (Known B E)) (first : Known B E) → old ≡ gates ++ g ∷ [] → before ≡ firsts ++ first ∷ [] → before ≡ map first_pass old
    → (firsts ≡ map first_pass gates) × (first ≡ first_pass g)
unwound {B} {E} old gates g before firsts first gs ps e =
    let whole : firsts ++ first ∷ [] ≡ map (first_pass {B = B} {E = E}) gates ++ first_pass g ∷ [] = sym ps ∙ (e ∙ (ap (λ (l : List (Gate B)). map first_pass l) gs ∙ map-append first_pass gates (g ∷ []))) in
    same_ends firsts (map first_pass gates) first (first_pass g) whole
