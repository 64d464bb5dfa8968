-- Turnstiles that are closed, the last one first.
use Rattle.std.proofs.Common.{◌≡◌, ◌∙◌, ℕ, zero, suc, List, [], ◌∷◌, ◌++◌, Some, sym, refl, ap, subst, append_assoc, append-nil}
use Rattle.std.specs.Prelude.{reverse}
use Rattle.std.specs.List.{slice_get}
use Rattle.std.proofs.lemmas.List.{reverse-append}
use Rattle.turnstile.specs.Known.{Gate, Known}
use Rattle.turnstile.specs.Turns.{Closed}
use Rattle.turnstile_rows.specs.Rows.{AreClosed}

module _ {X B E : Type 0} (stands_for : X → B → List E → Type 0) where
  -- so far the last ones were closed, and the room has their values, the last one first
  pub record Closing (all gates : List (Gate B)) (whole firsts : List (Known B E)) (room : List X) : Type 0 where
    pub tail : List (Gate B)
    pub behind : List (Known B E)
    pub gates_are : all ≡ gates ++ tail
    pub firsts_are : whole ≡ firsts ++ behind
    pub closed : AreClosed stands_for tail behind (reverse room)

  pub none_closed : (gates : List (Gate B)) (firsts : List (Known B E)) (room : List X) → room ≡ [] → Closing gates gates firsts firsts room
  none_closed gates firsts room e = record {
    tail = [];
    behind = [];
    gates_are = sym (append-nil gates);
    firsts_are = sym (append-nil firsts);
    closed = subst (λ (l : List X). AreClosed stands_for [] [] (reverse l)) (sym e) (record { many = refl; each = λ k gate pass value a. absurd (cc) });
  }

  more : (gate : Gate B) (first : Known B E) (value : X) (gates : List (Gate B)) (firsts : List (Known B E)) (values : List X) → Closed stands_for gate.base value first → AreClosed stands_for gates firsts values
      → AreClosed stands_for (gate ∷ gates) (first ∷ firsts) (value ∷ values)
  more gate first value gates firsts values c all = record { many = ap suc all.many; each = go } where
    go : (k : ℕ) (g : Gate B) (p : Known B E) (x : X) → slice_get (gate ∷ gates) k ≡ Some g → slice_get (first ∷ firsts) k ≡ Some p → slice_get (value ∷ values) k ≡ Some x → Closed stands_for g.base x p
    go zero g p x a b d =
        let one : gate ≡ g = cc in
        let two : first ≡ p = cc in
        let three : value ≡ x = cc in
        subst (λ (z : Gate B). Closed stands_for z.base x p) one (subst (λ (z : Known B E). Closed stands_for gate.base x z) two (subst (λ (z : X). Closed stands_for gate.base z first) three c))
    go (suc k) g p x a b d = all.each k g p x a b d

  pub one_closed : (all gates : List (Gate B)) (gate : Gate B) (whole firsts : List (Known B E)) (first : Known B E) (room : List X) (value : X)
      → Closing all (gates ++ gate ∷ []) whole (firsts ++ first ∷ []) room → Closed stands_for gate.base value first → Closing all gates whole firsts (room ++ value ∷ [])
  one_closed all gates gate whole firsts first room value s c = record {
    tail = gate ∷ s.tail;
    behind = first ∷ s.behind;
    gates_are = s.gates_are ∙ append_assoc gates (gate ∷ []) s.tail;
    firsts_are = s.firsts_are ∙ append_assoc firsts (first ∷ []) s.behind;
    closed = subst (λ (l : List X). AreClosed stands_for (gate ∷ s.tail) (first ∷ s.behind) l) (sym (reverse-append room (value ∷ []))) (more gate first value s.tail s.behind (reverse room) c s.closed);
  }

  pub all_closed : (all : List (Gate B)) (whole firsts : List (Known B E)) (room : List X) → firsts ≡ [] → Closing all [] whole firsts room → AreClosed stands_for all whole (reverse room)
  all_closed all whole firsts room e s =
      subst (λ (l : List (Gate B)). AreClosed stands_for l whole (reverse room)) (sym s.gates_are)
      (subst (λ (l : List (Known B E)). AreClosed stands_for s.tail l (reverse room)) (sym (s.firsts_are ∙ ap (λ (l : List (Known B E)). l ++ s.behind) e)) s.closed)
