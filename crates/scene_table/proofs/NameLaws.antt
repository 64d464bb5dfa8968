-- Names in a sorted set.
use Rattle.std.proofs.Common.{◌≡◌, ℕ, Bool, true, false, List, [], ◌∷◌, map, refl, sym, ap, ◌∙◌}
use Rattle.std.specs.Prelude.{◌||◌}
use Rattle.std.specs.Borrow.{Bor}
use Rattle.std.specs.List.{list_any}
use Rattle.std.specs.Str.{bytes_eq}
use Rattle.std.specs.Ordering.{is_eq, nat_cmp, match_ordering}
use Rattle.std.specs.declared.cmp.Ordering.{Ordering}
use Rattle.std.specs.declared.cmp.Ordering.TheVariants.{Less, Equal, Greater}
use Rattle.std.specs.Cmp.Lexicographic.{slice_cmp}
use Rattle.std.specs.BTreeMap.{is_at}
use Rattle.std.specs.BTreeSet.{insert_key}
use Rattle.std.proofs.lemmas.Map.Text.{is_eq-slice_cmp}
use Rattle.std.proofs.lemmas.Slice.Eq.{bytes_eq-Decides}
use Rattle.scene_table.specs.Names.{is_among}

pub turned : (a b : List ℕ) → bytes_eq a b ≡ bytes_eq b a
turned a b = by_test (bytes_eq a b) (bytes_eq b a) (bytes_eq-Decides a b) (bytes_eq-Decides b a)
  where
    by_test : (x y : Bool) → ((x ≡ true → a ≡ b) × (a ≡ b → x ≡ true)) → ((y ≡ true → b ≡ a) × (b ≡ a → y ≡ true)) → x ≡ y
    by_test true true h k = refl
    by_test false false h k = refl
    by_test true false h k = sym (k.1 (sym (h.0 refl)))
    by_test false true h k = h.1 (sym (k.0 refl))

pub among-keys : (ks : List (Bor (List ℕ))) (name : List ℕ) → list_any (is_at (λ k. slice_cmp nat_cmp name k.now)) ks ≡ is_among (map (λ k. k.now) ks) name
among-keys [] name = refl
among-keys (k ∷ ks) name = rw (is_eq-slice_cmp name k.now, turned name k.now, among-keys ks name) refl

or_same : (a b : Bool) → (a || b) ≡ (a || (a || b))
or_same true b = refl
or_same false b = refl

or_turn : (a b c : Bool) → (a || (b || c)) ≡ (b || (a || c))
or_turn true true c = refl
or_turn true false c = refl
or_turn false b c = refl

pub among-insert : (ks : List (Bor (List ℕ))) (k : Bor (List ℕ)) (name : List ℕ)
    → is_among (map (λ x. x.now) (insert_key (λ x y. slice_cmp nat_cmp x.now y.now) ks k)) name ≡ (bytes_eq k.now name || is_among (map (λ x. x.now) ks) name)
among-insert [] k name = refl
among-insert (x ∷ xs) k name = by_order (slice_cmp nat_cmp k.now x.now) (is_eq-slice_cmp k.now x.now) (among-insert xs k name)
  where
    by_order : (o : Ordering) → is_eq o ≡ bytes_eq k.now x.now
        → is_among (map (λ x. x.now) (insert_key (λ x y. slice_cmp nat_cmp x.now y.now) xs k)) name ≡ (bytes_eq k.now name || is_among (map (λ x. x.now) xs) name)
        → is_among (map (λ x. x.now) (match_ordering o (k ∷ x ∷ xs) (x ∷ xs) (x ∷ insert_key (λ x y. slice_cmp nat_cmp x.now y.now) xs k))) name
        ≡ (bytes_eq k.now name || (bytes_eq x.now name || is_among (map (λ x. x.now) xs) name))
    by_order Less h rest = refl
    by_order Equal h rest =
        let same : k.now ≡ x.now = (bytes_eq-Decides k.now x.now).0 (sym h) in
        rw same (or_same (bytes_eq x.now name) (is_among (map (λ x. x.now) xs) name))
    by_order Greater h rest =
        ap (λ (b : Bool). bytes_eq x.now name || b) rest ∙ or_turn (bytes_eq x.now name) (bytes_eq k.now name) (is_among (map (λ x. x.now) xs) name)
