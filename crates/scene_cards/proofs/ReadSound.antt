-- What is read of a card is well formed.
use Rattle.std.proofs.Common.{◌≡◌, ℕ, Bool, true, false, ◌==◌, List, [], ◌∷◌, ◌++◌, length, map, codes, Option, Some, None, Result, Ok, Err, refl, ap, ◌∙◌, subst, arith}
use Rattle.std.specs.Prelude.{◌&&◌, ◌||◌, not, if◌then◌else◌}
use Rattle.std.specs.List.{list_any, list_all}
use Rattle.std.specs.Result.{result_ok}
use Rattle.std.proofs.lemmas.List.Folds.{list_all-append}
use Rattle.std.proofs.lemmas.Bool.Decides.{nat_tests}
use Rattle.toml.specs.Data.{Data, Items, no_items, item, get_member, as_table}
use Rattle.piv_model.specs.Objects.{place_of}
use Rattle.piv_model.specs.Starts.{are_once}
use Rattle.line_words.specs.Words.{◌>>=◌}
use Rattle.line_words.proofs.Steps.{bound, some_same}
use Rattle.scene_table.specs.Readings.{each_after, at_item}
use Rattle.scene_table.specs.Values.{digits}
use Rattle.scene_cards.specs.Objects.{ObjectData, object_of, object_value, has_form, fresh_place, fresh_object, all_objects}
use Rattle.scene_cards.specs.CardValues.{object_pair}

-- ---- lists

ok_same : {A : Type 0} (r : Result A ℕ) (x y : A) → r ≡ Ok x → r ≡ Ok y → x ≡ y
ok_same r x y h k = cc

pub ok_of : {A : Type 0} (r : Result A ℕ) (x : A) → result_ok r ≡ Some x → r ≡ Ok x
ok_of (Ok a) x h = ap Ok (some_same a x h)
ok_of (Err n) x h = cc

pub item-holds : {A : Type 0} (P : List A → Type 0) (n : ℕ) (more : A → Result (List A) ℕ) (o : Option A) (found : List A)
    → ((a : A) → o ≡ Some a → more a ≡ Ok found → P found) → at_item n more o ≡ Ok found → P found
item-holds P n more None found held h = cc
item-holds P n more (Some a) found held h = held a refl h

-- what holds of no item, and of one item more that reads, holds of all
pub each-holds : {A : Type 0} (P : List A → Type 0) (read : List A → Data → Option A)
    → ((b : List A) (d : Data) (a : A) → P b → read b d ≡ Some a → P (b ++ a ∷ []))
    → (b : List A) (ds : Items) (found : List A) → P b → each_after read b ds ≡ Ok found → P found
unfolding each_after
each-holds P read step b no_items found p h = subst P (ok_same (Ok b) b found refl h) p
each-holds P read step b (item d ds) found p h =
    item-holds P (length b) (λ a. each_after read (b ++ a ∷ []) ds) (read b d) found
    (λ a is more. each-holds P read step (b ++ a ∷ []) ds found (step b d a p is) more) h

-- ---- steps

pub so : {A : Type 0} (b : Bool) (x y : A) → (if b then Some x else None) ≡ Some y → (b ≡ true) × (x ≡ y)
so true x y h = (refl, some_same x y h)
so false x y h = cc

pub so_not : {A : Type 0} (b : Bool) (x y : A) → (if b then None else Some x) ≡ Some y → (b ≡ false) × (x ≡ y)
so_not true x y h = cc
so_not false x y h = (refl, some_same x y h)

-- ---- objects

pub record IsObject (has_global : Bool) (before : List ObjectData) (o : ObjectData) : Type 0 where
  pub form : has_form has_global o.place o.value ≡ true
  pub fresh : list_any (λ x. x.place == o.place) before ≡ false

pub object-reads : (has_global : Bool) (before : List ObjectData) (d : Data) (o : ObjectData) → object_of has_global before d ≡ Some o → IsObject has_global before o
object-reads has_global before d o h =
    let t = bound (as_table d) _ o h in
    let p = bound (get_member (codes "tag") t.value >>= digits >>= fresh_object before) _ o t.next in
    let v = bound (object_value (get_member (codes "value") t.value) (get_member (codes "size") t.value) (get_member (codes "fill") t.value)) _ o p.next in
    let f = so (has_form has_global p.value v.value) (record { place = p.value; value = v.value }) o v.next in
    let tag = bound (get_member (codes "tag") t.value >>= digits) (fresh_object before) p.value p.first in
    let at = bound (place_of tag.value) (fresh_place before) p.value tag.next in
    let free = so_not (list_any (λ (x : ObjectData). x.place == at.value) before) at.value p.value at.next in
    record {
      form = subst (λ (x : ObjectData). has_form has_global x.place x.value ≡ true) f.1 f.0;
      fresh = subst (λ (n : ℕ). list_any (λ (x : ObjectData). x.place == n) before ≡ false) (free.1 ∙ ap (λ (x : ObjectData). x.place) f.1) free.0;
    }

pub record AreObjects (has_global : Bool) (objects : List ObjectData) : Type 0 where
  pub forms : list_all (λ o. has_form has_global o.place o.value) objects ≡ true
  pub once : are_once (map object_pair objects) ≡ true

pub and_true : (a b : Bool) → (a && b) ≡ true → (a ≡ true) × (b ≡ true)
and_true true b h = (refl, h)
and_true false b h = cc

pub true_and : (a b : Bool) → a ≡ true → b ≡ true → (a && b) ≡ true
true_and true b h k = k
true_and false b h k = cc

pub or_false : (a b : Bool) → (a || b) ≡ false → (a ≡ false) × (b ≡ false)
or_false true b h = cc
or_false false b h = (refl, h)

other : (a b : ℕ) → (a == b) ≡ false → (b == a) ≡ false
other a b h = grind (arith, nat_tests)

pub not_false : (a : Bool) → a ≡ false → not a ≡ true
not_false true h = cc
not_false false h = refl

pub true_not : (a : Bool) → not a ≡ true → a ≡ false
true_not true h = cc
true_not false h = refl

none-more : (objects : List ObjectData) (o : ObjectData) (place : ℕ) → list_any (λ p. p.0 == place) (map object_pair objects) ≡ false → (o.place == place) ≡ false
    → list_any (λ p. p.0 == place) (map object_pair (objects ++ o ∷ [])) ≡ false
none-more [] o place none new = rw new refl
none-more (x ∷ objects) o place none new =
    let a = or_false (x.place == place) (list_any (λ (p : ℕ × List ℕ). p.0 == place) (map object_pair objects)) none in
    rw (a.0, none-more objects o place a.1 new) refl

pub once-more : (objects : List ObjectData) (o : ObjectData) → are_once (map object_pair objects) ≡ true → list_any (λ x. x.place == o.place) objects ≡ false
    → are_once (map object_pair (objects ++ o ∷ [])) ≡ true
once-more [] o once fresh = refl
once-more (x ∷ objects) o once fresh =
    let a = and_true (not (list_any (λ (p : ℕ × List ℕ). p.0 == x.place) (map object_pair objects))) (are_once (map object_pair objects)) once in
    let f = or_false (x.place == o.place) (list_any (λ (y : ObjectData). y.place == o.place) objects) fresh in
    let none = none-more objects o x.place (true_not (list_any (λ (p : ℕ × List ℕ). p.0 == x.place) (map object_pair objects)) a.0) (other x.place o.place f.0) in
    rw (none, once-more objects o a.1 f.1) refl

pub objects-hold : (has_global : Bool) (ds : Items) (objects : List ObjectData) → all_objects has_global ds ≡ Some objects → AreObjects has_global objects
objects-hold has_global ds objects h =
    each-holds (AreObjects has_global) (object_of has_global) step [] ds objects (record { forms = refl; once = refl }) (ok_of (each_after (object_of has_global) [] ds) objects h)
  where
    step : (b : List ObjectData) (d : Data) (o : ObjectData) → AreObjects has_global b → object_of has_global b d ≡ Some o → AreObjects has_global (b ++ o ∷ [])
    step b d o all is =
        let one = object-reads has_global b d o is in
        record {
          forms = list_all-append (λ (x : ObjectData). has_form has_global x.place x.value) b (o ∷ []) ∙ true_and _ _ all.forms (true_and _ _ one.form refl);
          once = once-more b o all.once one.fresh;
        }
