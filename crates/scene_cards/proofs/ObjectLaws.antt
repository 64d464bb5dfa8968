-- Places among those of objects, and equal bytes.
use Rattle.std.proofs.Common.{◌≡◌, ℕ, Bool, true, false, Some, None, ◌==◌, List, [], ◌∷◌, map, refl, ap, arith}
use Rattle.std.specs.Prelude.{◌||◌, ◌&&◌, replicate, zero, suc}
use Rattle.std.proofs.lemmas.Bool.Decides.{nat_tests}
use Rattle.piv_model.specs.Forms.{is_discovery}
use Rattle.std.specs.List.{list_any}
use Rattle.scene_cards.specs.declared.objects.RawObject.{RawObject}
use Rattle.piv_model.specs.Objects.{place_of}
use Rattle.scene_cards.specs.Views.{object_view}
use Rattle.scene_cards.specs.Objects.{fresh_object}

pub seen_places : (objects : List RawObject) (place : ℕ) → list_any (λ o. o.place == place) (map object_view objects) ≡ list_any (λ o. o.id == place) objects
seen_places [] place = refl
seen_places (o ∷ objects) place = ap (λ (b : Bool). (o.id == place) || b) (seen_places objects place)

pub fresh-taken : (objects : List RawObject) (tag : List ℕ) (id p : ℕ) (b : Bool) → place_of tag ≡ Some id → p ≡ id → b ≡ list_any (λ o. o.id == p) objects → b ≡ true
    → fresh_object (map object_view objects) tag ≡ None
fresh-taken objects tag id p b at same seen taken = rw (at, seen_places objects id, ← same, ← seen, taken) refl

pub fresh-free : (objects : List RawObject) (tag : List ℕ) (id p : ℕ) (b : Bool) → place_of tag ≡ Some id → p ≡ id → b ≡ list_any (λ o. o.id == p) objects → b ≡ false
    → fresh_object (map object_view objects) tag ≡ Some id
fresh-free objects tag id p b at same seen free = rw (at, seen_places objects id, ← same, ← seen, free) refl

-- equal bytes are no Discovery Object, which begins with 4F and 0B
not_both : (b : ℕ) (rest policy : Bool) → ((b == 0x4F) && ((b == 0x0B) && rest)) ≡ false
not_both b rest policy = grind (arith, nat_tests)

pub equal_bytes : (has_global : Bool) (n b : ℕ) → is_discovery has_global (replicate n b) ≡ false
unfolding is_discovery
equal_bytes has_global zero b = refl
equal_bytes has_global (suc zero) b = grind (arith, nat_tests)
equal_bytes has_global (suc (suc n)) b = grind (arith, nat_tests)
