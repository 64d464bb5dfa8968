-- Sizes of objects, and the limits of cards one by one.
use Rattle.std.proofs.Common.{◌≡◌, ℕ, ◌+◌, ◌<◌, ◌≤◌, Bool, List, [], ◌∷◌, ◌++◌, length, take, drop, get_or, map, None, refl, sym, ap, ◌∙◌, arith}
use Rattle.std.specs.Prelude.{◌||◌, nat_lt}
use Rattle.std.specs.List.{list_any}
use Rattle.std.specs.Option.{option_or}
use Rattle.std.proofs.lemmas.List.{drop_all, drop_more, take_more, take-append-drop, map-append}
use Rattle.std.proofs.lemmas.List.Sums.{sum_by-append}
use Rattle.piv_model.specs.Memory.{blocks}
use Rattle.scene_cards.specs.declared.card.RawCard.{RawCard}
use Rattle.scene_cards.specs.declared.objects.RawObject.{RawObject}
use Rattle.scene_cards.specs.Objects.{ObjectData, value_size}
use Rattle.scene_cards.specs.Views.{card_view, object_view, value_view}
use Rattle.scene_cards.specs.CardLimits.{has_large, object_blocks, card_limit, cards_limit}

pub large_objects : (objects : List RawObject) → has_large (map object_view objects) ≡ list_any (λ o. nat_lt 16384 (value_size (value_view o.value))) objects
large_objects [] = refl
large_objects (o ∷ objects) = ap (λ (b : Bool). nat_lt 16384 (value_size (value_view o.value)) || b) (large_objects objects)

-- one object more
pub blocks-next : (objects : List RawObject) (i : ℕ) (x : RawObject) → i < length objects → x ≡ get_or objects i x
    → object_blocks (map object_view (take (i + 1) objects)) ≡ object_blocks (map object_view (take i objects)) + blocks (value_size (value_view x.value))
blocks-next objects i x h at_i =
    let parts : object_blocks (map object_view (take (i + 1) objects)) ≡ object_blocks (map object_view (take i objects)) + (0 + blocks (value_size (value_view x.value))) =
    ap (λ (os : List RawObject). object_blocks (map object_view os)) (take_more objects i x h ∙ ap (λ (y : RawObject). take i objects ++ y ∷ []) (sym at_i))
    ∙ ap object_blocks (map-append object_view (take i objects) (x ∷ []))
    ∙ sum_by-append (λ (o : ObjectData). blocks (value_size o.value)) (map object_view (take i objects)) (object_view x ∷ []) in
    omega (arith, parts)

pub blocks-within : (objects : List RawObject) (i : ℕ) → object_blocks (map object_view (take i objects)) ≤ object_blocks (map object_view objects)
blocks-within objects i =
    let cut : object_blocks (map object_view objects) ≡ object_blocks (map object_view (take i objects)) + object_blocks (map object_view (drop i objects)) =
    ap (λ (os : List RawObject). object_blocks (map object_view os)) (sym (take-append-drop i objects))
    ∙ ap object_blocks (map-append object_view (take i objects) (drop i objects))
    ∙ sum_by-append (λ (o : ObjectData). blocks (value_size o.value)) (map object_view (take i objects)) (map object_view (drop i objects)) in
    omega (arith, cut)

-- one card more
pub limit-next : (cards : List RawCard) (i : ℕ) (x : RawCard) → i < length cards → x ≡ get_or cards i x
    → cards_limit (map card_view (drop i cards)) ≡ option_or (card_limit (card_view x)) (cards_limit (map card_view (drop (i + 1) cards)))
unfolding cards_limit
limit-next cards i x h at_i = rw (drop_more cards i x h, ← at_i) refl

pub limit-end : (cards : List RawCard) (i : ℕ) → length cards ≤ i → cards_limit (map card_view (drop i cards)) ≡ None
unfolding cards_limit
limit-end cards i h = rw (drop_all i cards h) refl
