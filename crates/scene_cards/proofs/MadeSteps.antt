-- One more of what is made.
use Rattle.std.proofs.Common.{◌≡◌, ℕ, ◌+◌, ◌<◌, List, [], ◌∷◌, ◌++◌, length, take, get_or, map, sym, ap, ◌∙◌}
use Rattle.std.proofs.lemmas.List.{take_more, map-append}
use Rattle.scene_cards.specs.declared.card.RawCard.{RawCard}
use Rattle.scene_cards.specs.declared.objects.RawObject.{RawObject}
use Rattle.scene_cards.specs.Views.{card_view, object_view}
use Rattle.scene_cards.specs.CardValues.{card_value, object_pair}

more : {A B C : Type 0} (f : A → B) (g : B → C) (xs : List A) (i : ℕ) (x : A) → i < length xs → x ≡ get_or xs i x
    → map g (map f (take (i + 1) xs)) ≡ map g (map f (take i xs)) ++ g (f x) ∷ []
more f g xs i x h at_i =
    ap (λ ys. map g (map f ys)) (take_more xs i x h ∙ ap (λ y. take i xs ++ y ∷ []) (sym at_i))
    ∙ ap (map g) (map-append f (take i xs) (x ∷ []))
    ∙ map-append g (map f (take i xs)) (f x ∷ [])

pub more-objects : (objects : List RawObject) (i : ℕ) (x : RawObject) → i < length objects → x ≡ get_or objects i x
    → map object_pair (map object_view (take (i + 1) objects)) ≡ map object_pair (map object_view (take i objects)) ++ object_pair (object_view x) ∷ []
more-objects = more object_view object_pair

pub more-cards : (cards : List RawCard) (i : ℕ) (x : RawCard) → i < length cards → x ≡ get_or cards i x
    → map card_value (map card_view (take (i + 1) cards)) ≡ map card_value (map card_view (take i cards)) ++ card_value (card_view x) ∷ []
more-cards = more card_view card_value
