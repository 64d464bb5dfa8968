-- The limits of a scene's card, in the order in which they are tested (this project's own).
use Rattle.std.specs.Prelude.{ℕ, nat_lt, Bool, if◌then◌else◌, List, [], ◌∷◌, length, sum_by, Option, Some, None}
use Rattle.std.specs.List.{list_any}
use Rattle.std.specs.Option.{option_or}
use Rattle.piv_model.specs.declared.limits.TheConstants.{LONGEST_OBJECT, MOST_BLOCKS}
use Rattle.piv_model.specs.declared.places.Limit.{Limit}
use Rattle.piv_model.specs.declared.places.Limit.TheVariants.{LimitPin, LimitPuk, LimitGlobal, Budget, Losses, Object, Room}
use Rattle.piv_model.specs.Memory.{blocks}
use Rattle.scene_cards.specs.Objects.{ObjectData, value_size}
use Rattle.scene_cards.specs.Cards.{CardData}

-- a limit, and whether it is passed
abbrev pub Test : Type 0
Test = Bool × Limit

abbrev pub first_passed : List Test → Option Limit
first_passed [] = None
first_passed (t ∷ tests) = if t.0 then Some t.1 else first_passed tests

abbrev pub has_large : List ObjectData → Bool
has_large objects = list_any (λ o. nat_lt LONGEST_OBJECT (value_size o.value)) objects

abbrev pub object_blocks : List ObjectData → ℕ
object_blocks objects = sum_by (λ o. blocks (value_size o.value)) objects

abbrev pub card_tests : CardData → List Test
card_tests c =
    (nat_lt 15 c.parts.limit_pin, LimitPin) ∷ (nat_lt 15 c.parts.limit_puk, LimitPuk) ∷ (nat_lt 15 c.parts.limit_global, LimitGlobal)
    ∷ (nat_lt MOST_BLOCKS c.parts.budget, Budget) ∷ (nat_lt 4096 (length c.losses), Losses)
    ∷ (has_large c.objects, Object) ∷ (nat_lt c.parts.budget (object_blocks c.objects), Room) ∷ []

abbrev pub card_limit : CardData → Option Limit
card_limit c = first_passed (card_tests c)

-- card by card
unfoldable pub cards_limit : List CardData → Option Limit
cards_limit [] = None
cards_limit (c ∷ cards) = option_or (card_limit c) (cards_limit cards)
