-- What is so of the reading of an input, whatever the scene.
use Rattle.std.specs.Prelude.{if◌then◌else◌}
use Rattle.std.specs.List.{AllByRecursion}
use Rattle.std.specs.Option.{option_or}
use Rattle.std.proofs.Common.{◌≡◌, ◌≤◌, ℕ, Bool, true, false, List, [], ◌∷◌, length, Option, Some, None, Result, Ok, Err, ap, ◌∙◌}
use Rattle.std.proofs.lemmas.Bool.{le-ltb}
use Rattle.piv_model.specs.declared.places.Limit.{Limit}
use Rattle.piv_model.specs.declared.places.Limit.TheVariants as limit
use Rattle.piv_model.specs.declared.places.Where.{Where}
use Rattle.scene_table.specs.declared.fault.SceneFault.TheVariants as fault
use Rattle.scene_cards.specs.Cards.{CardData}
use Rattle.scene_cards.specs.CardLimits.{Test, first_passed, card_tests, card_limit, cards_limit}
use Rattle.piv_scene.specs.Documents.{SceneData, scene_of}
use Rattle.piv_scene.specs.Outcomes.{judged, limited, outcome}
use Rattle.piv_scene.specs.SceneLimits.{all_lines, count_tests, line_tests, first_limit}
use Rattle.piv_cli.specs.Outputs.{most_input}

-- ---- no limit of a scene is that of the input

abbrev IsOther : Option Limit → Type 0
IsOther o = o ≡ Some limit.Input → ⊥

or-other : (o p : Option Limit) → IsOther o → IsOther p → IsOther (option_or o p)
or-other None p one two = two
or-other (Some l) p one two = one

if-other : (b : Bool) (l : Limit) (o : Option Limit) → IsOther (Some l) → IsOther o → IsOther (if b then Some l else o)
if-other true l o one two = one
if-other false l o one two = two

passed-other : (tests : List Test) → AllByRecursion (λ t. IsOther (Some t.1)) tests → IsOther (first_passed tests)
passed-other [] all = λ e. cc
passed-other (t ∷ tests) all = if-other t.0 t.1 (first_passed tests) all.0 (passed-other tests all.1)

cards-other : (cards : List CardData) → IsOther (cards_limit cards)
unfolding cards_limit
cards-other [] = λ e. cc
cards-other (c ∷ cards) = or-other (card_limit c) (cards_limit cards)
    (passed-other (card_tests c) (λ e. cc, (λ e. cc, (λ e. cc, (λ e. cc, (λ e. cc, (λ e. cc, (λ e. cc, tt)))))))) (cards-other cards)

scene-other : (d : SceneData) → IsOther (first_limit d)
scene-other d =
    or-other (first_passed (count_tests (length d.cards) d.scripts (length d.schedule)))
    (option_or (cards_limit d.cards) (first_passed (line_tests (all_lines d.scripts))))
    (passed-other (count_tests (length d.cards) d.scripts (length d.schedule)) (λ e. cc, (λ e. cc, (λ e. cc, (λ e. cc, tt)))))
    (or-other (cards_limit d.cards) (first_passed (line_tests (all_lines d.scripts))) (cards-other d.cards)
    (passed-other (line_tests (all_lines d.scripts)) (λ e. cc, (λ e. cc, (λ e. cc, (λ e. cc, (λ e. cc, (λ e. cc, tt))))))))

limited-other : (o : Option Limit) (d : SceneData) → IsOther o → limited o d ≡ Err (fault.TooLarge limit.Input) → ⊥
limited-other None d other = λ e. cc
limited-other (Some l) d other = λ e. other (cc)

judged-other : (r : Result SceneData Where) → judged r ≡ Err (fault.TooLarge limit.Input) → ⊥
judged-other (Err w) = λ e. cc
judged-other (Ok d) = limited-other (first_limit d) d (scene-other d)

-- an input that isn't too large passes another limit, if any
pub small-other : (bytes : List ℕ) (what : Limit) → length bytes ≤ most_input → outcome bytes ≡ Err (fault.TooLarge what)
    → what ≡ limit.Input → ⊥
small-other bytes what small told same =
    judged-other (scene_of bytes) (rw (le-ltb most_input (length bytes) small) at (told ∙ ap (λ l. Err (fault.TooLarge l)) same))
