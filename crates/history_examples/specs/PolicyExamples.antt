-- Worked examples of the policy of the Discovery Object (SP 800-73-4 part 1, the PIN usage policy).
use Rattle.std.specs.Prelude.{◌≡◌, ℕ, List, [], ◌∷◌, ◌++◌}
use Rattle.piv_model.specs.ApplicationNames.{full_aid}
use Rattle.piv_model.specs.Base.{Base}
use Rattle.piv_model.specs.Changes.{with_object}
use Rattle.piv_model.specs.Forms.{discovery_head}
use Rattle.piv_model.specs.Objects.{discovery_place}
use Rattle.history_examples.specs.ConnectionExamples.{with_global, global_pin, verify_global}
use Rattle.history_examples.specs.Examples.{start, words, select, get_printed}

-- the card with a Global PIN, under this policy
abbrev pub under : List ℕ → Base
under policy = record with_global { memory = with_object discovery_place (discovery_head ++ policy) with_global.memory }

-- 40 00: the Global PIN is right, and opens nothing
abbrev pub PolicyOfThePin : Type 0
PolicyOfThePin = words (under (0x40 ∷ 0x00 ∷ [])) start (select full_aid ∷ verify_global global_pin ∷ get_printed ∷ [])
    ≡ 0x9000 ∷ 0x9000 ∷ 0x6982 ∷ []

-- 60 20: it opens what the PIN opens
abbrev pub PolicyOfBoth : Type 0
PolicyOfBoth = words (under (0x60 ∷ 0x20 ∷ [])) start (select full_aid ∷ verify_global global_pin ∷ get_printed ∷ [])
    ≡ 0x9000 ∷ 0x9000 ∷ 0x9000 ∷ []
