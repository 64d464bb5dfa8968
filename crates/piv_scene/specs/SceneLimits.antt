-- The limits of a scene, in the order in which they are tested (this project's own).
use Rattle.std.specs.Prelude.{◌≡◌, ◌<◌, ℕ, ◌+◌, nat_lt, Bool, List, [], ◌∷◌, length, sum_by, Option, Some, None}
use Rattle.std.specs.List.{list_any, flat_map}
use Rattle.std.specs.Option.{option_or}
use Rattle.piv_model.specs.declared.places.Limit.{Limit}
use Rattle.piv_model.specs.declared.places.Limit.TheVariants as limit
use Rattle.script_line.specs.declared.line.Line.{Line}
use Rattle.script_line.specs.declared.line.Line.TheVariants.{Select, Login, PutHex, PutFill, Crypt, Apdu}
use Rattle.script_line.specs.Scripts.{ScriptData}
use Rattle.scene_cards.specs.Cards.{CardData}
use Rattle.scene_cards.specs.CardLimits.{Test, first_passed, cards_limit}
use Rattle.piv_scene.specs.declared.sizes.Size.{Size}
use Rattle.piv_scene.specs.declared.sizes.Size.TheVariants as size
use Rattle.piv_scene.specs.Documents.{SceneData}

-- the value that a line puts, and the bytes that others bear
abbrev pub put_size : Line → ℕ
put_size (PutHex h oid value) = length value
put_size (PutFill h oid size fill) = size
put_size _ = 0

abbrev pub crypt_size : Line → ℕ
crypt_size (Crypt h algorithm key input) = length input
crypt_size _ = 0

abbrev pub apdu_size : Line → ℕ
apdu_size (Apdu h bytes) = length bytes
apdu_size _ = 0

abbrev pub login_size : Line → ℕ
login_size (Login h auth) = length auth
login_size _ = 0

abbrev pub aid_size : Line → ℕ
aid_size (Select h aid) = length aid
aid_size _ = 0

abbrev pub size_of : Size → Line → ℕ
size_of size.Put l = put_size l
size_of size.Crypt l = crypt_size l
size_of size.Apdu l = apdu_size l
size_of size.Login l = login_size l
size_of size.Aid l = aid_size l

abbrev pub all_lines : List ScriptData → List Line
all_lines scripts = flat_map (λ s. s.lines) scripts

-- a line has more than so many bytes of a kind
abbrev pub any_above : ℕ → Size → List Line → Bool
any_above most kind lines = list_any (λ l. nat_lt most (size_of kind l)) lines

-- what all lines put together
abbrev pub puts : List Line → ℕ
puts lines = sum_by put_size lines

-- what is left of so many bytes, or nothing where they don't suffice
abbrev pub LeftBehind : Option ℕ → ℕ → ℕ → Type 0
LeftBehind (Some left) most n = left + n ≡ most
LeftBehind None most n = most < n

-- the numbers of cards, scripts, lines and places of the schedule
abbrev pub count_tests : ℕ → List ScriptData → ℕ → List Test
count_tests cards scripts schedule =
    (nat_lt 8 cards, limit.Cards) ∷ (nat_lt 64 (length scripts), limit.Scripts)
    ∷ (nat_lt 4096 (length (all_lines scripts)), limit.Lines) ∷ (nat_lt 65536 schedule, limit.Schedule) ∷ []

abbrev pub line_tests : List Line → List Test
line_tests lines =
    (any_above 16512 size.Put lines, limit.Put) ∷ (nat_lt 16777216 (puts lines), limit.Puts)
    ∷ (any_above 255 size.Crypt lines, limit.Crypt) ∷ (any_above 512 size.Apdu lines, limit.Apdu)
    ∷ (any_above 2128 size.Login lines, limit.Login) ∷ (any_above 16 size.Aid lines, limit.Aid) ∷ []

-- the numbers, then card by card, then the lines
abbrev pub limit_among : List CardData → List ScriptData → ℕ → Option Limit
limit_among cards scripts schedule =
    option_or (first_passed (count_tests (length cards) scripts schedule))
    (option_or (cards_limit cards) (first_passed (line_tests (all_lines scripts))))

abbrev pub first_limit : SceneData → Option Limit
first_limit d = limit_among d.cards d.scripts (length d.schedule)
