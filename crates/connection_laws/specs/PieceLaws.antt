-- The pieces of a reply (ISO/IEC 7816-4, GET RESPONSE).
use Rattle.std.specs.Prelude.{◌≡◌, ◌↔◌, ◌≤◌, ◌<◌, ℕ, ◌+◌, Bool, true, false, not, ◌&&◌, ◌||◌, ◌==◌, List, [], ◌∷◌, ◌++◌, length, count_by, Option, if◌then◌else◌}
use Rattle.piv_model.specs.Commands.{CardCommand}
use Rattle.piv_model.specs.Entries.{CardEntry, Past, ◌▸◌, Call, Rest}
use Rattle.piv_model.specs.Base.{Base}
use Rattle.piv_rules.specs.Connections.{on, is_open, breaks, is_exchange_on}
use Rattle.piv_rules.specs.Answers.{answer}
use Rattle.piv_rules.specs.Acts.{CardAnswer, Replied, CardRecord, Records, entries}
use Rattle.piv_rules.specs.Frames.{rest}
use Rattle.piv_rules.specs.Lookback.{none_since}
use Rattle.piv_rules.specs.Legal.{IsAllowed}
use Rattle.piv_rules.specs.Turns.{Runs}

-- the data and the word that an act was replied
abbrev pub replied : CardAnswer → List ℕ
replied (Replied body word) = body
replied _ = []

abbrev pub replied_word : CardAnswer → ℕ
replied_word (Replied body word) = word
replied_word _ = 0

-- a piece that c took
abbrev pub is_piece_of : ℕ → CardEntry → Bool
is_piece_of c (Rest d) = d == c
is_piece_of c _ = false

-- the records L, which follow R, have no break of c, and of its exchanges only pieces
abbrev pub takes_pieces : ℕ → Records → Records → Bool
takes_pieces c [] R = true
takes_pieces c (r ∷ L) R =
    (not (breaks c (entries (L ++ R)) r.entry) && (is_piece_of c r.entry || not (is_exchange_on c r.entry))) && takes_pieces c L R

-- the data of these pieces, the first first
abbrev pub pieces : ℕ → Records → List ℕ
pieces c [] = []
pieces c (r ∷ L) = pieces c L ++ (if is_piece_of c r.entry then replied r.answer else [])

-- the data that a granted command was replied, those of the pieces after it, and those that still wait, are those of its answer
abbrev pub PiecesJoin : Type 0
PiecesJoin = (B : Base) (L R : Records) (r : CardRecord) (c : ℕ) (k : CardCommand) (block : Option (List ℕ))
    → Runs B (L ++ r ∷ R) → r.entry ≡ Call c k 0x9000 block → takes_pieces c L (r ∷ R) ≡ true
    → replied r.answer ++ (pieces c L ++ rest B (L ++ r ∷ R) c) ≡ (answer B (entries R) c k).body

-- what is replied to a granted command, or is a piece
abbrev pub GivesData : ℕ → CardEntry → Type 0
GivesData c (Call d k word block) = (d ≡ c) × (word ≡ 0x9000)
GivesData c (Rest d) = d ≡ c
GivesData c _ = ⊥

-- its word tells how many bytes are left: 90 00 none, 61 XX so many, and 61 00 for 256 and more
pub record IsAnnounced (word left : ℕ) : Type 0 where
  pub last : (word ≡ 0x9000) ↔ (left ≡ 0)
  pub few : 1 ≤ left → left < 256 → word ≡ 0x6100 + left
  pub many : 256 ≤ left → word ≡ 0x6100

abbrev pub WordsTellWhatIsLeft : Type 0
WordsTellWhatIsLeft = (B : Base) (R : Records) (r : CardRecord) (c : ℕ) → Runs B (R ▸ r) → GivesData c r.entry
    → IsAnnounced (replied_word r.answer) (length (rest B (R ▸ r) c))

-- an exchange of c that is no piece
abbrev pub is_other_exchange : ℕ → Past → CardEntry → Bool
is_other_exchange c G e = is_exchange_on c e && not (is_piece_of c e)

-- the last exchange of c that is no piece is a granted command, with no break of c since; its answer has a byte for its reply, one
-- for each piece since, and one more
pub record HasMore (B : Base) (H : Past) (c : ℕ) : Type 0 where
  pub since : Past
  pub command : CardCommand
  pub block : Option (List ℕ)
  pub before : Past
  pub whole : H ≡ since ++ Call c command 0x9000 block ∷ before
  pub alone : none_since (is_other_exchange c) since (Call c command 0x9000 block ∷ before) ≡ true
  pub unbroken : none_since (breaks c) since (Call c command 0x9000 block ∷ before) ≡ true
  pub more : count_by (is_piece_of c) since + 2 ≤ length (answer B before c command).body

-- exactly then c may take a piece
abbrev pub PiecesFollowReplies : Type 0
PiecesFollowReplies = (B : Base) (H : Past) (c : ℕ)
    → IsAllowed B H (Rest c) ↔ ((on H ≡ true) × (is_open H c ≡ true) × HasMore B H c)
