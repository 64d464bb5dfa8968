-- Worked examples at the limits: the last number that fits, and the next one (ISO/IEC 7816-4, command chaining and GET
-- RESPONSE; the connections, the rests and the writes of a command are this project's own).
use Rattle.std.specs.Prelude.{◌≡◌, ℕ, ◌+◌, true, List, [], ◌∷◌, ◌++◌, length, replicate, Some, None}
use Rattle.piv_model.specs.declared.history.ActKind.TheVariants as kind
use Rattle.piv_model.specs.declared.history.Refusal.TheVariants as why
use Rattle.piv_model.specs.declared.kinds.Interface.TheVariants.{Contact, Contactless}
use Rattle.piv_model.specs.ApplicationNames.{full_aid}
use Rattle.piv_model.specs.Chains.{WholeOf, RefusedBy, linked}
use Rattle.piv_model.specs.Commands.{CardCommand, CardApdu}
use Rattle.piv_model.specs.declared.kinds.Took.TheVariants.{Nothing}
use Rattle.piv_model.specs.Entries.{Past, ◌▸◌, Opened, Call, Part, Rest, Bad, Reset, Cut, Up, Note}
use Rattle.piv_model.specs.PlainCard.{plain_pin}
use Rattle.piv_rules.specs.Acts.{Connect}
use Rattle.piv_rules.specs.Frames.{RestFrame, frame_of}
use Rattle.piv_rules.specs.Legal.{IsAllowed}
use Rattle.piv_rules.specs.Plans.{cost}
use Rattle.piv_rules.specs.Turns.{refused}
use Rattle.history_examples.specs.Examples.{plain, start, after, select, get_chuid, verify, query, log_out, ask_challenge, wrong_pin, put_chuid, blocked, administered, selected_first, get_response_apdu}

-- a piece of 256 bytes: none left is 90 00, 255 left are 61 FF, and 256 and more are 61 00
abbrev pub fives : ℕ → List ℕ
fives n = replicate n 0x55

abbrev pub PieceWords : Type 0
PieceWords =
    (frame_of get_response_apdu None (fives 256) ≡ RestFrame (fives 256) 0x9000)
    × (frame_of get_response_apdu None (fives 257) ≡ RestFrame (fives 256) 0x6101)
    × (frame_of get_response_apdu None (fives 511) ≡ RestFrame (fives 256) 0x61FF)
    × (frame_of get_response_apdu None (fives 512) ≡ RestFrame (fives 256) 0x6100)
    × (frame_of get_response_apdu None (fives 513) ≡ RestFrame (fives 256) 0x6100)

-- the last command of a chain, with the chain's header
abbrev pub last_part : CardCommand → List ℕ → CardApdu
last_part j body = record { class = 0x00; command = record j { body = body }; most = 256 }

-- 16,640 bytes joined are a command, and one more is refused
abbrev pub LongestChain : Type 0
LongestChain = (j : CardCommand) (body : List ℕ) → length (j.body ++ body) ≡ 16640
    → linked (Some j) (last_part j body) ≡ WholeOf (record j { body = j.body ++ body })

abbrev pub ChainTooLong : Type 0
ChainTooLong = (j : CardCommand) (body : List ℕ) → length (j.body ++ body) ≡ 16641 → linked (Some j) (last_part j body) ≡ RefusedBy 0x6700

-- fifteen connections over both interfaces, and a sixteenth; there is no seventeenth
abbrev pub fifteen : Past
fifteen =
    start ▸ Opened 2 Contactless true ▸ Opened 3 Contact true ▸ Opened 4 Contactless true ▸ Opened 5 Contact true
    ▸ Opened 6 Contactless true ▸ Opened 7 Contact true ▸ Opened 8 Contactless true ▸ Opened 9 Contact true
    ▸ Opened 10 Contactless true ▸ Opened 11 Contact true ▸ Opened 12 Contactless true ▸ Opened 13 Contact true
    ▸ Opened 14 Contactless true ▸ Opened 15 Contact true

abbrev pub sixteen : Past
sixteen = fifteen ▸ Opened 16 Contactless true

abbrev pub SeventeenthConnection : Type 0
SeventeenthConnection =
    (refused fifteen (Connect Contactless true) ≡ None)
    × IsAllowed plain fifteen (Opened 16 Contactless true)
    × ¬ (IsAllowed plain fifteen (Note (kind.Connect Contact) why.NoChannel))
    × (refused sixteen (Connect Contact true) ≡ Some why.NoChannel)
    × (refused sixteen (Connect Contactless true) ≡ Some why.NoChannel)
    × ¬ (IsAllowed plain sixteen (Opened 17 Contact true))
    × IsAllowed plain sixteen (Note (kind.Connect Contact) why.NoChannel)

-- the six bytes of the CHUID's answer, of which the first reply gave one at least: five more pieces may come
abbrev pub chuid_read : Past
chuid_read = after plain start (select full_aid ∷ get_chuid ∷ [])

abbrev pub LastRests : Type 0
LastRests =
    IsAllowed plain (chuid_read ▸ Rest 1 ▸ Rest 1 ▸ Rest 1 ▸ Rest 1) (Rest 1)
    × ¬ (IsAllowed plain (chuid_read ▸ Rest 1 ▸ Rest 1 ▸ Rest 1 ▸ Rest 1 ▸ Rest 1) (Rest 1))
    × ¬ (IsAllowed plain start (Rest 1))

-- a piece comes only after a granted command or another piece of its own connection, with nothing else exchanged since and no break
abbrev pub RestsFollowReplies : Type 0
RestsFollowReplies =
    IsAllowed plain (chuid_read ▸ Reset Contactless ▸ Opened 2 Contact true) (Rest 1)
    × ¬ (IsAllowed plain (chuid_read ▸ Opened 2 Contact true) (Rest 2))
    × ¬ (IsAllowed plain (chuid_read ▸ Part 1) (Rest 1))
    × ¬ (IsAllowed plain (chuid_read ▸ Bad 1 0x6700) (Rest 1))
    × ¬ (IsAllowed plain (chuid_read ▸ Call 1 query 0x63C3 None) (Rest 1))
    × ¬ (IsAllowed plain (chuid_read ▸ Reset Contact) (Rest 1))
    × ¬ (IsAllowed plain (chuid_read ▸ Cut None ▸ Up Nothing) (Rest 1))

-- what is refused before it is a command has one of seven words
abbrev pub WordsOfFraming : Type 0
WordsOfFraming =
    IsAllowed plain start (Bad 1 0x6700) × IsAllowed plain start (Bad 1 0x6881) × IsAllowed plain start (Bad 1 0x6882)
    × IsAllowed plain start (Bad 1 0x6883) × IsAllowed plain start (Bad 1 0x6985) × IsAllowed plain start (Bad 1 0x6A86)
    × IsAllowed plain start (Bad 1 0x6E00)
    × ¬ (IsAllowed plain start (Bad 1 0x6982)) × ¬ (IsAllowed plain start (Bad 1 0x6983)) × ¬ (IsAllowed plain start (Bad 1 0x63C2))
    × ¬ (IsAllowed plain start (Bad 1 0x6A80)) × ¬ (IsAllowed plain start (Bad 1 0x6A82)) × ¬ (IsAllowed plain start (Bad 1 0x6A84))
    × ¬ (IsAllowed plain start (Bad 1 0x6A88)) × ¬ (IsAllowed plain start (Bad 1 0x6D00)) × ¬ (IsAllowed plain start (Bad 1 0x9000))

-- only a comparison or a put loses power, and only where it is granted or misses
abbrev pub LossesAreInWriters : Type 0
LossesAreInWriters =
    IsAllowed plain selected_first (Cut (Some (1, verify plain_pin)))
    × IsAllowed plain selected_first (Cut (Some (1, verify wrong_pin)))
    × ¬ (IsAllowed plain blocked (Cut (Some (1, verify plain_pin))))
    × ¬ (IsAllowed plain selected_first (Cut (Some (1, query))))
    × ¬ (IsAllowed plain selected_first (Cut (Some (1, log_out))))
    × ¬ (IsAllowed plain selected_first (Cut (Some (1, get_chuid))))
    × ¬ (IsAllowed plain selected_first (Cut (Some (1, ask_challenge))))
    × ¬ (IsAllowed plain selected_first (Cut (Some (1, put_chuid))))
    × ¬ (IsAllowed plain selected_first (Cut (Some (2, verify plain_pin))))

-- the writes of a command, where a value of n bytes is put by n + 100: 4 of a match, 2 of a mismatch, those of its bytes for a
-- put, and none of what is refused or only asks
abbrev pub put_writes : ℕ → ℕ
put_writes n = n + 100

abbrev pub CommandCosts : Type 0
CommandCosts =
    (cost put_writes plain selected_first 1 (verify plain_pin) ≡ 4)
    × (cost put_writes plain selected_first 1 (verify wrong_pin) ≡ 2)
    × (cost put_writes plain selected_first 1 query ≡ 0)
    × (cost put_writes plain blocked 1 (verify plain_pin) ≡ 0)
    × (cost put_writes plain administered 1 put_chuid ≡ 104)
    × (cost put_writes plain selected_first 1 put_chuid ≡ 0)
