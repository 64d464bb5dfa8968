-- Worked examples of the headers of commands: parameters that a command hasn't, references that a card hasn't, and commands that
-- there aren't (SP 800-73-4 part 2; ISO/IEC 7816-4 for the bytes of an APDU).
use Rattle.std.specs.Prelude.{◌≡◌, ℕ, List, [], ◌∷◌, ◌++◌, Some, Err}
use Rattle.piv_model.specs.declared.kinds.RefId.TheVariants.{Puk, GlobalPin}
use Rattle.piv_model.specs.ApduForms.{apdu_spelled, refusal_of_class}
use Rattle.piv_model.specs.ApplicationNames.{full_aid}
use Rattle.piv_model.specs.Base.{profile}
use Rattle.piv_model.specs.Commands.{CardCommand}
use Rattle.piv_model.specs.PlainCard.{plain_puk}
use Rattle.piv_rules.specs.Asks.{Refused, Logout, Query, Compare, Verify, Change, ask}
use Rattle.history_examples.specs.ConnectionExamples.{with_global, global_pin}
use Rattle.history_examples.specs.Examples.{plain, start, words, apdu, select, unblock, query, verify, new_pin, wrong_puk}
use Rattle.history_examples.specs.FormExamples.{change_at}

-- wrong parameters come before the data, whatever these are
abbrev pub with_header : ℕ → ℕ → ℕ → List ℕ → CardCommand
with_header ins p1 p2 body = record { ins = ins; p1 = p1; p2 = p2; body = body }

abbrev pub ParametersComeFirst : Type 0
ParametersComeFirst =
    (ask (profile plain) (with_header 0xA4 0x00 0x00 full_aid) ≡ Refused 0x6A86)
    × (ask (profile plain) (with_header 0xA4 0x04 0x0C full_aid) ≡ Refused 0x6A86)
    × (ask (profile plain) (with_header 0xCB 0x3F 0xFE []) ≡ Refused 0x6A86)
    × (ask (profile plain) (with_header 0xCB 0x00 0xFF []) ≡ Refused 0x6A86)
    × (ask (profile plain) (with_header 0xDB 0x3F 0xFE []) ≡ Refused 0x6A86)
    × (ask (profile plain) (with_header 0xDB 0x00 0xFF []) ≡ Refused 0x6A86)
    × (ask (profile plain) (with_header 0x24 0x01 0x82 []) ≡ Refused 0x6A86)
    × (ask (profile plain) (with_header 0x2C 0x01 0x82 []) ≡ Refused 0x6A86)
    × (ask (profile plain) (with_header 0x87 0x07 0x9B []) ≡ Refused 0x6A86)

-- references: VERIFY and CHANGE REFERENCE DATA know 80 and, on a card with a Global PIN, 00, CHANGE REFERENCE DATA 81 too, and
-- RESET RETRY COUNTER 80 alone
abbrev pub ReferencesAreKnown : Type 0
ReferencesAreKnown =
    (ask (profile plain) (with_header 0x20 0x00 0x00 global_pin) ≡ Refused 0x6A88)
    × (ask (profile with_global) (with_header 0x20 0x00 0x00 global_pin) ≡ Compare GlobalPin global_pin Verify)
    × (ask (profile with_global) (with_header 0x20 0x00 0x00 []) ≡ Query GlobalPin)
    × (ask (profile with_global) (with_header 0x20 0xFF 0x00 []) ≡ Logout GlobalPin)
    × (ask (profile with_global) (with_header 0x20 0x00 0x81 plain_puk) ≡ Refused 0x6A88)
    × (ask (profile plain) (change_at 0x00 (global_pin ++ new_pin)) ≡ Refused 0x6A88)
    × (ask (profile with_global) (change_at 0x00 (global_pin ++ new_pin)) ≡ Compare GlobalPin global_pin (Change new_pin))
    × (ask (profile with_global) (change_at 0x81 (plain_puk ++ wrong_puk)) ≡ Compare Puk plain_puk (Change wrong_puk))
    × (ask (profile with_global) (change_at 0x82 (plain_puk ++ wrong_puk)) ≡ Refused 0x6A88)
    × (ask (profile with_global) (with_header 0x2C 0x00 0x81 (plain_puk ++ new_pin)) ≡ Refused 0x6A88)
    × (ask (profile with_global) (with_header 0x2C 0x00 0x00 (plain_puk ++ new_pin)) ≡ Refused 0x6A88)

-- a new PUK is the one that unblocks; it gives no login, and the PIN's counter is as before
abbrev pub NewPukUnblocks : Type 0
NewPukUnblocks = words plain start
    (select full_aid ∷ change_at 0x81 (plain_puk ++ wrong_puk) ∷ query ∷ unblock plain_puk new_pin ∷ unblock wrong_puk new_pin
    ∷ verify new_pin ∷ [])
    ≡ 0x9000 ∷ 0x9000 ∷ 0x63C3 ∷ 0x63C2 ∷ 0x9000 ∷ 0x9000 ∷ []

-- the card has no other command
abbrev pub NoOtherCommand : Type 0
NoOtherCommand =
    (ask (profile plain) (with_header 0xC0 0x00 0x00 []) ≡ Refused 0x6D00)
    × (ask (profile plain) (with_header 0x47 0x00 0x9A []) ≡ Refused 0x6D00)
    × (ask (profile plain) (with_header 0x00 0x00 0x00 []) ≡ Refused 0x6D00)

-- the bytes of an APDU: a header of four, then Lc with its data, or Le, or both; Le 00 means 256
abbrev pub BytesOfCommands : Type 0
BytesOfCommands =
    (apdu_spelled (0x00 ∷ 0xC0 ∷ 0x00 ∷ []) ≡ Err 0x6700)
    × (apdu_spelled (0x00 ∷ 0xC0 ∷ 0x00 ∷ 0x00 ∷ []) ≡ apdu 0x00 (with_header 0xC0 0x00 0x00 []) 256)
    × (apdu_spelled (0x00 ∷ 0xC0 ∷ 0x00 ∷ 0x00 ∷ 0x00 ∷ []) ≡ apdu 0x00 (with_header 0xC0 0x00 0x00 []) 256)
    × (apdu_spelled (0x00 ∷ 0xC0 ∷ 0x00 ∷ 0x00 ∷ 0xFF ∷ []) ≡ apdu 0x00 (with_header 0xC0 0x00 0x00 []) 255)
    × (apdu_spelled (0x10 ∷ 0x20 ∷ 0x00 ∷ 0x80 ∷ 0x02 ∷ 0x31 ∷ 0x32 ∷ [])
    ≡ apdu 0x10 (with_header 0x20 0x00 0x80 (0x31 ∷ 0x32 ∷ [])) 256)
    × (apdu_spelled (0x10 ∷ 0x20 ∷ 0x00 ∷ 0x80 ∷ 0x02 ∷ 0x31 ∷ 0x32 ∷ 0x04 ∷ [])
    ≡ apdu 0x10 (with_header 0x20 0x00 0x80 (0x31 ∷ 0x32 ∷ [])) 4)
    × (apdu_spelled (0x00 ∷ 0x20 ∷ 0x00 ∷ 0x80 ∷ 0x02 ∷ 0x31 ∷ []) ≡ Err 0x6700)
    × (apdu_spelled (0x00 ∷ 0x20 ∷ 0x00 ∷ 0x80 ∷ 0x02 ∷ 0x31 ∷ 0x32 ∷ 0x04 ∷ 0x00 ∷ []) ≡ Err 0x6700)
    × (apdu_spelled (0x00 ∷ 0x20 ∷ 0x00 ∷ 0x80 ∷ 0x00 ∷ 0x04 ∷ []) ≡ Err 0x6700)

-- classes: fewer than four bytes are told before a class, and a class before its lengths
abbrev pub ClassesOfCommands : Type 0
ClassesOfCommands =
    (apdu_spelled (0x0C ∷ 0xC0 ∷ 0x00 ∷ []) ≡ Err 0x6700)
    × (apdu_spelled (0x0C ∷ 0x20 ∷ 0x00 ∷ 0x80 ∷ 0x02 ∷ 0x31 ∷ []) ≡ Err 0x6882)
    × (refusal_of_class 0x1C ≡ Some 0x6882)
    × (refusal_of_class 0x01 ≡ Some 0x6881)
    × (refusal_of_class 0x03 ≡ Some 0x6881)
    × (refusal_of_class 0x11 ≡ Some 0x6881)
    × (refusal_of_class 0x13 ≡ Some 0x6881)
    × (refusal_of_class 0x04 ≡ Some 0x6E00)
    × (refusal_of_class 0x80 ≡ Some 0x6E00)
    × (refusal_of_class 0xFF ≡ Some 0x6E00)
