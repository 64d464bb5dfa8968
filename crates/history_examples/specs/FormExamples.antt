-- Worked examples of the forms of what commands bear: the nearest value that has the form, and the nearest one that hasn't
-- (SP 800-73-4 part 1, the names and the Discovery Object; part 2, the commands of the card edge).
use Rattle.std.specs.Prelude.{◌≡◌, ℕ, true, false, List, [], ◌∷◌, ◌++◌, replicate, Some, None}
use Rattle.piv_model.specs.declared.kinds.Application.TheVariants.{Piv, Idle}
use Rattle.piv_model.specs.declared.kinds.RefId.TheVariants.{Pin, Puk}
use Rattle.piv_model.specs.ApplicationNames.{application_named}
use Rattle.piv_model.specs.Base.{profile}
use Rattle.piv_model.specs.Commands.{CardCommand}
use Rattle.piv_model.specs.Forms.{is_pin, discovery_head}
use Rattle.piv_model.specs.PlainCard.{plain_pin, plain_puk}
use Rattle.piv_rules.specs.Asks.{Refused, Get, Put, Compare, AskChallenge, Change, Unblock, ask}
use Rattle.history_examples.specs.ConnectionExamples.{with_global, short_pin}
use Rattle.history_examples.specs.Examples.{plain, start, replies, select, unblock, authenticate, with_data, new_pin, wrong_puk, zeros}
use Rattle.history_examples.specs.RefusalExamples.{put_data, tagged}

-- a PIN has 6 to 8 digits, and FF behind them alone
abbrev pub five_digits : List ℕ
five_digits = 0x31 ∷ 0x32 ∷ 0x33 ∷ 0x34 ∷ 0x35 ∷ []

abbrev pub PinForms : Type 0
PinForms =
    (is_pin (five_digits ++ 0x30 ∷ 0xFF ∷ 0xFF ∷ []) ≡ true)
    × (is_pin (five_digits ++ 0x30 ∷ 0x39 ∷ 0xFF ∷ []) ≡ true)
    × (is_pin (five_digits ++ 0x30 ∷ 0x39 ∷ 0x39 ∷ []) ≡ true)
    × (is_pin (five_digits ++ 0xFF ∷ 0xFF ∷ 0xFF ∷ []) ≡ false)
    × (is_pin (five_digits ++ 0x30 ∷ 0xFF ∷ 0x39 ∷ []) ≡ false)
    × (is_pin (five_digits ++ 0x2F ∷ 0xFF ∷ 0xFF ∷ []) ≡ false)
    × (is_pin (five_digits ++ 0x3A ∷ 0xFF ∷ 0xFF ∷ []) ≡ false)
    × (is_pin (five_digits ++ 0x30 ∷ 0x00 ∷ 0x00 ∷ []) ≡ false)
    × (is_pin (five_digits ++ 0x30 ∷ 0xFF ∷ []) ≡ false)
    × (is_pin (five_digits ++ 0x30 ∷ 0x39 ∷ 0x39 ∷ 0x39 ∷ []) ≡ false)

-- the name of the PIV application has 11 bytes, or the first 9 of them; the answer is the application property template
abbrev pub PivName : Type 0
PivName =
    (replies plain start (select (0xA0 ∷ 0x00 ∷ 0x00 ∷ 0x03 ∷ 0x08 ∷ 0x00 ∷ 0x00 ∷ 0x10 ∷ 0x00 ∷ 0x01 ∷ 0x00 ∷ []) ∷ [])
    ≡ with_data (0x61 ∷ 0x11 ∷ 0x4F ∷ 0x06 ∷ 0x00 ∷ 0x00 ∷ 0x10 ∷ 0x00 ∷ 0x01 ∷ 0x00
    ∷ 0x79 ∷ 0x07 ∷ 0x4F ∷ 0x05 ∷ 0xA0 ∷ 0x00 ∷ 0x00 ∷ 0x03 ∷ 0x08 ∷ []) ∷ [])
    × (application_named (0xA0 ∷ 0x00 ∷ 0x00 ∷ 0x03 ∷ 0x08 ∷ 0x00 ∷ 0x00 ∷ 0x10 ∷ 0x00 ∷ []) ≡ Some Piv)
    × (application_named (0xA0 ∷ 0x00 ∷ 0x00 ∷ 0x03 ∷ 0x08 ∷ 0x00 ∷ 0x00 ∷ 0x10 ∷ []) ≡ None)
    × (application_named (0xA0 ∷ 0x00 ∷ 0x00 ∷ 0x03 ∷ 0x08 ∷ 0x00 ∷ 0x00 ∷ 0x10 ∷ 0x00 ∷ 0x01 ∷ []) ≡ None)
    × (application_named (0xA0 ∷ 0x00 ∷ 0x00 ∷ 0x03 ∷ 0x08 ∷ 0x00 ∷ 0x00 ∷ 0x10 ∷ 0x00 ∷ 0x02 ∷ 0x00 ∷ []) ≡ None)
    × (application_named (0xF0 ∷ 0x49 ∷ 0x44 ∷ 0x4C ∷ 0x45 ∷ []) ≡ Some Idle)
    × (application_named [] ≡ None)

-- GET DATA bears one element 5C of 1 to 3 bytes; a tag of no object has the form
abbrev pub TagLists : Type 0
TagLists =
    (ask (profile plain) (tagged (0x5C ∷ 0x03 ∷ 0x5F ∷ 0xC1 ∷ 0x02 ∷ [])) ≡ Get 1)
    × (ask (profile plain) (tagged (0x5C ∷ 0x03 ∷ 0x5F ∷ 0xC1 ∷ 0x22 ∷ [])) ≡ Refused 0x6A82)
    × (ask (profile plain) (tagged (0x5C ∷ 0x01 ∷ 0x5F ∷ [])) ≡ Refused 0x6A82)
    × (ask (profile plain) (tagged (0x5C ∷ 0x00 ∷ [])) ≡ Refused 0x6A80)
    × (ask (profile plain) (tagged (0x5C ∷ 0x04 ∷ 0x5F ∷ 0xC1 ∷ 0x02 ∷ 0x00 ∷ [])) ≡ Refused 0x6A80)
    × (ask (profile plain) (tagged (0x5D ∷ 0x03 ∷ 0x5F ∷ 0xC1 ∷ 0x02 ∷ [])) ≡ Refused 0x6A80)
    × (ask (profile plain) (tagged (0x5C ∷ 0x01 ∷ 0x7E ∷ 0x5C ∷ 0x01 ∷ 0x7E ∷ [])) ≡ Refused 0x6A80)
    × (ask (profile plain) (tagged []) ≡ Refused 0x6A80)

-- PUT DATA bears an element 5C and an element 53 behind it; an empty 53 removes the object
abbrev pub chuid_tag : List ℕ
chuid_tag = 0x5C ∷ 0x03 ∷ 0x5F ∷ 0xC1 ∷ 0x02 ∷ []

abbrev pub ValuesUnderTags : Type 0
ValuesUnderTags =
    (ask (profile plain) (put_data (chuid_tag ++ 0x53 ∷ 0x00 ∷ [])) ≡ Put 1 [])
    × (ask (profile plain) (put_data (chuid_tag ++ 0x53 ∷ 0x01 ∷ 0x3E ∷ [])) ≡ Put 1 (0x3E ∷ []))
    × (ask (profile plain) (put_data (chuid_tag ++ 0x54 ∷ 0x00 ∷ [])) ≡ Refused 0x6A80)
    × (ask (profile plain) (put_data (0x53 ∷ 0x00 ∷ chuid_tag)) ≡ Refused 0x6A80)
    × (ask (profile plain) (put_data chuid_tag) ≡ Refused 0x6A80)
    × (ask (profile plain) (put_data (chuid_tag ++ 0x53 ∷ 0x00 ∷ 0x53 ∷ 0x00 ∷ [])) ≡ Refused 0x6A80)
    × (ask (profile plain) (put_data (0x5C ∷ 0x00 ∷ 0x53 ∷ 0x00 ∷ [])) ≡ Refused 0x6A80)
    × (ask (profile plain) (put_data (0x5C ∷ 0x03 ∷ 0x5F ∷ 0xC1 ∷ 0x22 ∷ 0x53 ∷ 0x00 ∷ [])) ≡ Refused 0x6A82)

-- the Discovery Object has the full name and a policy: 40 00, and on a card with a Global PIN 60 10 and 60 20 too
abbrev pub discovered : List ℕ → CardCommand
discovered policy = put_data (0x7E ∷ 0x12 ∷ (discovery_head ++ policy))

abbrev pub named_otherwise : List ℕ
named_otherwise =
    0x4F ∷ 0x0B ∷ 0xA0 ∷ 0x00 ∷ 0x00 ∷ 0x03 ∷ 0x08 ∷ 0x00 ∷ 0x00 ∷ 0x10 ∷ 0x00 ∷ 0x02 ∷ 0x00 ∷ 0x5F ∷ 0x2F ∷ 0x02 ∷ 0x40 ∷ 0x00 ∷ []

abbrev pub DiscoveryForms : Type 0
DiscoveryForms =
    (discovery_head
    ≡ 0x4F ∷ 0x0B ∷ 0xA0 ∷ 0x00 ∷ 0x00 ∷ 0x03 ∷ 0x08 ∷ 0x00 ∷ 0x00 ∷ 0x10 ∷ 0x00 ∷ 0x01 ∷ 0x00 ∷ 0x5F ∷ 0x2F ∷ 0x02 ∷ [])
    × (ask (profile plain) (discovered (0x40 ∷ 0x00 ∷ [])) ≡ Put 10 (discovery_head ++ 0x40 ∷ 0x00 ∷ []))
    × (ask (profile plain) (discovered (0x40 ∷ 0x10 ∷ [])) ≡ Refused 0x6A80)
    × (ask (profile plain) (discovered (0x60 ∷ 0x10 ∷ [])) ≡ Refused 0x6A80)
    × (ask (profile with_global) (discovered (0x60 ∷ 0x10 ∷ [])) ≡ Put 10 (discovery_head ++ 0x60 ∷ 0x10 ∷ []))
    × (ask (profile with_global) (discovered (0x60 ∷ 0x20 ∷ [])) ≡ Put 10 (discovery_head ++ 0x60 ∷ 0x20 ∷ []))
    × (ask (profile with_global) (discovered (0x60 ∷ 0x00 ∷ [])) ≡ Refused 0x6A80)
    × (ask (profile plain) (put_data (0x7E ∷ 0x12 ∷ named_otherwise)) ≡ Refused 0x6A80)
    × (ask (profile plain) (put_data (0x7E ∷ 0x00 ∷ [])) ≡ Refused 0x6A80)

-- the old and the new value of a PIN have its form, a PUK any 8 bytes, and the PUK's new PIN that of a PIN
abbrev pub change_at : ℕ → List ℕ → CardCommand
change_at p2 body = record { ins = 0x24; p1 = 0x00; p2 = p2; body = body }

abbrev pub NewValues : Type 0
NewValues =
    (ask (profile plain) (change_at 0x80 (plain_pin ++ new_pin)) ≡ Compare Pin plain_pin (Change new_pin))
    × (ask (profile plain) (change_at 0x80 (plain_pin ++ wrong_puk)) ≡ Compare Pin plain_pin (Change wrong_puk))
    × (ask (profile plain) (change_at 0x80 (plain_pin ++ short_pin)) ≡ Refused 0x6A80)
    × (ask (profile plain) (change_at 0x80 (plain_pin ++ replicate 8 0x00)) ≡ Refused 0x6A80)
    × (ask (profile plain) (change_at 0x80 (replicate 8 0x00 ++ new_pin)) ≡ Refused 0x6A80)
    × (ask (profile plain) (change_at 0x81 (replicate 8 0x00 ++ replicate 8 0xFF))
    ≡ Compare Puk (replicate 8 0x00) (Change (replicate 8 0xFF)))
    × (ask (profile plain) (change_at 0x81 (replicate 15 0x00)) ≡ Refused 0x6A80)
    × (ask (profile plain) (unblock (replicate 8 0x00) new_pin) ≡ Compare Puk (replicate 8 0x00) (Unblock new_pin))
    × (ask (profile plain) (unblock plain_puk (replicate 8 0x00)) ≡ Refused 0x6A80)
    × (ask (profile plain) (unblock plain_puk (new_pin ++ 0xFF ∷ [])) ≡ Refused 0x6A80)

-- the template is one element 7C of fields 80, 81 and 82, empty or of 16 bytes
abbrev pub TemplateForms : Type 0
TemplateForms =
    (ask (profile plain) (authenticate (0x7C ∷ 0x02 ∷ 0x81 ∷ 0x00 ∷ [])) ≡ AskChallenge)
    × (ask (profile plain) (authenticate (0x7D ∷ 0x02 ∷ 0x81 ∷ 0x00 ∷ [])) ≡ Refused 0x6A80)
    × (ask (profile plain) (authenticate (0x7C ∷ 0x02 ∷ 0x83 ∷ 0x00 ∷ [])) ≡ Refused 0x6A80)
    × (ask (profile plain) (authenticate (0x7C ∷ 0x04 ∷ 0x81 ∷ 0x00 ∷ 0x83 ∷ 0x00 ∷ [])) ≡ Refused 0x6A80)
    × (ask (profile plain) (authenticate (0x7C ∷ 0x11 ∷ 0x82 ∷ 0x0F ∷ replicate 15 0x00)) ≡ Refused 0x6A80)
    × (ask (profile plain) (authenticate (0x7C ∷ 0x13 ∷ 0x82 ∷ 0x11 ∷ replicate 17 0x00)) ≡ Refused 0x6A80)
    × (ask (profile plain) (authenticate (0x7C ∷ 0x02 ∷ 0x81 ∷ 0x00 ∷ 0x7C ∷ 0x00 ∷ [])) ≡ Refused 0x6A80)
    × (ask (profile plain) (authenticate (0x7C ∷ 0x00 ∷ [])) ≡ Refused 0x6A80)
    × (ask (profile plain) (authenticate (0x7C ∷ 0x14 ∷ 0x81 ∷ 0x00 ∷ 0x82 ∷ 0x10 ∷ zeros)) ≡ Refused 0x6A80)
