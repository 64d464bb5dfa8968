-- Worked examples where two refusals meet, and of forms that are easily read too widely or too narrowly (SP 800-73-4 part 2,
-- VERIFY, PUT DATA and GENERAL AUTHENTICATE; ISO/IEC 7816-4, GET RESPONSE; the order of the refusals is this project's own).
use Rattle.std.specs.Prelude.{◌≡◌, ℕ, List, [], ◌∷◌, ◌++◌, Some, None}
use Rattle.piv_model.specs.ApplicationNames.{full_aid}
use Rattle.piv_model.specs.Base.{profile}
use Rattle.piv_model.specs.Commands.{CardCommand}
use Rattle.piv_model.specs.PlainCard.{plain_pin, plain_chuid, plain_discovery}
use Rattle.piv_rules.specs.Answers.{piv_template}
use Rattle.piv_rules.specs.Asks.{Refused, Put, Internal, AskChallenge, Mutual, ask}
use Rattle.piv_rules.specs.Frames.{BadFrame, PartFrame, RestFrame, WholeFrame, frame_of}
use Rattle.history_examples.specs.ConnectionExamples.{short_pin}
use Rattle.history_examples.specs.Examples.{plain, start, replies, select, get_chuid, with_data, verify_part, apdu, authenticate, zeros, counting}

-- VERIFY: a wrong P1 comes before a wrong reference, and a wrong reference before a wrong form
abbrev pub verify_at : ℕ → ℕ → List ℕ → CardCommand
verify_at p1 p2 body = record { ins = 0x20; p1 = p1; p2 = p2; body = body }

abbrev pub VerifyRefusals : Type 0
VerifyRefusals =
    (ask (profile plain) (verify_at 0x01 0x81 plain_pin) ≡ Refused 0x6A86)
    × (ask (profile plain) (verify_at 0x00 0x81 short_pin) ≡ Refused 0x6A88)
    × (ask (profile plain) (verify_at 0x01 0x80 short_pin) ≡ Refused 0x6A86)
    × (ask (profile plain) (verify_at 0xFF 0x80 plain_pin) ≡ Refused 0x6A80)

-- GET RESPONSE: data come before wrong parameters, and both before nothing that waits
abbrev pub fetch : ℕ → List ℕ → CardCommand
fetch p1 body = record { ins = 0xC0; p1 = p1; p2 = 0x00; body = body }

abbrev pub GetResponseRefusals : Type 0
GetResponseRefusals =
    (frame_of (apdu 0x00 (fetch 0x01 (0x00 ∷ [])) 256) None (0x55 ∷ []) ≡ BadFrame 0x6700)
    × (frame_of (apdu 0x00 (fetch 0x00 (0x00 ∷ [])) 256) None [] ≡ BadFrame 0x6700)
    × (frame_of (apdu 0x00 (fetch 0x01 []) 256) None [] ≡ BadFrame 0x6A86)
    × (frame_of (apdu 0x00 (fetch 0x00 []) 256) None [] ≡ BadFrame 0x6985)
    × (frame_of (apdu 0x00 (fetch 0x00 []) 256) None (0x55 ∷ []) ≡ RestFrame (0x55 ∷ []) 0x9000)

-- PUT DATA of the Discovery Object is one element 7E; under a tag list it is no form
abbrev pub put_data : List ℕ → CardCommand
put_data body = record { ins = 0xDB; p1 = 0x3F; p2 = 0xFF; body = body }

abbrev pub DiscoveryUnderATagList : Type 0
DiscoveryUnderATagList =
    (ask (profile plain) (put_data (0x5C ∷ 0x01 ∷ 0x7E ∷ 0x53 ∷ 0x00 ∷ [])) ≡ Refused 0x6A80)
    × (ask (profile plain) (put_data (0x5C ∷ 0x01 ∷ 0x7E ∷ 0x53 ∷ 0x12 ∷ plain_discovery)) ≡ Refused 0x6A80)
    × (ask (profile plain) (put_data (0x7E ∷ 0x12 ∷ plain_discovery)) ≡ Put 10 plain_discovery)
    × (ask (profile plain) (put_data (0x5C ∷ 0x01 ∷ 0x7F ∷ 0x53 ∷ 0x00 ∷ [])) ≡ Refused 0x6A82)

-- a field of the template stands once
abbrev pub FieldsStandOnce : Type 0
FieldsStandOnce =
    (ask (profile plain) (authenticate (0x7C ∷ 0x02 ∷ 0x81 ∷ 0x00 ∷ [])) ≡ AskChallenge)
    × (ask (profile plain) (authenticate (0x7C ∷ 0x04 ∷ 0x81 ∷ 0x00 ∷ 0x81 ∷ 0x00 ∷ [])) ≡ Refused 0x6A80)
    × (ask (profile plain) (authenticate (0x7C ∷ 0x04 ∷ 0x81 ∷ 0x00 ∷ 0x82 ∷ 0x00 ∷ [])) ≡ Refused 0x6A80)

-- a mutual authentication with or without an empty Response, its fields in any order
abbrev pub MutualWithAnEmptyResponse : Type 0
MutualWithAnEmptyResponse =
    (ask (profile plain) (authenticate (0x7C ∷ 0x24 ∷ 0x80 ∷ 0x10 ∷ zeros ++ 0x81 ∷ 0x10 ∷ counting)) ≡ Mutual zeros counting)
    × (ask (profile plain) (authenticate (0x7C ∷ 0x26 ∷ 0x80 ∷ 0x10 ∷ zeros ++ 0x81 ∷ 0x10 ∷ counting ++ 0x82 ∷ 0x00 ∷ []))
    ≡ Mutual zeros counting)
    × (ask (profile plain) (authenticate (0x7C ∷ 0x26 ∷ 0x82 ∷ 0x00 ∷ 0x81 ∷ 0x10 ∷ counting ++ 0x80 ∷ 0x10 ∷ zeros))
    ≡ Mutual zeros counting)

-- in an open chain GET RESPONSE is another header, under class 10 it begins a chain, and that chain ends in a command
abbrev pub FetchesInAChain : Type 0
FetchesInAChain =
    (frame_of (apdu 0x00 (fetch 0x00 []) 256) (Some (verify_part 0x80 [])) (0x55 ∷ []) ≡ BadFrame 0x6883)
    × (frame_of (apdu 0x10 (fetch 0x00 []) 256) None (0x55 ∷ []) ≡ PartFrame)
    × (frame_of (apdu 0x00 (fetch 0x00 []) 256) (Some (fetch 0x00 [])) (0x55 ∷ []) ≡ WholeFrame (fetch 0x00 []) 256)

-- the Discovery Object is given in the element 7E, another object in a 53
abbrev pub tagged : List ℕ → CardCommand
tagged tag_list = record { ins = 0xCB; p1 = 0x3F; p2 = 0xFF; body = tag_list }

abbrev pub DiscoveryIsGiven : Type 0
DiscoveryIsGiven = replies plain start (select full_aid ∷ tagged (0x5C ∷ 0x01 ∷ 0x7E ∷ []) ∷ get_chuid ∷ [])
    ≡ with_data piv_template ∷ with_data (0x7E ∷ 0x12 ∷ plain_discovery) ∷ with_data (0x53 ∷ 0x04 ∷ plain_chuid) ∷ []

-- a key is named by its algorithm too, and each key has forms of its own
abbrev pub use_key : ℕ → ℕ → List ℕ → CardCommand
use_key p1 p2 body = record { ins = 0x87; p1 = p1; p2 = p2; body = body }

abbrev pub KeysHaveTheirForms : Type 0
KeysHaveTheirForms =
    (ask (profile plain) (use_key 0x0A 0x9B (0x7C ∷ 0x02 ∷ 0x81 ∷ 0x00 ∷ [])) ≡ Refused 0x6A86)
    × (ask (profile plain) (use_key 0x08 0x9A (0x7C ∷ 0x02 ∷ 0x81 ∷ 0x00 ∷ [])) ≡ Refused 0x6A86)
    × (ask (profile plain) (use_key 0x08 0x9E (0x7C ∷ 0x02 ∷ 0x81 ∷ 0x00 ∷ [])) ≡ Refused 0x6A80)
    × (ask (profile plain) (use_key 0x08 0x9E (0x7C ∷ 0x12 ∷ 0x81 ∷ 0x10 ∷ counting)) ≡ Refused 0x6A80)
    × (ask (profile plain) (use_key 0x08 0x9E (0x7C ∷ 0x14 ∷ 0x81 ∷ 0x10 ∷ counting ++ 0x82 ∷ 0x00 ∷ [])) ≡ Internal counting)
    × (ask (profile plain) (use_key 0x08 0x9B (0x7C ∷ 0x14 ∷ 0x81 ∷ 0x10 ∷ counting ++ 0x82 ∷ 0x00 ∷ [])) ≡ Refused 0x6A80)
