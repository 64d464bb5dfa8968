-- Worked examples on the plain card, over connection 1 on contact: what commands are answered one after the other, how
-- parts of a chain and pieces of a reply go, and what may be said after a loss of power (this project's own).
use Rattle.std.specs.Prelude.{◌≡◌, ℕ, true, List, [], ◌∷◌, ◌++◌, map, replicate, Some, None, Result, Ok}
use Rattle.piv_model.specs.declared.kinds.Interface.TheVariants.{Contact}
use Rattle.piv_model.specs.declared.kinds.RefId.TheVariants.{Pin}
use Rattle.piv_model.specs.declared.kinds.Took.TheVariants.{Nothing, Spent, Done}
use Rattle.piv_model.specs.Commands.{CardCommand, CardApdu}
use Rattle.piv_model.specs.Entries.{Past, ◌▸◌, Opened, Call, Part, Rest, Bad, Cut, Up}
use Rattle.piv_model.specs.Base.{Base}
use Rattle.piv_model.specs.ApplicationNames.{full_aid, truncated_aid, idle_aid}
use Rattle.piv_model.specs.PlainCard.{plain_base, plain_pin, plain_puk, plain_chuid, plain_printed}
use Rattle.piv_rules.specs.Memories.{tries, object}
use Rattle.piv_rules.specs.Answers.{Reply, only, piv_template, answer}
use Rattle.piv_rules.specs.Losses.{MayTake}
use Rattle.piv_rules.specs.Legal.{IsAllowed, fetched}
use Rattle.piv_rules.specs.Acts.{Records, CardRecord, Connect, Connected, Exchange, Replied}
use Rattle.piv_rules.specs.Frames.{BadFrame, PartFrame, RestFrame, WholeFrame, frame_of, rest}
use Rattle.piv_rules.specs.Turns.{called, cut_reply}
use Rattle.piv_rules.specs.Plans.{made, ArePlanned}

abbrev pub plain : Base
plain = plain_base

-- the history after these commands on connection 1, and their answers
abbrev pub start : Past
start = Opened 1 Contact true ∷ []

abbrev pub after : Base → Past → List CardCommand → Past
after B H [] = H
after B H (k ∷ ks) = after B (H ▸ called B H 1 k) ks

abbrev pub replies : Base → Past → List CardCommand → List Reply
replies B H [] = []
replies B H (k ∷ ks) = answer B H 1 k ∷ replies B (H ▸ called B H 1 k) ks

abbrev pub words : Base → Past → List CardCommand → List ℕ
words B H ks = map (λ r. r.word) (replies B H ks)

-- ---- commands

abbrev pub select : List ℕ → CardCommand
select aid = record { ins = 0xA4; p1 = 0x04; p2 = 0x00; body = aid }

abbrev pub unknown_aid : List ℕ
unknown_aid = 0xA0 ∷ 0x00 ∷ 0x00 ∷ 0x00 ∷ 0x01 ∷ []

abbrev pub get : List ℕ → CardCommand
get tag = record { ins = 0xCB; p1 = 0x3F; p2 = 0xFF; body = 0x5C ∷ 0x03 ∷ tag }

abbrev pub get_printed : CardCommand
get_printed = get (0x5F ∷ 0xC1 ∷ 0x09 ∷ [])

abbrev pub get_chuid : CardCommand
get_chuid = get (0x5F ∷ 0xC1 ∷ 0x02 ∷ [])

abbrev pub verify : List ℕ → CardCommand
verify p = record { ins = 0x20; p1 = 0x00; p2 = 0x80; body = p }

abbrev pub query : CardCommand
query = verify []

abbrev pub log_out : CardCommand
log_out = record { ins = 0x20; p1 = 0xFF; p2 = 0x80; body = [] }

abbrev pub change : List ℕ → List ℕ → CardCommand
change p n = record { ins = 0x24; p1 = 0x00; p2 = 0x80; body = p ++ n }

abbrev pub unblock : List ℕ → List ℕ → CardCommand
unblock p n = record { ins = 0x2C; p1 = 0x00; p2 = 0x80; body = p ++ n }

abbrev pub authenticate : List ℕ → CardCommand
authenticate template = record { ins = 0x87; p1 = 0x08; p2 = 0x9B; body = template }

abbrev pub ask_challenge : CardCommand
ask_challenge = authenticate (0x7C ∷ 0x02 ∷ 0x81 ∷ 0x00 ∷ [])

abbrev pub respond : List ℕ → CardCommand
respond x = authenticate (0x7C ∷ 0x12 ∷ 0x82 ∷ 0x10 ∷ x)

abbrev pub wrong_pin : List ℕ
wrong_pin = 0x39 ∷ 0x39 ∷ 0x39 ∷ 0x39 ∷ 0x39 ∷ 0x39 ∷ 0xFF ∷ 0xFF ∷ []

abbrev pub new_pin : List ℕ
new_pin = 0x36 ∷ 0x35 ∷ 0x34 ∷ 0x33 ∷ 0x32 ∷ 0x31 ∷ 0xFF ∷ 0xFF ∷ []

abbrev pub wrong_puk : List ℕ
wrong_puk = replicate 8 0x30

abbrev pub first_block : List ℕ
first_block =
    0x76 ∷ 0xB8 ∷ 0xE0 ∷ 0xAD ∷ 0xA0 ∷ 0xF1 ∷ 0x3D ∷ 0x90
    ∷ 0x40 ∷ 0x5D ∷ 0x6A ∷ 0xE5 ∷ 0x53 ∷ 0x86 ∷ 0xBD ∷ 0x28 ∷ []

abbrev pub with_data : List ℕ → Reply
with_data body = record { word = 0x9000; body = body }

-- ---- what commands are answered

-- the printed information is given after a login alone
abbrev pub LoginOpens : Type 0
LoginOpens = replies plain start (select full_aid ∷ get_printed ∷ verify plain_pin ∷ get_printed ∷ [])
    ≡ with_data piv_template ∷ only 0x6982 ∷ only 0x9000 ∷ with_data (0x53 ∷ 0x06 ∷ plain_printed) ∷ []

-- selecting PIV again and an unknown name keep the login, the idle application ends it
abbrev pub IdleEndsTheLogin : Type 0
IdleEndsTheLogin = words plain (after plain start (select full_aid ∷ verify plain_pin ∷ []))
    (select truncated_aid ∷ get_printed ∷ select unknown_aid ∷ get_printed ∷ select idle_aid ∷ get_printed ∷ select full_aid ∷ get_printed ∷ [])
    ≡ 0x9000 ∷ 0x9000 ∷ 0x6A82 ∷ 0x9000 ∷ 0x9000 ∷ 0x6D00 ∷ 0x9000 ∷ 0x6982 ∷ []

abbrev pub blocked : Past
blocked = after plain start (select full_aid ∷ verify wrong_pin ∷ verify wrong_pin ∷ verify wrong_pin ∷ [])

-- three wrong PINs block the right one
abbrev pub WrongPinsBlock : Type 0
WrongPinsBlock = words plain start
    (select full_aid ∷ verify wrong_pin ∷ verify wrong_pin ∷ verify wrong_pin ∷ verify plain_pin ∷ query ∷ [])
    ≡ 0x9000 ∷ 0x63C2 ∷ 0x63C1 ∷ 0x63C0 ∷ 0x6983 ∷ 0x63C0 ∷ []

-- the PUK gives a new PIN
abbrev pub PukUnblocks : Type 0
PukUnblocks = words plain blocked (unblock wrong_puk new_pin ∷ unblock plain_puk new_pin ∷ query ∷ verify new_pin ∷ [])
    ≡ 0x63C2 ∷ 0x9000 ∷ 0x63C3 ∷ 0x9000 ∷ []

-- a change logs in, and the old PIN is wrong afterwards
abbrev pub ChangeLogsIn : Type 0
ChangeLogsIn = words plain start (select full_aid ∷ change plain_pin new_pin ∷ query ∷ verify plain_pin ∷ query ∷ [])
    ≡ 0x9000 ∷ 0x9000 ∷ 0x9000 ∷ 0x63C2 ∷ 0x63C2 ∷ []

-- a logout and a wrong PUK end the login
abbrev pub WrongPukEndsTheLogin : Type 0
WrongPukEndsTheLogin = words plain start
    (select full_aid ∷ verify plain_pin ∷ log_out ∷ query ∷ verify plain_pin ∷ unblock wrong_puk new_pin ∷ query ∷ [])
    ≡ 0x9000 ∷ 0x9000 ∷ 0x9000 ∷ 0x63C3 ∷ 0x9000 ∷ 0x63C2 ∷ 0x63C3 ∷ []

-- the first challenge is the first random block
abbrev pub ChallengeIsTheBlock : Type 0
ChallengeIsTheBlock = replies plain start (select full_aid ∷ ask_challenge ∷ [])
    ≡ with_data piv_template ∷ with_data (0x7C ∷ 0x12 ∷ 0x81 ∷ 0x10 ∷ first_block) ∷ []

abbrev pub challenged : Past
challenged = start ▸ Call 1 (select full_aid) 0x9000 None ▸ Call 1 ask_challenge 0x9000 (Some first_block)

-- the block under the key of administration; the value is that of openssl
abbrev pub response : List ℕ
response =
    0x42 ∷ 0x15 ∷ 0x5C ∷ 0x90 ∷ 0xAB ∷ 0x20 ∷ 0xDC ∷ 0xE0
    ∷ 0x1E ∷ 0xB4 ∷ 0xF8 ∷ 0x78 ∷ 0x7E ∷ 0x51 ∷ 0xB5 ∷ 0x9A ∷ []

abbrev pub zeros : List ℕ
zeros = replicate 16 0x00

abbrev pub put_chuid : CardCommand
put_chuid = record {
  ins = 0xDB;
  p1 = 0x3F;
  p2 = 0xFF;
  body = 0x5C ∷ 0x03 ∷ 0x5F ∷ 0xC1 ∷ 0x02 ∷ 0x53 ∷ 0x04 ∷ 0x3E ∷ 0x01 ∷ 0xFE ∷ 0x00 ∷ [];
}

-- a challenge is answered once, wrongly or rightly; the right response logs in.
abbrev pub ChallengeIsAnsweredOnce : Type 0
ChallengeIsAnsweredOnce =
    (answer plain challenged 1 (respond zeros) ≡ only 0x6982)
    × (answer plain (challenged ▸ Call 1 (respond zeros) 0x6982 None) 1 (respond zeros) ≡ only 0x6A80)
    × (answer plain challenged 1 (respond response) ≡ only 0x9000)
    × (words plain (challenged ▸ Call 1 (respond response) 0x9000 None) (respond response ∷ put_chuid ∷ []) ≡ 0x6A80 ∷ 0x9000 ∷ [])

abbrev pub ask_witness : CardCommand
ask_witness = authenticate (0x7C ∷ 0x02 ∷ 0x80 ∷ 0x00 ∷ [])

abbrev pub answer_witness : List ℕ → List ℕ → CardCommand
answer_witness w x = authenticate (0x7C ∷ 0x24 ∷ 0x80 ∷ 0x10 ∷ w ++ 0x81 ∷ 0x10 ∷ x)

-- a challenge, and its block under the key of administration; the value is that of openssl
abbrev pub counting : List ℕ
counting =
    0x00 ∷ 0x01 ∷ 0x02 ∷ 0x03 ∷ 0x04 ∷ 0x05 ∷ 0x06 ∷ 0x07
    ∷ 0x08 ∷ 0x09 ∷ 0x0A ∷ 0x0B ∷ 0x0C ∷ 0x0D ∷ 0x0E ∷ 0x0F ∷ []

abbrev pub counting_enciphered : List ℕ
counting_enciphered =
    0x9C ∷ 0x54 ∷ 0xD5 ∷ 0x71 ∷ 0x70 ∷ 0x2C ∷ 0xFA ∷ 0x0F
    ∷ 0x03 ∷ 0xF3 ∷ 0x62 ∷ 0x15 ∷ 0x67 ∷ 0x6B ∷ 0xAB ∷ 0x78 ∷ []

abbrev pub witnessed : Past
witnessed = start ▸ Call 1 (select full_aid) 0x9000 None ▸ Call 1 ask_witness 0x9000 (Some first_block)

-- the Witness is the block enciphered; the block itself with a challenge logs in, and is given the challenge enciphered
abbrev pub WitnessIsAnswered : Type 0
WitnessIsAnswered =
    (answer plain (after plain start (select full_aid ∷ [])) 1 ask_witness ≡ with_data (0x7C ∷ 0x12 ∷ 0x80 ∷ 0x10 ∷ response))
    × (answer plain witnessed 1 (respond response) ≡ only 0x6A80)
    × (answer plain witnessed 1 (answer_witness zeros counting) ≡ only 0x6982)
    × (answer plain witnessed 1 (answer_witness first_block counting)
    ≡ with_data (0x7C ∷ 0x12 ∷ 0x82 ∷ 0x10 ∷ counting_enciphered))
    × (words plain (witnessed ▸ Call 1 (answer_witness first_block counting) 0x9000 None) (put_chuid ∷ []) ≡ 0x9000 ∷ [])

-- ---- chains and pieces

abbrev pub apdu : ℕ → CardCommand → ℕ → Result CardApdu ℕ
apdu class command most = Ok (record { class = class; command = command; most = most })

abbrev pub verify_part : ℕ → List ℕ → CardCommand
verify_part p2 body = record { ins = 0x20; p1 = 0x00; p2 = p2; body = body }

-- a VERIFY in two parts: the first adds to the chain, the second ends it, and the joined command logs in
abbrev pub PartsJoin : Type 0
PartsJoin =
    (frame_of (apdu 0x10 (verify_part 0x80 (0x31 ∷ 0x32 ∷ 0x33 ∷ 0x34 ∷ [])) 256) None [] ≡ PartFrame)
    × (frame_of (apdu 0x00 (verify_part 0x80 (0x35 ∷ 0x36 ∷ 0xFF ∷ 0xFF ∷ [])) 256)
    (Some (verify_part 0x80 (0x31 ∷ 0x32 ∷ 0x33 ∷ 0x34 ∷ []))) [] ≡ WholeFrame (verify plain_pin) 256)
    × (words plain (after plain start (select full_aid ∷ []) ▸ Part 1) (verify plain_pin ∷ query ∷ []) ≡ 0x9000 ∷ 0x9000 ∷ [])

-- a part with another header is refused, and no try is spent
abbrev pub OtherHeadersAreRefused : Type 0
OtherHeadersAreRefused =
    (frame_of (apdu 0x00 (verify_part 0x81 (0x35 ∷ 0x36 ∷ 0xFF ∷ 0xFF ∷ [])) 256)
    (Some (verify_part 0x80 (0x31 ∷ 0x32 ∷ 0x33 ∷ 0x34 ∷ []))) [] ≡ BadFrame 0x6883)
    × (words plain (after plain start (select full_aid ∷ []) ▸ Part 1 ▸ Bad 1 0x6883) (query ∷ []) ≡ 0x63C3 ∷ [])

abbrev pub get_response_apdu : Result CardApdu ℕ
get_response_apdu = apdu 0x00 (record { ins = 0xC0; p1 = 0x00; p2 = 0x00; body = [] }) 256

-- the records of a connection on which PIV was selected and the CHUID read with Le 04, and then a piece. What waits is
-- told by the entries and the answers, so the bytes of the exchanges are left out.
abbrev pub chuid_record : CardRecord
chuid_record = record {
  act = Exchange 1 0 [];
  entry = Call 1 get_chuid 0x9000 None;
  answer = cut_reply (answer plain (after plain start (select full_aid ∷ [])) 1 get_chuid) 4;
}

abbrev pub rest_record : CardRecord
rest_record = record { act = Exchange 1 0 []; entry = Rest 1; answer = Replied (0xFE ∷ 0x00 ∷ []) 0x9000 }

abbrev pub select_record : CardRecord
select_record = record {
  act = Exchange 1 0 [];
  entry = Call 1 (select full_aid) 0x9000 None;
  answer = Replied piv_template 0x9000;
}

abbrev pub open_record : CardRecord
open_record = record { act = Connect Contact true; entry = Opened 1 Contact true; answer = Connected 1 0 }

abbrev pub chuid_given : Records
chuid_given = chuid_record ∷ select_record ∷ open_record ∷ []

-- a reply is given in two pieces, and then nothing waits
abbrev pub PiecesEnd : Type 0
PiecesEnd =
    (chuid_record.answer ≡ Replied (0x53 ∷ 0x04 ∷ 0x3E ∷ 0x00 ∷ []) 0x6102)
    × (frame_of get_response_apdu None (rest plain chuid_given 1) ≡ RestFrame (0xFE ∷ 0x00 ∷ []) 0x9000)
    × (frame_of get_response_apdu None (rest plain (chuid_given ▸ rest_record) 1) ≡ BadFrame 0x6985)
    × (fetched plain (after plain start (select full_aid ∷ get_chuid ∷ []) ▸ Rest 1) 1 ≡ Some (record { size = 6; rests = 1 }))

-- ---- losses of power

abbrev pub selected_first : Past
selected_first = after plain start (select full_aid ∷ [])

-- power is lost in this command
abbrev pub lost_in : CardCommand → Past → Past
lost_in k H = H ▸ Cut (Some (1, k))

-- a wrong login that lost power may have spent a try, or nothing; it is never done
abbrev pub WrongLoginLost : Type 0
WrongLoginLost =
    MayTake plain (lost_in (verify wrong_pin) selected_first) Spent
    × MayTake plain (lost_in (verify wrong_pin) selected_first) Nothing
    × ¬ (MayTake plain (lost_in (verify wrong_pin) selected_first) Done)
    × (tries plain (lost_in (verify wrong_pin) selected_first ▸ Up Spent) Pin ≡ 2)
    × (tries plain (lost_in (verify wrong_pin) selected_first ▸ Up Nothing) Pin ≡ 3)

-- three tries spent by losses block the PIN, and then no login can lose power
abbrev pub lost_once : Past → Past
lost_once H = after plain (lost_in (verify wrong_pin) H ▸ Up Spent) (select full_aid ∷ [])

abbrev pub LossesBlock : Type 0
LossesBlock =
    (words plain (lost_once (lost_once (lost_once selected_first))) (verify plain_pin ∷ []) ≡ 0x6983 ∷ [])
    × ¬ (IsAllowed plain (lost_once (lost_once (lost_once selected_first))) (Cut (Some (1, verify plain_pin))))

-- a right login that lost power with the counter full is never called done, since its memory is the one before
abbrev pub RightLoginLost : Type 0
RightLoginLost =
    MayTake plain (lost_in (verify plain_pin) selected_first) Nothing
    × MayTake plain (lost_in (verify plain_pin) selected_first) Spent
    × ¬ (MayTake plain (lost_in (verify plain_pin) selected_first) Done)
    × (tries plain (lost_in (verify plain_pin) selected_first ▸ Up Spent) Pin ≡ 2)

-- after a wrong one it is called done: the counter is full
abbrev pub wrong_then_lost : Past
wrong_then_lost = lost_in (verify plain_pin) (after plain selected_first (verify wrong_pin ∷ []))

abbrev pub RightLoginDone : Type 0
RightLoginDone =
    MayTake plain wrong_then_lost Done × (tries plain (wrong_then_lost ▸ Up Done) Pin ≡ 3)

-- an unblocking that changes nothing, since the counters are full and the PIN the old one, may be called done too
abbrev pub UnblockingLost : Type 0
UnblockingLost =
    MayTake plain (lost_in (unblock plain_puk plain_pin) selected_first) Done
    × MayTake plain (lost_in (unblock plain_puk plain_pin) selected_first) Nothing
    × MayTake plain (lost_in (unblock plain_puk plain_pin) selected_first) Spent

-- a PUT that lost power is done or not; one of the value that is there already is never called done
abbrev pub administered : Past
administered = challenged ▸ Call 1 (respond response) 0x9000 None

abbrev pub put_again : CardCommand
put_again = record put_chuid { body = 0x5C ∷ 0x03 ∷ 0x5F ∷ 0xC1 ∷ 0x02 ∷ 0x53 ∷ 0x04 ∷ plain_chuid }

abbrev pub PutLost : Type 0
PutLost =
    IsAllowed plain administered (Cut (Some (1, put_chuid)))
    × MayTake plain (lost_in put_chuid administered) Done
    × MayTake plain (lost_in put_chuid administered) Nothing
    × ¬ (MayTake plain (lost_in put_chuid administered) Spent)
    × (object plain (lost_in put_chuid administered ▸ Up Done) 1 ≡ 0x3E ∷ 0x01 ∷ 0xFE ∷ 0x00 ∷ [])
    × (object plain (lost_in put_chuid administered ▸ Up Nothing) 1 ≡ plain_chuid)
    × ¬ (MayTake plain (lost_in put_again administered) Done)

-- the losses of these histories are those of a plan: power is lost at write 2, and at writes 2, 4 and 6
abbrev pub two_writes : ℕ → ℕ
two_writes n = 2

abbrev pub LossesArePlanned : Type 0
LossesArePlanned =
    ArePlanned two_writes plain (2 ∷ []) (lost_once selected_first)
    × ArePlanned two_writes plain (2 ∷ 4 ∷ 6 ∷ []) (lost_once (lost_once (lost_once selected_first)))
    × ¬ (ArePlanned two_writes plain (3 ∷ []) (lost_once selected_first))
    × ¬ (ArePlanned two_writes plain [] (lost_once selected_first))
    × ¬ (ArePlanned two_writes plain (2 ∷ []) (after plain selected_first (verify wrong_pin ∷ [])))
    × (made two_writes plain (2 ∷ 4 ∷ 6 ∷ []) (lost_once (lost_once selected_first)) ≡ 4)
