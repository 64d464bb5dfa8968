-- How the bytes of a command APDU and of a reply APDU are read and written (ISO/IEC 7816-4, the short forms).
use Rattle.std.specs.Prelude.{ℕ, ◌+◌, ◌-◌, ◌*◌, Bool, ◌||◌, ◌==◌, nat_lt, if◌then◌else◌, List, [], ◌∷◌, ◌++◌, length, take, drop, slice_index, Option, Some, None, Result, Ok, Err}
use Rattle.piv_model.specs.Commands.{CardCommand, CardApdu}

-- 01, 02, 03, 11, 12 and 13: another logical channel than the first
abbrev pub is_other_channel : ℕ → Bool
is_other_channel class =
    ((class == 0x01) || ((class == 0x02) || (class == 0x03)))
    || ((class == 0x11) || ((class == 0x12) || (class == 0x13)))

-- the word that refuses a class: class 00 is a last or only command, class 10 an earlier command of a chain; classes 0C
-- and 1C, of secure messaging, are 68 82; another logical channel is 68 81; every other class is 6E 00
abbrev pub refusal_of_class : ℕ → Option ℕ
refusal_of_class class =
    if (class == 0x00) || (class == 0x10) then None
    else if (class == 0x0C) || (class == 0x1C) then Some 0x6882
    else if is_other_channel class then Some 0x6881
    else Some 0x6E00

-- how many bytes a reply may have: Le 00 means 256
abbrev pub most_of : ℕ → ℕ
most_of le = if le == 0 then 256 else le

-- an APDU with this header, this data and this length of its reply
abbrev pub apdu_of_header : List ℕ → List ℕ → ℕ → CardApdu
apdu_of_header bytes body most = record {
  class = slice_index bytes 0;
  command = record { ins = slice_index bytes 1; p1 = slice_index bytes 2; p2 = slice_index bytes 3; body = body };
  most = most;
}

-- what follows the header. Nothing: no data, no Le. One byte: it is Le. Two or more: the first is Lc, and Lc 0 is 67 00;
-- then so many bytes have no Le, one more has Le last, and any other number is 67 00. An absent Le is taken as 256.
abbrev pub apdu_after_header : List ℕ → List ℕ → Result CardApdu ℕ
apdu_after_header bytes [] = Ok (apdu_of_header bytes [] 256)
apdu_after_header bytes (le ∷ []) = Ok (apdu_of_header bytes [] (most_of le))
apdu_after_header bytes (lc ∷ b ∷ rest) =
    if lc == 0 then Err 0x6700
    else if length (b ∷ rest) == lc then Ok (apdu_of_header bytes (b ∷ rest) 256)
    else if length (b ∷ rest) == lc + 1 then
    Ok (apdu_of_header bytes (take lc (b ∷ rest)) (most_of (slice_index (b ∷ rest) lc)))
    else Err 0x6700

abbrev pub apdu_of_class : Option ℕ → List ℕ → Result CardApdu ℕ
apdu_of_class (Some word) bytes = Err word
apdu_of_class None bytes = apdu_after_header bytes (drop 4 bytes)

-- the APDU that the bytes spell, or the word that refuses them: fewer than 4 bytes are 67 00, then the class decides, then
-- what follows the header
unfoldable pub apdu_spelled : List ℕ → Result CardApdu ℕ
apdu_spelled bytes =
    if nat_lt (length bytes) 4 then Err 0x6700
    else apdu_of_class (refusal_of_class (slice_index bytes 0)) bytes

-- Lc and the data, or nothing where there are none
abbrev pub data_field : List ℕ → List ℕ
data_field [] = []
data_field (b ∷ bs) = length (b ∷ bs) ∷ b ∷ bs

abbrev pub le_field : Option ℕ → List ℕ
le_field None = []
le_field (Some le) = le ∷ []

-- a command as it is sent
abbrev pub command_bytes : ℕ → CardCommand → Option ℕ → List ℕ
command_bytes class k le = class ∷ k.ins ∷ k.p1 ∷ k.p2 ∷ (data_field k.body ++ le_field le)

abbrev pub most_with : Option ℕ → ℕ
most_with None = 256
most_with (Some le) = most_of le

-- the data and the status word of a reply: the word is in the last two bytes
abbrev pub reply_spelled : List ℕ → Option (List ℕ × ℕ)
reply_spelled bytes =
    if nat_lt (length bytes) 2 then None
    else Some (take (length bytes - 2) bytes, 256 * slice_index bytes (length bytes - 2) + slice_index bytes (length bytes - 1))
