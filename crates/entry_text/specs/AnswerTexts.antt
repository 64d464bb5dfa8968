-- The texts of answers (SP 800-73-4 part 3, status words of the client API, and this project's own).
use Rattle.std.specs.Prelude.{ℕ, List, [], ◌∷◌, ◌++◌, codes, Option, Some, None}
use Rattle.std.specs.List.{join_with_byte}
use Rattle.std.specs.Fmt.{decimal}
use Rattle.hex.specs.Hex.{encode_upper}
use Rattle.piv_model.specs.declared.kinds.Rule.{Rule}
use Rattle.piv_model.specs.declared.kinds.Rule.TheVariants.{Always, Pin, Never, Admin, ContactUse, Response}
use Rattle.piv_model.specs.declared.kinds.Took.{Took}
use Rattle.piv_model.specs.declared.history.Refusal.{Refusal}
use Rattle.piv_model.specs.declared.history.Refusal.TheVariants.{Locked, NoChannel, Off, On, Mute, Stale, NoConnection}
use Rattle.piv_model.specs.declared.answers.ApiAnswer.{ApiAnswer}
use Rattle.piv_model.specs.declared.answers.ApiAnswer.TheVariants as api
use Rattle.line_words.specs.Digits.{status_text, bytes_text}
use Rattle.entry_text.specs.EntryTexts.{took_name}

abbrev pub rule_name : Rule → List ℕ
rule_name Always = codes "ALWAYS"
rule_name Pin = codes "PIN"
rule_name Never = codes "NEVER"
rule_name Admin = codes "ADMIN"
rule_name ContactUse = codes "CONTACT"
rule_name Response = codes "RESPONSE"

abbrev pub why_name : Refusal → List ℕ
why_name Locked = codes "LOCKED"
why_name NoChannel = codes "NOCHANNEL"
why_name Off = codes "OFF"
why_name On = codes "ON"
why_name Mute = codes "MUTE"
why_name Stale = codes "STALE"
why_name NoConnection = codes "NOCONNECTION"

-- the printed name
abbrev pub answer_name : ApiAnswer → List ℕ
answer_name (api.Ok body) = codes "PIV_OK"
answer_name (api.Reply body sw) = codes "REPLY"
answer_name (api.AuthenticationFailure sw) = codes "PIV_AUTHENTICATION_FAILURE"
answer_name (api.CardStatus sw) = codes "CARD_STATUS"
answer_name (api.SecurityConditions rule) = codes "PIV_SECURITY_CONDITIONS_NOT_SATISFIED"
answer_name api.ConnectionDescriptionMalformed = codes "PIV_CONNECTION_DESCRIPTION_MALFORMED"
answer_name api.ConnectionFailure = codes "PIV_CONNECTION_FAILURE"
answer_name api.ConnectionLocked = codes "PIV_CONNECTION_LOCKED"
answer_name api.TranscriptFull = codes "TRANSCRIPT_FULL"
answer_name api.AuthenticatorMalformed = codes "PIV_AUTHENTICATOR_MALFORMED"
answer_name api.InvalidOid = codes "PIV_INVALID_OID"
answer_name api.InvalidCardHandle = codes "PIV_INVALID_CARD_HANDLE"
answer_name api.CardReaderError = codes "PIV_CARD_READER_ERROR"
answer_name api.NotSelected = codes "NOT_SELECTED"
answer_name api.CardApplicationNotFound = codes "PIV_CARD_APPLICATION_NOT_FOUND"
answer_name api.DataObjectNotFound = codes "PIV_DATA_OBJECT_NOT_FOUND"
answer_name api.InsufficientCardResource = codes "PIV_INSUFFICIENT_CARD_RESOURCE"
answer_name api.InvalidKeyrefOrAlgorithm = codes "PIV_INVALID_KEYREF_OR_ALGORITHM"
answer_name api.InputBytesMalformed = codes "PIV_INPUT_BYTES_MALFORMED"
answer_name api.Unsupported = codes "UNSUPPORTED"
answer_name api.Version = codes "VERSION"
answer_name (api.Done took) = codes "DONE"
answer_name (api.Refused why) = why_name why

-- a body, nothing where it is empty
abbrev pub body_words : List ℕ → List (List ℕ)
body_words [] = []
body_words (b ∷ body) = encode_upper (b ∷ body) ∷ []

abbrev pub took_words : Option Took → List (List ℕ)
took_words None = []
took_words (Some took) = took_name took ∷ []

-- the words of its detail
abbrev pub detail_words : ApiAnswer → List (List ℕ)
detail_words (api.Ok body) = body_words body
detail_words (api.Reply body sw) = bytes_text body ∷ status_text sw ∷ []
detail_words (api.AuthenticationFailure sw) = status_text sw ∷ []
detail_words (api.CardStatus sw) = status_text sw ∷ []
detail_words (api.SecurityConditions rule) = rule_name rule ∷ []
detail_words api.Version = codes "800-73-4 Client API" ∷ []
detail_words (api.Done took) = took_words took
detail_words _ = []

-- its line, behind its number
abbrev pub answer_line : ℕ → ApiAnswer → List ℕ
answer_line number a = join_with_byte 32 (decimal number ∷ answer_name a ∷ detail_words a) ++ 10 ∷ []
