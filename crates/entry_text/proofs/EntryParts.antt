-- The parts of an entry's line.
use Rattle.std.proofs.Common.{◌≡◌, ℕ, List, [], ◌∷◌, ◌++◌, codes, refl}
use Rattle.std.specs.List.{join_with_byte}
use Rattle.std.proofs.lemmas.List.{append_assoc, append-nil}
use Rattle.std.specs.Prelude.{Option, Some}
use Rattle.std.specs.Fmt.{decimal}
use Rattle.hex.specs.Hex.{encode_upper}
use Rattle.piv_model.specs.Commands.{CardCommand}
use Rattle.piv_model.specs.Entries.{CardEntry, Call, Cut}
use Rattle.line_words.specs.Digits.{byte_text, status_text, bytes_text}
use Rattle.entry_text.specs.EntryTexts.{entry_text, entry_line, block_text}
use Rattle.entry_text.specs.LineParts.{parts_text, command_front, dash, reply_line}
use Rattle.entry_text.proofs.HexSteps.{encode_upper-none}

-- one short text and a line feed
pub whole_text : (front body back : List ℕ) (e : CardEntry) → front ≡ entry_text e → body ≡ [] → back ≡ 10 ∷ [] → parts_text front body back ≡ entry_line e
whole_text front body back e is none end = rw (is, none, end, encode_upper-none, append-nil) refl

pub whole_parts : (front back : List ℕ) → back ≡ 10 ∷ [] → parts_text front [] back ≡ front ++ 10 ∷ []
whole_parts front back end = rw (end, encode_upper-none, append-nil) refl

-- bytes behind their dash
dash-text : (body : List ℕ) → dash body ++ encode_upper body ≡ bytes_text body
dash-text [] = rw encode_upper-none refl
dash-text (b ∷ body) = refl

call_shape : (w a b c d x y t st bl : List ℕ) → x ++ y ≡ t
    → ((join_with_byte 32 (w ∷ a ∷ b ∷ c ∷ d ∷ x ∷ []) ++ y) ++ (32 ∷ st ++ 32 ∷ bl ++ 10 ∷ []))
    ≡ join_with_byte 32 (w ∷ a ∷ b ∷ c ∷ d ∷ t ∷ st ∷ bl ∷ []) ++ 10 ∷ []
call_shape w a b c d x y t st bl e = rw (← e) (simp append_assoc)

cut_shape : (w a b c d x y t : List ℕ) → x ++ y ≡ t
    → (join_with_byte 32 (w ∷ a ∷ b ∷ c ∷ d ∷ x ∷ []) ++ y) ++ 10 ∷ [] ≡ join_with_byte 32 (w ∷ a ∷ b ∷ c ∷ d ∷ t ∷ []) ++ 10 ∷ []
cut_shape w a b c d x y t e = rw (← e) (simp append_assoc)

pub call_text : (front back : List ℕ) (c : ℕ) (k : CardCommand) (sw : ℕ) (block : Option (List ℕ)) → front ≡ command_front (codes "call") c k
    → back ≡ 32 ∷ status_text sw ++ 32 ∷ block_text block ++ 10 ∷ [] → parts_text front k.body back ≡ entry_line (Call c k sw block)
call_text front back c k sw block is end =
    rw (is, end) (call_shape (codes "call") (decimal c) (byte_text k.ins) (byte_text k.p1) (byte_text k.p2) (dash k.body) (encode_upper k.body) (bytes_text k.body) (status_text sw) (block_text block) (dash-text k.body))

pub cut_text : (front back : List ℕ) (c : ℕ) (k : CardCommand) → front ≡ command_front (codes "cut") c k → back ≡ 10 ∷ []
    → parts_text front k.body back ≡ entry_line (Cut (Some (c, k)))
cut_text front back c k is end =
    rw (is, end) (cut_shape (codes "cut") (decimal c) (byte_text k.ins) (byte_text k.p1) (byte_text k.p2) (dash k.body) (encode_upper k.body) (bytes_text k.body) (dash-text k.body))

reply_shape : (front x y t st : List ℕ) → x ++ y ≡ t → ((front ++ 32 ∷ x) ++ y) ++ (32 ∷ st ++ 10 ∷ []) ≡ ((front ++ 32 ∷ t) ++ 32 ∷ st) ++ 10 ∷ []
reply_shape front x y t st e = rw (← e) (simp append_assoc)

pub reply_text : (front all back body : List ℕ) (sw : ℕ) → all ≡ front ++ 32 ∷ dash body → back ≡ 32 ∷ status_text sw ++ 10 ∷ []
    → parts_text all body back ≡ reply_line front body sw
reply_text front all back body sw is end = rw (is, end) (reply_shape front (dash body) (encode_upper body) (bytes_text body) (status_text sw) (dash-text body))
