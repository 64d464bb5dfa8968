-- How a line is kept until it is written: its front, bytes that are spelled, and its back.
use Rattle.std.specs.Prelude.{ℕ, List, [], ◌∷◌, ◌++◌, codes}
use Rattle.std.specs.List.{join_with_byte}
use Rattle.std.specs.Fmt.{decimal}
use Rattle.hex.specs.Hex.{encode_upper}
use Rattle.piv_model.specs.Commands.{CardCommand}
use Rattle.line_words.specs.Digits.{byte_text, status_text, bytes_text}
use Rattle.entry_text.specs.declared.entry_parts.Parts.{Parts}

abbrev pub parts_text : List ℕ → List ℕ → List ℕ → List ℕ
parts_text front body back = front ++ encode_upper body ++ back

abbrev pub line_text : Parts → List ℕ
line_text parts = parts_text parts.front.items parts.body.now parts.back.items

-- what stands before bytes that are spelled
abbrev pub dash : List ℕ → List ℕ
dash [] = codes "-"
dash (b ∷ bytes) = []

abbrev pub command_front : List ℕ → ℕ → CardCommand → List ℕ
command_front word c k = join_with_byte 32 (word ∷ decimal c ∷ byte_text k.ins ∷ byte_text k.p1 ∷ byte_text k.p2 ∷ dash k.body ∷ [])

-- the front of an answer's line: its number and its name
abbrev pub answer_front : ℕ → List ℕ → List ℕ
answer_front number name = decimal number ++ 32 ∷ name

-- the line of a front and a body, and with a status word
abbrev pub body_line : List ℕ → List ℕ → List ℕ
body_line front [] = front ++ 10 ∷ []
body_line front (b ∷ body) = front ++ 32 ∷ encode_upper (b ∷ body) ++ 10 ∷ []

abbrev pub reply_line : List ℕ → List ℕ → ℕ → List ℕ
reply_line front body sw = front ++ 32 ∷ bytes_text body ++ 32 ∷ status_text sw ++ 10 ∷ []

-- a line of a word and a number
abbrev pub number_line : List ℕ → ℕ → List ℕ
number_line word number = word ++ 32 ∷ decimal number ++ 10 ∷ []
