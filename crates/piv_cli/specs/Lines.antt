-- What `piv apdu` writes: one line for each line of its input that asks something (this project's own).
use Rattle.std.specs.Prelude.{◌≡◌, ℕ, ◌==◌, ◌||◌, not, Bool, true, List, [], ◌∷◌, ◌++◌, filter, Result, Ok, Err}
use Rattle.std.specs.List.{slice_split, list_any}
use Rattle.std.specs.Str.Lines.{strip_carriage_return}
use Rattle.hex.specs.Hex.{decode_of, encode_upper}
use Rattle.hex.specs.declared.error.FromHexError.{FromHexError}
use Rattle.piv_model.specs.declared.kinds.Interface.TheVariants.{Contact}
use Rattle.piv_model.specs.Framing.{reply_bytes}
use Rattle.piv_model.specs.Base.{Base}
use Rattle.piv_rules.specs.Acts.{CardAnswer, Replied, Exchange, CardRecord, Records}
use Rattle.piv_rules.specs.Turns.{IsTurned}
use Rattle.card_laws.specs.StandsLaws.{opened_as}

-- a byte that counts: no space and no tab
abbrev pub counts : ℕ → Bool
counts b = not (b == 32 || b == 9)

-- a line without its spaces and tabs, and then without one carriage return at its end
abbrev pub kept : List ℕ → List ℕ
kept line = strip_carriage_return (filter counts line)

-- what a line asks: nothing, something that isn't an even number of hexadecimal digits, or an exchange of these bytes
pub data Line : Type 0 where
  Empty : Line
  Garbled : Line
  Command : List ℕ → Line

abbrev pub decoded_line : Result (List ℕ) FromHexError → Line
decoded_line (Ok bytes) = Command bytes
decoded_line (Err e) = Garbled

abbrev pub text_line : List ℕ → Line
text_line [] = Empty
text_line (b ∷ text) = decoded_line (decode_of (b ∷ text))

-- a reply in upper case hexadecimal; a card without power is mute, which is a dash
abbrev pub spelled : CardAnswer → List ℕ
spelled (Replied body word) = encode_upper (reply_bytes body word)
spelled _ = 45 ∷ []

-- a line writes this, and the records go from R to S: an exchange on connection 1, which knows epoch 0
abbrev pub LineWrites : Base → Records → Line → List ℕ → Records → Type 0
LineWrites B R Empty out S = (out ≡ []) × (S ≡ R)
LineWrites B R Garbled out S = (out ≡ 63 ∷ 10 ∷ []) × (S ≡ R)
LineWrites B R (Command bytes) out S =
    (r : CardRecord) × (r.act ≡ Exchange 1 0 bytes) × IsTurned B R r × (S ≡ r ∷ R) × (out ≡ spelled r.answer ++ 10 ∷ [])

-- the lines write this one after the other
abbrev pub LinesWrite : Base → Records → List (List ℕ) → List ℕ → Records → Type 0
LinesWrite B R [] out S = (out ≡ []) × (S ≡ R)
LinesWrite B R (line ∷ lines) out S =
    (first : List ℕ) × (after : Records) × (more : List ℕ)
    × LineWrites B R (text_line (kept line)) first after × LinesWrite B after lines more S × (out ≡ first ++ more)

abbrev pub is_newline : ℕ → Bool
is_newline b = b == 10

-- one shared connection is open on contact before the first line
abbrev pub opened_first : Records
opened_first = opened_as [] Contact true ∷ []

-- what an input's lines write, with the records of what was done; a line ends with a line feed or with the input
unfoldable pub AreLines : Base → List ℕ → List ℕ → Records → Type 0
AreLines B input out R = LinesWrite B opened_first (slice_split is_newline input) out R

-- a line of the output is a dash: no other line has this byte
abbrev pub has_dash : List ℕ → Bool
has_dash out = list_any (λ b. b == 45) out
