-- An entry's text and its words; a history's text and its lines.
use Rattle.std.proofs.Common.{◌≡◌, ◌<◌, ◌^◌, ◌/◌, ◌%◌, ◌++◌, ℕ, Bool, true, false, List, [], ◌∷◌, length, Some, None, Option, refl, ap, ◌∙◌, arith}
use Rattle.std.specs.Prelude.{IfSome, nat_lt, ◌==◌, All}
use Rattle.std.specs.List.{slice_split, join_with_byte, list_all}
use Rattle.std.specs.Str.Parse.{AllDigits}
use Rattle.std.specs.Fmt.{decimal}
use Rattle.std.proofs.lemmas.Bool.{lt-ltb, and_parts}
use Rattle.std.proofs.lemmas.Bool.Decides.{nat_tests}
use Rattle.std.proofs.lemmas.Str.Parse.{digit_from_value}
use Rattle.std.proofs.lemmas.Fmt.{decimal_is_IsNumeral}
use Rattle.std.proofs.lemmas.List.Elements.{All-weaker}
use Rattle.std.proofs.lemmas.List.Sums.{AllPass-from_list_all, list_all-from_AllPass}
use Rattle.std.proofs.lemmas.List.Splits.{slice_split_at, slice_split_none, join_with_byte-slice_split}
use Rattle.hex.specs.Hex.{IsBytes, is_hex_digit, encode_upper}
use Rattle.hex.proofs.HexLemmas.{decode_of-encode_upper, decode_of-ok}
use Rattle.piv_model.specs.declared.kinds.Interface.{Interface}
use Rattle.piv_model.specs.declared.kinds.Interface.TheVariants.{Contact, Contactless}
use Rattle.piv_model.specs.declared.kinds.Took.{Took}
use Rattle.piv_model.specs.declared.kinds.Took.TheVariants.{Nothing, Spent, Done}
use Rattle.piv_model.specs.declared.history.ActKind.TheVariants as act
use Rattle.piv_model.specs.declared.history.Refusal.{Refusal}
use Rattle.piv_model.specs.declared.history.Refusal.TheVariants.{Locked, NoChannel, Off, On, Mute, Stale, NoConnection}
use Rattle.piv_model.specs.Entries.{CardEntry, Opened, Closed, Call, Part, Rest, Bad, Reset, Cut, Up, Note}
use Rattle.line_words.specs.Words.{words, is_space, mode}
use Rattle.line_words.specs.Digits.{byte_text, status_text, bytes_text}
use Rattle.entry_text.specs.EntryTexts.{interface_name, took_name, refusal_name, block_text, entry_words, entry_text, IsBlock, IsEntry}
use Rattle.line_words.proofs.DigitLaws.{bytes_of_one, bytes_of_two}

-- ---- words: every byte is above a space

abbrev above : ℕ → Bool
above b = nat_lt 32 b

abbrev is_word : List ℕ → Bool
is_word w = list_all above w

weaker : (p q : ℕ → Bool) → ((b : ℕ) → p b ≡ true → q b ≡ true) → (w : List ℕ) → list_all p w ≡ true → list_all q w ≡ true
weaker p q imp [] h = refl
weaker p q imp (b ∷ w) h = let parts = and_parts (p b) (list_all p w) h in rw (imp b parts.0, weaker p q imp w parts.1) refl

digits-word : (w : List ℕ) → AllDigits 10 w → is_word w ≡ true
digits-word [] h = refl
digits-word (c ∷ w) h = let digit = digit_from_value c h.0 in rw (lt-ltb 32 c (omega arith), digits-word w h.1) refl

number-word : (c : ℕ) → c < 2 ^ 32 → is_word (decimal c) ≡ true
number-word c h = digits-word (decimal c) (decimal_is_IsNumeral c (omega arith)).0.1

hex_digit-above : (c : ℕ) → is_hex_digit c ≡ true → above c ≡ true
hex_digit-above c h = grind (arith, nat_tests)

hex-word : (xs : List ℕ) → IsBytes xs → is_word (encode_upper xs) ≡ true
hex-word xs h =
    let ok = decode_of-ok (encode_upper xs) xs (decode_of-encode_upper xs h) in
    weaker is_hex_digit above hex_digit-above (encode_upper xs) (list_all-from_AllPass is_hex_digit (encode_upper xs) ok.1)

byte-word : (b : ℕ) → b < 256 → is_word (byte_text b) ≡ true
byte-word b h = hex-word (b ∷ []) (bytes_of_one b h)

status-word : (sw : ℕ) → sw < 2 ^ 16 → is_word (status_text sw) ≡ true
status-word sw h = hex-word (sw / 256 ∷ sw % 256 ∷ []) (bytes_of_two (sw / 256) (sw % 256) (omega arith) (omega arith))

body-word : (body : List ℕ) → IsBytes body → is_word (bytes_text body) ≡ true
body-word [] h = refl
body-word (b ∷ body) h = hex-word (b ∷ body) h

block-word : (block : Option (List ℕ)) → IfSome block IsBlock → is_word (block_text block) ≡ true
block-word None h = refl
block-word (Some block) h = hex-word block h.bytes

interface-is_word : (i : Interface) → is_word (interface_name i) ≡ true
interface-is_word Contact = refl
interface-is_word Contactless = refl

mode-is_word : (shared : Bool) → is_word (mode shared) ≡ true
mode-is_word true = refl
mode-is_word false = refl

took-is_word : (t : Took) → is_word (took_name t) ≡ true
took-is_word Nothing = refl
took-is_word Spent = refl
took-is_word Done = refl

refusal-is_word : (r : Refusal) → is_word (refusal_name r) ≡ true
refusal-is_word Locked = refl
refusal-is_word NoChannel = refl
refusal-is_word Off = refl
refusal-is_word On = refl
refusal-is_word Mute = refl
refusal-is_word Stale = refl
refusal-is_word NoConnection = refl

entry-are_words : (e : CardEntry) → IsEntry e → list_all is_word (entry_words e) ≡ true
entry-are_words (Opened c i shared) h = rw (number-word c h, interface-is_word i, mode-is_word shared) refl
entry-are_words (Closed c) h = rw (number-word c h) refl
entry-are_words (Call c k sw block) h =
    rw (number-word c h.0, byte-word k.ins h.1.ins, byte-word k.p1 h.1.p1, byte-word k.p2 h.1.p2, body-word k.body h.1.body, status-word sw h.2, block-word block h.3) refl
entry-are_words (Part c) h = rw (number-word c h) refl
entry-are_words (Rest c) h = rw (number-word c h) refl
entry-are_words (Bad c sw) h = rw (number-word c h.0, status-word sw h.1) refl
entry-are_words (Reset i) h = rw (interface-is_word i) refl
entry-are_words (Cut None) h = refl
entry-are_words (Cut (Some r)) h =
    rw (number-word r.0 h.0, byte-word r.1.ins h.1.ins, byte-word r.1.p1 h.1.p1, byte-word r.1.p2 h.1.p2, body-word r.1.body h.1.body) refl
entry-are_words (Up took) h = rw (took-is_word took) refl
entry-are_words (Note (act.Connect i) answer) h = rw (interface-is_word i, refusal-is_word answer) refl
entry-are_words (Note (act.Disconnect c) answer) h = rw (number-word c h, refusal-is_word answer) refl
entry-are_words (Note (act.Exchange c) answer) h = rw (number-word c h, refusal-is_word answer) refl
entry-are_words (Note (act.Reset i) answer) h = rw (interface-is_word i, refusal-is_word answer) refl
entry-are_words (Note act.Cut answer) h = rw (refusal-is_word answer) refl
entry-are_words (Note act.Power answer) h = rw (refusal-is_word answer) refl

-- ---- words joined by spaces

all_fail : (p q : ℕ → Bool) → ((b : ℕ) → p b ≡ true → q b ≡ false) → (w : List ℕ) → list_all p w ≡ true → All (λ b. q b ≡ false) w
all_fail p q imp w h = All-weaker (λ b. p b ≡ true) (λ b. q b ≡ false) imp w (AllPass-from_list_all p w h)

no_space : (b : ℕ) → above b ≡ true → is_space b ≡ false
no_space b h = grind (arith, nat_tests)

split-join : (w : List ℕ) (ws : List (List ℕ)) → list_all is_word (w ∷ ws) ≡ true → slice_split is_space (join_with_byte 32 (w ∷ ws)) ≡ w ∷ ws
split-join w [] h = slice_split_none is_space w (all_fail above is_space no_space w (and_parts (is_word w) true h).0)
split-join w (v ∷ ws) h =
    let parts = and_parts (is_word w) (list_all is_word (v ∷ ws)) h in
    slice_split_at is_space w 32 (join_with_byte 32 (v ∷ ws)) (all_fail above is_space no_space w parts.0) refl
    ∙ ap (λ xs. w ∷ xs) (split-join v ws parts.1)

words-joined : (ws : List (List ℕ)) → 0 < length ws → list_all is_word ws ≡ true → words (join_with_byte 32 ws) ≡ ws
unfolding words
words-joined [] some h = absurd (omega arith)
words-joined (w ∷ ws) some h = split-join w ws h

some_words : (e : CardEntry) → 0 < length (entry_words e)
some_words (Opened c i shared) = omega arith
some_words (Closed c) = omega arith
some_words (Call c k sw block) = omega arith
some_words (Part c) = omega arith
some_words (Rest c) = omega arith
some_words (Bad c sw) = omega arith
some_words (Reset i) = omega arith
some_words (Cut None) = omega arith
some_words (Cut (Some r)) = omega arith
some_words (Up took) = omega arith
some_words (Note a answer) = omega arith

-- the words of an entry's text are the entry's
pub words-entry_text : (e : CardEntry) → IsEntry e → words (entry_text e) ≡ entry_words e
words-entry_text e h = words-joined (entry_words e) (some_words e) (entry-are_words e h)

-- a text is its words, joined
pub join-words : (text : List ℕ) → join_with_byte 32 (words text) ≡ text
unfolding words
join-words text = join_with_byte-slice_split 32 text

-- ---- no line feed

abbrev inked : ℕ → Bool
inked b = nat_lt 31 b

all-append : (p : ℕ → Bool) (xs ys : List ℕ) → list_all p xs ≡ true → list_all p ys ≡ true → list_all p (xs ++ ys) ≡ true
all-append p [] ys h i = i
all-append p (x ∷ xs) ys h i = let parts = and_parts (p x) (list_all p xs) h in rw (parts.0, all-append p xs ys parts.1 i) refl

above-inked : (b : ℕ) → above b ≡ true → inked b ≡ true
above-inked b h = grind (arith, nat_tests)

joined-inked : (ws : List (List ℕ)) → list_all is_word ws ≡ true → list_all inked (join_with_byte 32 ws) ≡ true
joined-inked [] h = refl
joined-inked (w ∷ []) h = weaker above inked above-inked w (and_parts (is_word w) true h).0
joined-inked (w ∷ v ∷ ws) h =
    let parts = and_parts (is_word w) (list_all is_word (v ∷ ws)) h in
    all-append inked w (32 ∷ join_with_byte 32 (v ∷ ws)) (weaker above inked above-inked w parts.0) (joined-inked (v ∷ ws) parts.1)

no_line_feed : (b : ℕ) → inked b ≡ true → (b == 10) ≡ false
no_line_feed b h = grind (arith, nat_tests)

pub entry_text-one_line : (e : CardEntry) → IsEntry e → All (λ b. (b == 10) ≡ false) (entry_text e)
entry_text-one_line e h = all_fail inked (λ b. b == 10) no_line_feed (entry_text e) (joined-inked (entry_words e) (entry-are_words e h))
