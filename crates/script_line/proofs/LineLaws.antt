-- A line is read from its words and from no others.
use Rattle.std.proofs.Common.{◌≡◌, ℕ, Bool, true, false, List, [], ◌∷◌, length, codes, Some, None, Option, refl, ap, ◌∙◌, subst}
use Rattle.std.specs.Prelude.{if◌then◌else◌, Result, Ok, Err, IfOk}
use Rattle.script_line.specs.declared.line.Line.{Line}
use Rattle.line_words.specs.declared.fault.LineFault.{LineFault}
use Rattle.script_line.specs.declared.line.Line.TheVariants.{Connect, Disconnect, Select, Login, Logout, Get, PutHex, PutFill, Crypt, Admin, Apdu, Version, Generate, Secure, Reset, Cut, Power}
use Rattle.line_words.specs.Words.{Gives, ◌>>=◌, if_so, mode_word, words, is_name, is_oid, bytes_word, byte_word, number_word}
use Rattle.script_line.specs.Lines.{is_key_length, IsLine, AreWordsOf}
use Rattle.script_line.specs.LineReading.{key_word, lone_name, named_bytes, alone, connect_of, get_of, put_of, put_hex_of, put_fill_of, crypt_of, admin_of, line_of_words}
use Rattle.line_words.proofs.NumberLemmas.{number-spelled, number-again}
use Rattle.line_words.proofs.Steps.{some_same, bound, bound_so, by_text, mode-spelled}

-- a key of a length that there is
key-parts : (w key : List ℕ) → key_word w ≡ Some key → (bytes_word w ≡ Some key) × (is_key_length (length key) ≡ true)
key-parts w key h =
    let a = bound (bytes_word w) (λ k. if_so (λ x. is_key_length (length x)) k) key h in
    let b = so_parts (λ x. is_key_length (length x)) a.value key a.next in
    (a.first ∙ ap Some b.1, subst (λ (k : List ℕ). is_key_length (length k) ≡ true) b.1 b.0)
  where
    by_test : (b : Bool) (w x : List ℕ) → (if b then Some w else None) ≡ Some x → (b ≡ true) × (w ≡ x)
    by_test true w x h = (refl, some_same w x h)
    by_test false w x h = cc

    so_parts : (test : List ℕ → Bool) (w x : List ℕ) → if_so test w ≡ Some x → (test w ≡ true) × (w ≡ x)
    so_parts test w x h = by_test (test w) w x h

-- what was read is spelled so
abbrev Found : List ℕ → (List (List ℕ) → Option Line) → Type 0
Found kind read = (rest : List (List ℕ)) (line : Line) → read rest ≡ Some line → AreWordsOf line (kind ∷ rest)

is_it : (ws : List (List ℕ)) (made line : Line) → Some made ≡ Some line → AreWordsOf made ws → AreWordsOf line ws
is_it ws made line same words = subst (λ (l : Line). AreWordsOf l ws) (some_same made line same) words

connect-found : Found (codes "connect") connect_of
connect-found (h ∷ reader ∷ m ∷ []) line e =
    let a = bound_so is_name h _ line e in
    let b = bound_so is_name reader _ line a.1 in
    let d = bound (mode_word m) _ line b.1 in
    is_it (codes "connect" ∷ h ∷ reader ∷ m ∷ []) (Connect h reader d.value) line d.next
    (ap (λ (w : List ℕ). codes "connect" ∷ h ∷ reader ∷ w ∷ []) (mode-spelled m d.value d.first), a.0, b.0)
connect-found [] line e = cc
connect-found (h ∷ []) line e = cc
connect-found (h ∷ reader ∷ []) line e = cc
connect-found (h ∷ reader ∷ m ∷ x ∷ rest) line e = cc

-- a line of a name alone
lone_name-found : (kind : List ℕ) (make : List ℕ → Line) → ((h : List ℕ) → is_name h ≡ true → AreWordsOf (make h) (kind ∷ h ∷ []))
    → Found kind (λ rest. lone_name rest >>= (λ h. Some (make h)))
lone_name-found kind make words (h ∷ []) line e =
    let a = bound_so is_name h (λ h. Some (make h)) line e in
    is_it (kind ∷ h ∷ []) (make h) line a.1 (words h a.0)
lone_name-found kind make words [] line e = cc
lone_name-found kind make words (h ∷ x ∷ rest) line e = cc

-- a line of a name and bytes
named_bytes-found : (kind : List ℕ) (make : List ℕ → List ℕ → Line)
    → ((h hex bytes : List ℕ) → is_name h ≡ true → bytes_word hex ≡ Some bytes → AreWordsOf (make h bytes) (kind ∷ h ∷ hex ∷ []))
    → Found kind (λ rest. named_bytes rest >>= (λ p. Some (make p.0 p.1)))
named_bytes-found kind make words (h ∷ hex ∷ []) line e =
    let pair = bound (named_bytes (h ∷ hex ∷ [])) (λ (p : List ℕ × List ℕ). Some (make p.0 p.1)) line e in
    let a = bound_so is_name h (λ h. bytes_word hex >>= (λ bytes. Some (h, bytes))) pair.value pair.first in
    let b = bound (bytes_word hex) (λ bytes. Some (h, bytes)) pair.value a.1 in
    let same : (h, b.value) ≡ pair.value = some_same _ _ b.next in
    is_it (kind ∷ h ∷ hex ∷ []) (make h b.value) line
    (ap (λ (p : List ℕ × List ℕ). Some (make p.0 p.1)) same ∙ pair.next) (words h hex b.value a.0 b.first)
named_bytes-found kind make words [] line e = cc
named_bytes-found kind make words (h ∷ []) line e = cc
named_bytes-found kind make words (h ∷ hex ∷ x ∷ rest) line e = cc

-- a line of one word
alone-found : (kind : List ℕ) (made : Line) → AreWordsOf made (kind ∷ []) → Found kind (alone made)
alone-found kind made words [] line e = is_it (kind ∷ []) made line e words
alone-found kind made words (x ∷ rest) line e = cc

get-found : Found (codes "get") get_of
get-found (h ∷ oid ∷ []) line e =
    let a = bound_so is_name h _ line e in
    let b = bound_so is_oid oid _ line a.1 in
    is_it (codes "get" ∷ h ∷ oid ∷ []) (Get h oid) line b.1 (refl, a.0, b.0)
get-found [] line e = cc
get-found (h ∷ []) line e = cc
get-found (h ∷ oid ∷ x ∷ rest) line e = cc

put_hex-found : (h oid form hex : List ℕ) (line : Line) → put_hex_of h oid form hex ≡ Some line → AreWordsOf line (codes "put" ∷ h ∷ oid ∷ form ∷ hex ∷ [])
put_hex-found h oid form hex line =
    by_text (λ l w. AreWordsOf l (codes "put" ∷ h ∷ oid ∷ w ∷ hex ∷ [])) form (codes "hex") _ _ line
    (λ e.
    let a = bound_so is_name h _ line e in
    let b = bound_so is_oid oid _ line a.1 in
    let d = bound (bytes_word hex) _ line b.1 in
    is_it (codes "put" ∷ h ∷ oid ∷ codes "hex" ∷ hex ∷ []) (PutHex h oid d.value) line d.next (hex, refl, a.0, b.0, d.first))
    (λ e. cc)

put_fill-found : (h oid form size byte : List ℕ) (line : Line) → put_fill_of h oid form size byte ≡ Some line → AreWordsOf line (codes "put" ∷ h ∷ oid ∷ form ∷ size ∷ byte ∷ [])
put_fill-found h oid form size byte line =
    by_text (λ l w. AreWordsOf l (codes "put" ∷ h ∷ oid ∷ w ∷ size ∷ byte ∷ [])) form (codes "fill") _ _ line
    (λ e.
    let a = bound_so is_name h _ line e in
    let b = bound_so is_oid oid _ line a.1 in
    let n = bound (number_word size) _ line b.1 in
    let d = bound (byte_word byte) _ line n.next in
    let spelled = number-spelled size n.value n.first in
    is_it (codes "put" ∷ h ∷ oid ∷ codes "fill" ∷ size ∷ byte ∷ []) (PutFill h oid n.value d.value) line d.next
    (byte, ap (λ (w : List ℕ). codes "put" ∷ h ∷ oid ∷ codes "fill" ∷ w ∷ byte ∷ []) spelled.0, a.0, b.0, spelled.1, d.first))
    (λ e. cc)

put-found : Found (codes "put") put_of
put-found (h ∷ oid ∷ form ∷ hex ∷ []) line e = put_hex-found h oid form hex line e
put-found (h ∷ oid ∷ form ∷ size ∷ byte ∷ []) line e = put_fill-found h oid form size byte line e
put-found [] line e = cc
put-found (h ∷ []) line e = cc
put-found (h ∷ oid ∷ []) line e = cc
put-found (h ∷ oid ∷ form ∷ []) line e = cc
put-found (h ∷ oid ∷ form ∷ size ∷ byte ∷ x ∷ rest) line e = cc

crypt-found : Found (codes "crypt") crypt_of
crypt-found (h ∷ first ∷ second ∷ hex ∷ []) line e =
    let a = bound_so is_name h _ line e in
    let b = bound (byte_word first) _ line a.1 in
    let d = bound (byte_word second) _ line b.next in
    let i = bound (bytes_word hex) _ line d.next in
    is_it (codes "crypt" ∷ h ∷ first ∷ second ∷ hex ∷ []) (Crypt h b.value d.value i.value) line i.next
    (first, second, hex, refl, a.0, b.first, d.first, i.first)
crypt-found [] line e = cc
crypt-found (h ∷ []) line e = cc
crypt-found (h ∷ first ∷ []) line e = cc
crypt-found (h ∷ first ∷ second ∷ []) line e = cc
crypt-found (h ∷ first ∷ second ∷ hex ∷ x ∷ rest) line e = cc

admin-found : Found (codes "admin") admin_of
admin-found (h ∷ byte ∷ hex ∷ []) line e =
    let a = bound_so is_name h _ line e in
    let b = bound (byte_word byte) _ line a.1 in
    let d = bound (key_word hex) _ line b.next in
    let parts = key-parts hex d.value d.first in
    is_it (codes "admin" ∷ h ∷ byte ∷ hex ∷ []) (Admin h b.value d.value) line d.next (byte, hex, refl, a.0, b.first, parts.0, parts.1)
admin-found [] line e = cc
admin-found (h ∷ []) line e = cc
admin-found (h ∷ byte ∷ []) line e = cc
admin-found (h ∷ byte ∷ hex ∷ x ∷ rest) line e = cc

pub line-found : (ws : List (List ℕ)) (line : Line) → line_of_words ws ≡ Some line → AreWordsOf line ws
line-found [] line e = cc
line-found (kind ∷ rest) line e =
    let P : Line → List ℕ → Type 0 = λ l w. AreWordsOf l (w ∷ rest) in
    by_text P kind (codes "connect") _ _ line (connect-found rest line)
    (by_text P kind (codes "disconnect") _ _ line (lone_name-found (codes "disconnect") Disconnect (λ h n. (refl, n)) rest line)
    (by_text P kind (codes "select") _ _ line (named_bytes-found (codes "select") Select (λ h hex bytes n b. (hex, refl, n, b)) rest line)
    (by_text P kind (codes "login") _ _ line (named_bytes-found (codes "login") Login (λ h hex bytes n b. (hex, refl, n, b)) rest line)
    (by_text P kind (codes "logout") _ _ line (lone_name-found (codes "logout") Logout (λ h n. (refl, n)) rest line)
    (by_text P kind (codes "get") _ _ line (get-found rest line)
    (by_text P kind (codes "put") _ _ line (put-found rest line)
    (by_text P kind (codes "crypt") _ _ line (crypt-found rest line)
    (by_text P kind (codes "admin") _ _ line (admin-found rest line)
    (by_text P kind (codes "apdu") _ _ line (named_bytes-found (codes "apdu") Apdu (λ h hex bytes n b. (hex, refl, n, b)) rest line)
    (by_text P kind (codes "version") _ _ line (alone-found (codes "version") Version refl rest line)
    (by_text P kind (codes "generate") _ _ line (alone-found (codes "generate") Generate refl rest line)
    (by_text P kind (codes "secure") _ _ line (alone-found (codes "secure") Secure refl rest line)
    (by_text P kind (codes "reset") _ _ line (lone_name-found (codes "reset") Reset (λ h n. (refl, n)) rest line)
    (by_text P kind (codes "cut") _ _ line (lone_name-found (codes "cut") Cut (λ h n. (refl, n)) rest line)
    (by_text P kind (codes "power") _ _ line (lone_name-found (codes "power") Power (λ h n. (refl, n)) rest line)
    (λ none. cc)))))))))))))))) e

-- what is spelled so is read
pub line-again : (ws : List (List ℕ)) (line : Line) → AreWordsOf line ws → line_of_words ws ≡ Some line
line-again ws (Connect h reader true) p = rw (p.0, p.1, p.2) refl
line-again ws (Connect h reader false) p = rw (p.0, p.1, p.2) refl
line-again ws (Disconnect h) p = rw (p.0, p.1) refl
line-again ws (Select h aid) p = rw (p.1, p.2, p.3) refl
line-again ws (Login h auth) p = rw (p.1, p.2, p.3) refl
line-again ws (Logout h) p = rw (p.0, p.1) refl
line-again ws (Get h oid) p = rw (p.0, p.1, p.2) refl
line-again ws (PutHex h oid value) p = rw (p.1, p.2, p.3, p.4) refl
line-again ws (PutFill h oid size fill) p = rw (p.1, p.2, p.3, number-again size p.4, p.5) refl
line-again ws (Crypt h algorithm key input) p = rw (p.3, p.4, p.5, p.6, p.7) refl
line-again ws (Admin h algorithm key) p = rw (p.2, p.3, p.4, p.5, p.6) refl
line-again ws (Apdu h bytes) p = rw (p.1, p.2, p.3) refl
line-again ws Version p = rw p refl
line-again ws Generate p = rw p refl
line-again ws Secure p = rw p refl
line-again ws (Reset reader) p = rw (p.0, p.1) refl
line-again ws (Cut card) p = rw (p.0, p.1) refl
line-again ws (Power card) p = rw (p.0, p.1) refl

pub gives-found : (text : List ℕ) (r : Result Line LineFault) → Gives r (line_of_words (words text)) → IfOk r (IsLine text)
gives-found text (Ok line) h = line-found (words text) line h
gives-found text (Err e) h = tt

pub gives-only : (text : List ℕ) (r : Result Line LineFault) → Gives r (line_of_words (words text)) → (line : Line) → IsLine text line → Gives r (Some line)
gives-only text r h line p = subst (λ (o : Option Line). Gives r o) (line-again (words text) line p) h
