-- The line that words are, one word after the other (this project's own).
use Rattle.std.specs.Prelude.{ℕ, if◌then◌else◌, List, [], ◌∷◌, length, codes, Option, Some, None}
use Rattle.std.specs.Str.{bytes_eq}
use Rattle.line_words.specs.Words.{◌>>=◌, name_word, oid_word, bytes_word, byte_word, number_word, mode_word}
use Rattle.script_line.specs.declared.line.Line.{Line}
use Rattle.script_line.specs.declared.line.Line.TheVariants.{Connect, Disconnect, Select, Login, Logout, Get, PutHex, PutFill, Crypt, Admin, Apdu, Version, Generate, Secure, Reset, Cut, Power}
use Rattle.script_line.specs.Lines.{is_key_length}

abbrev pub key_word : List ℕ → Option (List ℕ)
key_word word = bytes_word word >>= (λ key. if is_key_length (length key) then Some key else None)

abbrev pub lone_name : List (List ℕ) → Option (List ℕ)
lone_name (name ∷ []) = name_word name
lone_name _ = None

abbrev pub named_bytes : List (List ℕ) → Option (List ℕ × List ℕ)
named_bytes (name ∷ hex ∷ []) = do
  name ← name_word name
  bytes ← bytes_word hex
  Some (name, bytes)
named_bytes _ = None

abbrev pub alone : Line → List (List ℕ) → Option Line
alone line [] = Some line
alone line _ = None

abbrev pub connect_of : List (List ℕ) → Option Line
connect_of (h ∷ reader ∷ m ∷ []) = do
  h ← name_word h
  reader ← name_word reader
  shared ← mode_word m
  Some (Connect h reader shared)
connect_of _ = None

abbrev pub get_of : List (List ℕ) → Option Line
get_of (h ∷ oid ∷ []) = do
  h ← name_word h
  oid ← oid_word oid
  Some (Get h oid)
get_of _ = None

abbrev pub put_hex_of : List ℕ → List ℕ → List ℕ → List ℕ → Option Line
put_hex_of h oid form hex =
    if bytes_eq form (codes "hex")
    then name_word h >>= (λ h. oid_word oid >>= (λ oid. bytes_word hex >>= (λ value. Some (PutHex h oid value))))
    else None

abbrev pub put_fill_of : List ℕ → List ℕ → List ℕ → List ℕ → List ℕ → Option Line
put_fill_of h oid form size byte =
    if bytes_eq form (codes "fill")
    then name_word h >>= (λ h. oid_word oid >>= (λ oid. number_word size >>= (λ size. byte_word byte >>= (λ fill. Some (PutFill h oid size fill)))))
    else None

abbrev pub put_of : List (List ℕ) → Option Line
put_of (h ∷ oid ∷ form ∷ hex ∷ []) = put_hex_of h oid form hex
put_of (h ∷ oid ∷ form ∷ size ∷ byte ∷ []) = put_fill_of h oid form size byte
put_of _ = None

abbrev pub crypt_of : List (List ℕ) → Option Line
crypt_of (h ∷ first ∷ second ∷ hex ∷ []) = do
  h ← name_word h
  algorithm ← byte_word first
  key ← byte_word second
  input ← bytes_word hex
  Some (Crypt h algorithm key input)
crypt_of _ = None

abbrev pub admin_of : List (List ℕ) → Option Line
admin_of (h ∷ byte ∷ hex ∷ []) = do
  h ← name_word h
  algorithm ← byte_word byte
  key ← key_word hex
  Some (Admin h algorithm key)
admin_of _ = None

abbrev pub line_of_kind : List ℕ → List (List ℕ) → Option Line
line_of_kind kind rest =
    if bytes_eq kind (codes "connect") then connect_of rest
    else if bytes_eq kind (codes "disconnect") then lone_name rest >>= (λ h. Some (Disconnect h))
    else if bytes_eq kind (codes "select") then named_bytes rest >>= (λ p. Some (Select p.0 p.1))
    else if bytes_eq kind (codes "login") then named_bytes rest >>= (λ p. Some (Login p.0 p.1))
    else if bytes_eq kind (codes "logout") then lone_name rest >>= (λ h. Some (Logout h))
    else if bytes_eq kind (codes "get") then get_of rest
    else if bytes_eq kind (codes "put") then put_of rest
    else if bytes_eq kind (codes "crypt") then crypt_of rest
    else if bytes_eq kind (codes "admin") then admin_of rest
    else if bytes_eq kind (codes "apdu") then named_bytes rest >>= (λ p. Some (Apdu p.0 p.1))
    else if bytes_eq kind (codes "version") then alone Version rest
    else if bytes_eq kind (codes "generate") then alone Generate rest
    else if bytes_eq kind (codes "secure") then alone Secure rest
    else if bytes_eq kind (codes "reset") then lone_name rest >>= (λ reader. Some (Reset reader))
    else if bytes_eq kind (codes "cut") then lone_name rest >>= (λ card. Some (Cut card))
    else if bytes_eq kind (codes "power") then lone_name rest >>= (λ card. Some (Power card))
    else None

abbrev pub line_of_words : List (List ℕ) → Option Line
line_of_words [] = None
line_of_words (kind ∷ rest) = line_of_kind kind rest
