-- The lines of a script (this project's own).
use Rattle.std.specs.Prelude.{◌≡◌, ◌<◌, ◌^◌, ℕ, ◌==◌, ◌||◌, Bool, true, List, [], ◌∷◌, length, codes, Some}
use Rattle.std.specs.Fmt.{decimal}
use Rattle.script_line.specs.declared.line.Line.{Line}
use Rattle.script_line.specs.declared.line.Line.TheVariants.{Connect, Disconnect, Select, Login, Logout, Get, PutHex, PutFill, Crypt, Admin, Apdu, Version, Generate, Secure, Reset, Cut, Power}
use Rattle.line_words.specs.Words.{words, is_name, is_oid, bytes_word, byte_word, mode}

-- a key of AES has 16, 24 or 32 bytes
abbrev pub is_key_length : ℕ → Bool
is_key_length n = n == 16 || n == 24 || n == 32

abbrev pub IsName : List ℕ → Type 0
IsName word = is_name word ≡ true

abbrev pub IsOid : List ℕ → Type 0
IsOid word = is_oid word ≡ true

-- the words of a line. Digits of either case spell its bytes; the rest of it stands as it is.
abbrev pub AreWordsOf : Line → List (List ℕ) → Type 0
AreWordsOf (Connect h reader shared) ws =
    (ws ≡ codes "connect" ∷ h ∷ reader ∷ mode shared ∷ []) × IsName h × IsName reader
AreWordsOf (Disconnect h) ws = (ws ≡ codes "disconnect" ∷ h ∷ []) × IsName h
AreWordsOf (Select h aid) ws =
    (hex : List ℕ) × (ws ≡ codes "select" ∷ h ∷ hex ∷ []) × IsName h × (bytes_word hex ≡ Some aid)
AreWordsOf (Login h auth) ws =
    (hex : List ℕ) × (ws ≡ codes "login" ∷ h ∷ hex ∷ []) × IsName h × (bytes_word hex ≡ Some auth)
AreWordsOf (Logout h) ws = (ws ≡ codes "logout" ∷ h ∷ []) × IsName h
AreWordsOf (Get h oid) ws = (ws ≡ codes "get" ∷ h ∷ oid ∷ []) × IsName h × IsOid oid
AreWordsOf (PutHex h oid value) ws =
    (hex : List ℕ) × (ws ≡ codes "put" ∷ h ∷ oid ∷ codes "hex" ∷ hex ∷ [])
    × IsName h × IsOid oid × (bytes_word hex ≡ Some value)
AreWordsOf (PutFill h oid size fill) ws =
    (byte : List ℕ) × (ws ≡ codes "put" ∷ h ∷ oid ∷ codes "fill" ∷ decimal size ∷ byte ∷ [])
    × IsName h × IsOid oid × (size < 2 ^ 64) × (byte_word byte ≡ Some fill)
AreWordsOf (Crypt h algorithm key input) ws =
    (first : List ℕ) × (second : List ℕ) × (hex : List ℕ)
    × (ws ≡ codes "crypt" ∷ h ∷ first ∷ second ∷ hex ∷ [])
    × IsName h × (byte_word first ≡ Some algorithm) × (byte_word second ≡ Some key) × (bytes_word hex ≡ Some input)
AreWordsOf (Admin h algorithm key) ws =
    (byte : List ℕ) × (hex : List ℕ) × (ws ≡ codes "admin" ∷ h ∷ byte ∷ hex ∷ [])
    × IsName h × (byte_word byte ≡ Some algorithm) × (bytes_word hex ≡ Some key) × (is_key_length (length key) ≡ true)
AreWordsOf (Apdu h bytes) ws =
    (hex : List ℕ) × (ws ≡ codes "apdu" ∷ h ∷ hex ∷ []) × IsName h × (bytes_word hex ≡ Some bytes)
AreWordsOf Version ws = ws ≡ codes "version" ∷ []
AreWordsOf Generate ws = ws ≡ codes "generate" ∷ []
AreWordsOf Secure ws = ws ≡ codes "secure" ∷ []
AreWordsOf (Reset reader) ws = (ws ≡ codes "reset" ∷ reader ∷ []) × IsName reader
AreWordsOf (Cut card) ws = (ws ≡ codes "cut" ∷ card ∷ []) × IsName card
AreWordsOf (Power card) ws = (ws ≡ codes "power" ∷ card ∷ []) × IsName card

-- the text is this line
abbrev pub IsLine : List ℕ → Line → Type 0
IsLine text line = AreWordsOf line (words text)
