-- The scene that a generator makes of a number (this project's own): the plain card, and four scripts whose lines are chosen by
-- the words of ChaCha20.
use Rattle.std.specs.Prelude.{ℕ, ◌+◌, ◌-◌, ◌*◌, ◌/◌, ◌%◌, ◌==◌, if◌then◌else◌, List, [], ◌∷◌, ◌++◌, codes, map, replicate, true, Some}
use Rattle.std.specs.List.{range_with_len}
use Rattle.std.specs.Int.{w64, to_le_bytes}
use Rattle.rand_chacha.specs.ChaCha.{word_at, key_of}
use Rattle.piv_model.specs.declared.start.Start.{Start}
use Rattle.piv_model.specs.ApplicationNames.{full_aid}
use Rattle.piv_model.specs.PlainCard.{plain_pin, plain_puk, plain_admin_key, plain_card_key, filled_up, plain_pairs}
use Rattle.script_line.specs.declared.line.Line.{Line}
use Rattle.script_line.specs.declared.line.Line.TheVariants.{Connect, Select, Login, Logout, Get, PutFill, Crypt, Admin}
use Rattle.script_line.specs.Scripts.{ScriptData}
use Rattle.scene_cards.specs.CardValues.{CardValue}
use Rattle.piv_scene.specs.SceneValues.{SceneValue}

-- the plain card with both limits 15
abbrev pub generated_start : Start
generated_start = record {
  pin = plain_pin;
  puk = plain_puk;
  limit_pin = 15;
  limit_puk = 15;
  global = record { limit = 0; pin = replicate 8 0 };
  admin = record { algorithm = 0x08; bytes = filled_up plain_admin_key };
  card_auth = record { algorithm = 0x08; bytes = filled_up plain_card_key };
  budget = 2048;
  random = replicate 32 0;
  objects = plain_pairs;
}

abbrev pub generated_card : CardValue
generated_card = record {
  name = codes "A";
  contact = Some (codes "front");
  contactless = Some (codes "gate");
  start = generated_start;
  plan = [];
}

-- the identifiers of the CHUID and of the printed information
abbrev pub chuid_oid : List ℕ
chuid_oid = codes "2.16.840.1.101.3.7.2.48.0"

abbrev pub printed_oid : List ℕ
printed_oid = codes "2.16.840.1.101.3.7.2.48.1"

-- an authenticator of the application's PIN, with this PIN (SP 800-73-4 part 3, pivLogIntoCardApplication)
abbrev pub authenticator : List ℕ → List ℕ
authenticator pin = 0x67 ∷ 0x0D ∷ 0x81 ∷ 0x08 ∷ pin ++ 0x83 ∷ 0x01 ∷ 0x80 ∷ []

abbrev pub wrong_pin : List ℕ
wrong_pin = 0x39 ∷ 0x39 ∷ 0x39 ∷ 0x39 ∷ 0x39 ∷ 0x39 ∷ 0xFF ∷ 0xFF ∷ []

-- a challenge of 16 bytes to be enciphered (SP 800-73-4 part 2, GENERAL AUTHENTICATE)
abbrev pub challenge : List ℕ
challenge =
    0x7C ∷ 0x14 ∷ 0x82 ∷ 0x00 ∷ 0x81 ∷ 0x10
    ∷ 0x00 ∷ 0x11 ∷ 0x22 ∷ 0x33 ∷ 0x44 ∷ 0x55 ∷ 0x66 ∷ 0x77
    ∷ 0x88 ∷ 0x99 ∷ 0xAA ∷ 0xBB ∷ 0xCC ∷ 0xDD ∷ 0xEE ∷ 0xFF ∷ []

abbrev pub h : List ℕ
h = codes "h"

-- the line that a word chooses
abbrev pub line_of_kind : ℕ → ℕ → Line
line_of_kind kind size =
    if kind == 0 then Get h chuid_oid
    else if kind == 1 then Get h printed_oid
    else if kind == 2 then Login h (authenticator plain_pin)
    else if kind == 3 then Login h (authenticator wrong_pin)
    else if kind == 4 then Logout h
    else if kind == 5 then Admin h 0x08 plain_admin_key
    else if kind == 6 then PutFill h printed_oid size 0x5A
    else Crypt h 0x08 0x9E challenge

abbrev pub generated_line : ℕ → Line
generated_line word = line_of_kind (word % 8) (word / 8 % 1000 + 1)

-- the words that a number gives: ChaCha20 with its 8 bytes, low byte first, and 24 zeros as the key
unfoldable pub word_of : ℕ → ℕ → ℕ
word_of number i = word_at 10 (key_of (to_le_bytes w64 number ++ replicate 24 0)) 0 i

-- scripts 0 to 2 connect by contact, script 3 without
abbrev pub reader_of_script : ℕ → List ℕ
reader_of_script k = if k == 3 then codes "gate" else codes "front"

abbrev pub name_of_script : ℕ → List ℕ
name_of_script k =
    if k == 0 then codes "s0" else if k == 1 then codes "s1" else if k == 2 then codes "s2" else codes "s3"

-- of the first n words, script k gets the lines of word k and each fourth behind it
abbrev pub generated_script : ℕ → ℕ → ℕ → ScriptData
generated_script n number k = record {
  name = name_of_script k;
  lines =
      Connect h (reader_of_script k) true ∷ Select h full_aid
      ∷ map (λ j. generated_line (word_of number (4 * j + k))) (range_with_len 0 ((n + 3 - k) / 4));
}

abbrev pub generated_scene : ℕ → ℕ → SceneValue
generated_scene n number = record {
  cards = generated_card ∷ [];
  scripts =
      generated_script n number 0 ∷ generated_script n number 1
      ∷ generated_script n number 2 ∷ generated_script n number 3 ∷ [];
  schedule = [];
}
