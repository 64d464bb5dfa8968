-- What the words of the generated scene spell.
use Rattle.std.proofs.Common.{◌≡◌, ℕ, zero, suc, ◌+◌, ◌-◌, ◌*◌, ◌/◌, ◌≤◌, Bool, true, false, ◌==◌, List, [], ◌∷◌, ◌++◌, length, codes, map, replicate, Some, refl, ap, subst, arith, length-append}
use Rattle.std.specs.Prelude.{IsTrue, ◌%◌, if◌then◌else◌}
use Rattle.std.specs.List.{AllByRecursion, IsDistinct, range_with_len}
use Rattle.std.proofs.lemmas.List.FromFn.{length-map-range_with_len}
use Rattle.hex.specs.Hex.{decode_pairs}
use Rattle.piv_model.specs.ApplicationNames.{full_aid}
use Rattle.piv_model.specs.declared.kinds.RefId.{RefId}
use Rattle.piv_model.specs.declared.kinds.RefId.TheVariants.{Pin, Puk, GlobalPin}
use Rattle.piv_model.specs.declared.kinds.KeyId.{KeyId}
use Rattle.piv_model.specs.declared.kinds.KeyId.TheVariants.{AdminKey, CardAuth}
use Rattle.piv_model.specs.declared.start.KeyBytes.{KeyBytes}
use Rattle.piv_model.specs.declared.start.Start.{Start}
use Rattle.piv_model.specs.Forms.{is_pin, is_discovery, is_secret}
use Rattle.piv_model.specs.Memory.{Memory, has, reference, key_at}
use Rattle.piv_model.specs.PlainCard.{plain_pin, plain_puk, plain_admin_key, plain_card_key, filled_up, plain_pairs, plain_memory}
use Rattle.piv_model.specs.Sound.{is_limited, is_card_key}
use Rattle.piv_model.specs.Starts.{memory_of_start, SpellsMemory}
use Rattle.script_line.specs.declared.line.Line.{Line}
use Rattle.script_line.specs.declared.line.Line.TheVariants.{Connect, Select, Login, Logout, Get, PutFill, Crypt, Admin}
use Rattle.script_line.specs.Playable.{IsPlayable, ArePlayable}
use Rattle.script_line.specs.Scripts.{ScriptData}
use Rattle.scene_cards.specs.CardValues.{CardValue}
use Rattle.line_words.specs.Words.{bytes_word}
use Rattle.line_words.proofs.Steps.{some_same}
use Rattle.piv_scene.specs.SceneValues.{IsScriptOf, IsScene}
use Rattle.piv_scene.specs.Scripts.{names_known}
use Rattle.piv_scene.specs.GeneratedScene.{h, chuid_oid, printed_oid, authenticator, wrong_pin, challenge, line_of_kind, generated_line, word_of, reader_of_script, generated_start, generated_card, generated_script, generated_scene}

pub application : bytes_word (codes "A000000308000010000100") ≡ Some (full_aid)
unfolding bytes_word decode_pairs
application = refl

pub right_login : bytes_word (codes "670D8108313233343536FFFF830180") ≡ Some (authenticator plain_pin)
unfolding bytes_word decode_pairs
right_login = refl

pub wrong_login : bytes_word (codes "670D8108393939393939FFFF830180") ≡ Some (authenticator wrong_pin)
unfolding bytes_word decode_pairs
wrong_login = refl

pub admin_key : bytes_word (codes "101112131415161718191A1B1C1D1E1F") ≡ Some (plain_admin_key)
unfolding bytes_word decode_pairs
admin_key = refl

pub challenge_bytes : bytes_word (codes "7C148200811000112233445566778899AABBCCDDEEFF") ≡ Some (challenge)
unfolding bytes_word decode_pairs
challenge_bytes = refl

-- ---- the card

key-made : (k : KeyBytes) (algorithm : ℕ) (bytes : List ℕ) → k.algorithm ≡ algorithm → k.bytes ≡ bytes → k ≡ record { algorithm = algorithm; bytes = bytes }
key-made k algorithm bytes a b = rw (← a, ← b) refl

pub start-made : (s : Start) → memory_of_start s ≡ plain_memory → s.objects ≡ plain_pairs
    → (s.admin.bytes ≡ filled_up plain_admin_key) × (s.card_auth.bytes ≡ filled_up plain_card_key)
    → s.global ≡ record { limit = 0; pin = replicate 8 0 } → s.random ≡ replicate 32 0
    → record s { limit_pin = 15; limit_puk = 15 } ≡ generated_start
unfolding plain_memory
start-made s memory objects keys global random =
    let pin : s.pin ≡ plain_pin = ap (λ (m : Memory). m.pin.secret) memory in
    let puk : s.puk ≡ plain_puk = ap (λ (m : Memory). m.puk.secret) memory in
    let budget : s.budget ≡ 2048 = ap (λ (m : Memory). m.budget) memory in
    let admin = key-made s.admin 0x08 (filled_up plain_admin_key) (ap (λ (m : Memory). m.admin.algorithm) memory) keys.0 in
    let card_auth = key-made s.card_auth 0x08 (filled_up plain_card_key) (ap (λ (m : Memory). m.card_auth.algorithm) memory) keys.1 in
    rw (pin, puk, budget, admin, card_auth, objects, global, random) refl

generated-limits : (r : RefId) → IsTrue (has (memory_of_start generated_start) r) → IsTrue (is_limited (reference (memory_of_start generated_start) r))
generated-limits Pin h = refl
generated-limits Puk h = refl
generated-limits GlobalPin h = cc

generated-secrets : (r : RefId) → IsTrue (has (memory_of_start generated_start) r) → IsTrue (is_secret r (reference (memory_of_start generated_start) r).secret)
unfolding is_pin
generated-secrets Pin h = refl
generated-secrets Puk h = refl
generated-secrets GlobalPin h = cc

generated-keys : (key : KeyId) → IsTrue (is_card_key (key_at (memory_of_start generated_start) key))
generated-keys AdminKey = refl
generated-keys CardAuth = refl

generated-spells : SpellsMemory generated_start
unfolding is_discovery
generated-spells = record {
  sound = record {
    limits = generated-limits;
    secrets = generated-secrets;
    keys = generated-keys;
    budget = refl;
    places = refl;
    lengths = refl;
    room = refl;
    discovery = refl;
  };
  once = refl;
}

-- ---- the scripts

choose : (P : Line → Type 0) (b : Bool) (x y : Line) → P x → P y → P (if b then x else y)
choose P true x y one other = one
choose P false x y one other = other

kind-holds : (P : Line → Type 0) (kind size : ℕ) → P (Get h chuid_oid) → P (Get h printed_oid) → P (Login h (authenticator plain_pin))
    → P (Login h (authenticator wrong_pin)) → P (Logout h) → P (Admin h 0x08 plain_admin_key) → P (PutFill h printed_oid size 0x5A)
    → P (Crypt h 0x08 0x9E challenge) → P (line_of_kind kind size)
kind-holds P kind size a b c d e f g i =
    choose P (kind == 0) _ _ a (choose P (kind == 1) _ _ b (choose P (kind == 2) _ _ c (choose P (kind == 3) _ _ d
    (choose P (kind == 4) _ _ e (choose P (kind == 5) _ _ f (choose P (kind == 6) _ _ g i))))))

-- a line that can be played, and names no card and no reader
abbrev IsGood : Line → Type 0
IsGood l = IsPlayable l × (names_known (codes "A" ∷ []) (codes "front" ∷ codes "gate" ∷ []) l ≡ true)

few : (w : ℕ) → w / 8 % 1000 + 1 ≤ 16512
few w = omega arith

line-good : (word : ℕ) → IsGood (generated_line word)
line-good word =
    kind-holds IsGood (word % 8) (word / 8 % 1000 + 1) (tt, refl) (tt, refl) (tt, refl) (tt, refl) (tt, refl) (refl, refl) (few word, refl) (omega arith, refl)

lines-good : (f : ℕ → ℕ) (js : List ℕ) → AllByRecursion IsGood (map (λ j. generated_line (f j)) js)
lines-good f [] = tt
lines-good f (j ∷ js) = (line-good (f j), lines-good f js)

all-play : (lines : List Line) → AllByRecursion IsGood lines → ArePlayable lines
all-play [] all k line at = cc
all-play (l ∷ lines) all zero line at = subst IsPlayable (some_same l line at) all.0.0
all-play (l ∷ lines) all (suc k) line at = all-play lines all.1 k line at

all-known : (lines : List Line) → AllByRecursion IsGood lines → AllByRecursion (λ l. names_known (codes "A" ∷ []) (codes "front" ∷ codes "gate" ∷ []) l ≡ true) lines
all-known [] all = tt
all-known (l ∷ lines) all = (all.0.1, all-known lines all.1)

script-good : (n number k : ℕ) → AllByRecursion IsGood (generated_script n number k).lines
script-good n number k =
    ((tt, refl), ((omega arith, refl), lines-good (λ j. word_of number (4 * j + k)) (range_with_len 0 ((n + 3 - k) / 4))))

script-sound : (n number k : ℕ) → IsScriptOf (codes "A" ∷ []) (codes "front" ∷ codes "gate" ∷ []) (generated_script n number k)
script-sound n number k = record {
  playable = all-play (generated_script n number k).lines (script-good n number k);
  known = all-known (generated_script n number k).lines (script-good n number k);
}

script-length : (n number k : ℕ) → n ≤ 4000 → length (generated_script n number k).lines ≤ 1002
script-length n number k few =
    let l = length-map-range_with_len (λ (j : ℕ). generated_line (word_of number (4 * j + k))) 0 ((n + 3 - k) / 4) in
    two (map (λ (j : ℕ). generated_line (word_of number (4 * j + k))) (range_with_len 0 ((n + 3 - k) / 4))) (omega (arith, few, l))
  where
    two : (ls : List Line) → length ls ≤ 1000 → length (Connect h (reader_of_script k) true ∷ Select h full_aid ∷ ls) ≤ 1002
    two ls few = omega (arith, few)

four : (a b c d : List Line) → length a ≤ 1002 → length b ≤ 1002 → length c ≤ 1002 → length d ≤ 1002 → length (a ++ (b ++ (c ++ (d ++ [])))) ≤ 4096
four a b c d p q r s =
    let x = length-append a (b ++ (c ++ (d ++ []))) in
    let y = length-append b (c ++ (d ++ [])) in
    let z = length-append c (d ++ []) in
    let w = length-append d [] in
    omega (arith, p, q, r, s, x, y, z, w)

-- ---- the scene

generated-sound : (n number : ℕ) → n ≤ 4000 → IsScene (generated_scene n number)
unfolding IsDistinct
generated-sound n number few = record {
  cards = (record { spells = generated-spells; rises = tt }, tt);
  some_cards = omega arith;
  few_cards = omega arith;
  card_names = (tt, tt);
  reader_names = ((refl, tt), (tt, tt));
  scripts = (script-sound n number 0, (script-sound n number 1, (script-sound n number 2, (script-sound n number 3, tt))));
  few_scripts = omega arith;
  few_lines = four (generated_script n number 0).lines (generated_script n number 1).lines (generated_script n number 2).lines (generated_script n number 3).lines
      (script-length n number 0 few) (script-length n number 1 few) (script-length n number 2 few) (script-length n number 3 few);
  schedule = tt;
  few_places = omega arith;
}

pub made-sound : (n number : ℕ) (cards : List CardValue) (scripts : List ScriptData) (schedule : List ℕ) → n ≤ 4000
    → cards ≡ generated_card ∷ [] → scripts ≡ map (generated_script n number) (range_with_len 0 4) → schedule ≡ []
    → IsScene (record { cards = cards; scripts = scripts; schedule = schedule })
made-sound n number cards scripts schedule few a b c = rw (a, b, c) (generated-sound n number few)
