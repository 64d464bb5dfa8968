-- Bytes are read from their spelling in upper case and from nothing else.
use Rattle.std.proofs.Common.{◌≡◌, ◌<◌, ◌^◌, ◌/◌, ◌%◌, ◌*◌, ◌+◌, ℕ, zero, suc, Bool, true, false, List, [], ◌∷◌, length, codes, Some, Result, Ok, Err, refl, sym, ap, ◌∙◌, subst, arith}
use Rattle.std.specs.Result.{result_ok}
use Rattle.std.specs.Str.{bytes_eq}
use Rattle.std.proofs.lemmas.Option.{cond_some}
use Rattle.std.proofs.lemmas.Slice.Eq.{bytes_eq-Decides}
use Rattle.hex.specs.Hex.{IsBytes, decode_of, encode_upper}
use Rattle.hex.specs.declared.error.FromHexError.{FromHexError}
use Rattle.hex.proofs.HexLemmas.{decode_of-encode_upper, decode_of-ok, length-encode_with}
use Rattle.line_words.specs.Words.{only_byte}
use Rattle.line_words.specs.Digits.{byte_text, status_text, bytes_text, upper_word, if_spelled, upper_byte, two_bytes, status_word, some_bytes, some_upper, body_word}
use Rattle.line_words.proofs.Steps.{some_same, bound, by_text}

-- ---- bytes in upper case

ok_some : (r : Result (List ℕ) FromHexError) (bs : List ℕ) → result_ok r ≡ Some bs → r ≡ Ok bs
ok_some (Ok x) bs h = ap Ok (some_same x bs h)
ok_some (Err e) bs h = cc

pub upper-found : (w bs : List ℕ) → upper_word w ≡ Some bs → (w ≡ encode_upper bs) × IsBytes bs
unfolding upper_word
upper-found w bs h =
    let a = bound (result_ok (decode_of w)) (if_spelled w) bs h in
    let s = cond_some (bytes_eq (encode_upper a.value) w) a.value bs a.next in
    let same : encode_upper a.value ≡ w = (bytes_eq-Decides (encode_upper a.value) w).0 s.0 in
    let ok = decode_of-ok w a.value (ok_some (decode_of w) a.value a.first) in
    (sym same ∙ ap encode_upper s.1, subst IsBytes s.1 ok.3)

pub upper-again : (bs : List ℕ) → IsBytes bs → upper_word (encode_upper bs) ≡ Some bs
unfolding upper_word
upper-again bs h = rw (decode_of-encode_upper bs h, (bytes_eq-Decides (encode_upper bs) (encode_upper bs)).1 refl) refl

one_byte : (bs : List ℕ) (b : ℕ) → only_byte bs ≡ Some b → bs ≡ b ∷ []
one_byte (x ∷ []) b h = ap (λ (y : ℕ). y ∷ []) (some_same x b h)
one_byte [] b h = cc
one_byte (x ∷ y ∷ bs) b h = cc

pub byte-found : (w : List ℕ) (b : ℕ) → upper_byte w ≡ Some b → (w ≡ byte_text b) × (b < 256)
byte-found w b h =
    let a = bound (upper_word w) only_byte b h in
    let one = one_byte a.value b a.next in
    let up = upper-found w a.value a.first in
    (up.0 ∙ ap encode_upper one, subst IsBytes one up.1 0)

pub bytes_of_one : (b : ℕ) → b < 256 → IsBytes (b ∷ [])
bytes_of_one b h zero = h
bytes_of_one b h (suc k) = omega arith

pub byte-again : (b : ℕ) → b < 256 → upper_byte (byte_text b) ≡ Some b
byte-again b h = rw (upper-again (b ∷ []) (bytes_of_one b h)) refl

-- ---- status words

both_bytes : (bs : List ℕ) (sw : ℕ) → two_bytes bs ≡ Some sw → IsBytes bs → (bs ≡ sw / 256 ∷ sw % 256 ∷ []) × (sw < 2 ^ 16)
both_bytes (high ∷ low ∷ []) sw h fits =
    let e : high * 256 + low ≡ sw = some_same (high * 256 + low) sw h in
    let a : high < 256 = fits 0 in
    let b : low < 256 = fits 1 in
    let first : high ≡ sw / 256 = omega arith in
    let second : low ≡ sw % 256 = omega arith in
    (ap (λ (x : ℕ). x ∷ low ∷ []) first ∙ ap (λ (x : ℕ). sw / 256 ∷ x ∷ []) second, omega arith)
both_bytes [] sw h fits = cc
both_bytes (x ∷ []) sw h fits = cc
both_bytes (x ∷ y ∷ z ∷ bs) sw h fits = cc

pub status-found : (w : List ℕ) (sw : ℕ) → status_word w ≡ Some sw → (w ≡ status_text sw) × (sw < 2 ^ 16)
status-found w sw h =
    let a = bound (upper_word w) two_bytes sw h in
    let up = upper-found w a.value a.first in
    let both = both_bytes a.value sw a.next up.1 in
    (up.0 ∙ ap encode_upper both.0, both.1)

pub bytes_of_two : (x y : ℕ) → x < 256 → y < 256 → IsBytes (x ∷ y ∷ [])
bytes_of_two x y h i zero = h
bytes_of_two x y h i (suc zero) = i
bytes_of_two x y h i (suc (suc k)) = omega arith

pub status-again : (sw : ℕ) → sw < 2 ^ 16 → status_word (status_text sw) ≡ Some sw
status-again sw h =
    let whole : sw / 256 * 256 + sw % 256 ≡ sw = omega arith in
    rw (upper-again (sw / 256 ∷ sw % 256 ∷ []) (bytes_of_two (sw / 256) (sw % 256) (omega arith) (omega arith))) (ap Some whole)

-- ---- bodies

pub no_dash : (bs : List ℕ) → 0 < length bs → bytes_eq (encode_upper bs) (codes "-") ≡ false
no_dash bs h = by_test (bytes_eq (encode_upper bs) (codes "-")) (bytes_eq-Decides (encode_upper bs) (codes "-")).0
    (λ e. let n = length-encode_with (codes "0123456789ABCDEF") bs in let m : length (encode_upper bs) ≡ 1 = ap length e in omega (arith, n, m))
  where
    by_test : {P : Type 0} (b : Bool) → (b ≡ true → P) → (P → ⊥) → b ≡ false
    by_test true yes_it not_it = absurd (not_it (yes_it refl))
    by_test false yes_it not_it = refl

some-bytes : (bs body : List ℕ) → some_bytes bs ≡ Some body → (bs ≡ body) × (encode_upper bs ≡ bytes_text body)
some-bytes (b ∷ bs) body h = let e = some_same (b ∷ bs) body h in (e, ap bytes_text e)
some-bytes [] body h = cc

pub body-found : (w body : List ℕ) → body_word w ≡ Some body → (w ≡ bytes_text body) × IsBytes body
body-found w body = by_text (λ (bs : List ℕ) (v : List ℕ). (v ≡ bytes_text bs) × IsBytes bs) w (codes "-") (Some []) (some_upper w) body
    (λ h. let e = some_same [] body h in (ap bytes_text e, subst IsBytes e (λ k. omega arith)))
    (λ h. let a = bound (upper_word w) some_bytes body h in
    let up = upper-found w a.value a.first in
    let some = some-bytes a.value body a.next in
    (up.0 ∙ some.1, subst IsBytes some.0 up.1))

pub body-again : (body : List ℕ) → IsBytes body → body_word (bytes_text body) ≡ Some body
body-again [] h = refl
body-again (b ∷ bs) h = rw (no_dash (b ∷ bs) (omega arith), upper-again (b ∷ bs) h) refl
