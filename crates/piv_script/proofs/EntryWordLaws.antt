-- The words of an entry are read from their spelling and from nothing else.
use Rattle.std.proofs.Common.{◌≡◌, ◌<◌, ◌^◌, ℕ, Bool, true, false, List, length, codes, Some, None, Option, refl, ap, subst, arith}
use Rattle.std.specs.Prelude.{nat_lt, IfSome, ◌==◌}
use Rattle.std.specs.Fmt.{decimal}
use Rattle.std.proofs.lemmas.Bool.{lt-ltb, ltb-true, eqb-true}
use Rattle.std.proofs.lemmas.Option.{cond_some}
use Rattle.piv_model.specs.declared.kinds.Interface.{Interface}
use Rattle.piv_model.specs.declared.kinds.Interface.TheVariants.{Contact, Contactless}
use Rattle.piv_model.specs.declared.kinds.Took.{Took}
use Rattle.piv_model.specs.declared.kinds.Took.TheVariants.{Nothing, Spent, Done}
use Rattle.piv_model.specs.declared.history.Refusal.{Refusal}
use Rattle.piv_model.specs.declared.history.Refusal.TheVariants.{Locked, NoChannel, Off, On, Mute, Stale, NoConnection}
use Rattle.line_words.specs.Words.{number_word, mode, mode_word}
use Rattle.line_words.specs.Digits.{upper_word}
use Rattle.entry_text.specs.EntryTexts.{interface_name, took_name, refusal_name, block_text, IsBlock}
use Rattle.piv_script.specs.EntryReading.{connection_word, short_number, sixteen, some_block, block_word, interface_word, took_word, refusal_word}
use Rattle.line_words.proofs.NumberLemmas.{number-spelled, number-again}
use Rattle.line_words.proofs.Steps.{some_same, bound, by_text}
use Rattle.line_words.proofs.DigitLaws.{upper-found, upper-again, no_dash}

-- ---- numbers

pub connection-found : (w : List ℕ) (c : ℕ) → connection_word w ≡ Some c → (w ≡ decimal c) × (c < 2 ^ 32)
connection-found w c h =
    let a = bound (number_word w) short_number c h in
    let s = cond_some (nat_lt a.value (2 ^ 32)) a.value c a.next in
    let small : a.value < 2 ^ 32 = ltb-true a.value (2 ^ 32) s.0 in
    (rw (← s.1) (number-spelled w a.value a.first).0, rw (← s.1) small)

pub connection-again : (c : ℕ) → c < 2 ^ 32 → connection_word (decimal c) ≡ Some c
connection-again c h = rw (number-again c (omega arith), lt-ltb c (2 ^ 32) h) refl

-- ---- blocks

sixteen-found : (bs : List ℕ) (block : Option (List ℕ)) → sixteen bs ≡ Some block → (Some bs ≡ block) × (length bs ≡ 16)
sixteen-found bs block h =
    let s = cond_some (length bs == 16) (Some bs) block h in
    (s.1, eqb-true (length bs) 16 s.0)

pub block-found : (w : List ℕ) (block : Option (List ℕ)) → block_word w ≡ Some block → (w ≡ block_text block) × IfSome block IsBlock
block-found w block = by_text (λ (b : Option (List ℕ)) (v : List ℕ). (v ≡ block_text b) × IfSome b IsBlock) w (codes "-") (Some None) (some_block w) block
    (λ h. let e = some_same None block h in subst (λ (b : Option (List ℕ)). (codes "-" ≡ block_text b) × IfSome b IsBlock) e (refl, tt))
    (λ h. let a = bound (upper_word w) sixteen block h in
    let up = upper-found w a.value a.first in
    let s = sixteen-found a.value block a.next in
    subst (λ (b : Option (List ℕ)). (w ≡ block_text b) × IfSome b IsBlock) s.0 (up.0, record { size = s.1; bytes = up.1 }))

pub block-again : (block : Option (List ℕ)) → IfSome block IsBlock → block_word (block_text block) ≡ Some block
block-again None h = refl
block-again (Some block) h = let n = h.size in rw (no_dash block (omega (arith, n)), upper-again block h.bytes, h.size) refl

-- ---- names

pub interface-found : (w : List ℕ) (i : Interface) → interface_word w ≡ Some i → w ≡ interface_name i
interface-found w i =
    by_text (λ x t. t ≡ interface_name x) w (codes "contact") _ _ i (λ h. ap interface_name (some_same Contact i h))
    (by_text (λ x t. t ≡ interface_name x) w (codes "contactless") _ _ i (λ h. ap interface_name (some_same Contactless i h)) (λ h. cc))

pub interface-again : (i : Interface) → interface_word (interface_name i) ≡ Some i
interface-again Contact = refl
interface-again Contactless = refl

pub took-found : (w : List ℕ) (t : Took) → took_word w ≡ Some t → w ≡ took_name t
took-found w t =
    by_text (λ x v. v ≡ took_name x) w (codes "nothing") _ _ t (λ h. ap took_name (some_same Nothing t h))
    (by_text (λ x v. v ≡ took_name x) w (codes "spent") _ _ t (λ h. ap took_name (some_same Spent t h))
    (by_text (λ x v. v ≡ took_name x) w (codes "done") _ _ t (λ h. ap took_name (some_same Done t h)) (λ h. cc)))

pub took-again : (t : Took) → took_word (took_name t) ≡ Some t
took-again Nothing = refl
took-again Spent = refl
took-again Done = refl

pub refusal-found : (w : List ℕ) (r : Refusal) → refusal_word w ≡ Some r → w ≡ refusal_name r
refusal-found w r =
    by_text (λ x v. v ≡ refusal_name x) w (codes "locked") _ _ r (λ h. ap refusal_name (some_same Locked r h))
    (by_text (λ x v. v ≡ refusal_name x) w (codes "nochannel") _ _ r (λ h. ap refusal_name (some_same NoChannel r h))
    (by_text (λ x v. v ≡ refusal_name x) w (codes "off") _ _ r (λ h. ap refusal_name (some_same Off r h))
    (by_text (λ x v. v ≡ refusal_name x) w (codes "on") _ _ r (λ h. ap refusal_name (some_same On r h))
    (by_text (λ x v. v ≡ refusal_name x) w (codes "mute") _ _ r (λ h. ap refusal_name (some_same Mute r h))
    (by_text (λ x v. v ≡ refusal_name x) w (codes "stale") _ _ r (λ h. ap refusal_name (some_same Stale r h))
    (by_text (λ x v. v ≡ refusal_name x) w (codes "noconnection") _ _ r (λ h. ap refusal_name (some_same NoConnection r h)) (λ h. cc)))))))

pub refusal-again : (r : Refusal) → refusal_word (refusal_name r) ≡ Some r
refusal-again Locked = refl
refusal-again NoChannel = refl
refusal-again Off = refl
refusal-again On = refl
refusal-again Mute = refl
refusal-again Stale = refl
refusal-again NoConnection = refl

pub mode-again : (shared : Bool) → mode_word (mode shared) ≡ Some shared
mode-again true = refl
mode-again false = refl
