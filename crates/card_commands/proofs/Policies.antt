-- The Discovery Object of a sound memory.
use Rattle.std.proofs.Common.{◌≡◌, ◌≢◌, ℕ, ◌+◌, Bool, true, false, List, [], ◌∷◌, length, IsTrue, refl, ap, arith}
use Rattle.std.specs.Prelude.{◌==◌, ◌||◌, ◌&&◌, ◌++◌, suc, slice_index, take, drop, is_some}
use Rattle.std.specs.Str.{bytes_eq}
use Rattle.std.proofs.lemmas.List.{take-append-drop, length-append}
use Rattle.std.proofs.lemmas.Slice.Eq.{bytes_eq-Decides}
use Rattle.std.proofs.lemmas.Bool.Decides.{nat_tests}
use Rattle.piv_model.specs.Memory.{Memory, stored}
use Rattle.piv_model.specs.Forms.{is_discovery, is_policy, discovery_head}
use Rattle.piv_model.specs.Sound.{IsSound}
use Rattle.piv_rules.specs.Answers.{global_counts}

-- a Discovery Object has 18 bytes
eighteen : (v : List ℕ) → take 16 v ≡ discovery_head → length (drop 16 v) ≡ 2 → length v ≡ 18
eighteen v head policy =
    let parts : length (take 16 v ++ drop 16 v) ≡ length v = ap (λ (l : List ℕ). length l) (take-append-drop 16 v) in
    let sum : length (take 16 v ++ drop 16 v) ≡ length (take 16 v) + length (drop 16 v) = length-append (take 16 v) (drop 16 v) in
    let sixteen : length (take 16 v) ≡ 16 = ap (λ (l : List ℕ). length l) head in
    omega arith

policy-length : (g : Bool) (p : List ℕ) → is_policy g p ≡ true → length p ≡ 2
policy-length g p is = go g (bytes_eq p (0x40 ∷ 0x00 ∷ [])) (bytes_eq p (0x60 ∷ 0x10 ∷ [])) (bytes_eq p (0x60 ∷ 0x20 ∷ [])) refl refl refl is
  where
    same : (q : List ℕ) → bytes_eq p q ≡ true → p ≡ q
    same q e = (bytes_eq-Decides p q).0 e

    go : (g a b c : Bool) → bytes_eq p (0x40 ∷ 0x00 ∷ []) ≡ a → bytes_eq p (0x60 ∷ 0x10 ∷ []) ≡ b → bytes_eq p (0x60 ∷ 0x20 ∷ []) ≡ c
        → (a || (g && (b || c))) ≡ true → length p ≡ 2
    go g true b c ea eb ec is = ap (λ (l : List ℕ). length l) (same _ ea)
    go true false true c ea eb ec is = ap (λ (l : List ℕ). length l) (same _ eb)
    go false false b c ea eb ec is = absurd (let h : false ≡ true = is in cc)
    go true false false false ea eb ec is = absurd (let h : false ≡ true = is in cc)
    go true false false true ea eb ec is = ap (λ (l : List ℕ). length l) (same _ ec)

discovery-length : (g : Bool) (v : List ℕ) → is_discovery g v ≡ true → length v ≡ 18
unfolding is_discovery
discovery-length g v is = go (bytes_eq (take 16 v) discovery_head) (is_policy g (drop 16 v)) refl refl is
  where
    go : (a b : Bool) → bytes_eq (take 16 v) discovery_head ≡ a → is_policy g (drop 16 v) ≡ b → (a && b) ≡ true → length v ≡ 18
    go false b ea eb is = absurd (let h : false ≡ true = is in cc)
    go true false ea eb is = absurd (let h : false ≡ true = is in cc)
    go true true ea eb is = eighteen v ((bytes_eq-Decides (take 16 v) discovery_head).0 ea) (policy-length g (drop 16 v) eb)

false-true : IsTrue false → ⊥
false-true e = let h : false ≡ true = e in cc

none-sixteenth : (v : List ℕ) → length v ≡ 0 → (slice_index v 16 == 0x60) ≡ false
none-sixteenth [] none = refl
none-sixteenth (b ∷ v) none = absurd (no none)
  where
    no : suc (length v) ≡ 0 → ⊥
    no e = omega arith

pub absent-counts : (m : Memory) → IsSound m → length (stored m 10) ≢ 18 → global_counts m ≡ false
absent-counts m sound other = go (length (stored m 10) == 0) (is_discovery (is_some m.global) (stored m 10)) refl refl sound.discovery
  where
    go : (a b : Bool) → (length (stored m 10) == 0) ≡ a → is_discovery (is_some m.global) (stored m 10) ≡ b → IsTrue (a || b) → global_counts m ≡ false
    go false false ea eb may = absurd (false-true may)
    go true b ea eb may = none-sixteenth (stored m 10) (grind (arith, nat_tests))
    go false true ea eb may = absurd (other (discovery-length (is_some m.global) (stored m 10) eb))

pub ruleset counting = (absent-counts)
