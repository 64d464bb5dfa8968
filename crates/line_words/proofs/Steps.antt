-- What steps that gave something show.
use Rattle.std.proofs.Common.{◌≡◌, ℕ, Bool, true, false, List, codes, Some, None, Option, refl, sym, ap, subst}
use Rattle.std.specs.Prelude.{if◌then◌else◌}
use Rattle.std.specs.Str.{bytes_eq}
use Rattle.std.proofs.lemmas.Slice.Eq.{bytes_eq-Decides}
use Rattle.line_words.specs.Words.{◌>>=◌, if_so, mode, mode_word}

pub some_same : {A : Type 0} (x y : A) → Some x ≡ Some y → x ≡ y
some_same x y h = cc

-- a step and the one after it
pub record Bound {A B : Type 0} (o : Option A) (f : A → Option B) (y : B) : Type 0 where
  pub value : A
  pub first : o ≡ Some value
  pub next : f value ≡ Some y

pub bound : {A B : Type 0} (o : Option A) (f : A → Option B) (y : B) → (o >>= f) ≡ Some y → Bound o f y
bound None f y h = cc
bound (Some x) f y h = record { value = x; first = refl; next = h }

-- a word of which a test holds, and the step after it
pub bound_so : {B : Type 0} (test : List ℕ → Bool) (w : List ℕ) (f : List ℕ → Option B) (y : B) → (if_so test w >>= f) ≡ Some y → (test w ≡ true) × (f w ≡ Some y)
bound_so test w f y h = by_test (test w) w f y h
  where
    by_test : {B : Type 0} (b : Bool) (w : List ℕ) (f : List ℕ → Option B) (y : B) → ((if b then Some w else None) >>= f) ≡ Some y → (b ≡ true) × (f w ≡ Some y)
    by_test true w f y h = (refl, h)
    by_test false w f y h = cc

-- a choice between two texts
pub by_text : {A : Type 0} (P : A → List ℕ → Type 0) (w text : List ℕ) (x y : Option A) (z : A) → (x ≡ Some z → P z text) → (y ≡ Some z → P z w)
    → (if bytes_eq w text then x else y) ≡ Some z → P z w
by_text P w text x y z good bad h = by_test P w text x y z good bad (bytes_eq w text) (bytes_eq-Decides w text).0 h
  where
    by_test : {A : Type 0} (P : A → List ℕ → Type 0) (w text : List ℕ) (x y : Option A) (z : A) → (x ≡ Some z → P z text) → (y ≡ Some z → P z w)
        → (b : Bool) → (b ≡ true → w ≡ text) → (if b then x else y) ≡ Some z → P z w
    by_test P w text x y z good bad true same h = subst (λ (t : List ℕ). P z t) (sym (same refl)) (good h)
    by_test P w text x y z good bad false same h = bad h

pub mode-spelled : (w : List ℕ) (shared : Bool) → mode_word w ≡ Some shared → w ≡ mode shared
mode-spelled w shared =
    by_text (λ s t. t ≡ mode s) w (codes "shared") _ _ shared (λ h. ap mode (some_same true shared h))
    (by_text (λ s t. t ≡ mode s) w (codes "exclusive") _ _ shared (λ h. ap mode (some_same false shared h)) (λ h. cc))
