-- One authenticator: its parts are given by the bytes, and when there is none.
use Rattle.std.proofs.Common.{◌≡◌, ◌≢◌, ℕ, ◌<◌, Bool, false, List, [], ◌∷◌, length, get_or, sym, ap, subst, ◌∙◌, arith, inl, inr}
use Rattle.std.specs.Prelude.{IsTrue, ◌↔◌}
use Rattle.ber_tlv.specs.Elements.{Element, element, BeginsWith, AreElements}
use Rattle.ber_tlv.proofs.Laws.{BeginsWith-one, BeginsWith-shorter}
use Rattle.piv_objects.specs.Authenticators.{Credential, AreParts, IsPin, IsAuthenticator, BeginsWithOne}
use Rattle.piv_objects.proofs.Begins.{pair_one, same_value}
use Rattle.piv_objects.proofs.Fields.{not_true}

pub no_parts : (bytes : List ℕ) → ((p r : List ℕ) → ¬ AreElements bytes (element 0x81 p ∷ element 0x83 r ∷ [])) → ((r p : List ℕ) → ¬ AreElements bytes (element 0x83 r ∷ element 0x81 p ∷ [])) → (pin reference : List ℕ) → ¬ AreParts bytes pin reference
no_parts bytes n m pin reference (inl h) = n pin reference h
no_parts bytes n m pin reference (inr h) = m reference pin h

-- the first of two elements has one tag
two_tags : (bytes : List ℕ) (v w rest more : List ℕ) → BeginsWith bytes (element 0x81 v) rest → BeginsWith bytes (element 0x83 w) more → ⊥
two_tags bytes v w rest more b d =
    let same : 0x81 ≡ 0x83 = ap (λ (e : Element). e.tag) (BeginsWith-one bytes (element 0x81 v) (element 0x83 w) rest more b d).0 in
    absurd (omega (arith, same))

parts_one : (bytes p r q s : List ℕ) → AreParts bytes p r → AreParts bytes q s → (p ≡ q) × (r ≡ s)
parts_one bytes p r q s (inl h) (inl k) = pair_one bytes 0x81 0x83 p r q s h k
parts_one bytes p r q s (inl h) (inr k) = absurd (two_tags bytes p s h.0 k.0 h.1 k.1)
parts_one bytes p r q s (inr h) (inl k) = absurd (two_tags bytes q r k.0 h.0 k.1 h.1)
parts_one bytes p r q s (inr h) (inr k) = let same = pair_one bytes 0x83 0x81 r p s q h k in (same.1, same.0)

pub no_authenticator : (bytes : List ℕ) → ((pin reference : List ℕ) → ¬ AreParts bytes pin reference) → (c : Credential) → ¬ IsAuthenticator bytes c
no_authenticator bytes none c h = none c.pin (c.reference ∷ []) h.parts

pub bad_pin : (bytes pin reference : List ℕ) (b : Bool) → AreParts bytes pin reference → b ≡ false → IsTrue b ↔ IsPin pin → (c : Credential) → ¬ IsAuthenticator bytes c
bad_pin bytes pin reference b parts off is c h =
    not_true b off is (subst IsPin (sym (parts_one bytes pin reference c.pin (c.reference ∷ []) parts h.parts).0) h.is_pin)

pub bad_reference : (bytes pin reference : List ℕ) → AreParts bytes pin reference → length reference ≢ 1 → (c : Credential) → ¬ IsAuthenticator bytes c
bad_reference bytes pin reference parts ne c h =
    ne (ap length (parts_one bytes pin reference c.pin (c.reference ∷ []) parts h.parts).1)

credential : List ℕ → ℕ → Credential
credential pin reference = record { pin = pin; reference = reference }

same_credential : (c d : Credential) → c.pin ≡ d.pin → c.reference ≡ d.reference → c ≡ d
unfolding credential
same_credential c d p r = ap (λ (pin : List ℕ). credential pin c.reference) p ∙ ap (λ (n : ℕ). credential d.pin n) r

authenticator_one : (bytes : List ℕ) (c d : Credential) → IsAuthenticator bytes c → IsAuthenticator bytes d → c ≡ d
authenticator_one bytes c d h k =
    let same = parts_one bytes c.pin (c.reference ∷ []) d.pin (d.reference ∷ []) h.parts k.parts in
    same_credential c d same.0 (ap (λ (xs : List ℕ). get_or xs 0 0) same.1)

-- ---- the first of several

pub no_first : (bytes : List ℕ) → ((value rest : List ℕ) → ¬ BeginsWith bytes (element 0x67 value) rest) → (c : Credential) (rest : List ℕ) → ¬ BeginsWithOne bytes c rest
no_first bytes none c rest h = none h.inside rest h.begins

pub bad_first : (bytes inside rest : List ℕ) → BeginsWith bytes (element 0x67 inside) rest → ((c : Credential) → ¬ IsAuthenticator inside c) → (c : Credential) (more : List ℕ) → ¬ BeginsWithOne bytes c more
bad_first bytes inside rest b none c more h =
    none c (subst (λ (x : List ℕ). IsAuthenticator x c) (same_value bytes 0x67 h.inside inside more rest h.begins b) h.is_authenticator)

pub first_one : (bytes : List ℕ) (c d : Credential) (rest more : List ℕ) → BeginsWithOne bytes c rest → BeginsWithOne bytes d more → (c ≡ d) × (rest ≡ more)
first_one bytes c d rest more h k =
    let same = same_value bytes 0x67 h.inside k.inside rest more h.begins k.begins in
    (authenticator_one k.inside c d (subst (λ (x : List ℕ). IsAuthenticator x c) same h.is_authenticator) k.is_authenticator, (BeginsWith-one bytes (element 0x67 h.inside) (element 0x67 k.inside) rest more h.begins k.begins).1)

pub first_shorter : (bytes : List ℕ) (c : Credential) (rest : List ℕ) → BeginsWithOne bytes c rest → length rest < length bytes
first_shorter bytes c rest h = BeginsWith-shorter bytes (element 0x67 h.inside) rest h.begins
