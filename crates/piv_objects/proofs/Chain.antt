-- Authenticators one after the other: those that were found, and those to come.
use Rattle.std.proofs.Common.{◌≡◌, ◌≢◌, ℕ, ◌+◌, ◌≤◌, List, [], ◌∷◌, ◌++◌, length, refl, sym, ap, subst, ◌∙◌, arith, inl, inr}
use Rattle.std.specs.Prelude.{◌↔◌}
use Rattle.std.proofs.lemmas.List.{append_assoc, append-nil, length-append}
use Rattle.ber_tlv.specs.Elements.{element, BeginsWith}
use Rattle.piv_objects.specs.Forms.{IsPartOf}
use Rattle.piv_objects.specs.Authenticators.{Credential, AreParts, BeginsWithOne, AreAuthenticators, ArePinsIn}
use Rattle.piv_objects.proofs.Begins.{part_first, part_second, part_within, part_after}
use Rattle.piv_objects.proofs.Pins.{first_one, first_shorter}

-- after those that were found the bytes make the whole
pub record Goes (bytes : List ℕ) (found whole : List Credential) : Type 0 where
  pub tail : List Credential
  pub are : AreAuthenticators bytes tail
  pub joined : found ++ tail ≡ whole

step_on : (bytes : List ℕ) (c : Credential) (rest : List ℕ) (found whole tail : List Credential) → BeginsWithOne bytes c rest → AreAuthenticators bytes tail → found ++ tail ≡ whole → Goes rest (found ++ c ∷ []) whole
step_on bytes c rest found whole [] b are joined = absurd (omega (arith, first_shorter bytes c rest b, ap length are))
step_on bytes c rest found whole (d ∷ tail) b are joined =
    let same = first_one bytes d c are.0 rest are.1 b in
    record {
      tail = tail;
      are = subst (λ (x : List ℕ). AreAuthenticators x tail) same.1 are.2;
      joined = append_assoc found (c ∷ []) tail ∙ ap (λ (x : Credential). found ++ x ∷ tail) (sym same.0) ∙ joined;
    }

pub goes_on : (bytes : List ℕ) (c : Credential) (rest : List ℕ) (found : List Credential) → BeginsWithOne bytes c rest → (whole : List Credential) → Goes bytes found whole ↔ Goes rest (found ++ c ∷ []) whole
goes_on bytes c rest found b whole = (
  λ h. step_on bytes c rest found whole h.tail b h.are h.joined,
  λ h. record { tail = c ∷ h.tail; are = (rest, b, h.are); joined = sym (append_assoc found (c ∷ []) h.tail) ∙ h.joined },
)

pub goes_start : (bytes : List ℕ) (whole : List Credential) → AreAuthenticators bytes whole ↔ Goes bytes [] whole
goes_start bytes whole = (
  λ h. record { tail = whole; are = h; joined = refl },
  λ h. subst (AreAuthenticators bytes) h.joined h.are,
)

pub goes_end : (bytes : List ℕ) (found : List Credential) → bytes ≡ [] → Goes bytes found found
goes_end bytes found e = record { tail = []; are = e; joined = append-nil found }

none_left : (bytes : List ℕ) (tail : List Credential) → bytes ≡ [] → AreAuthenticators bytes tail → tail ≡ []
none_left bytes [] e are = refl
none_left bytes (c ∷ tail) e are = absurd (omega (arith, first_shorter bytes c are.0 are.1, ap length e))

-- nothing was found, and nothing is left
pub none_at_all : (bytes : List ℕ) (whole : List Credential) → bytes ≡ [] → Goes bytes [] whole → length whole ≡ 0
none_at_all bytes whole e h = omega (arith, ap length h.joined, ap length (none_left bytes h.tail e h.are))

some_more : (bytes : List ℕ) (tail : List Credential) → bytes ≢ [] → AreAuthenticators bytes tail → 1 ≤ length tail
some_more bytes [] some are = absurd (some are)
some_more bytes (c ∷ tail) some are = omega arith

-- one more than were found
pub too_many : (bytes : List ℕ) (found whole : List Credential) → bytes ≢ [] → Goes bytes found whole → length found + 1 ≤ length whole
too_many bytes found whole some h = omega (arith, some_more bytes h.tail some h.are, ap length h.joined, length-append found h.tail)

no_next : (bytes : List ℕ) (tail : List Credential) → bytes ≢ [] → ((c : Credential) (rest : List ℕ) → ¬ BeginsWithOne bytes c rest) → AreAuthenticators bytes tail → ⊥
no_next bytes [] some none are = some are
no_next bytes (c ∷ tail) some none are = none c are.0 are.1

pub goes_nowhere : (bytes : List ℕ) (found whole : List Credential) → bytes ≢ [] → ((c : Credential) (rest : List ℕ) → ¬ BeginsWithOne bytes c rest) → ¬ Goes bytes found whole
goes_nowhere bytes found whole some none h = no_next bytes h.tail some none h.are

-- ---- where the PINs stand

pin_stands : (bytes pin reference : List ℕ) → AreParts bytes pin reference → IsPartOf bytes pin
pin_stands bytes pin reference (inl h) = part_first bytes (element 0x81 pin) h.0 h.1
pin_stands bytes pin reference (inr h) = part_second bytes 0x83 reference 0x81 pin h

all_after : (bytes rest : List ℕ) (inside : List ℕ) (list : List Credential) → BeginsWith bytes (element 0x67 inside) rest → ArePinsIn rest list → ArePinsIn bytes list
all_after bytes rest inside [] b h = tt
all_after bytes rest inside (c ∷ list) b h = (part_after bytes (element 0x67 inside) rest c.pin b h.0, all_after bytes rest inside list b h.1)

pub pins_stand : (bytes : List ℕ) (list : List Credential) → AreAuthenticators bytes list → ArePinsIn bytes list
pins_stand bytes [] h = tt
pins_stand bytes (c ∷ list) h =
    let one = h.1 in
    let inside = part_first bytes (element 0x67 one.inside) h.0 one.begins in
    (part_within bytes one.inside c.pin inside (pin_stands one.inside c.pin (c.reference ∷ []) one.is_authenticator.parts), all_after bytes h.0 one.inside list one.begins (pins_stand h.0 list h.2))
