-- Small facts on tests.
use Rattle.std.proofs.Common.{◌≡◌, ℕ, Bool, true, false, refl, ap, arith}
use Rattle.std.specs.Prelude.{not, ◌&&◌, ◌||◌, ◌↔◌}
use Rattle.std.proofs.lemmas.Bool.Decides.{nat_tests}
use Rattle.piv_model.specs.declared.kinds.Interface.{Interface}
use Rattle.piv_model.specs.declared.kinds.Interface.TheVariants.{Contact, Contactless}
use Rattle.piv_rules.specs.StatusWords.{is_granted}
use Rattle.piv_rules.specs.Answers.{is_contact}

pub and-first : (a b : Bool) → (a && b) ≡ true → a ≡ true
and-first true b h = refl
and-first false b h = absurd (cc)

pub and-last : (a b : Bool) → (a && b) ≡ true → b ≡ true
and-last true b h = h
and-last false b h = absurd (cc)

pub not-true : (b : Bool) → not b ≡ true → b ≡ false
not-true true h = absurd (cc)
not-true false h = refl

pub or-last : (a b : Bool) → b ≡ true → (a || b) ≡ true
or-last true b h = refl
or-last false b h = h

pub contact-iff : (i : Interface) → (is_contact i ≡ true) ↔ (i ≡ Contact)
contact-iff Contact = ((λ h. refl), (λ h. refl))
contact-iff Contactless = ((λ h. absurd (cc)), (λ h. absurd (let f = ap is_contact h in cc)))

pub granted-word : (word : ℕ) → is_granted word ≡ true → word ≡ 0x9000
granted-word word h = grind (arith, nat_tests)
