-- The plain card is one that a card can be with a Global PIN, too.
use Rattle.std.proofs.Common.{◌≤◌, ◌≡◌, ℕ, refl, subst, sym, IsTrue, arith, List, Option, Some, ◌∷◌, []}
use Rattle.std.proofs.lemmas.Bool.Decides.{nat_tests}
use Rattle.piv_model.specs.declared.kinds.RefId.{RefId}
use Rattle.piv_model.specs.declared.kinds.RefId.TheVariants.{Pin, Puk, GlobalPin}
use Rattle.piv_model.specs.Forms.{is_pin, is_secret, is_discovery}
use Rattle.piv_model.specs.Memory.{Memory, Reference, has, reference}
use Rattle.piv_model.specs.Sound.{IsSound, is_limited}
use Rattle.piv_model.specs.Starts.{global_of, memory_of_start}
use Rattle.piv_model.specs.PlainCard.{plain_memory}
use Rattle.piv_model.proofs.PlainLaws.{plain-sound}
use Rattle.test_starts.proofs.global_start.Goals as goal

abbrev secret : List ℕ
secret = 0x39 ∷ 0x38 ∷ 0x37 ∷ 0x36 ∷ 0x35 ∷ 0x34 ∷ 0xFF ∷ 0xFF ∷ []

abbrev global_pin : ℕ → Option Reference
global_pin n = Some (record { limit = n; tries = n; secret = secret })

abbrev with_global : Option Reference → Memory → Memory
with_global pin m = record m { global = pin }

there-is : (n : ℕ) → 1 ≤ n → global_of (record { limit = n; pin = secret }) ≡ global_pin n
there-is n low = grind (arith, nat_tests)

limits : (n : ℕ) → 1 ≤ n → n ≤ 15 → (r : RefId) → IsTrue (has (with_global (global_pin n) plain_memory) r)
    → IsTrue (is_limited (reference (with_global (global_pin n) plain_memory) r))
unfolding plain_memory
limits n low high Pin h = plain-sound.limits Pin h
limits n low high Puk h = plain-sound.limits Puk h
limits n low high GlobalPin h = grind (arith, nat_tests)

secrets : (n : ℕ) (r : RefId) → IsTrue (has (with_global (global_pin n) plain_memory) r)
    → IsTrue (is_secret r (reference (with_global (global_pin n) plain_memory) r).secret)
unfolding plain_memory is_pin
secrets n Pin h = refl
secrets n Puk h = refl
secrets n GlobalPin h = refl

global-sound : (n : ℕ) → 1 ≤ n → n ≤ 15 → IsSound (with_global (global_pin n) plain_memory)
unfolding plain_memory is_pin is_discovery
global-sound n low high = record {
  limits = limits n low high;
  secrets = secrets n;
  keys = plain-sound.keys;
  budget = refl;
  places = refl;
  lengths = refl;
  room = refl;
  discovery = refl;
}

pub returns : goal.returns
returns c = record {
  sound = subst (λ (pin : Option Reference). IsSound (with_global pin (memory_of_start c.in_ok-start.start)))
      (sym (there-is c.args.limit c.requires.low))
      (subst (λ (m : Memory). IsSound (with_global (global_pin c.args.limit) m)) (sym c.in_ok-start.ensures.memory)
      (global-sound c.args.limit c.requires.low c.requires.high));
  once = c.in_ok-start.ensures.spells.once;
}
