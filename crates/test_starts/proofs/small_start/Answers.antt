-- The plain card is one that a card can be with five blocks, too.
use Rattle.std.proofs.Common.{refl, subst, sym}
use Rattle.piv_model.specs.Forms.{is_pin, is_discovery}
use Rattle.piv_model.specs.Memory.{Memory}
use Rattle.piv_model.specs.Sound.{IsSound}
use Rattle.piv_model.specs.PlainCard.{plain_memory}
use Rattle.piv_model.proofs.PlainLaws.{plain-sound}
use Rattle.test_starts.proofs.small_start.Goals as goal

small-sound : IsSound (record plain_memory { budget = 5 })
unfolding plain_memory is_pin is_discovery
small-sound = record {
  limits = plain-sound.limits;
  secrets = plain-sound.secrets;
  keys = plain-sound.keys;
  budget = refl;
  places = refl;
  lengths = refl;
  room = refl;
  discovery = refl;
}

pub returns : goal.returns
returns c = record {
  sound = subst (λ (m : Memory). IsSound (record m { budget = 5 })) (sym c.in_ok-start.ensures.memory) small-sound;
  once = c.in_ok-start.ensures.spells.once;
}
