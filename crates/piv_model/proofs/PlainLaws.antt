-- The memory of the plain card.
use Rattle.std.proofs.Common.{◌≡◌, refl, map}
use Rattle.std.specs.List.{range_with_len}
use Rattle.piv_model.specs.declared.kinds.RefId.TheVariants.{Pin, Puk, GlobalPin}
use Rattle.piv_model.specs.declared.kinds.KeyId.TheVariants.{AdminKey, CardAuth}
use Rattle.piv_model.specs.Forms.{is_pin, is_discovery}
use Rattle.piv_model.specs.Sound.{IsSound}
use Rattle.piv_model.specs.Starts.{value_at}
use Rattle.piv_model.specs.PlainCard.{plain_memory, plain_objects, plain_pairs}

pub plain-objects : map (value_at plain_pairs) (range_with_len 0 33) ≡ plain_objects
plain-objects = refl

pub plain-sound : IsSound plain_memory
unfolding plain_memory is_pin is_discovery
plain-sound = record {
  limits = elim [ Pin ↦ λ h. refl | Puk ↦ λ h. refl | GlobalPin ↦ λ h. absurd (cc) ];
  secrets = elim [ Pin ↦ λ h. refl | Puk ↦ λ h. refl | GlobalPin ↦ λ h. absurd (cc) ];
  keys = elim [ AdminKey ↦ refl | CardAuth ↦ refl ];
  budget = refl;
  places = refl;
  lengths = refl;
  room = refl;
  discovery = refl;
}
