-- What was acknowledged is in the memory of a history.
use Rattle.std.proofs.Common.{ap, ◌≡◌, ◌∙◌}
use Rattle.piv_model.specs.declared.kinds.RefId.TheVariants.{Pin}
use Rattle.piv_model.specs.Entries.{Past}
use Rattle.piv_model.specs.Memory.{reference, stored}
use Rattle.piv_model.specs.Base.{Base}
use Rattle.piv_rules.specs.Memories.{mem}
use Rattle.command_laws.proofs.Lasting.{ObjectsLast-law, SecretsLast-law, UnblockedPinsLast-law}
use Rattle.card_cell.specs.Acknowledged.{HasAcknowledged}

pub acknowledged-lasts : (B : Base) (H : Past) → HasAcknowledged B H (mem B H)
acknowledged-lasts B H = record {
  objects = λ L G c k word block id v whole asks granted small since.
      ap (λ P. stored (mem B P) id) whole ∙ ObjectsLast-law B G L c k word block id v asks granted small since;
  secrets = λ L G c k word block r p n whole asks granted have since.
      ap (λ P. (reference (mem B P) r).secret) whole ∙ SecretsLast-law B G L c k word block r p n asks granted have since;
  unblocked = λ L G c k word block r p n whole asks granted since.
      ap (λ P. (reference (mem B P) Pin).secret) whole ∙ UnblockedPinsLast-law B G L c k word block r p n asks granted since;
}

pub ruleset acknowledged_laws = (acknowledged-lasts)
