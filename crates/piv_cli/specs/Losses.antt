-- The one loss of power among an input's lines.
use Rattle.std.specs.Prelude.{◌≡◌, true, [], ◌∷◌, ◌++◌, Some, ⊤}
use Rattle.piv_model.specs.declared.history.ActKind.TheVariants as kind
use Rattle.piv_model.specs.declared.history.Refusal.TheVariants as why
use Rattle.piv_model.specs.Commands.{CardCommand}
use Rattle.piv_model.specs.Entries.{Cut, Note}
use Rattle.piv_model.specs.Base.{Base}
use Rattle.piv_rules.specs.Acts.{CardRecord, Records, entries}
use Rattle.piv_rules.specs.Connections.{on}
use Rattle.piv_rules.specs.Legal.{IsAllowed}

-- each of these exchanges found the card without power
abbrev pub AreMute : Records → Type 0
AreMute [] = ⊤
AreMute (r ∷ R) = (r.entry ≡ Note (kind.Exchange 1) why.Mute) × AreMute R

-- power was lost within one command, where the rules allow that; the card was on before it, and mute after it
pub record LosesPowerOnce (B : Base) (R : Records) : Type 0 where
  pub later : Records
  pub lost : CardRecord
  pub earlier : Records
  pub command : CardCommand
  pub split : R ≡ later ++ lost ∷ earlier
  pub entry : lost.entry ≡ Cut (Some (1, command))
  pub allowed : IsAllowed B (entries earlier) lost.entry
  pub powered : on (entries earlier) ≡ true
  pub mute : AreMute later
