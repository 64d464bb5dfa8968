-- What is so of every output of `apdu`.
use Rattle.std.specs.Prelude.{◌≡◌, ℕ, true, false, List}
use Rattle.piv_model.specs.Base.{Base}
use Rattle.piv_rules.specs.Acts.{Records}
use Rattle.piv_cli.specs.Lines.{AreLines, has_dash}
use Rattle.piv_cli.specs.Losses.{LosesPowerOnce}

-- where no power was lost, an input has one output
abbrev pub OutputsAreOne : Type 0
OutputsAreOne =
    (B : Base) (input out other : List ℕ) (R S : Records) → AreLines B input out R → AreLines B input other S
    → has_dash out ≡ false → has_dash other ≡ false → out ≡ other

-- where a line is a dash, power was lost once, within a command that may lose it there, and the card was mute afterwards
abbrev pub DashesBeginAtALoss : Type 0
DashesBeginAtALoss =
    (B : Base) (input out : List ℕ) (R : Records) → AreLines B input out R → has_dash out ≡ true → LosesPowerOnce B R
