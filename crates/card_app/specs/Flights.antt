-- What will be said of a command that lost power.
use Rattle.std.specs.Prelude.{Option, Some, None}
use Rattle.piv_model.specs.declared.kinds.Took.{Took}
use Rattle.piv_model.specs.declared.kinds.Took.TheVariants.{Nothing}
use Rattle.piv_model.specs.Commands.{CardCommand}
use Rattle.piv_model.specs.Memory.{Memory}
use Rattle.card_commands.specs.Executes.{asked}
use Rattle.card_commands.specs.Tells.{tells}
use Rattle.card_app.specs.declared.card.Flight.{Flight}

-- of the command in flight, if any, by the memory that stands
abbrev pub told_of : Option Flight → CardCommand → Option Memory → Took
told_of None k m = Nothing
told_of (Some f) k None = Nothing
told_of (Some f) k (Some m) = tells (asked m k) f.broken m
