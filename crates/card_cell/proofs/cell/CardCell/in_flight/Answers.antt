use Rattle.std.specs.Prelude.{option_map}
use Rattle.std.proofs.Common.{sym, ap, ◌∙◌}
use Rattle.piv_model.specs.Base.{profile}
use Rattle.piv_model.specs.Commands.{command_of}
use Rattle.card_cell.specs.Counts.{comparison_running}
use Rattle.card_cell.proofs.cell.CardCell.in_flight.Goals as goal

pub returns-in-None : goal.returns-in-None
returns-in-None g c B R s =
    ap (comparison_running (profile B)) (sym (ap (option_map (λ r. (r.0, command_of r.1))) c.in-None.is) ∙ c.running.ensures.stands B R s.card c.requires.off)

pub returns-in-Some : goal.returns-in-Some
returns-in-Some g c B R s =
    c.comparison_in.ensures (profile B) (sym s.global)
    ∙ ap (comparison_running (profile B)) (sym (ap (option_map (λ r. (r.0, command_of r.1))) c.in-Some.is) ∙ c.running.ensures.stands B R s.card c.requires.off)
