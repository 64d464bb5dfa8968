use Rattle.std.proofs.Common.{map, Vec, Global}
use Rattle.piv_model.specs.declared.answers.ApiAnswer.{ApiAnswer}
use Rattle.piv_model.specs.declared.history.History.{History}
use Rattle.piv_ports.proofs.Writing.{Writes-then}
use Rattle.run_text.specs.RunTexts.{scripts_text, cards_text}
use Rattle.run_text.proofs.run.print_run.Goals as goal

pub returns : goal.returns
returns g c =
    Writes-then g.K.Sink.taken g.K.Sink.flushed g.K.Sink.faults (scripts_text c.args.scene.now.scripts (map (λ (a : Vec ApiAnswer Global). a.items) c.args.answers.now))
    (cards_text c.args.scene.now.cards (map (λ (h : History). h.past) c.args.histories.now)) c.args.sink.now c.print_scripts.new.sink _ c.print_cards.result
    c.in_ok-print_scripts.ensures c.print_cards.ensures
