use Rattle.std.proofs.Common.{Ok, map}
use Rattle.std.specs.List.{zip}
use Rattle.piv_ports.specs.Writes.{Writes}
use Rattle.run_text.specs.RunTexts.{card_text}
use Rattle.run_text.proofs.Pieces.{up_to}
use Rattle.run_text.proofs.run.print_cards.Given as goal

abbrev pub invariant-cards : goal.invariant-cards
invariant-cards g l =
    Writes g.K.Sink.taken g.K.Sink.flushed g.K.Sink.faults (up_to (λ c. card_text c.0.name c.1) (zip l.scene.cards (map (λ h. h.past) l.histories)) l.k)
    l.initial.sink l.sink (Ok tt)
