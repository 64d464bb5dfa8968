use Rattle.std.proofs.Common.{◌≡◌, drop}
use Rattle.client_api.specs.Readers.{card_of}
use Rattle.client_api.proofs.readers.Readers.find_card.Given as goal

abbrev pub invariant-loop-c : goal.invariant-loop-c
invariant-loop-c l = card_of l.c-items l.name ≡ card_of (drop l.c-index l.c-items) l.name
