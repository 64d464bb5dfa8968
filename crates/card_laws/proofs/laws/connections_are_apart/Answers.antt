use Rattle.card_laws.proofs.Apart.{FramesAreApart-law}
use Rattle.card_laws.proofs.laws.connections_are_apart.Goals as goal

pub returns-clause-frames : goal.returns-clause-frames
returns-clause-frames c = FramesAreApart-law
