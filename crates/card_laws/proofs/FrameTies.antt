-- A frame, by what an APDU makes of the open chain.
use Rattle.std.proofs.Common.{refl}
use Rattle.card_laws.specs.FrameLaws.{CommandsAreLinked, PiecesAreFetched}

pub frame-linked : CommandsAreLinked
frame-linked a chained waiting other = rw other refl

pub frame-fetches : PiecesAreFetched
frame-fetches a waiting is = rw is refl

pub ruleset frame_ties = (frame-linked, frame-fetches)
