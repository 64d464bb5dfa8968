-- A frame, by what an APDU makes of the open chain and of what waits.
use Rattle.std.specs.Prelude.{◌≡◌, ℕ, true, false, List, Option, None, Ok}
use Rattle.piv_model.specs.Commands.{CardCommand, CardApdu}
use Rattle.piv_model.specs.Chains.{linked}
use Rattle.piv_rules.specs.Frames.{frame_of, frame_by, fetches, is_get_response, get_response}

-- all but GET RESPONSE outside a chain joins the chain, or is whole
abbrev pub CommandsAreLinked : Type 0
CommandsAreLinked = (a : CardApdu) (chained : Option CardCommand) (waiting : List ℕ)
    → fetches a chained ≡ false
    → frame_of (Ok a) chained waiting ≡ frame_by (linked chained a) a.most

-- GET RESPONSE outside a chain takes a piece
abbrev pub PiecesAreFetched : Type 0
PiecesAreFetched = (a : CardApdu) (waiting : List ℕ) → is_get_response a ≡ true
    → frame_of (Ok a) None waiting ≡ get_response a.command a.most waiting
