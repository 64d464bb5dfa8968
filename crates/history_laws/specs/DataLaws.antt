-- Which replies have data (SP 800-73-4 part 2, the commands of the card edge).
use Rattle.std.specs.Prelude.{◌≡◌, ℕ, Bool, true, false, []}
use Rattle.piv_model.specs.declared.kinds.Application.TheVariants.{Piv}
use Rattle.piv_model.specs.Commands.{CardCommand}
use Rattle.piv_model.specs.Entries.{Past}
use Rattle.piv_model.specs.Base.{Base, profile}
use Rattle.piv_rules.specs.Asks.{Ask, Select, Get, Internal, AskChallenge, AskWitness, Mutual, ask}
use Rattle.piv_rules.specs.Answers.{answer}

-- SELECT of PIV, GET DATA, and GENERAL AUTHENTICATE but for the answer to a challenge
abbrev pub gives_data : Ask → Bool
gives_data (Select Piv) = true
gives_data (Get id) = true
gives_data (Internal x) = true
gives_data AskChallenge = true
gives_data AskWitness = true
gives_data (Mutual w x) = true
gives_data _ = false

-- no other reply has any: no comparison, no query, no logout and no PUT DATA tells more than its word
abbrev pub OthersHaveNoData : Type 0
OthersHaveNoData = (B : Base) (H : Past) (c : ℕ) (k : CardCommand) → gives_data (ask (profile B) k) ≡ false → (answer B H c k).body ≡ []
