-- The tables as a machine: the call, how many replies it has, and what it keeps of them (this project's own).
use Rattle.std.specs.Prelude.{ℕ, suc, Bool, true, false, List, [], ◌∷◌, Option, None, is_some, if◌then◌else◌}
use Rattle.piv_model.specs.declared.answers.ApiAnswer.{ApiAnswer}
use Rattle.card_acts.specs.Acts.{Heard}
use Rattle.client_api.specs.Calls.{Handle, Call, Replies, Asked, turn_of, act_after, with_data}
use Rattle.client_api.specs.Answers.{with_idle, by_last, handle_by, api_answer, handle_after}

pub data Going : Type 0 where
  -- the call, its turn, the data joined, and whether an earlier turn was answered 6D 00
  At : Call → ℕ → List ℕ → Bool → Going
  -- it has its answer, which is given by the next step
  Ended : ApiAnswer → Option Handle → Going
  -- it was Done
  Over : Going

abbrev pub start : Call → Going
start call =
    if is_some (turn_of call 0 []) then At call 0 [] false
    else Ended (api_answer call []) (handle_after call [])

abbrev pub asked : Going → Option Asked
asked (At call k body idle) = turn_of call k body
asked (Ended a h) = None
asked Over = None

-- where a reply takes a call; `body` has its data already
abbrev pub moved : Call → ℕ → List ℕ → Bool → Heard → Going
moved call k body idle r =
    if is_some (act_after call k body r) then At call (suc k) body (with_idle call idle r)
    else Ended (by_last call body idle r) (handle_by call r)

abbrev pub next : Going → Heard → Going
next (At call k body idle) r = moved call k (with_data call body r) idle r
next (Ended a h) r = Ended a h
next Over r = Over

-- where the replies so far have brought a call
abbrev pub after : Call → Replies → Going
after call [] = start call
after call (r ∷ rs) = next (after call rs) r

abbrev pub is_ended : Going → Bool
is_ended (Ended a h) = true
is_ended _ = false
