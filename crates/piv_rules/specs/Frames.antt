-- What the bytes of an exchange are, after what the connection has exchanged before: chains of commands and pieces of
-- replies (ISO/IEC 7816-4, command chaining and GET RESPONSE; SP 800-73-4 part 2).
use Rattle.std.specs.Prelude.{ℕ, ◌-◌, Bool, not, ◌&&◌, ◌==◌, List, [], ◌∷◌, ◌++◌, length, take, drop, flat_map, Option, Some, None, is_none, Result, Ok, Err, if◌then◌else◌}
use Rattle.piv_model.specs.Commands.{CardCommand, CardApdu}
use Rattle.piv_model.specs.ApduForms.{apdu_spelled}
use Rattle.piv_model.specs.StatusWords.{piece_word}
use Rattle.piv_model.specs.Chains.{Link, PartOf, WholeOf, RefusedBy, linked}
use Rattle.piv_model.specs.Entries.{CardEntry, Past, Call, Part, Rest}
use Rattle.piv_model.specs.Base.{Base}
use Rattle.piv_rules.specs.StatusWords.{is_granted}
use Rattle.piv_rules.specs.Connections.{by_exchange}
use Rattle.piv_rules.specs.Answers.{answer}
use Rattle.piv_rules.specs.Acts.{CardAct, Exchange, CardAnswer, Replied, Records, entries}

-- the command in an act's bytes
abbrev pub command_read : Result CardApdu ℕ → List CardCommand
command_read (Err w) = []
command_read (Ok a) = a.command ∷ []

abbrev pub commands_of : CardAct → List CardCommand
commands_of (Exchange c known bytes) = command_read (apdu_spelled bytes)
commands_of _ = []

-- the commands of the Parts in which what c exchanged after its last break ends, the first of them first
abbrev pub part_step : List CardCommand → CardEntry → List CardCommand → List CardCommand
part_step ks (Part d) before = before ++ ks
part_step ks e before = []

abbrev pub parts : Records → ℕ → List CardCommand
parts [] c = []
parts (r ∷ R) c = by_exchange c [] (part_step (commands_of r.act) r.entry) (entries R) r.entry (parts R c)

-- the open chain: the first command's header with the data of all
abbrev pub joined : List CardCommand → Option CardCommand
joined [] = None
joined (k ∷ ks) = Some (record k { body = flat_map (λ j. j.body) (k ∷ ks) })

unfoldable pub chain : Records → ℕ → Option CardCommand
chain R c = joined (parts R c)

-- the data that an answer gave
abbrev pub given_length : CardAnswer → ℕ
given_length (Replied body word) = length body
given_length _ = 0

-- the data that wait on c: those of its last Call, where this was granted, without what it and the Rests after it gave
abbrev pub waiting_step : Base → Past → ℕ → ℕ → CardEntry → List ℕ → List ℕ
waiting_step B G c given (Call d k word block) before = if is_granted word then drop given (answer B G c k).body else []
waiting_step B G c given (Rest d) before = drop given before
waiting_step B G c given e before = []

unfoldable pub rest : Base → Records → ℕ → List ℕ
rest B [] c = []
rest B (r ∷ R) c =
    by_exchange c [] (waiting_step B (entries R) c (given_length r.answer) r.entry) (entries R) r.entry (rest B R c)

-- what an exchange's bytes are: a refusal, a part of a chain, a piece of the rest with its word, or a whole command
-- and how many bytes its reply may have
pub data Frame : Type 0 where
  BadFrame : ℕ → Frame
  PartFrame : Frame
  RestFrame : List ℕ → ℕ → Frame
  WholeFrame : CardCommand → ℕ → Frame

-- GET RESPONSE
abbrev pub next_piece : List ℕ → ℕ → Frame
next_piece [] most = BadFrame 0x6985
next_piece (b ∷ bs) most = RestFrame (take most (b ∷ bs)) (piece_word (length (b ∷ bs) - most))

abbrev pub get_response : CardCommand → ℕ → List ℕ → Frame
get_response k most waiting =
    if not (length k.body == 0) then BadFrame 0x6700
    else if not ((k.p1 == 0) && (k.p2 == 0)) then BadFrame 0x6A86
    else next_piece waiting most

abbrev pub is_get_response : CardApdu → Bool
is_get_response a = (a.class == 0x00) && (a.command.ins == 0xC0)

-- what an APDU makes of the chain, as a frame
abbrev pub frame_by : Link → ℕ → Frame
frame_by (PartOf k) most = PartFrame
frame_by (WholeOf k) most = WholeFrame k most
frame_by (RefusedBy w) most = BadFrame w

-- GET RESPONSE in the midst of a chain is no part of it
abbrev pub fetches : CardApdu → Option CardCommand → Bool
fetches a chained = is_none chained && is_get_response a

abbrev pub frame_of : Result CardApdu ℕ → Option CardCommand → List ℕ → Frame
frame_of (Err w) chained waiting = BadFrame w
frame_of (Ok a) chained waiting =
    if fetches a chained then get_response a.command a.most waiting
    else frame_by (linked chained a) a.most

unfoldable pub frame : Base → Records → ℕ → List ℕ → Frame
frame B R c bytes = frame_of (apdu_spelled bytes) (chain R c) (rest B R c)
