-- How one connection changes by one record more (this project's own).
use Rattle.std.specs.Prelude.{◌≡◌, ℕ, Bool, true, false, List, [], ◌∷◌, Option}
use Rattle.piv_model.specs.declared.kinds.Interface.{Interface}
use Rattle.piv_model.specs.Commands.{CardCommand}
use Rattle.piv_model.specs.Entries.{◌▸◌, Opened, Call, Part, Rest, Bad}
use Rattle.piv_model.specs.Base.{Base, profile}
use Rattle.piv_rules.specs.Asks.{ask}
use Rattle.piv_rules.specs.Connections.{breaks, is_exchange_on, opens, side}
use Rattle.piv_rules.specs.Answers.{answer}
use Rattle.piv_rules.specs.Acts.{CardAct, CardAnswer, CardRecord, Records, entries}
use Rattle.piv_rules.specs.Frames.{commands_of, given_length}
use Rattle.card_laws.specs.StandsFor.{attached_of}
use Rattle.card_laws.specs.ConnectionSteps.{fresh_on, after_part, after_rest, after_bad, after_command}

-- an entry that is neither an exchange of c nor a break of c leaves it
abbrev pub OthersLeaveConnections : Type 0
OthersLeaveConnections = (B : Base) (R : Records) (r : CardRecord) (c : ℕ)
    → is_exchange_on c r.entry ≡ false → breaks c (entries R) r.entry ≡ false
    → attached_of B (R ▸ r) c ≡ attached_of B R c

-- a reset of its side, or a loss of power, puts c back to the start
abbrev pub BreaksBeginAnew : Type 0
BreaksBeginAnew = (B : Base) (R : Records) (r : CardRecord) (c : ℕ)
    → opens c (entries R) r.entry ≡ false → breaks c (entries R) r.entry ≡ true
    → attached_of B (R ▸ r) c ≡ fresh_on (side (entries R) c)

-- c is opened
abbrev pub OpeningsBeginAnew : Type 0
OpeningsBeginAnew = (B : Base) (R : Records) (c : ℕ) (act : CardAct) (told : CardAnswer) (i : Interface) (shared : Bool)
    → attached_of B (R ▸ record { act = act; entry = Opened c i shared; answer = told }) c ≡ fresh_on i

-- a part of a chain
abbrev pub PartsExtendTheChain : Type 0
PartsExtendTheChain = (B : Base) (R : Records) (c : ℕ) (act : CardAct) (told : CardAnswer) (k : CardCommand)
    → commands_of act ≡ k ∷ []
    → attached_of B (R ▸ record { act = act; entry = Part c; answer = told }) c ≡ after_part k (attached_of B R c)

-- a piece of a reply
abbrev pub RestsTakeFromWhatWaits : Type 0
RestsTakeFromWhatWaits = (B : Base) (R : Records) (c : ℕ) (act : CardAct) (told : CardAnswer)
    → attached_of B (R ▸ record { act = act; entry = Rest c; answer = told }) c
    ≡ after_rest (given_length told) (attached_of B R c)

-- bytes that are refused
abbrev pub BadsEndTheChain : Type 0
BadsEndTheChain = (B : Base) (R : Records) (c : ℕ) (act : CardAct) (told : CardAnswer) (word : ℕ)
    → attached_of B (R ▸ record { act = act; entry = Bad c word; answer = told }) c ≡ after_bad (attached_of B R c)

-- a command
abbrev pub CallsAreExecuted : Type 0
CallsAreExecuted = (B : Base) (R : Records) (c : ℕ) (act : CardAct) (told : CardAnswer) (k : CardCommand) (word : ℕ)
    (block : Option (List ℕ))
    → attached_of B (R ▸ record { act = act; entry = Call c k word block; answer = told }) c
    ≡ after_command (ask (profile B) k) word block (answer B (entries R) c k).body (given_length told) (attached_of B R c)
