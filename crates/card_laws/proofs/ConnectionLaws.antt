-- How a connection changes by one record.
use Rattle.std.specs.Prelude.{if◌then◌else◌}
use Rattle.std.specs.List.{flat_map}
use Rattle.std.proofs.Common.{◌≡◌, ℕ, true, false, List, [], ◌∷◌, ◌++◌, Option, Some, None, refl, ap, ◌∙◌, eq-eqb, drop, append-nil}
use Rattle.std.proofs.lemmas.Grind.{flat_map-append}
use Rattle.piv_model.specs.Commands.{CardCommand}
use Rattle.piv_model.specs.Chains.{extended}
use Rattle.piv_model.specs.Entries.{CardEntry, Past, Opened, Closed, Call, Part, Rest, Bad, Reset, Cut, Up, Note}
use Rattle.piv_model.specs.Base.{Base}
use Rattle.piv_rules.specs.StatusWords.{is_granted}
use Rattle.piv_rules.specs.Connections.{breaks, is_exchange_on, opens, side, is_call_on}
use Rattle.piv_rules.specs.Answers.{answer}
use Rattle.piv_rules.specs.Acts.{CardAct, CardAnswer, CardRecord, Records, entries}
use Rattle.piv_rules.specs.Frames.{chain, rest, parts, joined, commands_of, given_length}
use Rattle.card_laws.specs.RecordLaws.{OthersLeaveConnections, BreaksBeginAnew, OpeningsBeginAnew, PartsExtendTheChain, RestsTakeFromWhatWaits, BadsEndTheChain, CallsAreExecuted}
use Rattle.card_laws.proofs.Channels.{channel-break, channel-call}
use Rattle.card_laws.proofs.Apart.{ChannelsAreApart-law, FramesAreApart-law}

-- ---- chains

pub chain-break : (R : Records) (r : CardRecord) (c : ℕ) → breaks c (entries R) r.entry ≡ true → chain (r ∷ R) c ≡ None
unfolding chain
chain-break R r c h = rw h refl

joined-more : (ks : List CardCommand) (k : CardCommand) → joined (ks ++ k ∷ []) ≡ Some (extended (joined ks) k)
joined-more [] k = ap (λ (b : List ℕ). Some (record k { body = b })) (append-nil k.body)
joined-more (j ∷ js) k =
    ap (λ (b : List ℕ). Some (record j { body = b }))
    (flat_map-append (λ (x : CardCommand). x.body) (j ∷ js) (k ∷ [])
    ∙ ap (λ (b : List ℕ). flat_map (λ (x : CardCommand). x.body) (j ∷ js) ++ b) (append-nil k.body))

pub chain-part : (R : Records) (c : ℕ) (act : CardAct) (told : CardAnswer) (k : CardCommand) → commands_of act ≡ k ∷ []
    → chain (record { act = act; entry = Part c; answer = told } ∷ R) c ≡ Some (extended (chain R c) k)
unfolding chain
chain-part R c act told k read = rw (eq-eqb c c refl, read) (joined-more (parts R c) k)

pub chain-call : (R : Records) (c : ℕ) (act : CardAct) (told : CardAnswer) (k : CardCommand) (word : ℕ) (block : Option (List ℕ))
    → chain (record { act = act; entry = Call c k word block; answer = told } ∷ R) c ≡ None
unfolding chain
chain-call R c act told k word block = rw (eq-eqb c c refl) refl

pub chain-rest : (R : Records) (c : ℕ) (act : CardAct) (told : CardAnswer)
    → chain (record { act = act; entry = Rest c; answer = told } ∷ R) c ≡ None
unfolding chain
chain-rest R c act told = rw (eq-eqb c c refl) refl

pub chain-bad : (R : Records) (c : ℕ) (act : CardAct) (told : CardAnswer) (word : ℕ)
    → chain (record { act = act; entry = Bad c word; answer = told } ∷ R) c ≡ None
unfolding chain
chain-bad R c act told word = rw (eq-eqb c c refl) refl

-- ---- data that wait

pub rest-break : (B : Base) (R : Records) (r : CardRecord) (c : ℕ) → breaks c (entries R) r.entry ≡ true → rest B (r ∷ R) c ≡ []
unfolding rest
rest-break B R r c h = rw h refl

pub rest-call : (B : Base) (R : Records) (c : ℕ) (act : CardAct) (told : CardAnswer) (k : CardCommand) (word : ℕ) (block : Option (List ℕ))
    → rest B (record { act = act; entry = Call c k word block; answer = told } ∷ R) c
    ≡ (if is_granted word then drop (given_length told) (answer B (entries R) c k).body else [])
unfolding rest
rest-call B R c act told k word block = rw (eq-eqb c c refl) refl

pub rest-rest : (B : Base) (R : Records) (c : ℕ) (act : CardAct) (told : CardAnswer)
    → rest B (record { act = act; entry = Rest c; answer = told } ∷ R) c ≡ drop (given_length told) (rest B R c)
unfolding rest
rest-rest B R c act told = rw (eq-eqb c c refl) refl

pub rest-part : (B : Base) (R : Records) (c : ℕ) (act : CardAct) (told : CardAnswer)
    → rest B (record { act = act; entry = Part c; answer = told } ∷ R) c ≡ []
unfolding rest
rest-part B R c act told = rw (eq-eqb c c refl) refl

pub rest-bad : (B : Base) (R : Records) (c : ℕ) (act : CardAct) (told : CardAnswer) (word : ℕ)
    → rest B (record { act = act; entry = Bad c word; answer = told } ∷ R) c ≡ []
unfolding rest
rest-bad B R c act told word = rw (eq-eqb c c refl) refl

-- ---- the connection as a whole

side-other : (H : Past) (e : CardEntry) (c : ℕ) → opens c H e ≡ false → side (e ∷ H) c ≡ side H c
side-other H (Opened d i shared) c h = rw h refl
side-other H (Closed d) c h = refl
side-other H (Call d k word block) c h = refl
side-other H (Part d) c h = refl
side-other H (Rest d) c h = refl
side-other H (Bad d word) c h = refl
side-other H (Reset i) c h = refl
side-other H (Cut r) c h = refl
side-other H (Up t) c h = refl
side-other H (Note a w) c h = refl

opens-breaks : (H : Past) (e : CardEntry) (c : ℕ) → breaks c H e ≡ false → opens c H e ≡ false
opens-breaks H (Opened d i shared) c h = h
opens-breaks H (Closed d) c h = refl
opens-breaks H (Call d k word block) c h = refl
opens-breaks H (Part d) c h = refl
opens-breaks H (Rest d) c h = refl
opens-breaks H (Bad d word) c h = refl
opens-breaks H (Reset i) c h = refl
opens-breaks H (Cut r) c h = refl
opens-breaks H (Up t) c h = refl
opens-breaks H (Note a w) c h = refl

call-exchange : (e : CardEntry) (c : ℕ) → is_exchange_on c e ≡ false → is_call_on c e ≡ false
call-exchange (Call d k word block) c h = h
call-exchange (Opened d i shared) c h = refl
call-exchange (Closed d) c h = refl
call-exchange (Part d) c h = refl
call-exchange (Rest d) c h = refl
call-exchange (Bad d word) c h = refl
call-exchange (Reset i) c h = refl
call-exchange (Cut r) c h = refl
call-exchange (Up t) c h = refl
call-exchange (Note a w) c h = refl

-- neither an exchange of c nor a break of c
pub attached-apart : OthersLeaveConnections
attached-apart B R r c apart unbroken =
    let s = side-other (entries R) r.entry c (opens-breaks (entries R) r.entry c unbroken) in
    let k = ChannelsAreApart-law B (entries R) r.entry c (call-exchange r.entry c apart) unbroken in
    let f = FramesAreApart-law B R r c apart unbroken in
    λ i. record { side = s i; channel = k i; chain = f.0 i; rest = f.1 i }

-- a reset of its side, or a loss of power
pub attached-break : BreaksBeginAnew
attached-break B R r c old broken =
    let s = side-other (entries R) r.entry c old in
    let k = channel-break B (entries R) c r.entry broken in
    let n = chain-break R r c broken in
    let w = rest-break B R r c broken in
    λ i. record { side = s i; channel = k i; chain = n i; rest = w i }

-- its opening
pub attached-opened : OpeningsBeginAnew
attached-opened B R c act told i shared =
    let r : CardRecord = record { act = act; entry = Opened c i shared; answer = told } in
    let broken : breaks c (entries R) (Opened c i shared) ≡ true = eq-eqb c c refl in
    let s : side (Opened c i shared ∷ entries R) c ≡ i = rw (eq-eqb c c refl) refl in
    let k = channel-break B (entries R) c (Opened c i shared) broken in
    let n = chain-break R r c broken in
    let w = rest-break B R r c broken in
    λ j. record { side = s j; channel = k j; chain = n j; rest = w j }

-- its own exchanges
pub attached-part : PartsExtendTheChain
attached-part B R c act told k read =
    let r : CardRecord = record { act = act; entry = Part c; answer = told } in
    let s = ChannelsAreApart-law B (entries R) (Part c) c refl refl in
    let n = chain-part R c act told k read in
    let w = rest-part B R c act told in
    λ i. record { side = side (entries R) c; channel = s i; chain = n i; rest = w i }

pub attached-rest : RestsTakeFromWhatWaits
attached-rest B R c act told =
    let s = ChannelsAreApart-law B (entries R) (Rest c) c refl refl in
    let n = chain-rest R c act told in
    let w = rest-rest B R c act told in
    λ i. record { side = side (entries R) c; channel = s i; chain = n i; rest = w i }

pub attached-bad : BadsEndTheChain
attached-bad B R c act told word =
    let s = ChannelsAreApart-law B (entries R) (Bad c word) c refl refl in
    let n = chain-bad R c act told word in
    let w = rest-bad B R c act told word in
    λ i. record { side = side (entries R) c; channel = s i; chain = n i; rest = w i }

pub attached-call : CallsAreExecuted
attached-call B R c act told k word block =
    let s = channel-call B (entries R) c k word block in
    let n = chain-call R c act told k word block in
    let w = rest-call B R c act told k word block in
    λ i. record { side = side (entries R) c; channel = s i; chain = n i; rest = w i }

pub ruleset connection_steps = (chain-break, chain-part, chain-call, chain-rest, chain-bad, rest-break, rest-call, rest-rest, rest-part, rest-bad)

pub ruleset attached_steps = (attached-apart, attached-break, attached-opened, attached-part, attached-rest, attached-bad, attached-call)
