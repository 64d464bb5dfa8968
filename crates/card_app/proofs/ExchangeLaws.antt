-- What a card stands for after an exchange.
use Rattle.std.specs.Prelude.{◌&&◌, if◌then◌else◌, option_map}
use Rattle.std.proofs.Common.{◌≡◌, ◌≤◌, ◌+◌, ℕ, true, false, List, [], ◌∷◌, Option, Some, None, refl, ap, sym, ◌∙◌, subst, inl, inr, length, eq-eqb}
use Rattle.piv_model.specs.declared.kinds.Took.{Took}
use Rattle.piv_model.specs.Commands.{CardCommand}
use Rattle.piv_model.specs.Memory.{Memory}
use Rattle.piv_model.specs.Sound.{IsSound}
use Rattle.piv_model.specs.Stores.{StoreState}
use Rattle.piv_model.specs.Base.{Base, Profile, profile, profile_of}
use Rattle.piv_model.specs.Entries.{CardEntry, Past, Call, Part, Rest, Bad, Cut, Up}
use Rattle.piv_rules.specs.Asks.{Ask, ask}
use Rattle.piv_rules.specs.Acts.{Exchange, Replied, Mute, Records, entries}
use Rattle.piv_rules.specs.Answers.{Reply, answer, answer_in, situation}
use Rattle.piv_rules.specs.Channels.{channel, after_call}
use Rattle.piv_rules.specs.Connections.{on, side, epoch}
use Rattle.piv_rules.specs.Effects.{memory_after, took_by}
use Rattle.piv_rules.specs.Frames.{BadFrame, PartFrame, RestFrame, WholeFrame}
use Rattle.piv_rules.specs.Legal.{IsAllowed, asks_block, block_borne}
use Rattle.piv_rules.specs.Losses.{MayTake}
use Rattle.piv_rules.specs.Memories.{mem}
use Rattle.piv_rules.specs.RandomBlocks.{next_block}
use Rattle.piv_rules.specs.StatusWords.{is_granted}
use Rattle.piv_rules.specs.Turns.{cut_reply, called}
use Rattle.piv_rules.proofs.Memories.{mem-step, profile_of-mem}
use Rattle.card_laws.specs.StandsFor.{Attached, CardState, StandsFor}
use Rattle.card_laws.specs.ConnectionSteps.{with_at, after_part, after_rest, after_bad, after_command, after_cut}
use Rattle.card_laws.proofs.ConnectionLaws.{attached-part, attached-rest, attached-bad, attached-call}
use Rattle.card_laws.proofs.StandsLaws.{attached-open, turned-exchange, stands-exchanged, stands-lost}
use Rattle.card_laws.proofs.LossLaws.{ToldMayBeTaken-law}
use Rattle.card_commands.specs.declared.executed.Broken.{Broken}
use Rattle.card_commands.specs.declared.executed.Executed.{Executed}
use Rattle.card_commands.specs.Tells.{tells, IsApt}
use Rattle.card_commands.specs.Carried.{Breaks, last_lines_word}
use Rattle.card_commands.specs.Executes.{asked, replied, borne}
use Rattle.card_commands.proofs.LossLemmas.{told-broken, lost-word}
use Rattle.card_app.specs.Exchanges.{IsPart, IsRest, IsBad, IsCall, IsLost}

-- ---- a part, a further piece, a refusal

pub exchange-part : (B : Base) (R : Records) (old new : CardState) (attached after : ℕ → Option Attached) (so sn : StoreState) (c known : ℕ) (bytes : List ℕ) (x y : Attached)
    → StandsFor B R old attached → old.on ≡ true → attached c ≡ Some x → epoch (entries R) x.side ≤ known
    → IsPart bytes x y so sn → old.memory ≡ so.mem → new.memory ≡ sn.mem → new.on ≡ true
    → ((d : ℕ) → after d ≡ with_at c (Some y) attached d)
    → StandsFor B (record { act = Exchange c known bytes; entry = Part c; answer = Replied [] 0x9000 } ∷ R) new after
exchange-part B R old new attached after so sn c known bytes x y stands is_on is fresh part was now on_now sets =
    let H : Past = entries R in
    let turned = turned-exchange B R old attached c known bytes x PartFrame (Part c) (Replied [] 0x9000) stands is_on is fresh part.frame (refl, refl) in
    let same = (attached-open B R old attached c x stands is).1 in
    stands-exchanged B R (record { act = Exchange c known bytes; entry = Part c; answer = Replied [] 0x9000 }) old new attached after c x y stands is_on is turned (eq-eqb c c refl)
    (attached-part B R c (Exchange c known bytes) (Replied [] 0x9000) part.apdu.command (rw part.read refl) ∙ ap (after_part part.apdu.command) same ∙ sym part.connection)
    on_now (now ∙ ap (λ (s : StoreState). s.mem) part.store ∙ sym was ∙ stands.memory is_on ∙ ap Some (sym (mem-step B H (Part c)))) sets

pub exchange-rest : (B : Base) (R : Records) (old new : CardState) (attached after : ℕ → Option Attached) (so sn : StoreState) (c known last : ℕ) (bytes piece : List ℕ) (x y : Attached)
    → StandsFor B R old attached → old.on ≡ true → attached c ≡ Some x → epoch (entries R) x.side ≤ known
    → IsRest bytes piece last x y so sn → old.memory ≡ so.mem → new.memory ≡ sn.mem → new.on ≡ true
    → ((d : ℕ) → after d ≡ with_at c (Some y) attached d)
    → StandsFor B (record { act = Exchange c known bytes; entry = Rest c; answer = Replied piece last } ∷ R) new after
exchange-rest B R old new attached after so sn c known last bytes piece x y stands is_on is fresh given was now on_now sets =
    let H : Past = entries R in
    let turned = turned-exchange B R old attached c known bytes x (RestFrame piece last) (Rest c) (Replied piece last) stands is_on is fresh given.frame (refl, refl) in
    let same = (attached-open B R old attached c x stands is).1 in
    stands-exchanged B R (record { act = Exchange c known bytes; entry = Rest c; answer = Replied piece last }) old new attached after c x y stands is_on is turned (eq-eqb c c refl)
    (attached-rest B R c (Exchange c known bytes) (Replied piece last) ∙ ap (after_rest (length piece)) same ∙ sym given.connection)
    on_now (now ∙ ap (λ (s : StoreState). s.mem) given.store ∙ sym was ∙ stands.memory is_on ∙ ap Some (sym (mem-step B H (Rest c)))) sets

pub exchange-bad : (B : Base) (R : Records) (old new : CardState) (attached after : ℕ → Option Attached) (so sn : StoreState) (c known word : ℕ) (bytes : List ℕ) (x y : Attached)
    → StandsFor B R old attached → old.on ≡ true → attached c ≡ Some x → epoch (entries R) x.side ≤ known
    → IsBad bytes word x y so sn → old.memory ≡ so.mem → new.memory ≡ sn.mem → new.on ≡ true
    → ((d : ℕ) → after d ≡ with_at c (Some y) attached d)
    → StandsFor B (record { act = Exchange c known bytes; entry = Bad c word; answer = Replied [] word } ∷ R) new after
exchange-bad B R old new attached after so sn c known word bytes x y stands is_on is fresh bad was now on_now sets =
    let H : Past = entries R in
    let turned = turned-exchange B R old attached c known bytes x (BadFrame word) (Bad c word) (Replied [] word) stands is_on is fresh bad.frame (refl, refl) in
    let same = (attached-open B R old attached c x stands is).1 in
    stands-exchanged B R (record { act = Exchange c known bytes; entry = Bad c word; answer = Replied [] word }) old new attached after c x y stands is_on is turned (eq-eqb c c refl)
    (attached-bad B R c (Exchange c known bytes) (Replied [] word) word ∙ ap after_bad same ∙ sym bad.connection)
    on_now (now ∙ ap (λ (s : StoreState). s.mem) bad.store ∙ sym was ∙ stands.memory is_on ∙ ap Some (sym (mem-step B H (Bad c word)))) sets

-- ---- a command

-- the answer, by what is kept of the connection
pub answer-kept : (B : Base) (R : Records) (old : CardState) (attached : ℕ → Option Attached) (c : ℕ) (x : Attached) (k : CardCommand) (block : List ℕ)
    → StandsFor B R old attached → attached c ≡ Some x → block ≡ next_block B (entries R)
    → answer B (entries R) c k ≡ replied (mem B (entries R)) x.side block x.channel k
unfolding answer channel
answer-kept B R old attached c x k block stands is next =
    let H : Past = entries R in
    let same = (attached-open B R old attached c x stands is).1 in
    let p : profile B ≡ profile_of (mem B H) = sym (profile_of-mem B H) in
    λ j. answer_in (p j) (situation (mem B H) (same j).side (sym next j) (same j).channel) k

pub asked-kept : (B : Base) (H : Past) (k : CardCommand) → asked (mem B H) k ≡ ask (profile B) k
asked-kept B H k = ap (λ (p : Profile). ask p k) (profile_of-mem B H)

pub exchange-call : (put_cost : ℕ → ℕ) (B : Base) (R : Records) (old new : CardState) (attached after : ℕ → Option Attached) (so sn : StoreState) (c known last : ℕ) (done : Executed) (bytes block piece : List ℕ) (k : CardCommand) (x y : Attached)
    → StandsFor B R old attached → old.on ≡ true → attached c ≡ Some x → epoch (entries R) x.side ≤ known
    → block ≡ next_block B (entries R)
    → IsCall put_cost bytes block done last k piece x y so sn → old.memory ≡ so.mem → new.memory ≡ sn.mem → new.on ≡ true
    → ((d : ℕ) → after d ≡ with_at c (Some y) attached d)
    → StandsFor B (record { act = Exchange c known bytes; entry = Call c k done.sw (if done.drew then Some block else None); answer = Replied piece last } ∷ R) new after
exchange-call put_cost B R old new attached after so sn c known last done bytes block piece k x y stands is_on is fresh next call was now on_now sets =
    let H : Past = entries R in
    let a : Ask = ask (profile B) k in
    let told : so.mem ≡ Some (mem B H) = sym was ∙ stands.memory is_on in
    let answered = call.answered (mem B H) told in
    let asks = asked-kept B H k in
    let same = (attached-open B R old attached c x stands is).1 in
    let bears : Option (List ℕ) = if done.drew then Some block else None in
    let says : answer B H c k ≡ record { word = done.sw; body = call.body } = answer-kept B R old attached c x k block stands is next ∙ answered.says in
    let is_borne : block_borne B H k (answer B H c k).word ≡ bears =
    (λ j. if asks_block (sym asks j) && is_granted (says j).word then Some (sym next j) else None)
    ∙ (λ j. if sym answered.draws j then Some block else None) in
    let e : CardEntry = Call c k done.sw bears in
    let is_called : e ≡ called B H c k = λ j. Call c k (sym says j).word (sym is_borne j) in
    let replies : Replied piece last ≡ cut_reply (answer B H c k) call.most = sym call.reply ∙ ap (λ (r : Reply). cut_reply r call.most) (sym says) in
    let turned = turned-exchange B R old attached c known bytes x (WholeFrame k call.most) e (Replied piece last) stands is_on is fresh
    call.frame (inl (is_called, replies)) in
    let borne_is : borne (asked (mem B H) k) done.sw block ≡ bears = λ j. if sym answered.draws j then Some block else None in
    let became : y ≡ after_command a done.sw bears call.body (length piece) x = λ j. record {
      side = call.left.side j;
      channel = (answered.channel ∙ (λ i. after_call (asks i) done.sw (borne_is i) x.channel)) j;
      chain = call.left.chain j;
      rest = call.left.rest j;
    } in
    stands-exchanged B R (record { act = Exchange c known bytes; entry = e; answer = Replied piece last }) old new attached after c x y stands is_on is turned (eq-eqb c c refl)
    (attached-call B R c (Exchange c known bytes) (Replied piece last) k done.sw bears
    ∙ (λ j. after_command a done.sw bears (says j).body (length piece) (same j)) ∙ sym became)
    on_now
    (now ∙ ap (λ (s : StoreState). s.mem) answered.memory ∙ ap (option_map (memory_after (asked (mem B H) k) (took_by done.sw))) told
    ∙ (λ j. Some (memory_after (asks j) (took_by done.sw) (mem B H))) ∙ ap Some (sym (mem-step B H e))) sets

-- ---- a command that lost power

pub exchange-lost : (put_cost : ℕ → ℕ) (B : Base) (R : Records) (old new : CardState) (attached after : ℕ → Option Attached) (so sn : StoreState) (now : Memory) (c known : ℕ) (broken : Broken) (bytes block : List ℕ) (k : CardCommand) (x : Attached)
    → StandsFor B R old attached → old.on ≡ true → attached c ≡ Some x → epoch (entries R) x.side ≤ known
    → block ≡ next_block B (entries R) → IsSound (mem B (entries R))
    → IsLost put_cost bytes block broken k x so sn → old.memory ≡ so.mem → sn.mem ≡ Some now
    → new.on ≡ false → new.running ≡ Some (c, k) → new.memory ≡ Some now → new.took ≡ tells (asked now k) broken now
    → ((d : ℕ) → after d ≡ option_map after_cut (attached d))
    → StandsFor B (record { act = Exchange c known bytes; entry = Cut (Some (c, k)); answer = Mute (epoch (entries R) (side (entries R) c) + 1) } ∷ R) new after
exchange-lost put_cost B R old new attached after so sn now c known broken bytes block k x stands is_on is fresh next sound lost was stood off_now ran memory took sets =
    let H : Past = entries R in
    let m : Memory = mem B H in
    let a : Ask = ask (profile B) k in
    let told : so.mem ≡ Some m = sym was ∙ stands.memory is_on in
    let asks = asked-kept B H k in
    let broke = lost.broke m told in
    let breaks = subst (λ (b : Ask). Breaks put_cost b broken so sn) asks broke.breaks in
    let apt = subst (λ (b : Ask). IsApt m b) asks broke.apt in
    let word = lost-word put_cost a broken so sn m sound apt told breaks in
    let line : (answer B H c k).word ≡ last_lines_word m a =
    ap (λ (r : Reply). r.word) (answer-kept B R old attached c x k block stands is next) ∙ broke.word
    ∙ ap (last_lines_word m) asks in
    let opened = (attached-open B R old attached c x stands is).0 in
    let power : on H ≡ true = sym stands.power ∙ is_on in
    let allowed : IsAllowed B H (Cut (Some (c, k))) = (power, opened, word.0, rw line word.1) in
    let turned = turned-exchange B R old attached c known bytes x (WholeFrame k lost.most) (Cut (Some (c, k))) (Mute (epoch H (side H c) + 1)) stands is_on is fresh
    lost.frame (inr (refl, allowed, refl)) in
    let is_told = told-broken put_cost a broken so sn m now sound apt told stood breaks in
    let may = ToldMayBeTaken-law B H c k (tells a broken now) now is_told in
    let later : asked now k ≡ a = ap (λ (n : Memory). asked n k) may.1 ∙ asked-kept B (Up (tells a broken now) ∷ Cut (Some (c, k)) ∷ H) k in
    let same_took : tells a broken now ≡ new.took = ap (λ (b : Ask). tells b broken now) (sym later) ∙ sym took in
    stands-lost B R (Exchange c known bytes) (Mute (epoch H (side H c) + 1)) old new attached after c k stands turned off_now ran
    (subst (λ (t : Took). MayTake B (Cut (Some (c, k)) ∷ H) t) same_took may.0)
    (memory ∙ ap Some may.1 ∙ (λ j. Some (mem B (Up (same_took j) ∷ Cut (Some (c, k)) ∷ H)))) sets
