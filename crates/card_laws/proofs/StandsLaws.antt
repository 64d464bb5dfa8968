-- What a card stands for after one more record.
use Rattle.std.specs.Prelude.{◌==◌, if◌then◌else◌, not, ◌&&◌, nat_lt, option_map}
use Rattle.std.proofs.Common.{◌≡◌, ◌+◌, ℕ, Bool, true, false, ◌∷◌, Option, Some, None, refl, ap, sym, ◌∙◌, eqb-true, subst, arith}
use Rattle.std.proofs.lemmas.Bool.Decides.{nat_tests}
use Rattle.piv_model.specs.declared.kinds.Interface.{Interface}
use Rattle.piv_model.specs.declared.kinds.Took.TheVariants.{Nothing}
use Rattle.piv_model.specs.declared.history.Refusal.{Refusal}
use Rattle.piv_model.specs.Commands.{CardCommand}
use Rattle.piv_model.specs.ApduForms.{apdu_spelled}
use Rattle.piv_model.specs.Memory.{Memory}
use Rattle.piv_model.specs.Entries.{CardEntry, Past, Opened, Closed, Call, Part, Rest, Bad, Reset, Cut, Up, Note}
use Rattle.piv_model.specs.Base.{Base, profile}
use Rattle.piv_rules.specs.Lookback.{some_entry}
use Rattle.piv_rules.specs.Asks.{ask}
use Rattle.piv_rules.specs.Connections.{on, is_open, side, epoch, breaks, is_exchange_on, same_side, opens, closes}
use Rattle.piv_rules.specs.Effects.{memory_by}
use Rattle.piv_rules.specs.Memories.{mem, running, did}
use Rattle.piv_rules.specs.Losses.{MayBeSaid}
use Rattle.piv_rules.specs.Legal.{opened_count}
use Rattle.piv_rules.specs.Acts.{CardAct, CardAnswer, Connect, Disconnect, Exchange, ResetSide, CutPower, PowerOn, Connected, Disconnected, WasReset, WasCut, IsUp, CardRecord, Records, entries}
use Rattle.piv_rules.specs.Frames.{Frame, frame, frame_of}
use Rattle.piv_rules.specs.Turns.{Runs, IsTurnedBy, IsExchanged, refused, kind_of, answer_of, epoch_told}
use Rattle.piv_rules.proofs.Memories.{mem-step}
use Rattle.piv_rules.proofs.Legality.{IsLegal-runs}
use Rattle.card_laws.specs.StandsFor.{Attached, attached_of, CardState, WillTake, StandsFor}
use Rattle.card_laws.specs.StandsLaws.{AttachedAreOpen, OthersAreClosed, StandsOpened, StandsClosed, StandsNoted, StandsReset, StandsCut, ExchangesAreTurned, StandsExchanged, StandsLost, StandsUp}
use Rattle.card_laws.specs.NumberLaws.{IsUnused}
use Rattle.card_laws.specs.ConnectionSteps.{fresh_on, with_at, after_reset, after_cut}
use Rattle.card_laws.proofs.LossLaws.{CutsLeaveTheMemory-law, UpsTellTheMemory-law, NothingMayBeTaken-law}
use Rattle.card_laws.proofs.Numbers.{unused-above}
use Rattle.card_laws.proofs.ConnectionLaws.{attached-apart, attached-break, attached-opened}

true-false : {A : Type 0} → true ≡ false → A
true-false h = absurd (cc)

-- ---- a card that is on, and one that is off

stands-on : (B : Base) (R : Records) (card : CardState) (attached : ℕ → Option Attached) → Runs B R → on (entries R) ≡ true
    → ((c : ℕ) → attached c ≡ (if is_open (entries R) c then Some (attached_of B R c) else None))
    → card.on ≡ true → card.memory ≡ Some (mem B (entries R)) → StandsFor B R card attached
stands-on B R card attached runs power connections is_on memory = record {
  runs = runs;
  power = is_on ∙ sym power;
  connections = connections;
  memory = λ h. memory;
  off = λ h. true-false (sym h ∙ ap not is_on);
}

stands-off : (B : Base) (R : Records) (card : CardState) (attached : ℕ → Option Attached) → Runs B R → on (entries R) ≡ false
    → ((c : ℕ) → attached c ≡ (if is_open (entries R) c then Some (attached_of B R c) else None))
    → card.on ≡ false → WillTake B R card → StandsFor B R card attached
stands-off B R card attached runs power connections is_off will = record {
  runs = runs;
  power = is_off ∙ sym power;
  connections = connections;
  memory = λ h. true-false (sym h ∙ is_off);
  off = λ h. will;
}

-- an attached connection is open, and is what the history says of it
pub attached-open : AttachedAreOpen
attached-open B R card attached c x stands is = go (is_open (entries R) c) (sym is ∙ stands.connections c)
  where
    go : (b : Bool) → Some x ≡ (if b then Some (attached_of B R c) else None) → (b ≡ true) × (attached_of B R c ≡ x)
    go true h = (refl, cc)
    go false h = absurd (cc)

pub unattached-closed : OthersAreClosed
unattached-closed B R card attached c stands is = go (is_open (entries R) c) (sym is ∙ stands.connections c)
  where
    go : (b : Bool) → None ≡ (if b then Some (attached_of B R c) else None) → b ≡ false
    go false h = refl
    go true h = absurd (cc)

-- ---- connections after a record

-- an exchange of c
connections-own : (B : Base) (R : Records) (r : CardRecord) (c : ℕ) (x : Attached) (attached after : ℕ → Option Attached)
    → ((d : ℕ) → attached d ≡ (if is_open (entries R) d then Some (attached_of B R d) else None))
    → is_open (entries R) c ≡ true
    → ((d : ℕ) → is_open (r.entry ∷ entries R) d ≡ is_open (entries R) d)
    → ((d : ℕ) → is_exchange_on d r.entry ≡ (c == d))
    → ((d : ℕ) → breaks d (entries R) r.entry ≡ false)
    → attached_of B (r ∷ R) c ≡ x
    → ((d : ℕ) → after d ≡ with_at c (Some x) attached d)
    → (d : ℕ) → after d ≡ (if is_open (r.entry ∷ entries R) d then Some (attached_of B (r ∷ R) d) else None)
connections-own B R r c x attached after connections opened same own unbroken is sets d = sets d ∙ go (c == d) refl
  where
    go : (b : Bool) → (c == d) ≡ b
        → (if b then Some x else attached d) ≡ (if is_open (r.entry ∷ entries R) d then Some (attached_of B (r ∷ R) d) else None)
    go true e =
        let n : c ≡ d = eqb-true c d e in
        let P : ℕ → Type 0 = λ (j : ℕ). Some x ≡ (if is_open (r.entry ∷ entries R) j then Some (attached_of B (r ∷ R) j) else None) in
        subst P n (rw (same c, opened, is) refl)
    go false e = connections d ∙ rw (same d, attached-apart B R r d (own d ∙ e) (unbroken d)) refl

-- an entry that no connection has a part in
connections-same : (B : Base) (R : Records) (r : CardRecord) (attached : ℕ → Option Attached)
    → ((d : ℕ) → attached d ≡ (if is_open (entries R) d then Some (attached_of B R d) else None))
    → ((d : ℕ) → is_open (r.entry ∷ entries R) d ≡ is_open (entries R) d)
    → ((d : ℕ) → is_exchange_on d r.entry ≡ false)
    → ((d : ℕ) → breaks d (entries R) r.entry ≡ false)
    → (d : ℕ) → attached d ≡ (if is_open (r.entry ∷ entries R) d then Some (attached_of B (r ∷ R) d) else None)
connections-same B R r attached connections same own unbroken d =
    connections d ∙ rw (same d, attached-apart B R r d (own d) (unbroken d)) refl

gone : (a : Bool) (x : Attached) → None ≡ (if a && not true then Some x else None)
gone true x = refl
gone false x = refl

connections-closed : (B : Base) (R : Records) (act : CardAct) (told : CardAnswer) (c : ℕ) (attached after : ℕ → Option Attached)
    → ((d : ℕ) → attached d ≡ (if is_open (entries R) d then Some (attached_of B R d) else None))
    → ((d : ℕ) → after d ≡ with_at c None attached d)
    → (d : ℕ) → after d ≡ (if is_open (Closed c ∷ entries R) d then Some (attached_of B (record { act = act; entry = Closed c; answer = told } ∷ R) d) else None)
connections-closed B R act told c attached after connections sets d = sets d ∙ go (c == d) refl
  where
    go : (b : Bool) → (c == d) ≡ b
        → (if b then None else attached d) ≡ (if is_open (Closed c ∷ entries R) d then Some (attached_of B (record { act = act; entry = Closed c; answer = told } ∷ R) d) else None)
    go true e = rw e (gone (some_entry (opens d) (entries R)) (attached_of B (record { act = act; entry = Closed c; answer = told } ∷ R) d))
    go false e = connections d ∙ rw e (rw (attached-apart B R (record { act = act; entry = Closed c; answer = told }) d refl refl) refl)

connections-opened : (B : Base) (R : Records) (act : CardAct) (told : CardAnswer) (c : ℕ) (i : Interface) (shared : Bool) (attached after : ℕ → Option Attached)
    → ((d : ℕ) → attached d ≡ (if is_open (entries R) d then Some (attached_of B R d) else None))
    → IsUnused (entries R) c
    → ((d : ℕ) → after d ≡ with_at c (Some (fresh_on i)) attached d)
    → (d : ℕ) → after d ≡ (if is_open (Opened c i shared ∷ entries R) d then Some (attached_of B (record { act = act; entry = Opened c i shared; answer = told } ∷ R) d) else None)
connections-opened B R act told c i shared attached after connections unused sets d = sets d ∙ go (c == d) refl
  where
    go : (b : Bool) → (c == d) ≡ b
        → (if b then Some (fresh_on i) else attached d)
        ≡ (if is_open (Opened c i shared ∷ entries R) d then Some (attached_of B (record { act = act; entry = Opened c i shared; answer = told } ∷ R) d) else None)
    go true e =
        let n : c ≡ d = eqb-true c d e in
        let never : some_entry (closes d) (entries R) ≡ false = subst (λ (j : ℕ). some_entry (closes j) (entries R) ≡ false) n unused.1 in
        let P : ℕ → Type 0 = λ (j : ℕ). attached_of B (record { act = act; entry = Opened c i shared; answer = told } ∷ R) j ≡ fresh_on i in
        let is_now : is_open (Opened c i shared ∷ entries R) d ≡ true = rw (e, never) refl in
        let becomes = subst P n (attached-opened B R c act told i shared) in
        λ j. if sym is_now j then Some (sym becomes j) else None
    go false e =
        let same : is_open (Opened c i shared ∷ entries R) d ≡ is_open (entries R) d = rw e refl in
        let kept = attached-apart B R (record { act = act; entry = Opened c i shared; answer = told }) d refl e in
        connections d ∙ (λ j. if sym same j then Some (sym kept j) else None)

connections-reset : (B : Base) (R : Records) (act : CardAct) (told : CardAnswer) (i : Interface) (attached after : ℕ → Option Attached)
    → ((d : ℕ) → attached d ≡ (if is_open (entries R) d then Some (attached_of B R d) else None))
    → ((d : ℕ) → after d ≡ option_map (after_reset i) (attached d))
    → (d : ℕ) → after d ≡ (if is_open (Reset i ∷ entries R) d then Some (attached_of B (record { act = act; entry = Reset i; answer = told } ∷ R) d) else None)
connections-reset B R act told i attached after connections sets d =
    sets d ∙ ap (option_map (after_reset i)) (connections d) ∙ go (is_open (entries R) d)
  where
    r : CardRecord
    r = record { act = act; entry = Reset i; answer = told }

    side_of : (b : Bool) → same_side i (side (entries R) d) ≡ b
        → Some (if b then fresh_on (side (entries R) d) else attached_of B R d) ≡ Some (attached_of B (record { act = act; entry = Reset i; answer = told } ∷ R) d)
    side_of true e = ap Some (sym (attached-break B R (record { act = act; entry = Reset i; answer = told }) d refl e))
    side_of false e = ap Some (sym (attached-apart B R (record { act = act; entry = Reset i; answer = told }) d refl e))

    go : (b : Bool) → option_map (after_reset i) (if b then Some (attached_of B R d) else None)
        ≡ (if b then Some (attached_of B (record { act = act; entry = Reset i; answer = told } ∷ R) d) else None)
    go false = refl
    go true = side_of (same_side i (side (entries R) d)) refl

connections-cut : (B : Base) (R : Records) (act : CardAct) (told : CardAnswer) (run : Option (ℕ × CardCommand)) (attached after : ℕ → Option Attached)
    → ((d : ℕ) → attached d ≡ (if is_open (entries R) d then Some (attached_of B R d) else None))
    → ((d : ℕ) → after d ≡ option_map after_cut (attached d))
    → (d : ℕ) → after d ≡ (if is_open (Cut run ∷ entries R) d then Some (attached_of B (record { act = act; entry = Cut run; answer = told } ∷ R) d) else None)
connections-cut B R act told run attached after connections sets d =
    sets d ∙ ap (option_map after_cut) (connections d) ∙ go (is_open (entries R) d)
  where
    go : (b : Bool) → option_map after_cut (if b then Some (attached_of B R d) else None)
        ≡ (if b then Some (attached_of B (record { act = act; entry = Cut run; answer = told } ∷ R) d) else None)
    go false = refl
    go true = ap Some (sym (attached-break B R (record { act = act; entry = Cut run; answer = told }) d refl refl))

-- ---- what will be said, after an entry that leaves the memory and the command in flight

will-same : (B : Base) (R : Records) (r : CardRecord) (card : CardState)
    → did (entries R) r.entry ≡ None → running (r.entry ∷ entries R) ≡ running (entries R)
    → WillTake B R card → WillTake B (r ∷ R) card
will-same B R r card none ran will =
    let H : Past = entries R in
    let m : mem B (r.entry ∷ H) ≡ mem B H = mem-step B H r.entry ∙ rw none refl in
    let says : mem B (Up card.took ∷ r.entry ∷ H) ≡ mem B (Up card.took ∷ H) = mem-step B (r.entry ∷ H) (Up card.took)
    ∙ ap (λ (o : Option (ℕ × CardCommand)). memory_by (profile B) (option_map (λ x. (x.1, card.took)) o) (mem B (r.entry ∷ H))) ran
    ∙ ap (λ (y : Memory). memory_by (profile B) (did H (Up card.took)) y) m ∙ sym (mem-step B H (Up card.took)) in
    record {
      may = (let P : Memory → Option (ℕ × CardCommand) → Type 0 = λ y o. MayBeSaid y (option_map (λ x. ask (profile B) x.1) o) card.took in
          subst (λ y. P y (running (r.entry ∷ H))) (sym m) (subst (P (mem B H)) (sym ran) will.may));
      memory = will.memory ∙ ap Some (sym says);
      running = will.running ∙ sym ran;
    }

-- ---- one record more

pub stands-opened : StandsOpened
stands-opened B R card attached after i shared stands is_on free room sets =
    let H : Past = entries R in
    let power : on H ≡ true = sym stands.power ∙ is_on in
    let e : CardEntry = Opened (opened_count H + 1) i shared in
    let told : CardAnswer = Connected (opened_count H + 1) (epoch H i) in
    let none : refused H (Connect i shared) ≡ None = rw (power, free, room) refl in
    let P : Option Refusal → Type 0 = λ (o : Option Refusal). IsTurnedBy o B R (Connect i shared) e told in
    stands-on B _ card after (stands.runs, subst P (sym none) (refl, refl)) power
    (connections-opened B R (Connect i shared) told (opened_count H + 1) i shared attached after stands.connections
    (unused-above B H (opened_count H + 1) (IsLegal-runs B R stands.runs) (omega arith)) sets)
    is_on (stands.memory is_on ∙ ap Some (sym (mem-step B H e)))

pub stands-closed : StandsClosed
stands-closed B R card attached after c x stands is sets =
    let H : Past = entries R in
    let r : CardRecord = record { act = Disconnect c; entry = Closed c; answer = Disconnected } in
    let opened : is_open H c ≡ true = (attached-open B R card attached c x stands is).0 in
    let none : refused H (Disconnect c) ≡ None = rw opened refl in
    let P : Option Refusal → Type 0 = λ (o : Option Refusal). IsTurnedBy o B R (Disconnect c) (Closed c) Disconnected in
    record {
      runs = (stands.runs, subst P (sym none) (refl, refl));
      power = stands.power;
      connections = connections-closed B R (Disconnect c) Disconnected c attached after stands.connections sets;
      memory = λ h. stands.memory h ∙ ap Some (sym (mem-step B H (Closed c)));
      off = λ h. will-same B R r card refl refl (stands.off h);
    }

pub stands-noted : StandsNoted
stands-noted B R card attached act w stands why =
    let H : Past = entries R in
    let e : CardEntry = Note (kind_of act) w in
    let told : CardAnswer = answer_of (epoch_told H act) w in
    let r : CardRecord = record { act = act; entry = e; answer = told } in
    let P : Option Refusal → Type 0 = λ (o : Option Refusal). IsTurnedBy o B R act e told in
    record {
      runs = (stands.runs, subst P (sym why) (refl, refl));
      power = stands.power;
      connections = connections-same B R r attached stands.connections (λ d. refl) (λ d. refl) (λ d. refl);
      memory = λ h. stands.memory h ∙ ap Some (sym (mem-step B H e));
      off = λ h. will-same B R r card refl refl (stands.off h);
    }

pub stands-reset : StandsReset
stands-reset B R card attached after i stands is_on sets =
    let H : Past = entries R in
    let power : on H ≡ true = sym stands.power ∙ is_on in
    let none : refused H (ResetSide i) ≡ None = rw power refl in
    let P : Option Refusal → Type 0 = λ (o : Option Refusal). IsTurnedBy o B R (ResetSide i) (Reset i) WasReset in
    stands-on B _ card after (stands.runs, subst P (sym none) (refl, refl)) power
    (connections-reset B R (ResetSide i) WasReset i attached after stands.connections sets)
    is_on (stands.memory is_on ∙ ap Some (sym (mem-step B H (Reset i))))

-- a cut between two commands
pub stands-cut : StandsCut
stands-cut B R card new attached after stands is_on is sets =
    let H : Past = entries R in
    let power : on H ≡ true = sym stands.power ∙ is_on in
    let none : refused H CutPower ≡ None = rw power refl in
    let P : Option Refusal → Type 0 = λ (o : Option Refusal). IsTurnedBy o B R CutPower (Cut None) WasCut in
    rw is (stands-off B _ (record card { on = false; running = None; took = Nothing }) after (stands.runs, subst P (sym none) (refl, refl)) refl
    (connections-cut B R CutPower WasCut None attached after stands.connections sets) refl
    (record {
      may = NothingMayBeTaken-law B (Cut None ∷ H);
      memory = stands.memory is_on ∙ ap Some (sym (CutsLeaveTheMemory-law B H None) ∙ sym ((UpsTellTheMemory-law B (Cut None ∷ H) Nothing).0 refl));
      running = refl;
    }))

-- an exchange that reaches the card
pub turned-exchange : ExchangesAreTurned
unfolding frame
turned-exchange B R card attached c known bytes x f e told stands is_on is new framed made =
    let H : Past = entries R in
    let power : on H ≡ true = sym stands.power ∙ is_on in
    let at = attached-open B R card attached c x stands is in
    let sided : side H c ≡ x.side = ap (λ (y : Attached). y.side) at.1 in
    let late : nat_lt known (epoch H (side H c)) ≡ false = rw sided (grind (arith, nat_tests)) in
    let none : refused H (Exchange c known bytes) ≡ None = rw (at.0, power, late) refl in
    let same : frame B R c bytes ≡ f = ap (λ (y : Attached). frame_of (apdu_spelled bytes) y.chain y.rest) at.1 ∙ framed in
    let P : Option Refusal → Type 0 = λ (o : Option Refusal). IsTurnedBy o B R (Exchange c known bytes) e told in
    let Q : Frame → Type 0 = λ (g : Frame). IsExchanged B H c g e told in
    subst P (sym none) (subst Q (sym same) made)

-- what an exchange of c leaves
pub record LeavesOthers (H : Past) (e : CardEntry) (c : ℕ) : Type 0 where
  pub power : on (e ∷ H) ≡ on H
  pub opened : (d : ℕ) → is_open (e ∷ H) d ≡ is_open H d
  pub own : (d : ℕ) → is_exchange_on d e ≡ (c == d)
  pub unbroken : (d : ℕ) → breaks d H e ≡ false

same-number : (n c d : ℕ) → (n == c) ≡ true → (n == d) ≡ (c == d)
same-number n c d h = ap (λ j. j == d) (eqb-true n c h)

leaves-others : (H : Past) (e : CardEntry) (c : ℕ) → is_exchange_on c e ≡ true → LeavesOthers H e c
leaves-others H (Call n k word block) c h = record { power = refl; opened = λ d. refl; own = λ d. same-number n c d h; unbroken = λ d. refl }
leaves-others H (Part n) c h = record { power = refl; opened = λ d. refl; own = λ d. same-number n c d h; unbroken = λ d. refl }
leaves-others H (Rest n) c h = record { power = refl; opened = λ d. refl; own = λ d. same-number n c d h; unbroken = λ d. refl }
leaves-others H (Bad n word) c h = record { power = refl; opened = λ d. refl; own = λ d. same-number n c d h; unbroken = λ d. refl }
leaves-others H (Opened n i shared) c h = absurd (cc)
leaves-others H (Closed n) c h = absurd (cc)
leaves-others H (Reset i) c h = absurd (cc)
leaves-others H (Cut r) c h = absurd (cc)
leaves-others H (Up t) c h = absurd (cc)
leaves-others H (Note a w) c h = absurd (cc)

pub stands-exchanged : StandsExchanged
stands-exchanged B R r card new attached after c x y stands is_on is turned exchanged becomes on_now memory sets =
    let leaves = leaves-others (entries R) r.entry c exchanged in
    stands-on B (r ∷ R) new after (stands.runs, turned) (leaves.power ∙ sym stands.power ∙ is_on)
    (connections-own B R r c y attached after stands.connections (attached-open B R card attached c x stands is).0
    leaves.opened leaves.own leaves.unbroken becomes sets)
    on_now memory

-- a command that lost power
pub stands-lost : StandsLost
stands-lost B R act told card new attached after c k stands turned off_now ran may memory sets =
    stands-off B _ new after (stands.runs, turned) refl
    (connections-cut B R act told (Some (c, k)) attached after stands.connections sets) off_now
    (record { may = may; memory = memory; running = ran })

-- power is switched on, and it is told what the command did
pub stands-up : StandsUp
stands-up B R card new attached stands is_off on_now memory =
    let H : Past = entries R in
    let power : on H ≡ false = sym stands.power ∙ is_off in
    let will : WillTake B R card = stands.off (rw is_off refl) in
    let none : refused H PowerOn ≡ None = rw power refl in
    let P : Option Refusal → Type 0 = λ (o : Option Refusal). IsTurnedBy o B R PowerOn (Up card.took) (IsUp card.took) in
    stands-on B _ new attached (stands.runs, subst P (sym none) (card.took, will.may, refl, refl)) refl
    (connections-same B R (record { act = PowerOn; entry = Up card.took; answer = IsUp card.took }) attached stands.connections (λ d. refl) (λ d. refl) (λ d. refl))
    on_now (memory ∙ will.memory)

pub ruleset stands_laws = (attached-open, unattached-closed, stands-opened, stands-closed, stands-noted, stands-reset, stands-cut, turned-exchange, stands-exchanged, stands-lost, stands-up)
