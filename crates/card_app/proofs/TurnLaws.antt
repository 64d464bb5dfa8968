-- What a card stands for after an exchange in one of its slots.
use Rattle.std.specs.Prelude.{◌==◌, if◌then◌else◌, option_map, IsSome, not}
use Rattle.std.specs.Vec.{with_items}
use Rattle.std.specs.declared.vec.Vec.{Vec}
use Rattle.std.proofs.Common.{◌≡◌, ◌≤◌, ◌+◌, ℕ, Bool, true, false, List, [], ◌∷◌, Option, Some, None, IfSome, refl, ap, sym, ◌∙◌, subst, set, get_or, eqb-true, zero, suc, length, ◌<◌, arith}
use Rattle.std.proofs.lemmas.List.{with_items_is}
use Rattle.piv_model.specs.declared.store.Store.{Ghosts}
use Rattle.piv_model.specs.Commands.{CardCommand}
use Rattle.piv_model.specs.Memory.{Memory}
use Rattle.piv_model.specs.Sound.{IsSound}
use Rattle.piv_model.specs.Stores.{StoreState}
use Rattle.piv_model.specs.Base.{Base}
use Rattle.piv_model.specs.Entries.{CardEntry, Past, Part, Rest, Bad, Cut}
use Rattle.piv_rules.specs.Acts.{Exchange, Mute, CardRecord, Records, entries}
use Rattle.piv_rules.specs.Connections.{epoch, side}
use Rattle.piv_rules.specs.Frames.{Frame}
use Rattle.piv_rules.specs.Memories.{mem}
use Rattle.piv_rules.specs.RandomBlocks.{next_block}
use Rattle.card_laws.specs.StandsFor.{Attached, StandsFor}
use Rattle.card_laws.specs.ConnectionSteps.{fresh_on, with_at, after_cut}
use Rattle.card_laws.proofs.StandsLaws.{attached-open}
use Rattle.card_commands.specs.declared.executed.Broken.{Broken}
use Rattle.card_commands.proofs.LossLemmas.{lost-told}
use Rattle.card_app.specs.declared.card.Card.{Card}
use Rattle.card_app.specs.declared.exchanging.Exchanged.{Exchanged}
use Rattle.card_app.specs.declared.exchanging.Exchanged.TheVariants as made
use Rattle.card_app.specs.declared.slot.Connection.{Connection}
use Rattle.card_app.specs.declared.slot.Slot.{Slot}
use Rattle.card_app.specs.Exchanges.{IsMade, IsMadeAt, frame_on, leaves_on}
use Rattle.card_app.specs.Kept.{attached_as, attached_in, is_numbered, is_at, slot_attached, AreApart, EachBecameBy, IsPlaced}
use Rattle.card_app.specs.Stands.{state_of, store_state, attached_to, CardStandsFor}
use Rattle.card_app.specs.Flights.{told_of}
use Rattle.card_app.specs.declared.card.Outcome.{Outcome}
use Rattle.card_app.specs.declared.card.Outcome.TheVariants as outcome
use Rattle.card_app.specs.declared.card.Turned.{Turned}
use Rattle.card_app.specs.Outcomes.{exchange_by, exchange_made, entry_by, entry_of_made, is_mute, IsFramed, IsFramedMade}
use Rattle.card_app.specs.Plans.{DueFollows}
use Rattle.card_app.proofs.DueLaws.{due-call, due-lost, due-same}
use Rattle.card_app.proofs.SlotLaws.{alone-placed, attached-set, apart-set, placed-attached, placed-some, each-attached, each-apart}
use Rattle.card_app.proofs.ExchangeLaws.{exchange-part, exchange-rest, exchange-bad, exchange-call, exchange-lost}

-- the connection of the slot at the place
pub placed-connection : (ss : List Slot) (i c : ℕ) (d : Slot) → IsPlaced ss i c → (x : Connection) × ((get_or ss i d).connection ≡ Some x)
placed-connection ss i c d placed = go (get_or ss i d).connection (placed-some ss i c d placed)
  where
    go : (o : Option Connection) → IsSome o → (x : Connection) × (o ≡ Some x)
    go None h = absurd (cc)
    go (Some x) h = (x, refl)

number-at : (s : Slot) (x : Connection) (c : ℕ) → s.connection ≡ Some x → is_at s c ≡ (x.c == c)
number-at s x c is = ap (is_numbered c) is

attached-by : (s : Slot) (x : Connection) → s.connection ≡ Some x → slot_attached s ≡ Some (attached_as s.joiner s.pieces x)
attached-by s x is = ap (option_map (attached_as s.joiner s.pieces)) is

-- what the slots stand for after one was exchanged on
sets-slot : (ss : List Slot) (i c : ℕ) (s t : Slot) (x y : Connection) → AreApart ss → IsPlaced ss i c → is_at s c ≡ true → s.connection ≡ Some x → t.connection ≡ Some y → y.c ≡ x.c
    → ((d : ℕ) → attached_in (set ss i t) d ≡ with_at c (Some (attached_as t.joiner t.pieces y)) (attached_in ss) d) × AreApart (set ss i t)
sets-slot ss i c s t x y apart placed at was now same =
    let alone = alone-placed ss i c apart placed in
    let is_c : (x.c == c) ≡ true = sym (number-at s x c was) ∙ at in
    let t_at : is_at t c ≡ true = number-at t y c now ∙ ap (λ (n : ℕ). n == c) same ∙ is_c in
    let own : (d : ℕ) → (c == d) ≡ false → is_at t d ≡ false = λ d other. number-at t y d now ∙ ap (λ (n : ℕ). n == d) (same ∙ eqb-true x.c c is_c) ∙ other in (
      (λ d. attached-set ss i c t alone own d
          ∙ (λ j. with_at c (if t_at j then attached-by t y now j else None) (attached_in ss) d)),
      apart-set ss i c t apart alone own,
    )

-- a card that is still on
pub card-kept : {S T : Type 0} {meaning : Ghosts S T} (put_cost : ℕ → ℕ) (old new : Card S T meaning) (B : Base) (R : Records) (i c known : ℕ) (bytes block : List ℕ) (s t u : Slot) (e : Exchanged)
    → CardStandsFor old B R → (meaning.state old.store).power.on ≡ true → IsPlaced old.slots.items i c
    → s ≡ get_or old.slots.items i s → IsMadeAt put_cost bytes block e s t (meaning.state old.store) (meaning.state new.store)
    → leaves_on e ≡ true → (meaning.state new.store).power.on ≡ true
    → new.slots.items ≡ set old.slots.items i t
    → epoch (entries R) (side (entries R) c) ≤ known → block ≡ next_block B (entries R) → u ≡ t
    → CardStandsFor new B (exchange_made c known bytes block (state_of new).running (epoch (entries R) (side (entries R) c)) e u.joiner.command u.pieces.piece ∷ R)
card-kept {meaning = meaning} put_cost old new B R i c known bytes block s t u e stands is_on placed is_s at_s kept on_now slots fresh next is_t =
    let d : Slot = s in
    let run : Option (ℕ × CardCommand) = (state_of new).running in
    let at_slot = subst (λ (r : Slot). IsMadeAt put_cost bytes block e r t (meaning.state old.store) (meaning.state new.store)) is_s at_s in
    subst (λ (r : Slot). CardStandsFor new B (exchange_made c known bytes block run (epoch (entries R) (side (entries R) c)) e r.joiner.command r.pieces.piece ∷ R)) (sym is_t) (
    let there = placed-attached old.slots.items i c d stands.apart placed in
    let x = placed-connection old.slots.items i c d placed in
    let became = at_slot x.0 x.1 in
    let xa : Attached = attached_as (get_or old.slots.items i d).joiner (get_or old.slots.items i d).pieces x.0 in
    let is : attached_to old c ≡ Some xa = there.0 ∙ attached-by (get_or old.slots.items i d) x.0 x.1 in
    let set_to = sets-slot old.slots.items i c (get_or old.slots.items i d) t x.0 became.0 stands.apart placed there.1 x.1 became.1 became.2 in
    let sided : side (entries R) c ≡ xa.side = ap (λ (y : Attached). y.side) (attached-open B R (state_of old) (attached_to old) c xa stands.stands is).1 in
    let fresh_side : epoch (entries R) xa.side ≤ known = subst (λ (n : _). epoch (entries R) n ≤ known) sided fresh in
    let sets : (j : ℕ) → attached_to new j ≡ with_at c (Some (attached_as t.joiner t.pieces became.0)) (attached_to old) j = λ j.
    ap (λ (v : List Slot). attached_in v j) slots ∙ set_to.0 j in
    record {
      apart = subst (λ (v : List Slot). AreApart v) (sym slots) set_to.1;
      stands = go xa (attached_as t.joiner t.pieces became.0) e became.4 kept is fresh_side sets;
    })
  where
    go : (xa ya : Attached) (e : Exchanged) → IsMade put_cost bytes block e t.joiner.command t.pieces.piece xa ya (meaning.state old.store) (meaning.state new.store)
        → leaves_on e ≡ true → attached_to old c ≡ Some xa → epoch (entries R) xa.side ≤ known
        → ((j : ℕ) → attached_to new j ≡ with_at c (Some ya) (attached_to old) j)
        → StandsFor B (exchange_made c known bytes block (state_of new).running (epoch (entries R) (side (entries R) c)) e t.joiner.command t.pieces.piece ∷ R) (state_of new) (attached_to new)
    go xa ya made.Part h k is f sets =
        exchange-part B R (state_of old) (state_of new) (attached_to old) (attached_to new) (meaning.state old.store) (meaning.state new.store) c known bytes xa ya
        stands.stands is_on is f h refl refl on_now sets
    go xa ya (made.Rest last) h k is f sets =
        exchange-rest B R (state_of old) (state_of new) (attached_to old) (attached_to new) (meaning.state old.store) (meaning.state new.store) c known last bytes t.pieces.piece xa ya
        stands.stands is_on is f h refl refl on_now sets
    go xa ya (made.Bad word) h k is f sets =
        exchange-bad B R (state_of old) (state_of new) (attached_to old) (attached_to new) (meaning.state old.store) (meaning.state new.store) c known word bytes xa ya
        stands.stands is_on is f h refl refl on_now sets
    go xa ya (made.Call done last) h k is f sets =
        exchange-call put_cost B R (state_of old) (state_of new) (attached_to old) (attached_to new) (meaning.state old.store) (meaning.state new.store) c known last done bytes block t.pieces.piece t.joiner.command xa ya
        stands.stands is_on is f next h refl refl on_now sets
    go xa ya (made.Lost broken) h k is f sets = absurd (cc)

-- after a loss no connection differs from another but by its number and its side
cut-same : (c : ℕ) (attached after : ℕ → Option Attached) (x y : Attached) → attached c ≡ Some x → y.side ≡ x.side
    → ((d : ℕ) → after d ≡ with_at c (Some y) attached d) → (d : ℕ) → option_map after_cut (after d) ≡ option_map after_cut (attached d)
cut-same c attached after x y is same sets d = ap (option_map after_cut) (sets d) ∙ go (c == d) refl
  where
    go : (b : Bool) → (c == d) ≡ b → option_map after_cut (if b then Some y else attached d) ≡ option_map after_cut (attached d)
    go true e =
        let n : c ≡ d = eqb-true c d e in
        let there : attached d ≡ Some x = subst (λ (j : ℕ). attached j ≡ Some x) n is in
        (λ j. Some (fresh_on (same j))) ∙ sym (ap (option_map after_cut) there)
    go false e = refl

-- a card that lost power
pub card-lost : {S T : Type 0} {meaning : Ghosts S T} (put_cost : ℕ → ℕ) (old new : Card S T meaning) (B : Base) (R : Records) {Z : Type 0} (v : Vec Slot Z) (now : List Slot) (i c known : ℕ) (bytes block : List ℕ) (s t u r : Slot) (broken : Broken)
    → CardStandsFor old B R → (meaning.state old.store).power.on ≡ true → IsPlaced old.slots.items i c
    → s ≡ get_or old.slots.items i s → IsMadeAt put_cost bytes block (made.Lost broken) s t (meaning.state old.store) (meaning.state new.store)
    → IfSome (meaning.state old.store).mem (λ m. IsSound m)
    → new.flight ≡ Some (record { c = c; broken = broken }) → new.lost.command ≡ t.joiner.command
    → u.connection ≡ t.connection
    → v.items ≡ set (set old.slots.items i t) i u → (between : List Slot) → between ≡ v.items
    → EachBecameBy after_cut between now → new.slots.items ≡ (with_items v now).items
    → epoch (entries R) (side (entries R) c) ≤ known → block ≡ next_block B (entries R)
    → CardStandsFor new B (exchange_made c known bytes block (state_of new).running (epoch (entries R) (side (entries R) c)) (made.Lost broken) r.joiner.command r.pieces.piece ∷ R)
card-lost {meaning = meaning} put_cost old new B R v now i c known bytes block s t u r broken stands is_on placed is_s at_s sounds flight command swapped is_v between is_v_items became_now is_now fresh next =
    let d : Slot = s in
    let at_slot = subst (λ (q : Slot). IsMadeAt put_cost bytes block (made.Lost broken) q t (meaning.state old.store) (meaning.state new.store)) is_s at_s in
    let is_between : between ≡ set (set old.slots.items i t) i u = is_v_items ∙ is_v in
    let long : length now ≡ v.len = became_now.0 ∙ ap (λ (l : List Slot). length l) is_v_items ∙ sym v.ok.0 in
    let each : EachBecameBy after_cut between new.slots.items = subst (λ (l : List Slot). EachBecameBy after_cut between l) (sym (is_now ∙ with_items_is v now long)) became_now in
    let there = placed-attached old.slots.items i c d stands.apart placed in
    let x = placed-connection old.slots.items i c d placed in
    let became = at_slot x.0 x.1 in
    let xa : Attached = attached_as (get_or old.slots.items i d).joiner (get_or old.slots.items i d).pieces x.0 in
    let is : attached_to old c ≡ Some xa = there.0 ∙ attached-by (get_or old.slots.items i d) x.0 x.1 in
    let u_is : u.connection ≡ Some became.0 = swapped ∙ became.1 in
    let set_to = sets-slot old.slots.items i c (get_or old.slots.items i d) u x.0 became.0 stands.apart placed there.1 x.1 u_is became.2 in
    let twice : between ≡ set old.slots.items i u = is_between ∙ set-twice old.slots.items i in
    let sided : side (entries R) c ≡ xa.side = ap (λ (y : Attached). y.side) (attached-open B R (state_of old) (attached_to old) c xa stands.stands is).1 in
    let fresh_side : epoch (entries R) xa.side ≤ known = subst (λ (n : _). epoch (entries R) n ≤ known) sided fresh in
    let was = stands.stands.memory is_on in
    let sound : IsSound (mem B (entries R)) = subst (λ (o : Option Memory). IfSome o (λ n. IsSound n)) was sounds in
    let stood_at = lost-told put_cost _ broken _ _ (mem B (entries R)) was (became.4.broke (mem B (entries R)) was).breaks in
    let m : Memory = stood_at.0 in
    let stood = stood_at.1 in
    let ran : (state_of new).running ≡ Some (c, t.joiner.command) = λ j. option_map (λ f. (f.c, command j)) (flight j) in
    let sets : (j : ℕ) → attached_to new j ≡ option_map after_cut (attached_to old j) = λ j.
    each-attached after_cut between new.slots.items each j
    ∙ cut-same c (attached_to old) (attached_in between) xa (attached_as u.joiner u.pieces became.0) is became.3 (λ e. ap (λ (v : List Slot). attached_in v e) twice ∙ set_to.0 e) j in
    record {
      apart = each-apart after_cut between new.slots.items each (subst (λ (v : List Slot). AreApart v) (sym twice) set_to.1);
      stands = subst (λ (o : Option (ℕ × CardCommand)). StandsFor B (record { act = Exchange c known bytes; entry = Cut o; answer = Mute (epoch (entries R) (side (entries R) c) + 1) } ∷ R) (state_of new) (attached_to new)) (sym ran) (exchange-lost put_cost B R (state_of old) (state_of new) (attached_to old) (attached_to new) (meaning.state old.store) (meaning.state new.store) m c known broken bytes block t.joiner.command xa
          stands.stands is_on is fresh_side next sound became.4 refl stood became.4.off ran stood
          (λ j. told_of (flight j) (command j) (stood j)) sets);
    }
  where
    set-twice : (ss : List Slot) (i : ℕ) → set (set ss i t) i u ≡ set ss i u
    set-twice [] i = refl
    set-twice (s ∷ ss) zero = refl
    set-twice (s ∷ ss) (suc i) = ap (λ v. s ∷ v) (set-twice ss i)

-- what is no loss leaves the card on
pub left-on : (e : Exchanged) → ((broken : Broken) → e ≡ made.Lost broken → ⊥) → leaves_on e ≡ true
left-on made.Part other = refl
left-on (made.Call done last) other = refl
left-on (made.Rest last) other = refl
left-on (made.Bad word) other = refl
left-on (made.Lost broken) other = absurd (other broken refl)

-- a slot of a list, whatever stands past its end
pub any-default : (ss : List Slot) (i : ℕ) (d e : Slot) → i < length ss → get_or ss i d ≡ get_or ss i e
any-default [] i d e h = absurd (let k : i < 0 = h in omega arith)
any-default (s ∷ ss) zero d e h = refl
any-default (s ∷ ss) (suc i) d e h = any-default ss i d e (let k : suc i < suc (length ss) = h in omega arith)

pub one-slot : (ss : List Slot) → length ss ≡ 16 → Slot
one-slot [] h = absurd (let k : 0 ≡ 16 = h in omega arith)
one-slot (s ∷ ss) h = s

-- what it came to, with what it lends
pub exchanged-stands : {S T : Type 0} {meaning : Ghosts S T} (new : Card S T meaning) (B : Base) (R : Records) (c known told : ℕ) (bytes block : List ℕ) (run : Option (ℕ × CardCommand)) (result : Outcome) (o : Option Turned) (e : Slot)
    → IsSome o
    → IfSome o (λ t. CardStandsFor new B (exchange_made c known bytes block run told t.made (get_or new.slots.items t.place e).joiner.command (get_or new.slots.items t.place e).pieces.piece ∷ R))
    → IfSome o (λ t. (d : Slot) (c known told : ℕ) (bytes block : List ℕ) (run : Option (ℕ × CardCommand))
    → exchange_by c known bytes block run told result ≡ exchange_made c known bytes block run told t.made (get_or new.slots.items t.place d).joiner.command (get_or new.slots.items t.place d).pieces.piece)
    → CardStandsFor new B (exchange_by c known bytes block run told result ∷ R)
exchanged-stands new B R c known told bytes block run result None e some stands shown = absurd (cc)
exchanged-stands new B R c known told bytes block run result (Some t) e some stands shown =
    subst (λ (r : CardRecord). CardStandsFor new B (r ∷ R)) (sym (shown e c known told bytes block run)) stands

-- the same card
pub stands-same : {S T : Type 0} {meaning : Ghosts S T} (old new : Card S T meaning) (B : Base) (R : Records) → new ≡ old → CardStandsFor old B R → CardStandsFor new B R
stands-same {S} {T} {meaning} old new B R same stands = subst (λ (card : Card S T meaning). CardStandsFor card B R) (sym same) stands

-- mute exactly where the power is off afterwards
pub exchanged-mute : (o : Option Turned) (b : Bool) (now : StoreState) → IsSome o → IfSome o (λ t. now.power.on ≡ leaves_on t.made)
    → IfSome o (λ t. b ≡ not (leaves_on t.made)) → b ≡ not now.power.on
exchanged-mute None b now some power mute = absurd (cc)
exchanged-mute (Some t) b now some power mute = mute ∙ ap not (sym power)

-- what an exchange came to is what its bytes are on that connection
pub card-framed : (put_cost : ℕ → ℕ) (bytes block : List ℕ) (c : ℕ) (s t u : Slot) (e : Exchanged) (x : Attached) (o : Option Attached) (run : Option (ℕ × CardCommand)) (so sn : StoreState)
    → o ≡ slot_attached s → o ≡ Some x → IsMadeAt put_cost bytes block e s t so sn → u ≡ t
    → (leaves_on e ≡ false → run ≡ Some (c, t.joiner.command))
    → IsFramedMade (frame_on bytes x) c run e u.joiner.command u.pieces.piece
card-framed put_cost bytes block c s t u e x o run so sn is some at_s is_t ran =
    subst (λ (q : Slot). IsFramedMade (frame_on bytes x) c run e q.joiner.command q.pieces.piece) (sym is_t) (by s.connection refl (sym is ∙ some))
  where
    go : (e : Exchanged) (xa ya : Attached) → xa ≡ x → IsMade put_cost bytes block e t.joiner.command t.pieces.piece xa ya so sn
        → (leaves_on e ≡ false → run ≡ Some (c, t.joiner.command)) → IsFramedMade (frame_on bytes x) c run e t.joiner.command t.pieces.piece
    go made.Part xa ya same h r = sym (ap (frame_on bytes) same) ∙ h.frame
    go (made.Rest last) xa ya same h r = sym (ap (frame_on bytes) same) ∙ h.frame
    go (made.Bad word) xa ya same h r = sym (ap (frame_on bytes) same) ∙ h.frame
    go (made.Call done last) xa ya same h r = (h.most, sym (ap (frame_on bytes) same) ∙ h.frame)
    go (made.Lost broken) xa ya same h r = (t.joiner.command, h.most, sym (ap (frame_on bytes) same) ∙ h.frame, r refl)

    by : (y : Option Connection) → s.connection ≡ y → option_map (attached_as s.joiner s.pieces) y ≡ Some x
        → IsFramedMade (frame_on bytes x) c run e t.joiner.command t.pieces.piece
    by None f h = absurd (cc)
    by (Some y) f h =
        let became = at_s y f in
        let same : attached_as s.joiner s.pieces y ≡ x = cc in
        go e (attached_as s.joiner s.pieces y) (attached_as t.joiner t.pieces became.0) same became.4 ran

pub exchanged-framed : {S T : Type 0} {meaning : Ghosts S T} (new : Card S T meaning) (f : Frame) (c : ℕ) (run : Option (ℕ × CardCommand)) (result : Outcome) (o : Option Turned) (e : Slot)
    → IsSome o
    → IfSome o (λ t. IsFramedMade f c run t.made (get_or new.slots.items t.place e).joiner.command (get_or new.slots.items t.place e).pieces.piece)
    → IfSome o (λ t. (d : Slot) (f : Frame) (c : ℕ) (run : Option (ℕ × CardCommand))
    → IsFramedMade f c run t.made (get_or new.slots.items t.place d).joiner.command (get_or new.slots.items t.place d).pieces.piece → IsFramed f c run result)
    → IsFramed f c run result
exchanged-framed new f c run result None e some framed shown = absurd (cc)
exchanged-framed new f c run result (Some t) e some framed shown = shown e f c run framed

pub mute-any : {S T : Type 0} {meaning : Ghosts S T} (old new : Card S T meaning) (result : Outcome)
    → ((store_state old).power.on ≡ true → is_mute result ≡ not (store_state new).power.on)
    → ((store_state old).power.on ≡ false → new ≡ old) → ((store_state old).power.on ≡ false → result ≡ outcome.Mute)
    → is_mute result ≡ not (store_state new).power.on
mute-any {S} {T} {meaning} old new result on off mute = go (store_state old).power.on refl
  where
    go : (b : Bool) → (store_state old).power.on ≡ b → is_mute result ≡ not (store_state new).power.on
    go true e = on e
    go false e =
        let same : (store_state new).power.on ≡ false = ap (λ (card : Card S T meaning). (meaning.state card.store).power.on) (off e) ∙ e in
        ap is_mute (mute e) ∙ sym (ap not same)

-- when losses are due
pub card-due : {S T : Type 0} {meaning : Ghosts S T} (put_cost : ℕ → ℕ) (old : Card S T meaning) (sn : StoreState) (B : Base) (R : Records) (i c : ℕ) (bytes block : List ℕ) (s t : Slot) (k : CardCommand) (e : Exchanged) (run : Option (ℕ × CardCommand))
    → CardStandsFor old B R → (meaning.state old.store).power.on ≡ true → IsPlaced old.slots.items i c
    → s ≡ get_or old.slots.items i s → IsMadeAt put_cost bytes block e s t (meaning.state old.store) sn
    → block ≡ next_block B (entries R) → k ≡ t.joiner.command → (leaves_on e ≡ false → run ≡ Some (c, t.joiner.command))
    → DueFollows put_cost B (entries R) (entry_of_made c block run e k) (meaning.state old.store) sn
card-due {meaning = meaning} put_cost old sn B R i c bytes block s t k e run stands is_on placed is_s at_s next is_k ran =
    let at_slot = subst (λ (r : Slot). IsMadeAt put_cost bytes block e r t (meaning.state old.store) sn) is_s at_s in
    let there = placed-attached old.slots.items i c s stands.apart placed in
    let x = placed-connection old.slots.items i c s placed in
    let became = at_slot x.0 x.1 in
    let xa : Attached = attached_as (get_or old.slots.items i s).joiner (get_or old.slots.items i s).pieces x.0 in
    let is : attached_to old c ≡ Some xa = there.0 ∙ attached-by (get_or old.slots.items i s) x.0 x.1 in
    subst (λ (j : CardCommand). DueFollows put_cost B (entries R) (entry_of_made c block run e j) (meaning.state old.store) sn) (sym is_k)
    (go xa (attached_as t.joiner t.pieces became.0) e became.4 is ran)
  where
    go : (xa ya : Attached) (e : Exchanged) → IsMade put_cost bytes block e t.joiner.command t.pieces.piece xa ya (meaning.state old.store) sn
        → attached_to old c ≡ Some xa → (leaves_on e ≡ false → run ≡ Some (c, t.joiner.command))
        → DueFollows put_cost B (entries R) (entry_of_made c block run e t.joiner.command) (meaning.state old.store) sn
    go xa ya made.Part h is ran = due-same put_cost B (entries R) (Part c) (meaning.state old.store) sn h.store (λ told. refl)
    go xa ya (made.Rest last) h is ran = due-same put_cost B (entries R) (Rest c) (meaning.state old.store) sn h.store (λ told. refl)
    go xa ya (made.Bad word) h is ran = due-same put_cost B (entries R) (Bad c word) (meaning.state old.store) sn h.store (λ told. refl)
    go xa ya (made.Call done last) h is ran =
        due-call put_cost B R (state_of old) (attached_to old) (meaning.state old.store) sn c last done bytes block t.pieces.piece t.joiner.command xa ya (if done.drew then Some block else None)
        stands.stands is_on is next h refl
    go xa ya (made.Lost broken) h is ran =
        subst (λ (o : Option (ℕ × CardCommand)). DueFollows put_cost B (entries R) (Cut o) (meaning.state old.store) sn) (sym (ran refl))
        (due-lost put_cost B R (state_of old) (attached_to old) (meaning.state old.store) sn c broken bytes block t.joiner.command xa stands.stands is_on is next h refl)

pub exchanged-due : {S T : Type 0} {meaning : Ghosts S T} (new : Card S T meaning) (put_cost : ℕ → ℕ) (B : Base) (H : Past) (so sn : StoreState) (c : ℕ) (block : List ℕ) (run : Option (ℕ × CardCommand)) (result : Outcome) (o : Option Turned) (e : Slot)
    → IsSome o
    → IfSome o (λ t. DueFollows put_cost B H (entry_of_made c block run t.made (get_or new.slots.items t.place e).joiner.command) so sn)
    → IfSome o (λ t. (d : Slot) (c known told : ℕ) (bytes block : List ℕ) (run : Option (ℕ × CardCommand))
    → exchange_by c known bytes block run told result ≡ exchange_made c known bytes block run told t.made (get_or new.slots.items t.place d).joiner.command (get_or new.slots.items t.place d).pieces.piece)
    → DueFollows put_cost B H (entry_by c block run result) so sn
exchanged-due new put_cost B H so sn c block run result None e some due shown = absurd (cc)
exchanged-due new put_cost B H so sn c block run result (Some t) e some due shown =
    subst (λ (r : CardEntry). DueFollows put_cost B H r so sn) (sym (ap (λ (r : CardRecord). r.entry) (shown e c 0 0 [] block run))) due
