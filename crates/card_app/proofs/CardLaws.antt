-- What a card stands for after a call.
use Rattle.std.specs.Prelude.{◌==◌, if◌then◌else◌, option_map, not, IsSome, position}
use Rattle.std.specs.Vec.{with_items}
use Rattle.std.proofs.Common.{◌≡◌, ◌+◌, ℕ, Bool, true, false, List, [], ◌∷◌, Option, Some, None, IfSome, refl, ap, sym, ◌∙◌, subst, set, get_or, arith, length}
use Rattle.std.proofs.lemmas.List.{with_items_is}
use Rattle.power_loss.specs.Power.{switched_off, switched_on}
use Rattle.piv_model.specs.declared.store.Store.{Ghosts}
use Rattle.piv_model.specs.declared.kinds.Interface.{Interface}
use Rattle.piv_model.specs.declared.kinds.Took.{Took}
use Rattle.piv_model.specs.Stores.{StoreState}
use Rattle.piv_model.specs.Memory.{Memory}
use Rattle.piv_model.specs.Base.{Base}
use Rattle.piv_model.specs.declared.history.ActKind.TheVariants as kind
use Rattle.piv_model.specs.declared.history.Refusal.TheVariants as why
use Rattle.piv_model.specs.Entries.{Up, Note}
use Rattle.piv_rules.specs.Acts.{Exchange, Mute, Connect, Records, entries}
use Rattle.piv_rules.specs.Connections.{on, is_open, side, epoch}
use Rattle.piv_rules.specs.Frames.{chain}
use Rattle.piv_rules.specs.Legal.{is_locked, is_full, opened_count}
use Rattle.piv_rules.specs.Memories.{mem}
use Rattle.piv_rules.proofs.Legality.{IsLegal-runs}
use Rattle.card_laws.specs.StandsFor.{Attached, attached_of, CardState, StandsFor}
use Rattle.card_laws.specs.ConnectionSteps.{chain_length, fresh_on, with_at, after_reset, after_cut}
use Rattle.card_laws.specs.NumberLaws.{IsUnused}
use Rattle.card_laws.specs.StandsLaws.{opened_as, noted_as}
use Rattle.card_laws.proofs.StandsLaws.{attached-open, stands-opened, stands-closed, stands-noted, stands-reset, stands-cut, stands-up}
use Rattle.card_laws.proofs.LossLaws.{StartsWithTheBase-law}
use Rattle.card_laws.proofs.Numbers.{unused-above}
use Rattle.piv_chaining.specs.Chains.{Chain, chain_of, held_by}
use Rattle.card_app.specs.Acts.{closed_as, reset_as, cut_as, up_as}
use Rattle.card_app.specs.declared.card.Card.{Card}
use Rattle.card_app.specs.declared.slot.Connection.{Connection}
use Rattle.card_app.specs.declared.slot.Slot.{Slot}
use Rattle.card_app.specs.Kept.{attached_as, attached_in, is_numbered, is_at, is_among, slot_attached, AreApart, EachBecameBy, IsPlaced, is_free}
use Rattle.card_app.specs.Stands.{state_of, attached_to, CardStandsFor}
use Rattle.card_app.specs.Flights.{told_of}
use Rattle.card_app.proofs.Counting.{full-none, full-free}
use Rattle.card_app.proofs.SlotLaws.{placed-attached, unfound, each-attached, each-apart, attached-set, apart-set, alone-placed, alone-free, found-none, IsFree}

-- the card's own fields are as before
same-state : {S T : Type 0} {meaning : Ghosts S T} (old new : Card S T meaning) → new.store ≡ old.store → new.flight ≡ old.flight
    → new.lost ≡ old.lost → state_of old ≡ state_of new
same-state {meaning = meaning} old new store flight lost = λ j. record {
  on = (meaning.state (sym store j)).power.on;
  memory = (meaning.state (sym store j)).mem;
  running = option_map (λ f. (f.c, (sym lost j).command)) (sym flight j);
  took = told_of (sym flight j) (sym lost j).command (meaning.state (sym store j)).mem;
}

-- all slots of a card
each-now : {S T : Type 0} {meaning : Ghosts S T} (h : Attached → Attached) (old new : Card S T meaning) (was now : List Slot) → was ≡ old.slots.items
    → new.slots ≡ with_items old.slots now → EachBecameBy h was now → EachBecameBy h old.slots.items new.slots.items
each-now h old new was now is_was is_now became =
    let e : EachBecameBy h old.slots.items now = subst (λ (v : List Slot). EachBecameBy h v now) is_was became in
    subst (λ (v : List Slot). EachBecameBy h old.slots.items v) (sym (ap (λ v. v.items) is_now ∙ with_items_is old.slots now (e.0 ∙ sym old.slots.ok.0))) e

pub card-reset : {S T : Type 0} {meaning : Ghosts S T} (old new : Card S T meaning) (B : Base) (R : Records) (i : Interface)
    → CardStandsFor old B R → (meaning.state old.store).power.on ≡ true → new.store ≡ old.store → new.flight ≡ old.flight → new.lost ≡ old.lost
    → (was now : List Slot) → was ≡ old.slots.items → new.slots ≡ with_items old.slots now → EachBecameBy (after_reset i) was now
    → CardStandsFor new B (reset_as i ∷ R)
card-reset old new B R i stands is_on store flight lost was now is_was is_now became =
    let each = each-now (after_reset i) old new was now is_was is_now became in record {
      apart = each-apart (after_reset i) old.slots.items new.slots.items each stands.apart;
      stands = subst (λ (s : CardState). StandsFor B (reset_as i ∷ R) s (attached_to new))
          (same-state old new store flight lost)
          (stands-reset B R (state_of old) (attached_to old) (attached_to new) i stands.stands is_on
          (each-attached (after_reset i) old.slots.items new.slots.items each));
    }

pub card-cut : {S T : Type 0} {meaning : Ghosts S T} (old new : Card S T meaning) (B : Base) (R : Records)
    → CardStandsFor old B R → (meaning.state old.store).power.on ≡ true
    → meaning.state new.store ≡ record (meaning.state old.store) { power = switched_off (meaning.state old.store).power } → new.flight ≡ None
    → (was now : List Slot) → was ≡ old.slots.items → new.slots ≡ with_items old.slots now → EachBecameBy after_cut was now
    → CardStandsFor new B (cut_as ∷ R)
card-cut {meaning = meaning} old new B R stands is_on store flight was now is_was is_now became =
    let each = each-now after_cut old new was now is_was is_now became in record {
      apart = each-apart after_cut old.slots.items new.slots.items each stands.apart;
      stands = stands-cut B R (state_of old) (state_of new) (attached_to old) (attached_to new) stands.stands is_on
          (λ j. record {
            on = (store j).power.on;
            memory = (store j).mem;
            running = option_map (λ f. (f.c, new.lost.command)) (flight j);
            took = told_of (flight j) new.lost.command (store j).mem;
          })
          (each-attached after_cut old.slots.items new.slots.items each);
    }

-- power is switched on: the card says what it kept
pub card-up : {S T : Type 0} {meaning : Ghosts S T} (old new : Card S T meaning) (B : Base) (R : Records) (t : Took)
    → CardStandsFor old B R → (meaning.state old.store).power.on ≡ false
    → meaning.state new.store ≡ record (meaning.state old.store) { power = switched_on (meaning.state old.store).power } → new.slots ≡ old.slots
    → (between : StoreState) → between ≡ record (meaning.state old.store) { power = switched_on (meaning.state old.store).power }
    → IfSome between.mem (λ m. t ≡ told_of old.flight old.lost.command (Some m))
    → CardStandsFor new B (up_as t ∷ R)
card-up {meaning = meaning} old new B R t stands is_off store slots between was told = record {
  apart = subst (λ (v : List Slot). AreApart v) (ap (λ v. v.items) (sym slots)) stands.apart;
  stands = rw is_told (subst (λ (a : ℕ → Option Attached). StandsFor B (up_as (state_of old).took ∷ R) (state_of new) a) (λ j c. attached_in (sym slots j).items c)
      (stands-up B R (state_of old) (state_of new) (attached_to old) stands.stands is_off (ap (λ (s : StoreState). s.power.on) store) (ap (λ (s : StoreState). s.mem) store)));
}
  where
    kept : (meaning.state old.store).mem ≡ Some (mem B (Up (state_of old).took ∷ entries R))
    kept = (stands.stands.off (rw is_off refl)).memory

    by : (o : Option Memory) (m : Memory) → o ≡ Some m → IfSome o (λ n. t ≡ told_of old.flight old.lost.command (Some n)) → t ≡ told_of old.flight old.lost.command o
    by None m e h = absurd (cc)
    by (Some n) m e h = h

    is_told : t ≡ told_of old.flight old.lost.command (meaning.state old.store).mem
    is_told =
        let e : between.mem ≡ (meaning.state old.store).mem = ap (λ (s : StoreState). s.mem) was in
        by between.mem (mem B (Up (state_of old).took ∷ entries R)) (e ∙ kept) told ∙ ap (told_of old.flight old.lost.command) e

-- a slot with this connection is given up
pub card-detached : {S T : Type 0} {meaning : Ghosts S T} (old new : Card S T meaning) (B : Base) (R : Records) (i c : ℕ) (t : Slot)
    → CardStandsFor old B R → IsPlaced old.slots.items i c → t.connection ≡ None
    → new.store ≡ old.store → new.flight ≡ old.flight → new.lost ≡ old.lost → new.slots.items ≡ set old.slots.items i t
    → IsSome (attached_to old c)
    → CardStandsFor new B (closed_as c ∷ R)
card-detached old new B R i c t stands placed none store flight lost slots there =
    let alone = alone-placed old.slots.items i c stands.apart placed in
    let own : (d : ℕ) → (c == d) ≡ false → is_at t d ≡ false = λ d other. ap (λ (o : Option Connection). is_numbered d o) none in
    let not_at : is_at t c ≡ false = ap (λ (o : Option Connection). is_numbered c o) none in
    record {
      apart = subst (λ (v : List Slot). AreApart v) (sym slots) (apart-set old.slots.items i c t stands.apart alone own);
      stands = subst (λ (s : CardState). StandsFor B (closed_as c ∷ R) s (attached_to new))
          (same-state old new store flight lost)
          (go (attached_to old c) refl there
          (λ d. ap (λ (v : List Slot). attached_in v d) slots ∙ attached-set old.slots.items i c t alone own d
          ∙ (λ j. with_at c (if not_at j then slot_attached t else None) (attached_to old) d)));
    }
  where
    go : (o : Option Attached) → attached_to old c ≡ o → IsSome o → ((d : ℕ) → attached_to new d ≡ with_at c None (attached_to old) d)
        → StandsFor B (closed_as c ∷ R) (state_of old) (attached_to new)
    go None is some sets = absurd (cc)
    go (Some x) is some sets = stands-closed B R (state_of old) (attached_to old) (attached_to new) c x stands.stands is sets

-- a free slot is given to a connection: the record of any Connect that isn't locked
pub card-attached : {S T : Type 0} {meaning : Ghosts S T} (old new : Card S T meaning) (B : Base) (R : Records) (i c : ℕ) (t : Slot) (interface : Interface) (shared : Bool)
    → CardStandsFor old B R → (meaning.state old.store).power.on ≡ true → IsFree old.slots.items i → c ≡ opened_count (entries R) + 1
    → is_at t c ≡ true → ((d : ℕ) → (c == d) ≡ false → is_at t d ≡ false) → slot_attached t ≡ Some (fresh_on interface)
    → new.store ≡ old.store → new.flight ≡ old.flight → new.lost ≡ old.lost → new.slots.items ≡ set old.slots.items i t
    → is_locked (entries R) interface shared ≡ false
    → CardStandsFor new B (opened_as R interface shared ∷ R)
card-attached old new B R i c t interface shared stands is_on free number at own becomes store flight lost slots unlocked =
    let room : is_full (entries R) ≡ false = full-free B R (state_of old) old.slots.items i c t stands.apart old.sixteen stands.stands free at in
    let unused : IsUnused (entries R) c = unused-above B (entries R) c (IsLegal-runs B R stands.stands.runs) (omega arith) in
    let shut : is_open (entries R) c ≡ false = rw unused.0 refl in
    let none : attached_to old c ≡ None = stands.stands.connections c ∙ (λ j. if shut j then Some (attached_of B R c) else None) in
    let alone = alone-free old.slots.items i c (found-none old.slots.items c none) free in
    let sets : (d : ℕ) → attached_to new d ≡ with_at c (Some (fresh_on interface)) (attached_to old) d = λ d.
    ap (λ (v : List Slot). attached_in v d) slots ∙ attached-set old.slots.items i c t alone own d
    ∙ (λ j. with_at c (if at j then becomes j else None) (attached_to old) d) in
    record {
      apart = subst (λ (v : List Slot). AreApart v) (sym slots) (apart-set old.slots.items i c t stands.apart alone own);
      stands = subst (λ (s : CardState). StandsFor B (opened_as R interface shared ∷ R) s (attached_to new))
          (same-state old new store flight lost)
          (stands-opened B R (state_of old) (attached_to old) (attached_to new) interface shared stands.stands is_on unlocked room
          (subst (λ (n : ℕ). (d : ℕ) → attached_to new d ≡ with_at n (Some (fresh_on interface)) (attached_to old) d) number sets));
    }

-- no slot is free: the card stands for the note that says so
pub card-full : {S T : Type 0} {meaning : Ghosts S T} (old : Card S T meaning) (B : Base) (R : Records) (interface : Interface) (shared : Bool)
    → CardStandsFor old B R → (meaning.state old.store).power.on ≡ true → position is_free old.slots.items ≡ None
    → is_locked (entries R) interface shared ≡ false
    → CardStandsFor old B (noted_as R (Connect interface shared) why.NoChannel ∷ R)
card-full old B R interface shared stands is_on none unlocked =
    let power : on (entries R) ≡ true = sym stands.stands.power ∙ is_on in
    let full : is_full (entries R) ≡ true = full-none B R (state_of old) old.slots.items stands.apart old.sixteen stands.stands none in
    record {
      apart = stands.apart;
      stands = stands-noted B R (state_of old) (attached_to old) (Connect interface shared) why.NoChannel stands.stands (rw (power, unlocked, full) refl);
    }

-- a card that is off answers nothing
pub card-muted : {S T : Type 0} {meaning : Ghosts S T} (old : Card S T meaning) (B : Base) (R : Records) (c known : ℕ) (bytes : List ℕ)
    → CardStandsFor old B R → (meaning.state old.store).power.on ≡ false → IsSome (attached_to old c)
    → CardStandsFor old B (record { act = Exchange c known bytes; entry = Note (kind.Exchange c) why.Mute; answer = Mute (epoch (entries R) (side (entries R) c)) } ∷ R)
card-muted old B R c known bytes stands is_off there = record {
  apart = stands.apart;
  stands = go (attached_to old c) refl there;
}
  where
    go : (o : Option Attached) → attached_to old c ≡ o → IsSome o
        → StandsFor B (record { act = Exchange c known bytes; entry = Note (kind.Exchange c) why.Mute; answer = Mute (epoch (entries R) (side (entries R) c)) } ∷ R) (state_of old) (attached_to old)
    go None is some = absurd (cc)
    go (Some x) is some =
        let power : on (entries R) ≡ false = sym stands.stands.power ∙ is_off in
        let opened = (attached-open B R (state_of old) (attached_to old) c x stands.stands is).0 in
        stands-noted B R (state_of old) (attached_to old) (Exchange c known bytes) why.Mute stands.stands (rw (opened, power) refl)

-- a card without records: the memory is the base's
pub card-new : {S T : Type 0} {meaning : Ghosts S T} (new : Card S T meaning) (B : Base) → length B.memory.objects ≡ 33
    → (meaning.state new.store).power.on ≡ true → (meaning.state new.store).mem ≡ Some B.memory
    → ((c : ℕ) → is_among new.slots.items c ≡ false) → AreApart new.slots.items
    → CardStandsFor new B []
card-new new B places is_on memory none apart = record {
  apart = apart;
  stands = record {
    runs = tt;
    power = is_on;
    connections = λ c. unfound new.slots.items c (none c);
    memory = λ h. memory ∙ ap Some (sym (StartsWithTheBase-law B places));
    off = λ h. absurd (let f : true ≡ false = sym h ∙ ap not is_on in cc);
  };
}

-- what the connection's chain holds
held-length : (s : Chain) → held_by s ≡ chain_length (chain_of s)
held-length s = go s.is_chain
  where
    go : (b : Bool) → (if b then length s.command.body else 0) ≡ chain_length (if b then Some s.command else None)
    go true = refl
    go false = refl

pub card-held : {S T : Type 0} {meaning : Ghosts S T} (old : Card S T meaning) (B : Base) (R : Records) (i c : ℕ) (s : Slot)
    → CardStandsFor old B R → IsPlaced old.slots.items i c → s ≡ get_or old.slots.items i s → held_by s.joiner ≡ chain_length (chain R c)
card-held old B R i c s stands placed is =
    let there = placed-attached old.slots.items i c s stands.apart placed in
    let same : attached_to old c ≡ slot_attached s = there.0 ∙ ap slot_attached (sym is) in
    let x = some-connection s (ap (λ (t : Slot). is_at t c) is ∙ there.1) in
    let found : attached_to old c ≡ Some (attached_as s.joiner s.pieces x.0) = same ∙ ap (option_map (attached_as s.joiner s.pieces)) x.1 in
    held-length s.joiner ∙ ap chain_length (sym (ap (λ (y : Attached). y.chain) (attached-open B R (state_of old) (attached_to old) c (attached_as s.joiner s.pieces x.0) stands.stands found).1))
  where
    some-connection : (s : Slot) → is_at s c ≡ true → (x : Connection) × (s.connection ≡ Some x)
    some-connection s h = go s.connection h
      where
        go : (o : Option Connection) → is_numbered c o ≡ true → (x : Connection) × (o ≡ Some x)
        go None k = absurd (cc)
        go (Some x) k = (x, refl)

-- the bytes of a chain, by what is kept of the connection
pub kept-held : (s : Slot) (x : Attached) (o : Option Attached) → o ≡ slot_attached s → o ≡ Some x → held_by s.joiner ≡ chain_length x.chain
kept-held s x o is some = go s.connection (sym is ∙ some)
  where
    go : (y : Option Connection) → option_map (attached_as s.joiner s.pieces) y ≡ Some x → held_by s.joiner ≡ chain_length x.chain
    go None e = absurd (cc)
    go (Some y) e =
        let same : attached_as s.joiner s.pieces y ≡ x = cc in
        held-length s.joiner ∙ ap (λ (z : Attached). chain_length z.chain) same
