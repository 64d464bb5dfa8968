-- Cells made one after the other, and devices in their places.
use Rattle.std.specs.Prelude.{All, slice_get, option_map}
use Rattle.std.proofs.Common.{◌≡◌, inl, inr, ℕ, zero, suc, ◌+◌, ◌-◌, ◌<◌, ◌≤◌, List, [], ◌∷◌, ◌++◌, length, drop, map, Some, refl, sym, ap, subst, ◌∙◌, arith, length-append, length-drop}
use Rattle.std.proofs.lemmas.List.{length-map, drop-drop}
use Rattle.std.proofs.lemmas.Option.{get_or_from_slice_get}
use Rattle.power_loss.specs.declared.loss.Loss.{Loss}
use Rattle.piv_model.specs.declared.start.Start.{Start}
use Rattle.piv_model.specs.declared.store.Store.{Ghosts}
use Rattle.piv_model.specs.Starts.{memory_of_start}
use Rattle.nvm_device.specs.Device.{DeviceState}
use Rattle.nvm_device.specs.declared.loss.How.{How}
use Rattle.piv_rules.specs.Acts.{Records}
use Rattle.block_store.specs.Devices.{IsFaulted, IsReady}
use Rattle.scene_cards.specs.CardValues.{CardValue}
use Rattle.card_cell.specs.declared.cell.CardCell.{CardCell}
use Rattle.card_cell.specs.declared.base.CellBase.{CellBase}
use Rattle.scene_cells.specs.Lowered.{AreLeft, IsLeft}
use Rattle.scene_cells.specs.declared.fault.RunFault.{RunFault}
use Rattle.scene_cells.specs.declared.fault.RunFault.TheVariants.{Device, NoMemory}
use Rattle.scene_cells.specs.Raised.{IsRaised, IsPersonal, IsSpared, IsBack, AreBack}
use Rattle.scene_cells.proofs.Places.{either-place, place-in-drop, place-within, mapped-place, known-place}

-- each cell that there is stands on the device of its place
abbrev pub AreSoFar : {N S T : Type 0} {meaning : Ghosts S T} → (N → DeviceState) → (CardCell S T meaning → N) → ℕ
    → List CardValue → List N → List ℕ → List (CardCell S T meaning) → Type 0
AreSoFar {N} {S} {T} {meaning} state device turns cards old losses cells =
    (k : ℕ) (card : CardValue) (before : N) (lost : ℕ) (cell : CardCell S T meaning)
    → slice_get cards k ≡ Some card → slice_get old k ≡ Some before → slice_get losses k ≡ Some lost → slice_get cells k ≡ Some cell
    → IsRaised card.start card.plan turns lost (state before) cell × IsPersonal card.start (state before) (state (device cell))

last-one : {A : Type 0} (x y : A) (j : ℕ) → slice_get (x ∷ []) j ≡ Some y → (j ≡ 0) × (x ≡ y)
last-one x y zero at = (refl, cc)
last-one x y (suc j) at = absurd (cc)

-- one more
pub one-more : {N S T : Type 0} {meaning : Ghosts S T} (state : N → DeviceState) (device : CardCell S T meaning → N) (turns : ℕ)
    (cards : List CardValue) (old : List N) (losses : List ℕ) (cells : List (CardCell S T meaning))
    (card : CardValue) (before : N) (lost : ℕ) (cell : CardCell S T meaning)
    → length losses ≡ length cells → slice_get cards (length cells) ≡ Some card → slice_get old (length cells) ≡ Some before
    → IsRaised card.start card.plan turns lost (state before) cell × IsPersonal card.start (state before) (state (device cell))
    → AreSoFar state device turns cards old losses cells
    → AreSoFar state device turns cards old (losses ++ lost ∷ []) (cells ++ cell ∷ [])
one-more {N} {S} {T} {meaning} state device turns cards old losses cells card before lost cell same card_is before_is made so_far k c b l x card_at before_at lost_at cell_at =
    either-place cells (cell ∷ []) k x cell_at
    (λ here. let low = place-within cells k x here in
    either-place losses (lost ∷ []) k l lost_at (λ there. so_far k c b l x card_at before_at there here) (λ j e there. absurd (omega arith)))
    (λ j e here.
    let last = last-one cell x j here in
    let at : k ≡ length cells = omega (arith, e, last.0) in
    either-place losses (lost ∷ []) k l lost_at (λ there. let low = place-within losses k l there in absurd (omega arith)) (λ i f there.
    let only = last-one lost l i there in
    let same_card : card ≡ c = let a : Some card ≡ Some c = sym card_is ∙ ap (λ n. slice_get cards n) (sym at) ∙ card_at in cc in
    let same_before : before ≡ b = let a : Some before ≡ Some b = sym before_is ∙ ap (λ n. slice_get old n) (sym at) ∙ before_at in cc in
    joined c b l x same_card same_before only.1 last.1))
  where
    joined : (c : CardValue) (b : N) (l : ℕ) (x : CardCell S T meaning) → card ≡ c → before ≡ b → lost ≡ l → cell ≡ x
        → IsRaised c.start c.plan turns l (state b) x × IsPersonal c.start (state b) (state (device x))
    joined c b l x ec eb el ex = (
      subst (λ (c : CardValue). IsRaised c.start c.plan turns l (state b) x) ec
          (subst (λ (b : N). IsRaised card.start card.plan turns l (state b) x) eb
          (subst (λ (l : ℕ). IsRaised card.start card.plan turns l (state before) x) el
          (subst (λ (x : CardCell S T meaning). IsRaised card.start card.plan turns lost (state before) x) ex made.0))),
      subst (λ (c : CardValue). IsPersonal c.start (state b) (state (device x))) ec
          (subst (λ (b : N). IsPersonal card.start (state b) (state (device x))) eb
          (subst (λ (x : CardCell S T meaning). IsPersonal card.start (state before) (state (device x))) ex made.1)),
    )

-- the devices of these cells, the one that failed, and those that were not taken
pub placed-back : {N S T : Type 0} {meaning : Ghosts S T} (state : N → DeviceState) (device : CardCell S T meaning → N) (turns : ℕ)
    (cards : List CardValue) (fault : RunFault) (old new : List N) (losses : List ℕ) (cells : List (CardCell S T meaning))
    (card : CardValue) (before now : N)
    → length cells < length cards → length cards ≤ length old → length losses ≡ length cells
    → slice_get cards (length cells) ≡ Some card → slice_get old (length cells) ≡ Some before
    → (fault ≡ NoMemory → IsSpared card.start (state before) (state now))
    → (fault ≡ Device → IsFaulted (memory_of_start card.start) (state before) (state now))
    → AreSoFar state device turns cards old losses cells
    → new ≡ map device cells ++ (now ∷ drop (length cells + 1) old)
    → AreBack state cards fault old new
placed-back {N} {S} {T} {meaning} state device turns cards fault old new losses cells card before now few enough counts card_is before_is spared faulted so_far is = record {
  stand = record { count = counted; others = beyond };
  each = λ k c b n card_at before_at now_at.
      either-place (map device cells) (now ∷ drop (length cells + 1) old) k n (ap (λ (l : List N). slice_get l k) (sym is) ∙ now_at)
      (λ here. below k c b n card_at before_at here)
      (λ j e there. behind k j c b n (omega (arith, e, length-map cells device)) card_at before_at there);
  cause = λ is_device. record {
    place = length cells;
    card = card;
    before = before;
    now = now;
    card_is = card_is;
    before_is = before_is;
    now_is = at-end;
    faulted = faulted is_device;
  };
}
  where
    many : length (map device cells) ≡ length cells
    many = length-map cells device

    counted : length new ≡ length old
    counted = ap (λ (l : List N). length l) is ∙ (let a = length-append (map device cells) (now ∷ drop (length cells + 1) old) in
        let d = length-drop (length cells + 1) old in let m = many in omega arith)

    at-behind : {A : Type 0} (xs ys : List A) (n j : ℕ) → n ≡ length xs → slice_get (xs ++ ys) (n + j) ≡ slice_get ys j
    at-behind [] ys n j e = ap (λ k. slice_get ys k) (omega (arith, e))
    at-behind (x ∷ xs) ys zero j e = absurd (omega arith)
    at-behind (x ∷ xs) ys (suc n) j e = let s : suc n + j ≡ suc (n + j) = omega arith in rw s (at-behind xs ys n j (omega (arith, e)))

    at-end : slice_get new (length cells) ≡ Some now
    at-end = ap (λ (l : List N). slice_get l (length cells)) is
        ∙ ap (λ n. slice_get (map device cells ++ (now ∷ drop (length cells + 1) old)) n) (omega arith)
        ∙ at-behind (map device cells) (now ∷ drop (length cells + 1) old) (length cells) 0 (sym many)

    drop-behind : {A : Type 0} (xs ys : List A) (n : ℕ) → drop (length xs + n) (xs ++ ys) ≡ drop n ys
    drop-behind [] ys n = ap (λ k. drop k ys) (omega arith)
    drop-behind (x ∷ xs) ys n = let s : suc (length xs) + n ≡ suc (length xs + n) = omega arith in rw s (drop-behind xs ys n)

    beyond : drop (length cards) new ≡ drop (length cards) old
    beyond =
        let m = many in
        let cut : length cards ≡ length (map device cells) + suc (length cards - (length cells + 1)) = omega arith in
        let whole : (length cells + 1) + (length cards - (length cells + 1)) ≡ length cards = omega arith in
        ap (λ (l : List N). drop (length cards) l) is
        ∙ ap (λ n. drop n (map device cells ++ (now ∷ drop (length cells + 1) old))) cut
        ∙ drop-behind (map device cells) (now ∷ drop (length cells + 1) old) (suc (length cards - (length cells + 1)))
        ∙ drop-drop (length cards - (length cells + 1)) (length cells + 1) old
        ∙ ap (λ n. drop n old) whole

    -- a cell's device was personalised
    below : (k : ℕ) (c : CardValue) (b n : N) → slice_get cards k ≡ Some c → slice_get old k ≡ Some b → slice_get (map device cells) k ≡ Some n
        → IsBack fault c.start (state b) (state n)
    below k c b n card_at before_at here =
        let one = mapped-place device cells k n here in
        let low = place-within cells k one.0 one.1 in
        let lost = found-at losses k (omega (arith, low, counts)) in
        inl (inr (subst (λ (n : N). IsPersonal c.start (state b) (state n)) (sym one.2) (so_far k c b lost.0 one.0 card_at before_at lost.1 one.1).1))
      where
        found-at : (xs : List ℕ) (k : ℕ) → k < length xs → (x : ℕ) × (slice_get xs k ≡ Some x)
        found-at [] k h = absurd (omega arith)
        found-at (x ∷ xs) zero h = (x, refl)
        found-at (x ∷ xs) (suc k) h = found-at xs k (omega (arith, h))

    by-fault : (f : RunFault) → fault ≡ f → IsBack fault card.start (state before) (state now)
    by-fault NoMemory e = inl (spared e)
    by-fault Device e = inr (e, faulted e)

    behind : (k j : ℕ) (c : CardValue) (b n : N) → k ≡ length cells + j → slice_get cards k ≡ Some c → slice_get old k ≡ Some b
        → slice_get (now ∷ drop (length cells + 1) old) j ≡ Some n → IsBack fault c.start (state b) (state n)
    behind k zero c b n e card_at before_at there =
        let at : k ≡ length cells = omega (arith, e) in
        let same_card : card ≡ c = let a : Some card ≡ Some c = sym card_is ∙ ap (λ n. slice_get cards n) (sym at) ∙ card_at in cc in
        let same_before : before ≡ b = let a : Some before ≡ Some b = sym before_is ∙ ap (λ n. slice_get old n) (sym at) ∙ before_at in cc in
        let same_now : now ≡ n = cc in
        subst (λ (c : CardValue). IsBack fault c.start (state b) (state n)) same_card
        (subst (λ (b : N). IsBack fault card.start (state b) (state n)) same_before
        (subst (λ (n : N). IsBack fault card.start (state before) (state n)) same_now (by-fault fault refl)))
    behind k (suc j) c b n e card_at before_at there =
        let at : (length cells + 1) + j ≡ k = omega (arith, e) in
        let there_too : slice_get old k ≡ Some n = ap (λ n. slice_get old n) (sym at) ∙ sym (place-in-drop (length cells + 1) old j) ∙ there in
        let same : b ≡ n = let a : Some b ≡ Some n = sym before_at ∙ there_too in cc in
        inl (inl (ap state (sym same)))

-- ---- devices of cells that were taken down

pub left-none : {C : Type 0} (held : C → CellBase → Records → Type 0) (state : C → DeviceState) → AreLeft held state []
left-none held state k cell base R at is = absurd (cc)

pub left-more : {C : Type 0} (held : C → CellBase → Records → Type 0) (state : C → DeviceState) (cell : C) (cells : List C)
    → ((base : CellBase) (R : Records) → held cell base R → IsLeft base R (state cell))
    → AreLeft held state cells → AreLeft held state (cell ∷ cells)
left-more held state first cells here later zero cell base R at is =
    let same : first ≡ cell = cc in
    subst (λ x. IsLeft base R (state x)) same (here base R (subst (λ x. held x base R) (sym same) is))
left-more held state first cells here later (suc k) cell base R at is = later k cell base R at is

pub left-all : {C : Type 0} (held : C → CellBase → Records → Type 0) (state : C → DeviceState) (cells down all : List C)
    → length cells ≡ 0 → cells ++ down ≡ all → AreLeft held state down → AreLeft held state all
left-all held state [] down all none split left = subst (λ l. AreLeft held state l) split left
left-all held state (x ∷ cells) down all none split left = absurd (omega arith)

-- no cell is left that wasn't taken down
pub none-left : {C : Type 0} (P : C → Type 0) (cells down all : List C) → length cells ≡ 0 → cells ++ down ≡ all → All P down → All P all
none-left P [] down all none split these = subst (λ l. All P l) split these
none-left P (x ∷ cells) down all none split these = absurd (omega arith)

-- the room that is left when one cell more was taken down
pub room-kept : {C : Type 0} (cells : List C) (x : C) (left : List C) (n m cap more : ℕ) → cells ≡ left ++ x ∷ [] → m ≡ n + 1 → cap ≤ more
    → length cells + n ≤ cap → length left + m ≤ more
room-kept cells x left n m cap more is one grown room =
    let size = ap (λ l. length l) is ∙ length-append left (x ∷ []) in omega arith

-- ---- one card more

found-place : {A : Type 0} (xs : List A) (k : ℕ) → k < length xs → (x : A) × (slice_get xs k ≡ Some x)
found-place [] k within = absurd (omega arith)
found-place (x ∷ xs) zero within = (x, refl)
found-place (x ∷ xs) (suc k) within = found-place xs k (omega arith)

pub grown : {A : Type 0} (xs : List A) (x : A) (ys : List A) (k : ℕ) → ys ≡ xs ++ x ∷ [] → length xs ≡ k → length ys ≡ k + 1
grown xs x ys k is same = ap (λ l. length l) is ∙ length-append xs (x ∷ []) ∙ ap (λ n. n + 1) same

-- the first of those behind so many
pub first-taken : {A : Type 0} (n : ℕ) (xs ys zs : List A) (x : A) → ys ≡ drop n xs → ys ≡ x ∷ zs
    → (slice_get xs n ≡ Some x) × (zs ≡ drop (n + 1) xs)
first-taken n xs ys zs x left is = (
  ap (λ k. slice_get xs k) (omega arith) ∙ sym (place-in-drop n xs 0) ∙ ap (λ l. slice_get l 0) (sym left ∙ is),
  ap (λ l. drop 1 l) (sym is ∙ left) ∙ drop-drop 1 n xs,
)

pub ready-at : {N : Type 0} (state : N → DeviceState) (devices : List N) (k : ℕ) (device : N) → All (λ d. IsReady (state d)) devices
    → slice_get devices k ≡ Some device → IsReady (state device)
ready-at state devices k device ready at =
    subst (λ d. IsReady (state d)) (get_or_from_slice_get devices k device device at) (ready k device (place-within devices k device at))

pub step-more : {N S T : Type 0} {meaning : Ghosts S T} (state : N → DeviceState) (device : CardCell S T meaning → N) (turns : ℕ)
    (cards : List CardValue) (old : List N) (losses more : List ℕ) (cells added : List (CardCell S T meaning)) (k : ℕ)
    (start : Start) (plan : List (Loss How)) (before : N) (lost : ℕ) (cell : CardCell S T meaning)
    → k < length cards → length cells ≡ k → length losses ≡ k
    → option_map (λ c. c.start) (slice_get cards k) ≡ Some start → option_map (λ c. c.plan) (slice_get cards k) ≡ Some plan
    → slice_get old k ≡ Some before
    → IsRaised start plan turns lost (state before) cell → IsPersonal start (state before) (state (device cell))
    → more ≡ losses ++ lost ∷ [] → added ≡ cells ++ cell ∷ []
    → AreSoFar state device turns cards old losses cells → AreSoFar state device turns cards old more added
step-more {N} {S} {T} {meaning} state device turns cards old losses more cells added k start plan before lost cell within many counts start_is plan_is before_is made personal more_is added_is so_far =
    let card = found-place cards k within in
    let same_start : card.0.start ≡ start = known-place (λ (c : CardValue). c.start) (slice_get cards k) card.0 start card.1 start_is in
    let same_plan : card.0.plan ≡ plan = known-place (λ (c : CardValue). c.plan) (slice_get cards k) card.0 plan card.1 plan_is in
    let made_so : IsRaised card.0.start card.0.plan turns lost (state before) cell =
    subst (λ (s : Start). IsRaised s card.0.plan turns lost (state before) cell) (sym same_start)
    (subst (λ (p : List (Loss How)). IsRaised start p turns lost (state before) cell) (sym same_plan) made) in
    let personal_so : IsPersonal card.0.start (state before) (state (device cell)) =
    subst (λ (s : Start). IsPersonal s (state before) (state (device cell))) (sym same_start) personal in
    subst (λ (l : List ℕ). AreSoFar state device turns cards old l added) (sym more_is)
    (subst (λ (l : List (CardCell S T meaning)). AreSoFar state device turns cards old (losses ++ lost ∷ []) l) (sym added_is)
    (one-more state device turns cards old losses cells card.0 before lost cell (counts ∙ sym many)
    (ap (λ n. slice_get cards n) many ∙ card.1) (ap (λ n. slice_get old n) many ∙ before_is) (made_so, personal_so) so_far))

pub step-back : {N S T : Type 0} {meaning : Ghosts S T} (state : N → DeviceState) (device : CardCell S T meaning → N) (turns : ℕ)
    (cards : List CardValue) (fault : RunFault) (old taken put new : List N) (losses : List ℕ) (cells : List (CardCell S T meaning)) (k : ℕ)
    (start : Start) (before now : N)
    → k < length cards → length cards ≤ length old → length cells ≡ k → length losses ≡ k
    → option_map (λ c. c.start) (slice_get cards k) ≡ Some start → slice_get old k ≡ Some before
    → taken ≡ drop (k + 1) old → put ≡ now ∷ taken → new ≡ map device cells ++ put
    → (fault ≡ NoMemory → IsSpared start (state before) (state now))
    → (fault ≡ Device → IsFaulted (memory_of_start start) (state before) (state now))
    → AreSoFar state device turns cards old losses cells → AreBack state cards fault old new
step-back {N} {S} {T} {meaning} state device turns cards fault old taken put new losses cells k start before now within enough many counts start_is before_is taken_is put_is new_is spared faulted so_far =
    let card = found-place cards k within in
    let same_start : start ≡ card.0.start = sym (known-place (λ (c : CardValue). c.start) (slice_get cards k) card.0 start card.1 start_is) in
    placed-back state device turns cards fault old new losses cells card.0 before now
    (subst (λ n. n < length cards) (sym many) within) enough (counts ∙ sym many)
    (ap (λ n. slice_get cards n) many ∙ card.1) (ap (λ n. slice_get old n) many ∙ before_is)
    (λ none. subst (λ (s : Start). IsSpared s (state before) (state now)) same_start (spared none))
    (λ fell. subst (λ (s : Start). IsFaulted (memory_of_start s) (state before) (state now)) same_start (faulted fell))
    so_far
    (new_is ∙ ap (λ (l : List N). map device cells ++ l) (put_is ∙ ap (λ (l : List N). now ∷ l) (taken_is ∙ ap (λ n. drop (n + 1) old) (sym many))))

pub end-of : (k n m : ℕ) → n ≤ k → k ≤ n → n ≡ m → k ≡ m
end-of k n m past within is = omega arith
