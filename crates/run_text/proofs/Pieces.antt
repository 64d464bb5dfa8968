-- A text in pieces, of which each is written after the ones before it.
use Rattle.std.proofs.Common.{◌≡◌, ℕ, zero, suc, ◌+◌, ◌<◌, ◌≤◌, List, [], ◌∷◌, ◌++◌, length, take, drop, get_or, map, Option, Some, None, Result, Ok, Err, refl, sym, ap, ◌∙◌, subst, arith}
use Rattle.std.specs.Prelude.{slice_get, option_map}
use Rattle.std.specs.List.{flat_map, zip, enumerate_from}
use Rattle.std.proofs.lemmas.List.{append-nil, take-append-drop, take_more, take_all}
use Rattle.std.proofs.lemmas.List.Concat.{flat_map-append}
use Rattle.std.proofs.lemmas.Option.{get_or_from_slice_get, slice_get_within, slice_get-map, slice_get_read}
use Rattle.scene_cards.specs.CardValues.{CardValue}
use Rattle.piv_ports.specs.declared.sink.WriteStop.{WriteStop}
use Rattle.piv_ports.specs.Writes.{Writes}
use Rattle.piv_ports.proofs.Writing.{Writes-then, Writes-stopped}

-- the pieces up to a place
abbrev pub up_to : {X : Type 0} → (X → List ℕ) → List X → ℕ → List ℕ
up_to f xs k = flat_map f (take k xs)

pub up_to-next : {X : Type 0} (f : X → List ℕ) (xs : List X) (k : ℕ) (x : X) → slice_get xs k ≡ Some x → up_to f xs (k + 1) ≡ up_to f xs k ++ f x
up_to-next f xs k x at =
    ap (flat_map f) (take_more xs k x (slice_get_within xs k x at) ∙ ap (λ y. take k xs ++ y ∷ []) (get_or_from_slice_get xs k x x at))
    ∙ flat_map-append f (take k xs) (x ∷ []) ∙ ap (λ l. up_to f xs k ++ l) (append-nil (f x))

up_to-rest : {X : Type 0} (f : X → List ℕ) (xs : List X) (k : ℕ) → flat_map f xs ≡ up_to f xs k ++ flat_map f (drop k xs)
up_to-rest f xs k = sym (ap (flat_map f) (take-append-drop k xs)) ∙ flat_map-append f (take k xs) (drop k xs)

pub same-text : {S : Type 0} (taken flushed : S → Option (List ℕ)) (faults : S → ℕ) (t u : List ℕ) {a b : S} {r : Result (Unit {0}) WriteStop}
    → t ≡ u → Writes taken flushed faults t a b r → Writes taken flushed faults u a b r
same-text taken flushed faults t u {a} {b} {r} same h = subst (λ (x : List ℕ). Writes taken flushed faults x a b r) same h

-- a text was stopped within, and so was what goes on behind it
pub stopped-before : {S : Type 0} (taken flushed : S → Option (List ℕ)) (faults : S → ℕ) (xs ys : List ℕ) (a b : S) (e : WriteStop)
    → Writes taken flushed faults xs a b (Err e) → Writes taken flushed faults (xs ++ ys) a b (Err e)
stopped-before taken flushed faults xs ys a b e h = Writes-stopped taken flushed faults xs ys (xs ++ ys) a b e h refl

-- one piece more was written
pub piece-next : {S X : Type 0} (taken flushed : S → Option (List ℕ)) (faults : S → ℕ) (f : X → List ℕ) (xs : List X) (k : ℕ) (x : X) (a b c : S) (r : Result (Unit {0}) WriteStop)
    → slice_get xs k ≡ Some x → Writes taken flushed faults (up_to f xs k) a b (Ok tt) → Writes taken flushed faults (f x) b c r
    → Writes taken flushed faults (up_to f xs (k + 1)) a c r
piece-next taken flushed faults f xs k x a b c r at before next =
    subst (λ (t : List ℕ). Writes taken flushed faults t a c r) (sym (up_to-next f xs k x at))
    (Writes-then taken flushed faults (up_to f xs k) (f x) a b c r before next)

-- a piece was stopped within
pub piece-stopped : {S X : Type 0} (taken flushed : S → Option (List ℕ)) (faults : S → ℕ) (f : X → List ℕ) (xs : List X) (k : ℕ) (x : X) (a b c : S) (e : WriteStop)
    → slice_get xs k ≡ Some x → Writes taken flushed faults (up_to f xs k) a b (Ok tt) → Writes taken flushed faults (f x) b c (Err e)
    → Writes taken flushed faults (flat_map f xs) a c (Err e)
piece-stopped taken flushed faults f xs k x a b c e at before next =
    Writes-stopped taken flushed faults (up_to f xs (k + 1)) (flat_map f (drop (k + 1) xs)) (flat_map f xs) a c e
    (piece-next taken flushed faults f xs k x a b c (Err e) at before next) (up_to-rest f xs (k + 1))

-- all were written
pub pieces-end : {S X : Type 0} (taken flushed : S → Option (List ℕ)) (faults : S → ℕ) (f : X → List ℕ) (xs : List X) (k : ℕ) (a b : S) (r : Result (Unit {0}) WriteStop)
    → length xs ≤ k → Writes taken flushed faults (up_to f xs k) a b r → Writes taken flushed faults (flat_map f xs) a b r
pieces-end taken flushed faults f xs k a b r all h = subst (λ l. Writes taken flushed faults (flat_map f l) a b r) (take_all k xs all) h

-- ---- what stands at a place

some_same : {X : Type 0} (x y : X) → Some x ≡ Some y → x ≡ y
some_same x y h = cc

pub numbered-at : {X : Type 0} (n : ℕ) (xs : List X) (k : ℕ) (x : X) → slice_get xs k ≡ Some x → slice_get (enumerate_from n xs) k ≡ Some (k + n, x)
numbered-at n [] k x at = cc
numbered-at n (y ∷ xs) zero x at = ap (λ z. Some (n, z)) (some_same y x at) ∙ ap (λ m. Some (m, x)) (first n)
  where
    first : (n : ℕ) → n ≡ 0 + n
    first n = omega arith
numbered-at n (y ∷ xs) (suc k) x at =
    numbered-at (n + 1) xs k x at ∙ ap (λ (m : ℕ). Some (m, x)) (next n k)
  where
    next : (n k : ℕ) → k + (n + 1) ≡ suc k + n
    next n k = omega arith

pub both-at : {X Y : Type 0} (xs : List X) (ys : List Y) (k : ℕ) (x : X) (y : Y) → slice_get xs k ≡ Some x → slice_get ys k ≡ Some y → slice_get (zip xs ys) k ≡ Some (x, y)
both-at [] ys k x y a b = cc
both-at (u ∷ xs) [] k x y a b = cc
both-at (u ∷ xs) (v ∷ ys) zero x y a b = λ i. Some (some_same u x a i, some_same v y b i)
both-at (u ∷ xs) (v ∷ ys) (suc k) x y a b = both-at xs ys k x y a b

pub both-length : {X Y : Type 0} (xs : List X) (ys : List Y) → length (zip xs ys) ≤ length xs
both-length [] ys = omega arith
both-length (x ∷ xs) [] = omega arith
both-length (x ∷ xs) (y ∷ ys) = let h = both-length xs ys in next (x, y) x (zip xs ys) xs h
  where
    next : {A B : Type 0} (a : A) (b : B) (l : List A) (m : List B) → length l ≤ length m → length (a ∷ l) ≤ length (b ∷ m)
    next a b l m h = omega (arith, h)

-- a card that a call names
pub record IsNamed (cards : List CardValue) (k : ℕ) (called : List ℕ) : Type 0 where
  pub card : CardValue
  pub at : slice_get cards k ≡ Some card
  pub name : card.name ≡ called

pub named-at : (cards : List CardValue) (k : ℕ) (name : List ℕ) → option_map (λ c. c.name) (slice_get cards k) ≡ Some name → IsNamed cards k name
named-at cards k name h = go (slice_get cards k) refl h
  where
    go : (o : Option CardValue) → slice_get cards k ≡ o → option_map (λ c. c.name) o ≡ Some name → IsNamed cards k name
    go None at h = cc
    go (Some c) at h = record { card = c; at = at; name = some_same c.name name h }

pub mapped-at : {X Y : Type 0} (f : X → Y) (xs : List X) (k n : ℕ) (x : X) → n ≡ length xs → k < n → x ≡ get_or xs k x → slice_get (map f xs) k ≡ Some (f x)
mapped-at f xs k n x len within is = slice_get-map f xs k ∙ ap (option_map f) (slice_get_read xs n k x len within is)
