-- A card behind others, whose names none of those has.
use Rattle.std.specs.Prelude.{◌||◌, is_some, IfSome, slice_get, option_map, Result, Ok, Err, OnOk}
use Rattle.std.specs.List.{AllByRecursion, IsDistinct}
use Rattle.std.specs.Str.{bytes_eq}
use Rattle.std.proofs.Common.{◌≡◌, ℕ, ◌+◌, ◌≤◌, Bool, false, List, [], ◌∷◌, ◌++◌, length, take, drop, Option, Some, None, refl, sym, ap, ◌∙◌, subst, arith}
use Rattle.std.proofs.lemmas.List.{append_assoc, append-nil, map-append, drop_more, take_more, take-append-drop, take_all, length-take-le}
use Rattle.std.proofs.lemmas.List.Concat.{flat_map-append}
use Rattle.std.proofs.lemmas.Option.{get_or_from_slice_get, slice_get_within}
use Rattle.piv_model.specs.declared.kinds.Interface.TheVariants.{Contact, Contactless}
use Rattle.piv_model.specs.declared.no_memory.NoMemory.{NoMemory}
use Rattle.client_api.specs.Readers.{NamedReader, NamedCard, Names, reader_of, card_of}
use Rattle.scene_table.specs.Names.{is_among}
use Rattle.scene_cards.specs.Cards.{named}
use Rattle.scene_cards.specs.CardValues.{CardValue, reader_of as side_of}
use Rattle.piv_scene.specs.SceneValues.{names_of_cards, names_of_readers}
use Rattle.scene_readers.specs.SceneNames.{reader_if, readers_at, readers_from, cards_from, names_of}
use Rattle.scene_readers.proofs.Found.{reader-append, if-found, reader-found, card-found, none_of}

-- a name is none of those before it
last-free : (xs : List (List ℕ)) (y : List ℕ) (ys : List (List ℕ)) → IsDistinct bytes_eq (xs ++ y ∷ ys) → is_among xs y ≡ false
unfolding IsDistinct
last-free [] y ys h = refl
last-free (x ∷ xs) y ys h = rw (at xs y ys (λ z. bytes_eq x z ≡ false) h.0, last-free xs y ys h.1) refl
  where
    at : (xs : List (List ℕ)) (y : List ℕ) (ys : List (List ℕ)) (P : List ℕ → Type 0) → AllByRecursion P (xs ++ y ∷ ys) → P y
    at [] y ys P all = all.0
    at (x ∷ xs) y ys P all = at xs y ys P all.1

-- the names before a card at a place, and its own
around : (cards : List CardValue) (k : ℕ) (c : CardValue) → slice_get cards k ≡ Some c → cards ≡ take k cards ++ c ∷ drop (k + 1) cards
around cards k c at =
    sym (take-append-drop k cards)
    ∙ ap (λ (l : List CardValue). take k cards ++ l)
    (drop_more cards k c (slice_get_within cards k c at) ∙ ap (λ (x : CardValue). x ∷ drop (k + 1) cards) (get_or_from_slice_get cards k c c at))

-- what is free where a card is added
pub record IsFree (before : List CardValue) (k : ℕ) (c : CardValue) : Type 0 where
  pub contact : IfSome c.contact (λ name. reader_of (readers_from 0 before) name ≡ None)
  pub contactless : IfSome c.contactless (λ name. reader_of (readers_from 0 before ++ reader_if k Contact c.contact) name ≡ None)
  pub name : card_of (cards_from 0 before) c.name ≡ None

contact-free : (names rest : List (List ℕ)) (contact contactless : Option (List ℕ)) (before : List CardValue) → names ≡ names_of_readers before
    → IsDistinct bytes_eq (names ++ ((named contact ++ named contactless) ++ rest)) → IfSome contact (λ name. reader_of (readers_from 0 before) name ≡ None)
contact-free names rest None contactless before same h = tt
contact-free names rest (Some n) contactless before same h =
    none_of (reader_of (readers_from 0 before) n)
    (reader-found 0 before n ∙ ap (λ (l : List (List ℕ)). is_among l n) (sym same) ∙ last-free names n (named contactless ++ rest) h)

contactless-free : (names rest : List (List ℕ)) (k : ℕ) (contact contactless : Option (List ℕ)) (before : List CardValue) → names ≡ names_of_readers before
    → IsDistinct bytes_eq (names ++ ((named contact ++ named contactless) ++ rest))
    → IfSome contactless (λ name. reader_of (readers_from 0 before ++ reader_if k Contact contact) name ≡ None)
contactless-free names rest k contact None before same h = tt
contactless-free names rest k contact (Some m) before same h =
    let moved : names ++ ((named contact ++ m ∷ []) ++ rest) ≡ (names ++ named contact) ++ m ∷ rest =
    ap (λ (l : List (List ℕ)). names ++ l) (append_assoc (named contact) (m ∷ []) rest) ∙ sym (append_assoc names (named contact) (m ∷ rest)) in
    let free = last-free (names ++ named contact) m rest (subst (λ (l : List (List ℕ)). IsDistinct bytes_eq l) moved h) in
    none_of (reader_of (readers_from 0 before ++ reader_if k Contact contact) m)
    (reader-append (readers_from 0 before) (reader_if k Contact contact) m
    ∙ ap (λ (b : Bool). b || is_some (reader_of (reader_if k Contact contact) m)) (reader-found 0 before m ∙ ap (λ (l : List (List ℕ)). is_among l m) (sym same))
    ∙ ap (λ (b : Bool). is_among names m || b) (if-found k Contact contact m)
    ∙ sym (Rattle.std.proofs.lemmas.List.Folds.list_any-append (λ (n : List ℕ). bytes_eq n m) names (named contact))
    ∙ free)

pub next-free : (cards : List CardValue) (k : ℕ) (c : CardValue) → IsDistinct bytes_eq (names_of_cards cards) → IsDistinct bytes_eq (names_of_readers cards)
    → slice_get cards k ≡ Some c → IsFree (take k cards) k c
next-free cards k c names readers at =
    let parts = around cards k c at in
    let before = take k cards in
    let rest = drop (k + 1) cards in
    let of_cards : names_of_cards cards ≡ names_of_cards before ++ c.name ∷ names_of_cards rest =
    ap names_of_cards parts ∙ map-append (λ (x : CardValue). x.name) before (c ∷ rest) in
    let of_readers : names_of_readers cards ≡ names_of_readers before ++ ((named c.contact ++ named c.contactless) ++ names_of_readers rest) =
    ap names_of_readers parts ∙ flat_map-append (λ (x : CardValue). named x.contact ++ named x.contactless) before (c ∷ rest) in
    let apart = subst (λ (l : List (List ℕ)). IsDistinct bytes_eq l) of_readers readers in
    record {
      contact = contact-free (names_of_readers before) (names_of_readers rest) c.contact c.contactless before refl apart;
      contactless = contactless-free (names_of_readers before) (names_of_readers rest) k c.contact c.contactless before refl apart;
      name = none_of (card_of (cards_from 0 before) c.name)
          (card-found 0 before c.name ∙ last-free (names_of_cards before) c.name (names_of_cards rest) (subst (λ (l : List (List ℕ)). IsDistinct bytes_eq l) of_cards names));
    }

-- ---- one card more

readers-more : (n : ℕ) (before : List CardValue) (c : CardValue) → readers_from n (before ++ c ∷ []) ≡ readers_from n before ++ readers_at (n + length before) c
readers-more n [] c = append-nil (readers_at n c) ∙ ap (λ (m : ℕ). readers_at m c) (none n)
  where
    none : (n : ℕ) → n ≡ n + 0
    none n = omega arith
readers-more n (x ∷ before) c =
    ap (λ (l : List NamedReader). readers_at n x ++ l) (readers-more (n + 1) before c ∙ ap (λ (m : ℕ). readers_from (n + 1) before ++ readers_at m c) (next n x before))
    ∙ sym (append_assoc (readers_at n x) (readers_from (n + 1) before) (readers_at (n + length (x ∷ before)) c))
  where
    next : (n : ℕ) (x : CardValue) (before : List CardValue) → n + 1 + length before ≡ n + length (x ∷ before)
    next n x before = omega arith

cards-more : (n : ℕ) (before : List CardValue) (c : CardValue) → cards_from n (before ++ c ∷ []) ≡ cards_from n before ++ record { name = c.name; card = n + length before } ∷ []
cards-more n [] c = ap (λ (m : ℕ). record { name = c.name; card = m } ∷ []) (none n)
  where
    none : (n : ℕ) → n ≡ n + 0
    none n = omega arith
cards-more n (x ∷ before) c =
    ap (λ (l : List NamedCard). record { name = x.name; card = n } ∷ l)
    (cards-more (n + 1) before c ∙ ap (λ (m : ℕ). cards_from (n + 1) before ++ record { name = c.name; card = m } ∷ []) (next n x before))
  where
    next : (n : ℕ) (x : CardValue) (before : List CardValue) → n + 1 + length before ≡ n + length (x ∷ before)
    next n x before = omega arith

pub added : (cards : List CardValue) (k : ℕ) (c : CardValue) → slice_get cards k ≡ Some c
    → names_of (take (k + 1) cards) ≡ record {
      readers = (readers_from 0 (take k cards) ++ reader_if k Contact c.contact) ++ reader_if k Contactless c.contactless;
      cards = cards_from 0 (take k cards) ++ record { name = c.name; card = k } ∷ [];
    }
unfolding names_of
added cards k c at =
    let within = slice_get_within cards k c at in
    let more : take (k + 1) cards ≡ take k cards ++ c ∷ [] =
    take_more cards k c within ∙ ap (λ (x : CardValue). take k cards ++ x ∷ []) (get_or_from_slice_get cards k c c at) in
    let place : 0 + length (take k cards) ≡ k = let l = length-take-le k cards (omega (arith, within)) in omega (arith, l) in
    let readers : readers_from 0 (take (k + 1) cards) ≡ (readers_from 0 (take k cards) ++ reader_if k Contact c.contact) ++ reader_if k Contactless c.contactless =
    ap (readers_from 0) more ∙ readers-more 0 (take k cards) c ∙ ap (λ (m : ℕ). readers_from 0 (take k cards) ++ readers_at m c) place
    ∙ sym (append_assoc (readers_from 0 (take k cards)) (reader_if k Contact c.contact) (reader_if k Contactless c.contactless)) in
    let named_cards : cards_from 0 (take (k + 1) cards) ≡ cards_from 0 (take k cards) ++ record { name = c.name; card = k } ∷ [] =
    ap (cards_from 0) more ∙ cards-more 0 (take k cards) c ∙ ap (λ (m : ℕ). cards_from 0 (take k cards) ++ record { name = c.name; card = m } ∷ []) place in
    λ i. record { readers = readers i; cards = named_cards i }

-- the card that calls speak of by its parts
pub record IsAt (cards : List CardValue) (k : ℕ) (contact contactless : Option (List ℕ)) : Type 0 where
  pub card : CardValue
  pub at : slice_get cards k ≡ Some card
  pub for_contact : card.contact ≡ contact
  pub without : card.contactless ≡ contactless

pub card-at : (cards : List CardValue) (k : ℕ) (contact contactless : Option (List ℕ)) → option_map (λ c. side_of c Contact) (slice_get cards k) ≡ Some contact
    → option_map (λ c. side_of c Contactless) (slice_get cards k) ≡ Some contactless → IsAt cards k contact contactless
card-at cards k contact contactless a b = go (slice_get cards k) refl a b
  where
    same : (x y : Option (List ℕ)) → Some x ≡ Some y → x ≡ y
    same x y h = cc

    go : (o : Option CardValue) → slice_get cards k ≡ o → option_map (λ c. side_of c Contact) o ≡ Some contact → option_map (λ c. side_of c Contactless) o ≡ Some contactless
        → IsAt cards k contact contactless
    go None at a b = cc
    go (Some c) at a b = record { card = c; at = at; for_contact = same c.contact contact a; without = same c.contactless contactless b }

readers-are : (cards : List CardValue) → (names_of cards).readers ≡ readers_from 0 cards
unfolding names_of
readers-are cards = refl

cards-are : (cards : List CardValue) → (names_of cards).cards ≡ cards_from 0 cards
unfolding names_of
cards-are cards = refl

-- ---- the names as they grow: with a card's reader for contact, with both, and with the card

pub contact-new : (cards : List CardValue) (k : ℕ) (contact contactless : Option (List ℕ)) (now : Names) → IsDistinct bytes_eq (names_of_cards cards) → IsDistinct bytes_eq (names_of_readers cards)
    → IsAt cards k contact contactless → now ≡ names_of (take k cards) → IfSome contact (λ name. reader_of now.readers name ≡ None)
contact-new cards k contact contactless now names readers at before =
    let free = next-free cards k at.card names readers at.at in
    let same : now.readers ≡ readers_from 0 (take k cards) = ap (λ (n : Names). n.readers) before ∙ readers-are (take k cards) in
    subst (λ (o : Option (List ℕ)). IfSome o (λ name. reader_of now.readers name ≡ None)) at.for_contact
    (subst (λ (l : List NamedReader). IfSome at.card.contact (λ name. reader_of l name ≡ None)) (sym same) free.contact)

pub contactless-new : (cards : List CardValue) (k : ℕ) (contact contactless : Option (List ℕ)) (now next : Names) → IsDistinct bytes_eq (names_of_cards cards) → IsDistinct bytes_eq (names_of_readers cards)
    → IsAt cards k contact contactless → now ≡ names_of (take k cards) → next ≡ record now { readers = now.readers ++ reader_if k Contact contact }
    → IfSome contactless (λ name. reader_of next.readers name ≡ None)
contactless-new cards k contact contactless now next names readers at before more =
    let free = next-free cards k at.card names readers at.at in
    let same : next.readers ≡ readers_from 0 (take k cards) ++ reader_if k Contact at.card.contact =
    ap (λ (n : Names). n.readers) more
    ∙ ap (λ (l : List NamedReader). l ++ reader_if k Contact contact) (ap (λ (n : Names). n.readers) before ∙ readers-are (take k cards))
    ∙ ap (λ (o : Option (List ℕ)). readers_from 0 (take k cards) ++ reader_if k Contact o) (sym at.for_contact) in
    subst (λ (o : Option (List ℕ)). IfSome o (λ name. reader_of next.readers name ≡ None)) at.without
    (subst (λ (l : List NamedReader). IfSome at.card.contactless (λ name. reader_of l name ≡ None)) (sym same) free.contactless)

-- what stands before the card itself is added
pub record IsAlmost (cards : List CardValue) (k : ℕ) (contact contactless : Option (List ℕ)) (last : Names) : Type 0 where
  pub of_readers : last.readers ≡ (readers_from 0 (take k cards) ++ reader_if k Contact contact) ++ reader_if k Contactless contactless
  pub of_cards : last.cards ≡ cards_from 0 (take k cards)

pub almost : (cards : List CardValue) (k : ℕ) (contact contactless : Option (List ℕ)) (now next last : Names) → now ≡ names_of (take k cards)
    → next ≡ record now { readers = now.readers ++ reader_if k Contact contact } → last ≡ record next { readers = next.readers ++ reader_if k Contactless contactless }
    → IsAlmost cards k contact contactless last
almost cards k contact contactless now next last before more most = record {
  of_readers = ap (λ (n : Names). n.readers) most
      ∙ ap (λ (l : List NamedReader). l ++ reader_if k Contactless contactless)
      (ap (λ (n : Names). n.readers) more
      ∙ ap (λ (l : List NamedReader). l ++ reader_if k Contact contact) (ap (λ (n : Names). n.readers) before ∙ readers-are (take k cards)));
  of_cards = ap (λ (n : Names). n.cards) most ∙ ap (λ (n : Names). n.cards) more ∙ ap (λ (n : Names). n.cards) before ∙ cards-are (take k cards);
}

-- the name of the card
pub name-at : (cards : List CardValue) (k : ℕ) (c : CardValue) (name : List ℕ) → slice_get cards k ≡ Some c → option_map (λ c. c.name) (slice_get cards k) ≡ Some name → c.name ≡ name
name-at cards k c name at h = same c.name name (sym (ap (λ (o : Option CardValue). option_map (λ c. c.name) o) at) ∙ h)
  where
    same : (x y : List ℕ) → Some x ≡ Some y → x ≡ y
    same x y h = cc

pub card-new : (cards : List CardValue) (k : ℕ) (contact contactless : Option (List ℕ)) (name : List ℕ) (last : Names) → IsDistinct bytes_eq (names_of_cards cards) → IsDistinct bytes_eq (names_of_readers cards)
    → IsAt cards k contact contactless → IsAlmost cards k contact contactless last → option_map (λ c. c.name) (slice_get cards k) ≡ Some name → card_of last.cards name ≡ None
card-new cards k contact contactless name last names readers at most named =
    let free = next-free cards k at.card names readers at.at in
    ap (λ (l : List NamedCard). card_of l name) most.of_cards
    ∙ ap (λ (n : List ℕ). card_of (cards_from 0 (take k cards)) n) (sym (name-at cards k at.card name at.at named)) ∙ free.name

pub card-added : (cards : List CardValue) (k : ℕ) (contact contactless : Option (List ℕ)) (name : List ℕ) (last new : Names)
    → IsAt cards k contact contactless → IsAlmost cards k contact contactless last → option_map (λ c. c.name) (slice_get cards k) ≡ Some name
    → (r : Result (Unit {0}) NoMemory) → OnOk r (new ≡ record last { cards = last.cards ++ record { name = name; card = k } ∷ [] }) → OnOk r (new ≡ names_of (take (k + 1) cards))
card-added cards k contact contactless name last new at most named (Ok u) h =
    let same = name-at cards k at.card name at.at named in
    h ∙ (λ i. record {
      readers = (most.of_readers ∙ (λ j. (readers_from 0 (take k cards) ++ reader_if k Contact (sym at.for_contact j)) ++ reader_if k Contactless (sym at.without j))) i;
      cards = (ap (λ (l : List NamedCard). l ++ record { name = name; card = k } ∷ []) most.of_cards
          ∙ ap (λ (n : List ℕ). cards_from 0 (take k cards) ++ record { name = n; card = k } ∷ []) (sym same)) i;
    }) ∙ sym (added cards k at.card at.at)
card-added cards k contact contactless name last new at most named (Err e) h = tt

pub all-taken : (cards : List CardValue) (k n : ℕ) → n ≡ length cards → n ≤ k → names_of (take k cards) ≡ names_of cards
all-taken cards k n e h = ap names_of (take_all k cards (let same : length cards ≤ k = omega (arith, e, h) in same))

pub none-taken : (n : Names) → n ≡ record { readers = []; cards = [] } → n ≡ names_of []
unfolding names_of
none-taken n none = none

pub ruleset growing_laws = (all-taken, none-taken)
