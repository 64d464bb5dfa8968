-- The names of the cards that read differ, and so do those of their readers; there is a card.
use Rattle.std.proofs.Common.{◌≡◌, ℕ, ◌≤◌, true, false, List, [], ◌∷◌, ◌++◌, length, codes, Option, Some, None, Ok, refl, sym, ap, ◌∙◌, subst, arith, length-append}
use Rattle.std.specs.Prelude.{⊤, ◌||◌, not, IfSome, option_and_then}
use Rattle.std.specs.List.{AllByRecursion, IsDistinct, flat_map}
use Rattle.std.specs.Str.{bytes_eq}
use Rattle.std.proofs.lemmas.List.{map-append, append-nil}
use Rattle.std.proofs.lemmas.List.Concat.{flat_map-append}
use Rattle.toml.specs.Data.{Data, Items, no_items, item, Members, get_member, as_table}
use Rattle.line_words.specs.Words.{◌>>=◌}
use Rattle.line_words.proofs.Steps.{bound, some_same}
use Rattle.piv_model.specs.declared.places.Where.TheVariants as place
use Rattle.scene_table.specs.Names.{is_among, fresh}
use Rattle.scene_table.specs.Readings.{each_after, or_default, items_or_none}
use Rattle.scene_table.specs.Values.{name_value}
use Rattle.scene_table.proofs.NameLaws.{turned}
use Rattle.scene_cards.specs.Objects.{all_objects}
use Rattle.scene_cards.specs.Losses.{all_losses}
use Rattle.scene_cards.specs.Cards.{CardData, card_names, reader_names, named, readers_of, card_name, reader_value, are_readers, parts_of, card_of, some_items, array_of_tables, card_items, cards_in, cards_at}
use Rattle.scene_cards.proofs.ReadSound.{so, so_not, or_false, true_not, each-holds, item-holds}
use Rattle.scene_cards.proofs.PartsSound.{default-holds}
use Rattle.scene_cards.proofs.CardSound.{good_items}

-- ---- names that differ

pub all-more : {A : Type 0} (P : A → Type 0) (xs : List A) (x : A) → AllByRecursion P xs → P x → AllByRecursion P (xs ++ x ∷ [])
all-more P [] x all one = (one, tt)
all-more P (y ∷ xs) x all one = (all.0, all-more P xs x all.1 one)

pub distinct-more : (names : List (List ℕ)) (name : List ℕ) → IsDistinct bytes_eq names → is_among names name ≡ false → IsDistinct bytes_eq (names ++ name ∷ [])
unfolding IsDistinct
distinct-more [] name all new = (tt, tt)
distinct-more (n ∷ names) name all new =
    let two = or_false (bytes_eq n name) (is_among names name) new in
    (all-more (λ (y : List ℕ). bytes_eq n y ≡ false) names name all.0 two.0, distinct-more names name all.1 two.1)

among-more : (names : List (List ℕ)) (name other : List ℕ) → is_among names other ≡ false → bytes_eq name other ≡ false → is_among (names ++ name ∷ []) other ≡ false
among-more [] name other new apart = rw apart refl
among-more (n ∷ names) name other new apart =
    let two = or_false (bytes_eq n other) (is_among names other) new in
    rw (two.0, among-more names name other two.1 apart) refl

-- ---- a card behind others

record IsFresh (before : List CardData) (c : CardData) : Type 0 where
  pub name : is_among (card_names before) c.name ≡ false
  pub contact : IfSome c.contact (λ n. is_among (reader_names before) n ≡ false)
  pub contactless : IfSome c.contactless (λ n. is_among (reader_names before) n ≡ false)
  pub apart : are_readers c.contact c.contactless ≡ true

fresh-holds : (taken : List (List ℕ)) (o : Option (List ℕ)) (name : List ℕ) → (o >>= fresh taken) ≡ Some name → is_among taken name ≡ false
fresh-holds taken o name h =
    let b = bound o (fresh taken) name h in
    let free = so_not (is_among taken b.value) b.value name b.next in
    subst (λ (n : List ℕ). is_among taken n ≡ false) free.1 free.0

reader-holds : (before : List CardData) (d : Data) (r : Option (List ℕ)) → reader_value before d ≡ Some r → IfSome r (λ n. is_among (reader_names before) n ≡ false)
reader-holds before d r h =
    let b = bound (name_value d >>= fresh (reader_names before)) (λ (name : List ℕ). Some (Some name)) r h in
    subst (λ (o : Option (List ℕ)). IfSome o (λ n. is_among (reader_names before) n ≡ false)) (some_same (Some b.value) r b.next)
    (fresh-holds (reader_names before) (name_value d) b.value b.first)

card-fresh : (before : List CardData) (d : Data) (c : CardData) → card_of before d ≡ Some c → IsFresh before c
card-fresh before d c h =
    let t = bound (as_table d) _ c h in
    let name = bound (card_name before t.value) _ c t.next in
    let contact = bound (or_default None (reader_value before) (get_member (codes "contact") t.value)) _ c name.next in
    let contactless = bound (or_default None (reader_value before) (get_member (codes "contactless") t.value)) _ c contact.next in
    let parts = bound (parts_of t.value) _ c contactless.next in
    let objects = bound (items_or_none (get_member (codes "objects") t.value) >>= all_objects (Rattle.std.specs.Prelude.is_some parts.value.global)) _ c parts.next in
    let losses = bound (items_or_none (get_member (codes "losses") t.value) >>= all_losses) _ c objects.next in
    let made = so (are_readers contact.value contactless.value) (record { name = name.value; contact = contact.value; contactless = contactless.value; parts = parts.value; objects = objects.value; losses = losses.value }) c losses.next in
    let IsNew : Option (List ℕ) → Type 0 = λ o. IfSome o (λ n. is_among (reader_names before) n ≡ false) in
    subst (λ (x : CardData). IsFresh before x) made.1 (record {
      name = fresh-holds (card_names before) (get_member (codes "name") t.value >>= name_value) name.value name.first;
      contact = default-holds IsNew None (reader_value before) (get_member (codes "contact") t.value) contact.value tt (λ d is. reader-holds before d contact.value is) contact.first;
      contactless = default-holds IsNew None (reader_value before) (get_member (codes "contactless") t.value) contactless.value tt (λ d is. reader-holds before d contactless.value is) contactless.first;
      apart = made.0;
    })

readers-more : (names : List (List ℕ)) (contact contactless : Option (List ℕ)) → IsDistinct bytes_eq names
    → IfSome contact (λ n. is_among names n ≡ false) → IfSome contactless (λ n. is_among names n ≡ false) → are_readers contact contactless ≡ true
    → IsDistinct bytes_eq (names ++ (named contact ++ named contactless))
readers-more names None None all a b apart = cc
readers-more names None (Some m) all a b apart = distinct-more names m all b
readers-more names (Some n) None all a b apart = distinct-more names n all a
readers-more names (Some n) (Some m) all a b apart =
    let differ : bytes_eq n m ≡ false = turned n m ∙ true_not (bytes_eq m n) apart in
    subst (λ (l : List (List ℕ)). IsDistinct bytes_eq l) (behind names n m)
    (distinct-more (names ++ n ∷ []) m (distinct-more names n all a) (among-more names n m b differ))
  where
    behind : (names : List (List ℕ)) (n m : List ℕ) → (names ++ n ∷ []) ++ m ∷ [] ≡ names ++ n ∷ m ∷ []
    behind [] n m = refl
    behind (x ∷ names) n m = ap (λ (l : List (List ℕ)). x ∷ l) (behind names n m)

pub record AreApart (cards : List CardData) : Type 0 where
  pub names : IsDistinct bytes_eq (card_names cards)
  pub readers : IsDistinct bytes_eq (reader_names cards)

apart-more : (before : List CardData) (d : Data) (c : CardData) → AreApart before → card_of before d ≡ Some c → AreApart (before ++ c ∷ [])
apart-more before d c all is =
    let new = card-fresh before d c is in
    let readers : reader_names (before ++ c ∷ []) ≡ reader_names before ++ readers_of c =
    flat_map-append readers_of before (c ∷ []) ∙ ap (λ (l : List (List ℕ)). reader_names before ++ l) (append-nil (readers_of c)) in
    record {
      names = subst (λ (l : List (List ℕ)). IsDistinct bytes_eq l) (sym (map-append (λ (x : CardData). x.name) before (c ∷ [])))
          (distinct-more (card_names before) c.name all.names new.name);
      readers = subst (λ (l : List (List ℕ)). IsDistinct bytes_eq l) (sym readers)
          (readers-more (reader_names before) c.contact c.contactless all.readers new.contact new.contactless new.apart);
    }

none-apart : AreApart []
unfolding IsDistinct
none-apart = record { names = tt; readers = tt }

-- ---- the cards of a document

apart-in : (o : Option Items) (cards : List CardData) → cards_in o ≡ Ok cards → AreApart cards
apart-in None cards h = cc
apart-in (Some ds) cards h =
    each-holds AreApart card_of apart-more [] ds cards none-apart (good_items place.Card (each_after card_of [] ds) cards h)

pub cards-apart : (doc : Members) (cards : List CardData) → cards_at doc ≡ Ok cards → AreApart cards
cards-apart doc cards read = apart-in (card_items doc) cards read

abbrev AreSome : Items → Type 0
AreSome no_items = ⊥
AreSome (item d ds) = ⊤

items-some : (o : Option Items) (ds : Items) → option_and_then some_items o ≡ Some ds → AreSome ds
items-some None ds h = cc
items-some (Some no_items) ds h = cc
items-some (Some (item d rest)) ds h = subst AreSome (some_same (item d rest) ds h) tt

one-more : (before : List CardData) (c : CardData) → 1 ≤ length (before ++ c ∷ [])
one-more before c = let l = length-append before (c ∷ []) in omega (arith, l)

each-some : (ds : Items) (cards : List CardData) → AreSome ds → each_after card_of [] ds ≡ Ok cards → 1 ≤ length cards
unfolding each_after
each-some no_items cards some h = absurd some
each-some (item d ds) cards some h =
    item-holds (λ (l : List CardData). 1 ≤ length l) 0 (λ a. each_after card_of ([] ++ a ∷ []) ds) (card_of [] d) cards
    (λ a is more. each-holds (λ (l : List CardData). 1 ≤ length l) card_of (λ b e x l is. one-more b x) ([] ++ a ∷ []) ds cards (one-more [] a) more) h

some-in : (o : Option Items) (cards : List CardData) → ((ds : Items) → o ≡ Some ds → AreSome ds) → cards_in o ≡ Ok cards → 1 ≤ length cards
some-in None cards some h = cc
some-in (Some ds) cards some h = each-some ds cards (some ds refl) (good_items place.Card (each_after card_of [] ds) cards h)

pub cards-some : (doc : Members) (cards : List CardData) → cards_at doc ≡ Ok cards → 1 ≤ length cards
cards-some doc cards read =
    some-in (card_items doc) cards (items-some (option_and_then array_of_tables (get_member (codes "card") doc))) read
