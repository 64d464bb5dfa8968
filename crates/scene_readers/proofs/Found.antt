-- A name is found exactly where a card or a reader of the scene has it.
use Rattle.std.specs.Prelude.{◌||◌, is_some, IsSome, if◌then◌else◌}
use Rattle.std.specs.List.{AllByRecursion}
use Rattle.std.specs.Str.{bytes_eq}
use Rattle.std.proofs.Common.{◌≡◌, ℕ, ◌+◌, ◌<◌, ◌≤◌, Bool, true, false, List, [], ◌∷◌, ◌++◌, length, Option, Some, None, refl, sym, ap, ◌∙◌, subst, arith}
use Rattle.std.proofs.lemmas.List.Folds.{list_any-append}
use Rattle.piv_model.specs.declared.kinds.Interface.{Interface}
use Rattle.piv_model.specs.declared.kinds.Interface.TheVariants.{Contact, Contactless}
use Rattle.script_line.specs.declared.line.Line.{Line}
use Rattle.script_line.specs.declared.line.Line.TheVariants as line
use Rattle.script_line.specs.Scripts.{ScriptData}
use Rattle.client_api.specs.Readers.{NamedReader, Names, reader_of, card_of}
use Rattle.client_api.specs.Players.{AreNamesOn}
use Rattle.scene_table.specs.Names.{is_among}
use Rattle.scene_cards.specs.Cards.{named}
use Rattle.scene_cards.specs.CardValues.{CardValue}
use Rattle.piv_scene.specs.Scripts.{names_known}
use Rattle.piv_scene.specs.SceneValues.{names_of_cards, names_of_readers, IsScriptOf}
use Rattle.scene_readers.specs.SceneNames.{reader_if, readers_at, readers_from, cards_from, names_of, IsNamed}

among-append : (xs ys : List (List ℕ)) (name : List ℕ) → is_among (xs ++ ys) name ≡ (is_among xs name || is_among ys name)
among-append xs ys name = list_any-append (λ (n : List ℕ). bytes_eq n name) xs ys

pub reader-append : (xs ys : List NamedReader) (name : List ℕ) → is_some (reader_of (xs ++ ys) name) ≡ (is_some (reader_of xs name) || is_some (reader_of ys name))
reader-append [] ys name = refl
reader-append (x ∷ xs) ys name = by_test (bytes_eq x.name name) (x.card, x.interface) (reader_of xs name) (reader_of (xs ++ ys) name) (reader_of ys name) (reader-append xs ys name)
  where
    by_test : (b : Bool) (r : ℕ × Interface) (some both other : Option (ℕ × Interface)) → is_some both ≡ (is_some some || is_some other)
        → is_some (if b then Some r else both) ≡ (is_some (if b then Some r else some) || is_some other)
    by_test true r some both other h = refl
    by_test false r some both other h = h

pub if-found : (n : ℕ) (side : Interface) (o : Option (List ℕ)) (name : List ℕ) → is_some (reader_of (reader_if n side o) name) ≡ is_among (named o) name
if-found n side None name = refl
if-found n side (Some m) name = by_test (bytes_eq m name) (n, side)
  where
    by_test : (b : Bool) (r : ℕ × Interface) → is_some (if b then Some r else None) ≡ (b || false)
    by_test true r = refl
    by_test false r = refl

pub reader-found : (n : ℕ) (cards : List CardValue) (name : List ℕ) → is_some (reader_of (readers_from n cards) name) ≡ is_among (names_of_readers cards) name
reader-found n [] name = refl
reader-found n (c ∷ cards) name =
    let of_card : is_some (reader_of (readers_at n c) name) ≡ is_among (named c.contact ++ named c.contactless) name =
    reader-append (reader_if n Contact c.contact) (reader_if n Contactless c.contactless) name
    ∙ ap (λ (b : Bool). b || is_some (reader_of (reader_if n Contactless c.contactless) name)) (if-found n Contact c.contact name)
    ∙ ap (λ (b : Bool). is_among (named c.contact) name || b) (if-found n Contactless c.contactless name)
    ∙ sym (among-append (named c.contact) (named c.contactless) name) in
    reader-append (readers_at n c) (readers_from (n + 1) cards) name
    ∙ ap (λ (b : Bool). b || is_some (reader_of (readers_from (n + 1) cards) name)) of_card
    ∙ ap (λ (b : Bool). is_among (named c.contact ++ named c.contactless) name || b) (reader-found (n + 1) cards name)
    ∙ sym (among-append (named c.contact ++ named c.contactless) (names_of_readers cards) name)

pub card-found : (n : ℕ) (cards : List CardValue) (name : List ℕ) → is_some (card_of (cards_from n cards) name) ≡ is_among (names_of_cards cards) name
card-found n [] name = refl
card-found n (c ∷ cards) name = by_test (bytes_eq c.name name) n (card_of (cards_from (n + 1) cards) name) (is_among (names_of_cards cards) name) (card-found (n + 1) cards name)
  where
    by_test : (b : Bool) (n : ℕ) (o : Option ℕ) (t : Bool) → is_some o ≡ t → is_some (if b then Some n else o) ≡ (b || t)
    by_test true n o t h = refl
    by_test false n o t h = h

pub none_of : {A : Type 0} (o : Option A) → is_some o ≡ false → o ≡ None
none_of None h = refl
none_of (Some x) h = cc

-- ---- on the cards of the scene

on-append : (m : ℕ) (xs ys : List NamedReader) → AllByRecursion (λ r. r.card < m) xs → AllByRecursion (λ r. r.card < m) ys → AllByRecursion (λ r. r.card < m) (xs ++ ys)
on-append m [] ys a b = b
on-append m (x ∷ xs) ys a b = (a.0, on-append m xs ys a.1 b)

if-on : (m n : ℕ) (side : Interface) (o : Option (List ℕ)) → n < m → AllByRecursion (λ r. r.card < m) (reader_if n side o)
if-on m n side None h = tt
if-on m n side (Some name) h = (h, tt)

readers-on : (m n : ℕ) (cards : List CardValue) → n + length cards ≤ m → AllByRecursion (λ r. r.card < m) (readers_from n cards)
readers-on m n [] h = tt
readers-on m n (c ∷ cards) h =
    on-append m (readers_at n c) (readers_from (n + 1) cards)
    (on-append m (reader_if n Contact c.contact) (reader_if n Contactless c.contactless)
    (if-on m n Contact c.contact (first m n c cards h)) (if-on m n Contactless c.contactless (first m n c cards h)))
    (readers-on m (n + 1) cards (rest m n c cards h))
  where
    first : (m n : ℕ) (c : CardValue) (cards : List CardValue) → n + length (c ∷ cards) ≤ m → n < m
    first m n c cards h = omega (arith, h)

    rest : (m n : ℕ) (c : CardValue) (cards : List CardValue) → n + length (c ∷ cards) ≤ m → n + 1 + length cards ≤ m
    rest m n c cards h = omega (arith, h)

cards-on : (m n : ℕ) (cards : List CardValue) → n + length cards ≤ m → AllByRecursion (λ c. c.card < m) (cards_from n cards)
cards-on m n [] h = tt
cards-on m n (c ∷ cards) h = (first, cards-on m (n + 1) cards rest)
  where
    first : n < m
    first = omega (arith, h)

    rest : n + 1 + length cards ≤ m
    rest = omega (arith, h)

pub names-on : (cards : List CardValue) → AreNamesOn (length cards) (names_of cards)
unfolding names_of
names-on cards = record { readers = readers-on (length cards) 0 cards (whole cards); cards_named = cards-on (length cards) 0 cards (whole cards) }
  where
    whole : (cards : List CardValue) → 0 + length cards ≤ length cards
    whole cards = omega arith

-- ---- what lines name

some_of : {A : Type 0} (o : Option A) → is_some o ≡ true → IsSome o
some_of None h = cc
some_of (Some x) h = refl

line-named : (cards : List CardValue) (l : Line) → names_known (names_of_cards cards) (names_of_readers cards) l ≡ true → IsNamed (names_of cards) l
unfolding names_of
line-named cards (line.Connect h reader shared) known = tt
line-named cards (line.Disconnect h) known = tt
line-named cards (line.Select h aid) known = tt
line-named cards (line.Login h auth) known = tt
line-named cards (line.Logout h) known = tt
line-named cards (line.Get h oid) known = tt
line-named cards (line.PutHex h oid value) known = tt
line-named cards (line.PutFill h oid size fill) known = tt
line-named cards (line.Crypt h algorithm key input) known = tt
line-named cards (line.Admin h algorithm key) known = tt
line-named cards (line.Apdu h bytes) known = tt
line-named cards line.Version known = tt
line-named cards line.Generate known = tt
line-named cards line.Secure known = tt
line-named cards (line.Reset reader) known = some_of (reader_of (readers_from 0 cards) reader) (reader-found 0 cards reader ∙ known)
line-named cards (line.Cut card) known = some_of (card_of (cards_from 0 cards) card) (card-found 0 cards card ∙ known)
line-named cards (line.Power card) known = some_of (card_of (cards_from 0 cards) card) (card-found 0 cards card ∙ known)

lines-named : (cards : List CardValue) (lines : List Line) → AllByRecursion (λ l. names_known (names_of_cards cards) (names_of_readers cards) l ≡ true) lines
    → AllByRecursion (IsNamed (names_of cards)) lines
lines-named cards [] all = tt
lines-named cards (l ∷ lines) all = (line-named cards l all.0, lines-named cards lines all.1)

scripts-named : (cards : List CardValue) (scripts : List ScriptData) → AllByRecursion (IsScriptOf (names_of_cards cards) (names_of_readers cards)) scripts
    → AllByRecursion (λ s. AllByRecursion (IsNamed (names_of cards)) s.lines) scripts
scripts-named cards [] all = tt
scripts-named cards (s ∷ scripts) all = (lines-named cards s.lines all.0.known, scripts-named cards scripts all.1)

pub names-named : (names : Names) (cards : List CardValue) (scripts : List ScriptData) → names ≡ names_of cards
    → AllByRecursion (IsScriptOf (names_of_cards cards) (names_of_readers cards)) scripts → AllByRecursion (λ s. AllByRecursion (IsNamed names) s.lines) scripts
names-named names cards scripts same all =
    subst (λ (n : Names). AllByRecursion (λ s. AllByRecursion (IsNamed n) s.lines) scripts) (sym same) (scripts-named cards scripts all)

pub ruleset named_laws = (names-on)
