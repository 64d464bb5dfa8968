-- The cards of a scene (this project's own; their parts are those of SP 800-73-4 part 1).
use Rattle.std.specs.Prelude.{ℕ, not, Bool, true, false, if◌then◌else◌, List, [], ◌∷◌, ◌++◌, map, codes, replicate, is_some, Option, Some, None, option_and_then, Result, Ok, Err}
use Rattle.std.specs.List.{flat_map}
use Rattle.std.specs.Str.{bytes_eq}
use Rattle.toml.specs.Data.{Data, Items, no_items, item, Members, get_member, as_array, as_table}
use Rattle.power_loss.specs.declared.loss.Loss.{Loss}
use Rattle.nvm_device.specs.declared.loss.How.{How}
use Rattle.piv_model.specs.declared.places.Where.{Where}
use Rattle.piv_model.specs.declared.places.Where.TheVariants as place
use Rattle.piv_model.specs.declared.start.KeyBytes.{KeyBytes}
use Rattle.piv_model.specs.PlainCard.{plain_pin, plain_puk, plain_admin_key, plain_card_key, filled_up}
use Rattle.line_words.specs.Words.{◌>>=◌}
use Rattle.scene_table.specs.Readings.{from_one, or_default, each_after, items_or_none, all_tables}
use Rattle.scene_table.specs.Names.{fresh}
use Rattle.scene_table.specs.Values.{name_value, random_value, pin_value, optional_pin, puk_value, key_value}
use Rattle.scene_cards.specs.Objects.{ObjectData, all_objects}
use Rattle.scene_cards.specs.Losses.{all_losses}

-- the secrets, limits and the budget of a card
pub record CardParts : Type 0 where
  pub random : List ℕ
  pub pin : List ℕ
  pub puk : List ℕ
  pub limit_pin : ℕ
  pub limit_puk : ℕ
  pub global : Option (List ℕ)
  pub limit_global : ℕ
  pub admin : KeyBytes
  pub card_auth : KeyBytes
  pub budget : ℕ

pub record CardData : Type 0 where
  pub name : List ℕ
  pub contact : Option (List ℕ)
  pub contactless : Option (List ℕ)
  pub parts : CardParts
  pub objects : List ObjectData
  pub losses : List (Loss How)

-- the names of cards, and of their readers
abbrev pub card_names : List CardData → List (List ℕ)
card_names cards = map (λ c. c.name) cards

abbrev pub named : Option (List ℕ) → List (List ℕ)
named None = []
named (Some name) = name ∷ []

abbrev pub readers_of : CardData → List (List ℕ)
readers_of c = named c.contact ++ named c.contactless

abbrev pub reader_names : List CardData → List (List ℕ)
reader_names cards = flat_map readers_of cards

-- a name that no card before has, and one that no reader of theirs has
abbrev pub card_name : List CardData → Members → Option (List ℕ)
card_name before t = get_member (codes "name") t >>= name_value >>= fresh (card_names before)

abbrev pub reader_value : List CardData → Data → Option (Option (List ℕ))
reader_value before d = name_value d >>= fresh (reader_names before) >>= (λ name. Some (Some name))

-- at least one, and not one name twice
abbrev pub is_named : Option (List ℕ) → List ℕ → Bool
is_named None name = false
is_named (Some other) name = bytes_eq other name

abbrev pub are_readers : Option (List ℕ) → Option (List ℕ) → Bool
are_readers None None = false
are_readers None (Some name) = true
are_readers (Some name) other = not (is_named other name)

abbrev pub first_admin : KeyBytes
first_admin = record { algorithm = 0x08; bytes = filled_up plain_admin_key }

abbrev pub first_card_auth : KeyBytes
first_card_auth = record { algorithm = 0x08; bytes = filled_up plain_card_key }

-- what is absent is as in the plain card
abbrev pub parts_of : Members → Option CardParts
parts_of t = do
  random ← or_default (replicate 32 0) random_value (get_member (codes "random") t)
  pin ← or_default plain_pin pin_value (get_member (codes "pin") t)
  puk ← or_default plain_puk puk_value (get_member (codes "puk") t)
  limit_pin ← or_default 3 from_one (get_member (codes "limit_pin") t)
  limit_puk ← or_default 3 from_one (get_member (codes "limit_puk") t)
  global ← or_default None optional_pin (get_member (codes "global") t)
  limit_global ← or_default 3 from_one (get_member (codes "limit_global") t)
  admin ← or_default first_admin key_value (get_member (codes "admin") t)
  card_auth ← or_default first_card_auth key_value (get_member (codes "card_auth") t)
  budget ← or_default 2048 from_one (get_member (codes "budget") t)
  Some (record {
    random = random;
    pin = pin;
    puk = puk;
    limit_pin = limit_pin;
    limit_puk = limit_puk;
    global = global;
    limit_global = limit_global;
    admin = admin;
    card_auth = card_auth;
    budget = budget;
  })

abbrev pub card_made : List ℕ → Option (List ℕ) → Option (List ℕ) → CardParts → List ObjectData → List (Loss How) → Option CardData
card_made name contact contactless parts objects losses =
    if are_readers contact contactless
    then Some (record { name = name; contact = contact; contactless = contactless; parts = parts; objects = objects; losses = losses })
    else None

-- a card behind others
abbrev pub card_of : List CardData → Data → Option CardData
card_of before d = do
  t ← as_table d
  name ← card_name before t
  contact ← or_default None (reader_value before) (get_member (codes "contact") t)
  contactless ← or_default None (reader_value before) (get_member (codes "contactless") t)
  parts ← parts_of t
  objects ← items_or_none (get_member (codes "objects") t) >>= all_objects (is_some parts.global)
  losses ← items_or_none (get_member (codes "losses") t) >>= all_losses
  card_made name contact contactless parts objects losses

-- ---- all cards

abbrev pub some_items : Items → Option Items
some_items no_items = None
some_items (item d ds) = Some (item d ds)

abbrev pub tables : Items → Option Items
tables ds = if all_tables ds then Some ds else None

abbrev pub array_of_tables : Data → Option Items
array_of_tables d = option_and_then tables (as_array d)

abbrev pub if_some : Bool → Items → Option Items
if_some true ds = Some ds
if_some false ds = None

abbrev pub card_items : Members → Option Items
card_items doc = option_and_then some_items (option_and_then array_of_tables (get_member (codes "card") doc))

-- the place of the first item that doesn't read
abbrev pub bad_item : {A : Type 0} → (ℕ → Where) → Result A ℕ → Result A Where
bad_item at (Ok a) = Ok a
bad_item at (Err n) = Err (at n)

abbrev pub cards_in : Option Items → Result (List CardData) Where
cards_in None = Err place.Cards
cards_in (Some ds) = bad_item place.Card (each_after card_of [] ds)

-- the cards of a document
abbrev pub cards_at : Members → Result (List CardData) Where
cards_at doc = cards_in (card_items doc)
