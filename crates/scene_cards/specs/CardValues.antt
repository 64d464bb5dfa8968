-- What a card of a scene begins with (this project's own).
use Rattle.std.specs.Prelude.{⊤, ℕ, List, [], ◌∷◌, map, replicate, Option, Some, None}
use Rattle.piv_model.specs.declared.kinds.Interface.{Interface}
use Rattle.piv_model.specs.declared.kinds.Interface.TheVariants.{Contact, Contactless}
use Rattle.piv_model.specs.declared.start.Start.{Start}
use Rattle.piv_model.specs.declared.start.StartGlobal.{StartGlobal}
use Rattle.piv_model.specs.Starts.{SpellsMemory}
use Rattle.power_loss.specs.declared.loss.Loss.{Loss}
use Rattle.power_loss.specs.Due.{RisesFrom}
use Rattle.power_loss.specs.Plans.{write_numbers}
use Rattle.nvm_device.specs.declared.loss.How.{How}
use Rattle.scene_cards.specs.Objects.{ObjectData, value_bytes}
use Rattle.scene_cards.specs.Cards.{CardParts, CardData}

-- a card: its names, what it begins with, and the losses of its device
pub record CardValue : Type 0 where
  pub name : List ℕ
  pub contact : Option (List ℕ)
  pub contactless : Option (List ℕ)
  pub start : Start
  pub plan : List (Loss How)

-- the reader of an interface
abbrev pub reader_of : CardValue → Interface → Option (List ℕ)
reader_of c Contact = c.contact
reader_of c Contactless = c.contactless

abbrev pub object_pair : ObjectData → ℕ × List ℕ
object_pair o = (o.place, value_bytes o.value)

abbrev pub global_start : Option (List ℕ) → ℕ → StartGlobal
global_start None limit = record { limit = 0; pin = replicate 8 0 }
global_start (Some pin) limit = record { limit = limit; pin = pin }

abbrev pub start_of : CardParts → List ObjectData → Start
start_of p objects = record {
  pin = p.pin;
  puk = p.puk;
  limit_pin = p.limit_pin;
  limit_puk = p.limit_puk;
  global = global_start p.global p.limit_global;
  admin = p.admin;
  card_auth = p.card_auth;
  budget = p.budget;
  random = p.random;
  objects = map object_pair objects;
}

abbrev pub card_value : CardData → CardValue
card_value c = record {
  name = c.name;
  contact = c.contact;
  contactless = c.contactless;
  start = start_of c.parts c.objects;
  plan = c.losses;
}

-- a card that a device can begin with: its memory is one that cards have, and its losses rise
pub record IsCard (c : CardValue) : Type 0 where
  pub spells : SpellsMemory c.start
  pub rises : RisesFrom 0 (write_numbers c.plan)

abbrev pub AreCards : List CardValue → Type 0
AreCards [] = ⊤
AreCards (c ∷ cards) = IsCard c × AreCards cards
