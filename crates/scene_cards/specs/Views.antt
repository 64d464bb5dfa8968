-- What is kept of a card, as the definitions see it.
use Rattle.std.specs.Prelude.{map, Option, option_copied, option_map}
use Rattle.std.specs.Borrow.{Bor}
use Rattle.toml.specs.Data.{Data}
use Rattle.toml.specs.View.{view}
use Rattle.toml.specs.declared.value.Value.{Value}
use Rattle.scene_cards.specs.declared.objects.RawValue.{RawValue}
use Rattle.scene_cards.specs.declared.objects.RawValue.TheVariants as raw
use Rattle.scene_cards.specs.declared.objects.RawObject.{RawObject}
use Rattle.scene_cards.specs.declared.parts.RawParts.{RawParts}
use Rattle.scene_cards.specs.declared.card.RawCard.{RawCard}
use Rattle.scene_cards.specs.Objects.{ObjectValue, Given, Filled, ObjectData}
use Rattle.scene_cards.specs.Cards.{CardParts, CardData}

abbrev pub option_value : Option (Bor Value) → Option Data
option_value o = option_map (λ v. view v.now) o

abbrev pub value_view : RawValue → ObjectValue
value_view (raw.Given bytes) = Given bytes.items
value_view (raw.Filled n b) = Filled n b

abbrev pub object_view : RawObject → ObjectData
object_view o = record { place = o.id; value = value_view o.value }

abbrev pub raw_parts_view : RawParts → CardParts
raw_parts_view p = record {
  random = p.random;
  pin = p.pin;
  puk = p.puk;
  limit_pin = p.limit_pin;
  limit_puk = p.limit_puk;
  global = p.global;
  limit_global = p.limit_global;
  admin = p.admin;
  card_auth = p.card_auth;
  budget = p.budget;
}

abbrev pub card_view : RawCard → CardData
card_view c = record {
  name = c.name.now;
  contact = option_copied c.contact;
  contactless = option_copied c.contactless;
  parts = raw_parts_view c.parts;
  objects = map object_view c.objects.items;
  losses = c.losses.items;
}
