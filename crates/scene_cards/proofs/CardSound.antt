-- Each card of a scene that reads, and passes no limit, spells a memory, and its losses rise.
use Rattle.std.proofs.Common.{◌≡◌, ℕ, List, [], ◌∷◌, ◌++◌, map, codes, Option, Some, None, Result, Ok, Err, subst}
use Rattle.std.specs.Prelude.{⊤, is_some}
use Rattle.power_loss.specs.Due.{RisesFrom}
use Rattle.power_loss.specs.Plans.{write_numbers}
use Rattle.toml.specs.Data.{Data, Items, Members, get_member, as_table}
use Rattle.line_words.specs.Words.{◌>>=◌}
use Rattle.line_words.proofs.Steps.{bound}
use Rattle.scene_table.specs.Readings.{each_after, or_default, items_or_none}
use Rattle.scene_cards.specs.Objects.{all_objects}
use Rattle.scene_cards.specs.Losses.{all_losses}
use Rattle.piv_model.specs.declared.places.Where.{Where}
use Rattle.piv_model.specs.declared.places.Where.TheVariants as place
use Rattle.scene_cards.specs.CardLimits.{card_limit, cards_limit}
use Rattle.scene_cards.specs.CardValues.{AreCards, card_value}
use Rattle.scene_cards.proofs.StartSound.{start-sound}
use Rattle.scene_cards.proofs.Within.{within, both_none}
use Rattle.scene_cards.specs.Cards.{CardData, cards_in, card_items, cards_at, bad_item, card_of, card_name, reader_value, parts_of, are_readers}
use Rattle.scene_cards.proofs.ReadSound.{so, AreObjects, objects-hold, each-holds}
use Rattle.scene_cards.proofs.PartsSound.{AreParts, parts-hold, losses-hold}

pub record IsFormed (c : CardData) : Type 0 where
  pub parts : AreParts c.parts
  pub objects : AreObjects (is_some c.parts.global) c.objects
  pub losses : RisesFrom 0 (write_numbers c.losses)

pub card-reads : (before : List CardData) (d : Data) (c : CardData) → card_of before d ≡ Some c → IsFormed c
card-reads before d c h =
    let t = bound (as_table d) _ c h in
    let name = bound (card_name before t.value) _ c t.next in
    let contact = bound (or_default None (reader_value before) (get_member (codes "contact") t.value)) _ c name.next in
    let contactless = bound (or_default None (reader_value before) (get_member (codes "contactless") t.value)) _ c contact.next in
    let parts = bound (parts_of t.value) _ c contactless.next in
    let objects = bound (items_or_none (get_member (codes "objects") t.value) >>= all_objects (is_some parts.value.global)) _ c parts.next in
    let losses = bound (items_or_none (get_member (codes "losses") t.value) >>= all_losses) _ c objects.next in
    let made = so (are_readers contact.value contactless.value) (record { name = name.value; contact = contact.value; contactless = contactless.value; parts = parts.value; objects = objects.value; losses = losses.value }) c losses.next in
    let os = bound (items_or_none (get_member (codes "objects") t.value)) (all_objects (is_some parts.value.global)) objects.value objects.first in
    let ls = bound (items_or_none (get_member (codes "losses") t.value)) all_losses losses.value losses.first in
    subst IsFormed made.1 (record {
      parts = parts-hold t.value parts.value parts.first;
      objects = objects-hold (is_some parts.value.global) os.value objects.value os.next;
      losses = losses-hold ls.value losses.value ls.next;
    })

abbrev pub AreFormed : List CardData → Type 0
AreFormed [] = ⊤
AreFormed (c ∷ cards) = IsFormed c × AreFormed cards

pub formed-more : (cards : List CardData) (c : CardData) → AreFormed cards → IsFormed c → AreFormed (cards ++ c ∷ [])
formed-more [] c all one = (one, tt)
formed-more (x ∷ cards) c all one = (all.0, formed-more cards c all.1 one)

pub good_items : {A : Type 0} (at : ℕ → Where) (r : Result A ℕ) (x : A) → bad_item at r ≡ Ok x → r ≡ Ok x
good_items at (Ok a) x h = cc
good_items at (Err n) x h = cc

cards-hold : (o : Option Items) (cards : List CardData) → cards_in o ≡ Ok cards → AreFormed cards
cards-hold None cards h = cc
cards-hold (Some ds) cards h =
    each-holds AreFormed card_of (λ b d c all is. formed-more b c all (card-reads b d c is)) [] ds cards tt (good_items place.Card (each_after card_of [] ds) cards h)

begin : (cards : List CardData) → AreFormed cards → cards_limit cards ≡ None → AreCards (map card_value cards)
unfolding cards_limit
begin [] all none = tt
begin (c ∷ cards) all none =
    let both = both_none (card_limit c) (cards_limit cards) none in
    (record { spells = start-sound c all.0.parts all.0.objects (within c both.0); rises = all.0.losses }, begin cards all.1 both.1)

-- the cards of a document that pass no limit
pub cards_sound : (doc : Members) (cards : List CardData) → cards_at doc ≡ Ok cards → cards_limit cards ≡ None → AreCards (map card_value cards)
cards_sound doc cards read none = begin cards (cards-hold (card_items doc) cards read) none
