use Rattle.std.specs.Prelude.{option_copied}
use Rattle.scene_readers.proofs.NextCard.{card-at, contact-new, contactless-new, almost, card-new, card-added}
use Rattle.scene_readers.proofs.readers.add_card.Goals as goal

pub add_reader-requires : goal.add_reader-requires
add_reader-requires c =
    let cards = c.args.scene.now.cards in
    let contact = option_copied c.reader-contact.result in
    let contactless = option_copied c.reader-contactless.result in
    contact-new cards c.args.card contact contactless c.args.readers.now c.holds.ensures.card_names c.holds.ensures.reader_names
    (card-at cards c.args.card contact contactless c.reader-contact.ensures c.reader-contactless.ensures) c.requires.before

pub add_reader-requires-2 : goal.add_reader-requires-2
add_reader-requires-2 c =
    let cards = c.args.scene.now.cards in
    let contact = option_copied c.reader-contact.result in
    let contactless = option_copied c.reader-contactless.result in
    contactless-new cards c.args.card contact contactless c.args.readers.now c.add_reader.new.readers c.holds.ensures.card_names c.holds.ensures.reader_names
    (card-at cards c.args.card contact contactless c.reader-contact.ensures c.reader-contactless.ensures) c.requires.before c.in_ok-add_reader.ensures

pub add_card-requires : goal.add_card-requires
add_card-requires c =
    let cards = c.args.scene.now.cards in
    let contact = option_copied c.reader-contact.result in
    let contactless = option_copied c.reader-contactless.result in
    card-new cards c.args.card contact contactless c.card_name.result.now c.add_reader-2.new.readers c.holds.ensures.card_names c.holds.ensures.reader_names
    (card-at cards c.args.card contact contactless c.reader-contact.ensures c.reader-contactless.ensures)
    (almost cards c.args.card contact contactless c.args.readers.now c.add_reader.new.readers c.add_reader-2.new.readers c.requires.before c.in_ok-add_reader.ensures c.in_ok-add_reader-2.ensures)
    c.card_name.ensures

pub returns : goal.returns
returns c =
    let cards = c.args.scene.now.cards in
    let contact = option_copied c.reader-contact.result in
    let contactless = option_copied c.reader-contactless.result in
    card-added cards c.args.card contact contactless c.card_name.result.now c.add_reader-2.new.readers c.add_card.new.self
    (card-at cards c.args.card contact contactless c.reader-contact.ensures c.reader-contactless.ensures)
    (almost cards c.args.card contact contactless c.args.readers.now c.add_reader.new.readers c.add_reader-2.new.readers c.requires.before c.in_ok-add_reader.ensures c.in_ok-add_reader-2.ensures)
    c.card_name.ensures c.add_card.result c.add_card.ensures.ok
