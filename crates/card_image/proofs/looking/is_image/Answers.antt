use Rattle.card_image.specs.Header.{header_of}
use Rattle.card_image.specs.Looking.{are_references, are_keys}
use Rattle.nvm_slots.proofs.Calls.{rows_enough}
use Rattle.card_image.proofs.Decided.{refuse, references_of, keys_of, accept, references_told, keys_told}
use Rattle.card_image.proofs.looking.is_image.Goals as goal

pub returns-then-not-sound : goal.returns-then-not-sound
returns-then-not-sound g c = refuse g.O.Objects.form (λ row. are_references (header_of row).references) (g.N.Nvm.state c.args.nvm.now).bytes c.are_references-sound.result (references_of g.O.Objects.form) (references_told (g.N.Nvm.state c.args.nvm.now).bytes c.read_references-references.result c.are_references-sound.result c.read_references-references.ensures.references c.are_references-sound.ensures) c.if-not-sound.true

pub returns-then-not-known : goal.returns-then-not-known
returns-then-not-known g c = refuse g.O.Objects.form (λ row. are_keys (header_of row).keys) (g.N.Nvm.state c.args.nvm.now).bytes c.are_keys-known.result (keys_of g.O.Objects.form) (keys_told (g.N.Nvm.state c.args.nvm.now).bytes c.read_keys.result c.are_keys-known.result c.read_keys.ensures.keys c.are_keys-known.ensures) c.if-not-known.true

pub returns : goal.returns
returns g c =
    let s = g.N.Nvm.state c.args.nvm.now in
    accept g.O.Objects.form s.bytes c.read_references-references.result c.has_mark-marked.result c.are_references-sound.result c.are_keys-known.result c.are_objects-kept.result c.has_discovery.result c.read_budget-budget.result c.blocks_of_all.result g.met.O.Objects.is_form
    (rows_enough 1114112 s.size s.bytes c.requires.size (g.met.N.Nvm.row_size c.args.nvm.now)) c.has_mark-marked.ensures c.if-not-marked.false c.read_budget-budget.ensures c.if-budget-eq0.false c.if-budget-gt-MOST_BLOCKS.false
    c.read_references-references.ensures.references c.are_references-sound.ensures c.if-not-sound.false (keys_told s.bytes c.read_keys.result c.are_keys-known.result c.read_keys.ensures.keys c.are_keys-known.ensures) c.if-not-known.false
    c.are_objects-kept.ensures c.if-not-kept.false c.blocks_of_all.ensures.told c.if-blocks_of_all-budget.false c.has_discovery.ensures
