use Rattle.std.proofs.Common.{◌≡◌, ◌∙◌, false, ap, rules}
use Rattle.std.specs.Prelude.{◌==◌}
use Rattle.std.proofs.lemmas.Grind.{common_steps}
use Rattle.piv_model.specs.Base.{Profile}
use Rattle.piv_model.specs.Commands.{command_of}
use Rattle.piv_rules.specs.Asks.{ask}
use Rattle.piv_rules.specs.Lent.{ask_of}
use Rattle.card_commands.specs.Connections.{channel_of}
use Rattle.card_commands.proofs.Dispatching.{selected, other}
use Rattle.card_commands.specs.Asking.{profile_by}
use Rattle.card_commands.proofs.Listed.{select-word, words-of}
use Rattle.card_commands.proofs.execution.dispatch.Goals as goal

pub returns-then-command-eq-SELECT-clause-executes : goal.returns-then-command-eq-SELECT-clause-executes
returns-then-command-eq-SELECT-clause-executes g c =
    let is : c.args.command.ins ≡ 0xA4 = search (rules, common_steps) in
    selected g.S.Store.put_cost (command_of c.args.command) c.args.interface c.args.block.now c.select.result c.select.new.out.waiting
    (channel_of c.args.conn.now) (channel_of c.select.new.conn) (g.S.Store.state c.args.store.now) is (g.met.S.Store.due_rises c.args.store.now)
    (λ m. c.select.ensures.replies m c.args.interface c.args.block.now)

pub returns-clause-executes : goal.returns-clause-executes
returns-clause-executes g c =
    let apart : (c.args.command.ins == 0xA4) ≡ false = search (rules, common_steps) in
    other g.S.Store.put_cost (ask_of c.asked_by-asked.result) (command_of c.args.command) c.args.interface c.args.block.now c.answer.result c.answer.new.out.waiting
    (channel_of c.args.conn.now) (channel_of c.answer.new.conn) (g.S.Store.state c.args.store.now) (g.S.Store.state c.answer.new.store)
    apart (λ m told. c.asked_by-asked.ensures.asks ∙ ap (λ (p : Profile). ask p (command_of c.args.command)) (rw told at c.traits_of-traits.ensures)) c.answer.ensures.executes

pub returns-then-command-eq-SELECT-clause-word : goal.returns-then-command-eq-SELECT-clause-word
returns-then-command-eq-SELECT-clause-word g c =
    let is : c.args.command.ins ≡ 0xA4 = search (rules, common_steps) in
    select-word c.args.command.ins c.select.result.sw is c.select.ensures.word

pub returns-clause-word : goal.returns-clause-word
returns-clause-word g c =
    let apart : (c.args.command.ins == 0xA4) ≡ false = search (rules, common_steps) in
    words-of (profile_by c.traits_of-traits.result) (command_of c.args.command) (ask_of c.asked_by-asked.result) c.answer.result apart c.asked_by-asked.ensures.asks c.answer.ensures.word
