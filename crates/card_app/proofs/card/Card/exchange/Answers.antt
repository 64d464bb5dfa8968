use Rattle.std.proofs.Common.{refl, ◌+◌}
use Rattle.piv_rules.specs.Acts.{entries}
use Rattle.piv_rules.specs.Connections.{epoch, side}
use Rattle.card_app.specs.declared.slot.Slot.{Slot}
use Rattle.card_app.specs.Exchanges.{frame_on}
use Rattle.card_app.specs.Outcomes.{entry_by}
use Rattle.card_app.specs.Stands.{state_of, store_state, held_card}
use Rattle.card_app.proofs.CardLaws.{card-muted}
use Rattle.card_app.proofs.DueLaws.{due-plan}
use Rattle.card_app.proofs.HeldLaws.{exchanged-held, exchanged-flight, exchanged-left}
use Rattle.card_app.proofs.TurnLaws.{exchanged-due, exchanged-framed, exchanged-mute, exchanged-stands, one-slot, stands-same, mute-any}
use Rattle.card_app.proofs.card.Card.exchange.Goals as goal

pub returns : goal.returns
returns g c = (
  (
    refl,
    λ _. tt,
    record {
      on = λ is_on.
          let d : Slot = one-slot c.turn-turned.new.self.slots.items c.turn-turned.new.self.sixteen in
          let some = c.turn-turned.ensures.some is_on in
          record {
            stands = λ B R known stands fresh next.
                exchanged-stands c.turn-turned.new.self B R c.args.c known (epoch (entries R) (side (entries R) c.args.c)) c.args.bytes.now c.args.block.now
                (state_of c.turn-turned.new.self).running c.outcome.result c.turn-turned.result d
                some (c.turn-turned.ensures.stands is_on d B R known stands fresh next) c.outcome.ensures.shown;
            due = λ B R stands next.
                exchanged-due c.turn-turned.new.self g.S.Store.put_cost B (entries R) (g.S.Store.state c.args.self.now.store) (g.S.Store.state c.turn-turned.new.self.store)
                c.args.c c.args.block.now (state_of c.turn-turned.new.self).running c.outcome.result c.turn-turned.result d
                some (c.turn-turned.ensures.due is_on d B R stands next) c.outcome.ensures.shown;
            plan = λ B R L stands next. due-plan g.S.Store.put_cost B L (entries R) (entry_by c.args.c c.args.block.now (state_of c.turn-turned.new.self).running c.outcome.result)
                (g.S.Store.state c.args.self.now.store) (g.S.Store.state c.turn-turned.new.self.store)
                (exchanged-due c.turn-turned.new.self g.S.Store.put_cost B (entries R) (g.S.Store.state c.args.self.now.store) (g.S.Store.state c.turn-turned.new.self.store)
                c.args.c c.args.block.now (state_of c.turn-turned.new.self).running c.outcome.result c.turn-turned.result d
                some (c.turn-turned.ensures.due is_on d B R stands next) c.outcome.ensures.shown);
            framed = λ x is.
                exchanged-framed c.turn-turned.new.self (frame_on c.args.bytes.now x) c.args.c (state_of c.turn-turned.new.self).running c.outcome.result c.turn-turned.result d
                some (c.turn-turned.ensures.framed is_on d x is) c.outcome.ensures.framed;
            store = exchanged-left c.turn-turned.result c.outcome.result (g.S.Store.state c.args.self.now.store) (g.S.Store.state c.turn-turned.new.self.store) some (c.turn-turned.ensures.leaves is_on) c.outcome.ensures.left;
            flight = exchanged-flight c.turn-turned.result _ (state_of c.turn-turned.new.self).running some (c.turn-turned.ensures.flight is_on) c.outcome.ensures.muted;
            held = exchanged-held c.turn-turned.new.self.slots.items c.args.c (held_card c.turn-turned.new.self) (held_card c.args.self.now + 255) c.args.block.now
                (state_of c.turn-turned.new.self).running c.outcome.result c.turn-turned.result d
                some (c.turn-turned.ensures.held is_on d) c.outcome.ensures.shown;
          };
      off = c.turn-turned.ensures.off;
      muted = λ B R known is_off stands.
          stands-same c.args.self.now c.turn-turned.new.self B _ (c.turn-turned.ensures.off is_off)
          (card-muted c.args.self.now B R c.args.c known c.args.bytes.now stands is_off c.requires.attached);
      mute = mute-any c.args.self.now c.turn-turned.new.self c.outcome.result
          (λ is_on. exchanged-mute c.turn-turned.result _ (store_state c.turn-turned.new.self) (c.turn-turned.ensures.some is_on) c.turn-turned.ensures.power c.outcome.ensures.muted)
          c.turn-turned.ensures.off (λ is_off. c.outcome.ensures.mute (c.turn-turned.ensures.mute is_off));
      numbers = c.turn-turned.ensures.numbers;
      count = c.turn-turned.ensures.count;
    },
  ),
  record { after = tt; small = c.outcome.ensures.small; mute = λ is_off. c.outcome.ensures.mute (c.turn-turned.ensures.mute is_off) },
)
