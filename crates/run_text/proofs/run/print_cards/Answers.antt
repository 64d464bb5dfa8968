use Rattle.std.proofs.Common.{◌<◌, ◌≤◌, List, ℕ, length, map, sym, refl, ap, arith}
use Rattle.std.specs.List.{zip}
use Rattle.std.proofs.lemmas.Result.{err_from_is_err_and}
use Rattle.piv_model.specs.declared.history.History.{History}
use Rattle.run_text.specs.RunTexts.{card_text}
use Rattle.run_text.proofs.Pieces.{both-at, both-length, named-at, mapped-at, same-text, piece-next, piece-stopped, pieces-end}
use Rattle.run_text.proofs.run.print_cards.Goals as goal

pub returns-in_err-print_card : goal.returns-in_err-print_card
returns-in_err-print_card g c =
    let p = err_from_is_err_and c.from_residual.result c.from_residual.ensures.1 in
    let cards = c.args.scene.now.cards in
    let pasts = map (λ (h : History). h.past) c.args.histories.now in
    let k = c.cards.k in
    let named = named-at cards k c.card_name.result.now c.card_name.ensures in
    let within : k < length c.args.histories.now =
    let t = c.cards-test.true in let e = c.cards-k-end.ensures.count in let r = c.requires in omega (arith, t, e, r) in
    let at = both-at cards pasts k named.card c.index-histories-k.result.past named.at
    (mapped-at (λ (h : History). h.past) c.args.histories.now k (length c.args.histories.now) c.index-histories-k.result refl within c.index-histories-k.is) in
    rw (p.1, p.2) (piece-stopped g.K.Sink.taken g.K.Sink.flushed g.K.Sink.faults (λ x. card_text x.0.name x.1) (zip cards pasts) k (named.card, c.index-histories-k.result.past) c.args.sink.now c.cards.sink _ _ at
    c.cards.invariant
    (same-text g.K.Sink.taken g.K.Sink.flushed g.K.Sink.faults (card_text c.card_name.result.now c.index-histories-k.result.past) (card_text named.card.name c.index-histories-k.result.past)
    (ap (λ (n : List ℕ). card_text n c.index-histories-k.result.past) (sym named.name)) c.in_err-print_card.ensures))

pub cards-preserved : goal.cards-preserved
cards-preserved g c =
    let cards = c.args.scene.now.cards in
    let pasts = map (λ (h : History). h.past) c.args.histories.now in
    let k = c.cards.k in
    let named = named-at cards k c.card_name.result.now c.card_name.ensures in
    let within : k < length c.args.histories.now =
    let t = c.cards-test.true in let e = c.cards-k-end.ensures.count in let r = c.requires in omega (arith, t, e, r) in
    let at = both-at cards pasts k named.card c.index-histories-k.result.past named.at
    (mapped-at (λ (h : History). h.past) c.args.histories.now k (length c.args.histories.now) c.index-histories-k.result refl within c.index-histories-k.is) in
    piece-next g.K.Sink.taken g.K.Sink.flushed g.K.Sink.faults (λ x. card_text x.0.name x.1) (zip cards pasts) k (named.card, c.index-histories-k.result.past) c.args.sink.now c.cards.sink _ _ at
    c.cards.invariant
    (same-text g.K.Sink.taken g.K.Sink.flushed g.K.Sink.faults (card_text c.card_name.result.now c.index-histories-k.result.past) (card_text named.card.name c.index-histories-k.result.past)
    (ap (λ (n : List ℕ). card_text n c.index-histories-k.result.past) (sym named.name)) c.in_ok-print_card.ensures)

pub returns : goal.returns
returns g c =
    let cards = c.args.scene.now.cards in
    let pasts = map (λ (h : History). h.past) c.args.histories.now in
    let past : length (zip cards pasts) ≤ c.cards.k =
    let few = both-length cards pasts in let end = c.cards-test.false in let e = c.cards-k-end.ensures.count in omega (arith, few, end, e) in
    pieces-end g.K.Sink.taken g.K.Sink.flushed g.K.Sink.faults (λ x. card_text x.0.name x.1) (zip cards pasts) c.cards.k c.args.sink.now c.cards.sink _ past c.cards.invariant
