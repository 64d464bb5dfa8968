use Rattle.std.proofs.Common.{◌≡◌, ◌+◌, ◌*◌, ◌∷◌, [], ℕ, List, refl, sym, ◌∙◌, subst, arith}
use Rattle.nvm_slots.specs.Laying.{Piece, Laying}
use Rattle.nvm_slots.proofs.LayingLaws.{laying_none}
use Rattle.card_image.specs.Laying.{objects_area}
use Rattle.twin_store.specs.Twins.{record_front, twin_pieces}
use Rattle.twin_store.proofs.Laid.{pieces_none, pieces_more, laid_all}
use Rattle.twin_store.proofs.laying.lay_records.Goals as goal

pub loop-k-init : goal.loop-k-init
loop-k-init g c =
    let s = g.N.Nvm.state c.args.nvm.now in
    record {
      laid = subst (λ (ps : List Piece). Laying objects_area ps 256 s s) (sym (pieces_none c.args.objects.now [])) (laying_none objects_area s c.requires.size (g.met.N.Nvm.row_size c.args.nvm.now));
      on = c.requires.on;
      size = refl;
    }

pub loop-k-preserved : goal.loop-k-preserved
loop-k-preserved g c =
    let s = g.N.Nvm.state c.args.nvm.now in
    let pairs = c.args.objects.now in
    let k : ℕ = c.loop-k.k in
    let v : List ℕ = c.find.result.now in
    let t = g.N.Nvm.state c.lay_record.new.nvm in
    let laid = c.in_ok-lay_record.ensures.laid (twin_pieces pairs [] k) s c.loop-k.invariant.laid in
    record {
      laid = subst (λ (ps : List Piece). Laying objects_area ps (256 + 32773 * (k + 1)) s t) ((λ i. (259 + 32773 * k, c.find.ensures i) ∷ (256 + 32773 * k, record_front (c.find.ensures i)) ∷ twin_pieces pairs [] k) ∙ sym (pieces_more pairs [] k)) laid;
      on = c.in_ok-lay_record.ensures.on;
      size = c.in_ok-lay_record.ensures.size ∙ c.loop-k.invariant.size;
    }

pub returns-clause-laid : goal.returns-clause-laid
returns-clause-laid g c = let last : c.loop-k.k ≡ 33 = omega arith in laid_all c.args.objects.now c.loop-k.k (256 + 32773 * c.loop-k.k) (g.N.Nvm.state c.args.nvm.now) (g.N.Nvm.state c.loop-k.nvm) last c.requires.short c.loop-k.invariant.laid
