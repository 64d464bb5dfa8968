use Rattle.std.proofs.Common.{refl, rules, ap, sym, length}
use Rattle.nvm_device.specs.Losses.{repeated}
use Rattle.nvm_device.proofs.Losing.{leaves_before, leaves_torn, leaves_after}
use Rattle.nvm_device.proofs.fused.lose.Goals as goal
use Rattle.nvm_device.proofs.fused.lose.Goals.{in-Before, in-Torn+in_ok-tear-in-Torn, in-After+in_ok-write-in-After}

pub returns-clause-planned : goal.returns-clause-planned
returns-clause-planned g c =
    let bytes = c.args.bytes.now in
    let s = g.N.Nvm.state c.args.inner.now in
    elim c.match-how.branch [
      | in-Before w ↦ rw (w.in-Before.is, c.cut.ensures, w.inner-is) (leaves_before _ c.args.place bytes s (λ was. refl) c.requires.range (g.met.N.Nvm.row_size c.args.inner.now))
      | in-Torn+in_ok-tear-in-Torn w ↦ rw (w.in-Torn.is, c.cut.ensures, w.inner-is) (leaves_torn _ w.as_slice.result.now c.args.place bytes s (g.N.Nvm.state w.tear.new.inner) (λ was. ap (λ p. repeated p (length bytes)) (sym w.as_slice.ensures.bytes)) w.in_ok-tear-in-Torn.ensures.tore)
      | in-After+in_ok-write-in-After w ↦ rw (w.in-After.is, c.cut.ensures, w.inner-is) (leaves_after _ c.args.place bytes s (g.N.Nvm.state w.write.new.self) (λ was. refl) w.in_ok-write-in-After.ensures.ok (search rules))
    ]
