use Rattle.std.proofs.Common.{◌≡◌, [], codes, Some, subst}
use Rattle.std.specs.Prelude.{IfOk}
use Rattle.piv_model.specs.declared.start.Start.{Start}
use Rattle.piv_scene.proofs.GeneratedLaws.{start-made}
use Rattle.piv_scene.proofs.generated.generated_card.Goals as goal

pub returns : goal.returns
returns c =
    let plain = c.in_ok-start.ensures in
    subst (λ (s : Start). IfOk c.new.result (λ card. card ≡ record { name = codes "A"; contact = Some (codes "front"); contactless = Some (codes "gate"); start = s; plan = [] }))
    (start-made c.in_ok-start.start plain.memory plain.objects plain.keys plain.global plain.random) c.new.ensures
