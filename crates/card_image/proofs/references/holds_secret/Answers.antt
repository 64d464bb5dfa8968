use Rattle.std.proofs.Common.{◌≡◌, ◌+◌, ◌-◌, refl, ◌∙◌, arith}
use Rattle.nvm_device.specs.Bytes.{bytes_at}
use Rattle.card_image.proofs.references.holds_secret.Goals as goal

pub returns : goal.returns
unfolding bytes_at
returns c =
    let size : (c.args.at + 8) - c.args.at ≡ 8 = omega arith in
    c.eq.ensures ∙ rw (size, c.as_slice.ensures) refl
