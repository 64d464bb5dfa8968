use Rattle.std.proofs.Common.{◌≡◌, ◌+◌, ◌-◌, ℕ, List, take, drop, ap, ◌∙◌, arith}
use Rattle.std.specs.Prelude.{is_some}
use Rattle.nvm_device.specs.Bytes.{bytes_at}
use Rattle.piv_model.specs.Forms.{is_pin}
use Rattle.card_image.proofs.Decided.{pin_read}
use Rattle.card_image.proofs.looking.is_pin.Goals as goal

pub returns : goal.returns
unfolding bytes_at
returns c =
    let bytes : List ℕ = c.args.bytes.now in
    let at : ℕ = c.args.at in
    let part = take ((at + 8) - at) (drop at bytes) in
    let size : (at + 8) - at ≡ 8 = omega arith in
    c.is_some.ensures ∙ ap is_some c.read_pin.ensures ∙ pin_read (is_pin part) part ∙ ap (λ n. is_pin (take n (drop at bytes))) size
