use Rattle.std.proofs.Common.{◌≡◌, true, take, drop, ap, sym, ◌∙◌, arith}
use Rattle.std.proofs.lemmas.List.{take_all, length-drop}
use Rattle.std.specs.Str.{bytes_eq}
use Rattle.piv_model.specs.Forms.{is_discovery, discovery_head, is_policy}
use Rattle.card_image.proofs.looking.is_discovery.Goals as goal

pub returns-then-eq : goal.returns-then-eq
unfolding is_discovery
returns-then-eq c =
    let form : take 16 c.discovery_value-form.result ≡ discovery_head = ap (take 16) c.discovery_value-form.ensures in
    let head : bytes_eq (take 16 c.args.value.now) discovery_head ≡ true =
    ap (bytes_eq (take 16 c.args.value.now)) (sym form) ∙ sym c.eq.ensures ∙ c.if-eq.true in
    let size = c.told-value in
    rw head (c.is_policy.ensures ∙ ap (is_policy c.args.has_global) (take_all 2 (drop 16 c.args.value.now) (omega (arith, size, length-drop 16 c.args.value.now))))
