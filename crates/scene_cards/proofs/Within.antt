-- A card that passes no limit.
use Rattle.std.proofs.Common.{◌≡◌, ℕ, ◌+◌, ◌<◌, ◌≤◌, Bool, true, false, List, drop, length, get_or, map, Option, Some, None, refl, sym, ◌∙◌, arith}
use Rattle.std.specs.Prelude.{nat_lt, if◌then◌else◌}
use Rattle.std.specs.Option.{option_or}
use Rattle.std.proofs.lemmas.Bool.Decides.{nat_tests}
use Rattle.piv_model.specs.declared.places.Limit.{Limit}
use Rattle.piv_model.specs.declared.places.Limit.TheVariants as limit
use Rattle.scene_cards.specs.declared.card.RawCard.{RawCard}
use Rattle.scene_cards.specs.Cards.{CardData}
use Rattle.scene_cards.specs.Views.{card_view}
use Rattle.scene_cards.specs.CardLimits.{card_limit, cards_limit, has_large, object_blocks}
use Rattle.scene_cards.proofs.LimitLaws.{limit-next}

pub record IsWithin (c : CardData) : Type 0 where
  pub limit_pin : c.parts.limit_pin ≤ 15
  pub limit_puk : c.parts.limit_puk ≤ 15
  pub limit_global : c.parts.limit_global ≤ 15
  pub budget : c.parts.budget ≤ 2048
  pub large : has_large c.objects ≡ false
  pub room : object_blocks c.objects ≤ c.parts.budget

pub not_passed : (b : Bool) (l : Limit) (rest : Option Limit) → (if b then Some l else rest) ≡ None → (b ≡ false) × (rest ≡ None)
not_passed true l rest h = cc
not_passed false l rest h = (refl, h)

pub small : (most n : ℕ) → nat_lt most n ≡ false → n ≤ most
small most n h = grind (arith, nat_tests)

pub within : (c : CardData) → card_limit c ≡ None → IsWithin c
within c h =
    let a = not_passed (nat_lt 15 c.parts.limit_pin) limit.LimitPin _ h in
    let b = not_passed (nat_lt 15 c.parts.limit_puk) limit.LimitPuk _ a.1 in
    let g = not_passed (nat_lt 15 c.parts.limit_global) limit.LimitGlobal _ b.1 in
    let d = not_passed (nat_lt 2048 c.parts.budget) limit.Budget _ g.1 in
    let e = not_passed (nat_lt 4096 (length c.losses)) limit.Losses _ d.1 in
    let f = not_passed (has_large c.objects) limit.Object _ e.1 in
    let r = not_passed (nat_lt c.parts.budget (object_blocks c.objects)) limit.Room _ f.1 in
    record {
      limit_pin = small 15 c.parts.limit_pin a.0;
      limit_puk = small 15 c.parts.limit_puk b.0;
      limit_global = small 15 c.parts.limit_global g.0;
      budget = small 2048 c.parts.budget d.0;
      large = f.0;
      room = small c.parts.budget (object_blocks c.objects) r.0;
    }

pub both_none : (a b : Option Limit) → option_or a b ≡ None → (a ≡ None) × (b ≡ None)
both_none None b h = (refl, h)
both_none (Some l) b h = cc

-- one card of those that pass none, and the ones behind it
pub card-within : (cards : List RawCard) (i : ℕ) (x : RawCard) → i < length cards → x ≡ get_or cards i x → cards_limit (map card_view (drop i cards)) ≡ None
    → IsWithin (card_view x) × (cards_limit (map card_view (drop (i + 1) cards)) ≡ None)
card-within cards i x h at_i none =
    let both = both_none (card_limit (card_view x)) (cards_limit (map card_view (drop (i + 1) cards))) (sym (limit-next cards i x h at_i) ∙ none) in
    (within (card_view x) both.0, both.1)
