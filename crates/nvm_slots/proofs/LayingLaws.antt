-- One more piece.
use Rattle.std.proofs.Common.{◌≡◌, ℕ, ◌+◌, ◌≤◌, List, [], ◌∷◌, length, Some, None, IfSome, false, refl, ap, sym, ◌∙◌, subst, arith}
use Rattle.std.specs.declared.option.Option.{Option}
use Rattle.std.specs.Option.{option_map}
use Rattle.power_loss.specs.Due.{due_after}
use Rattle.power_loss.specs.Told.{Each, Rose}
use Rattle.power_loss.specs.Power.{Power, power_after}
use Rattle.power_loss.proofs.EachLaws.{each_map}
use Rattle.nvm_device.specs.Bytes.{overwrite}
use Rattle.nvm_device.specs.Device.{DeviceState, written, Torn}
use Rattle.nvm_device.proofs.Row.{length-overwrite, bytes_at-overwrite_below, bytes_at-overwrite}
use Rattle.nvm_slots.proofs.KeptLaws.{leaves_implies}
use Rattle.nvm_slots.specs.Laying.{Area, Piece, Holds, LieBelow, FrontKept, Laid, Laying, Fell}

holds_below : (pieces : List Piece) (end place : ℕ) (bytes row : List ℕ) → LieBelow pieces end → end ≤ place → place + length bytes ≤ length row → Holds pieces row → Holds pieces (overwrite row place bytes)
holds_below [] end place bytes row below after within holds = tt
holds_below (p ∷ pieces) end place bytes row below after within holds =
    (bytes_at-overwrite_below row place bytes p.0 (length p.1) (omega (arith, below.0)) within ∙ holds.0, holds_below pieces end place bytes row below.1 after within holds.1)

pub below_more : (pieces : List Piece) (end more : ℕ) → end ≤ more → LieBelow pieces end → LieBelow pieces more
below_more [] end more le below = tt
below_more (p ∷ pieces) end more le below = (omega (arith, below.0), below_more pieces end more le below.1)

module _ (area : Area) where
  pub front_kept : (old row : List ℕ) (place : ℕ) (bytes : List ℕ) → area.front ≤ place → place + length bytes ≤ length row → FrontKept area old row → FrontKept area old (overwrite row place bytes)
  front_kept old row place bytes behind within kept = record {
    size = length-overwrite row place bytes within ∙ kept.size;
    front = bytes_at-overwrite_below row place bytes 0 area.front (omega arith) within ∙ kept.front;
  }

  pub laid_more : (pieces : List Piece) (end place : ℕ) (bytes old row : List ℕ) → area.front ≤ place → place + length bytes ≤ area.size → end ≤ place → Laid area pieces end old row → Laid area ((place, bytes) ∷ pieces) (place + length bytes) old (overwrite row place bytes)
  laid_more pieces end place bytes old row behind within after laid =
      let fits : place + length bytes ≤ length row = omega (arith, laid.enough, laid.kept.size) in
      record {
        enough = laid.enough;
        kept = front_kept old row place bytes behind fits laid.kept;
        below = (omega arith, below_more pieces end (place + length bytes) (omega arith) laid.below);
        holds = (bytes_at-overwrite row place bytes fits, holds_below pieces end place bytes row laid.below after fits laid.holds);
      }

  -- nothing was laid
  pub laying_none : (s : DeviceState) → area.size ≤ s.size → IfSome s.bytes (λ row. length row ≡ s.size) → Laying area [] area.front s s
  laying_none s enough size = record { left = record { size = refl; bytes = by_told s.bytes size }; same = refl; due = λ none. none }
    where
      by_told : (told : Option (List ℕ)) → IfSome told (λ row. length row ≡ s.size) → Each (Laid area [] area.front) told told
      by_told None size = tt
      by_told (Some row) size = record { enough = omega arith; kept = record { size = refl; front = refl }; below = tt; holds = tt }

  pub laying_more : (pieces : List Piece) (end place : ℕ) (bytes : List ℕ) (s t u : DeviceState) → area.front ≤ place → place + length bytes ≤ area.size → end ≤ place → Laying area pieces end s t → u ≡ written 1 place bytes t → Laying area ((place, bytes) ∷ pieces) (place + length bytes) s u
  laying_more pieces end place bytes s t u behind within after laying is = subst (λ (u : DeviceState). Laying area ((place, bytes) ∷ pieces) (place + length bytes) s u) (sym is) (record {
    left = record {
      size = laying.left.size;
      bytes = each_map (Laid area pieces end) (Laid area ((place, bytes) ∷ pieces) (place + length bytes)) (λ row. overwrite row place bytes) (λ old row laid. laid_more pieces end place bytes old row behind within after laid) s.bytes t.bytes laying.left.bytes;
    };
    same = ap (λ (p : Power). power_after 1 p) laying.same;
    due = λ none. ap (option_map (due_after 1)) (laying.due none);
  })

  -- a later place
  pub laying_later : (pieces : List Piece) (end more : ℕ) (s t : DeviceState) → end ≤ more → Laying area pieces end s t → Laying area pieces more s t
  laying_later pieces end more s t le laying = record {
    left = leaves_implies (λ row. Unit {0}) (Laid area pieces end) (Laid area pieces more) (λ old row any laid. record { enough = laid.enough; kept = laid.kept; below = below_more pieces end more le laid.below; holds = laid.holds }) s t (any s.bytes) laying.left;
    same = laying.same;
    due = laying.due;
  }
    where
      any : (told : Option (List ℕ)) → IfSome told (λ row. Unit {0})
      any None = tt
      any (Some row) = tt

  -- a piece that was lost
  pub fell_by : (R : List ℕ → List ℕ → Type 0) (pieces : List Piece) (end place n : ℕ) (s t u : DeviceState) → ((torn old row : List ℕ) → length torn ≡ n → Laid area pieces end old row → R old (overwrite row place torn)) → Laying area pieces end s t → Torn place n t u → Fell R s u
  fell_by R pieces end place n s t u implies laying lost = record {
    left = record {
      size = lost.left.size ∙ laying.left.size;
      bytes = subst (λ told. Each R s.bytes told) (sym lost.left.bytes) (each_map (Laid area pieces end) R (λ row. overwrite row place lost.left.torn) (λ old row laid. implies lost.left.torn old row lost.left.same_size laid) s.bytes t.bytes laying.left.bytes);
    };
    rose = subst (λ n. Rose n u.power.losses) (ap (λ (p : Power). p.losses) laying.same) lost.rose;
    power =
        let due = ap (λ (p : Power). p.due) lost.power in
        lost.power ∙ ap (λ (p : Power). record p { on = false; losses = u.power.losses; due = option_map (due_after 1) t.power.due }) laying.same
        ∙ (λ i. record s.power { on = false; losses = u.power.losses; due = sym due i });
  }

  pub fell_more : (pieces : List Piece) (end place n : ℕ) (s t u : DeviceState) → area.front ≤ place → place + n ≤ area.size → Laying area pieces end s t → Torn place n t u → Fell (FrontKept area) s u
  fell_more pieces end place n s t u behind within = fell_by (FrontKept area) pieces end place n s t u (λ torn old row size laid. front_kept old row place torn behind (omega (arith, laid.enough, laid.kept.size)) laid.kept)
