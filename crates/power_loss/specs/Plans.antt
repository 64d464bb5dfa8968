-- A plan of losses, by which a test chooses the moments without power: which writes are lost, and what each leaves.
use Rattle.std.specs.Prelude.{ℕ, ◌-◌, nat_le, if◌then◌else◌, List, [], ◌∷◌, length, map, drop, Some, None}
use Rattle.std.specs.declared.option.Option.{Option}
use Rattle.power_loss.specs.declared.loss.Loss.{Loss}

-- the numbers of the writes that these losses name
abbrev pub write_numbers : {H : Type 0} → List (Loss H) → List ℕ
write_numbers losses = map (λ l. l.write) losses

-- the same losses, their numbers counted from n writes later
abbrev pub counted_from : {H : Type 0} → ℕ → List (Loss H) → List (Loss H)
counted_from {H} n losses = map {A = Loss H} (λ l. record l { write = l.write - n }) losses

-- what is left by the one of the next n writes that is lost
abbrev pub planned_in : {H : Type 0} → ℕ → List (Loss H) → Option H
planned_in n [] = None
planned_in n (first ∷ later) = if nat_le first.write n then Some first.how else None

-- the losses to come after n writes, or after the one among them that is lost
abbrev pub losses_after : {H : Type 0} → ℕ → List (Loss H) → List (Loss H)
losses_after n [] = []
losses_after n (first ∷ later) =
    if nat_le first.write n then counted_from first.write later else counted_from n (first ∷ later)

-- A plan before some write: the losses to come, numbered from that write on.
pub record PlanState (H : Type 0) : Type 0 where
  -- how many losses it had at first
  pub span : ℕ
  pub to_come : List (Loss H)

abbrev pub whole : {H : Type 0} → List (Loss H) → PlanState H
whole losses = record { span = length losses; to_come = losses }

-- after n writes, or after the one among them that is lost
abbrev pub plan_after : {H : Type 0} → ℕ → PlanState H → PlanState H
plan_after n plan = record plan { to_come = losses_after n plan.to_come }

-- after n writes, in which so many losses came
abbrev pub plan_at : {H : Type 0} → List (Loss H) → ℕ → ℕ → PlanState H
plan_at losses came n = record { span = length losses; to_come = counted_from n (drop came losses) }
