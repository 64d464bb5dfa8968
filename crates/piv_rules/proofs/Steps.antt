-- How each answer of the history changes when one entry is added.
use Rattle.std.proofs.Common.{◌≡◌, ℕ, ◌+◌, ◌-◌, Bool, true, false, [], ◌∷◌, refl, unwrap_or, arith}
use Rattle.std.specs.Prelude.{if◌then◌else◌}
use Rattle.piv_model.specs.declared.kinds.RefId.{RefId}
use Rattle.piv_model.specs.Entries.{CardEntry, Past}
use Rattle.piv_model.specs.Base.{profile, Base}
use Rattle.piv_model.specs.Memory.{reference}
use Rattle.piv_rules.specs.declared.lookback.Login.{Login}
use Rattle.piv_rules.specs.Lookback.{count_after, some_entry}
use Rattle.piv_rules.specs.Logins.{in_force, login_after, pending, NonePending, pending_after}
use Rattle.piv_rules.specs.Connections.{selected_after, selected, on_connection}
use Rattle.piv_rules.specs.Memories.{tries, fills, spends, object, object_by, gave, secret, secret_by}
use Rattle.piv_rules.specs.Legal.{IsLegal, IsAllowed}

pub selected-step : (B : Base) (H : Past) (e : CardEntry) (c : ℕ)
    → selected B (e ∷ H) c ≡ unwrap_or (on_connection (profile B) c false selected_after H e) (selected B H c)
selected-step B H e c = refl

pub in_force-step : (x : Login) (B : Base) (H : Past) (e : CardEntry) (c : ℕ)
    → in_force B (e ∷ H) c x ≡ unwrap_or (on_connection (profile B) c false (login_after x) H e) (in_force B H c x)
in_force-step x B H e c = refl

pub pending-step : (B : Base) (H : Past) (e : CardEntry) (c : ℕ)
    → pending B (e ∷ H) c ≡ unwrap_or (on_connection (profile B) c NonePending pending_after H e) (pending B H c)
pending-step B H e c = refl

pub object-step : (B : Base) (H : Past) (e : CardEntry) (id : ℕ)
    → object B (e ∷ H) id ≡ unwrap_or (gave (profile B) (object_by id) H e) (object B H id)
object-step B H e id = refl

-- the tries: filled, or one less, or as before
pub tries-step : (B : Base) (H : Past) (e : CardEntry) (r : RefId)
    → tries B (e ∷ H) r ≡ (if fills (profile B) r H e then (reference B.memory r).limit else if spends (profile B) r H e then tries B H r - 1 else tries B H r)
unfolding tries
tries-step B H e r = go (fills (profile B) r H e) (spends (profile B) r H e) (some_entry (fills (profile B) r) H)
    (count_after (fills (profile B) r) (spends (profile B) r) H) (reference B.memory r).limit (reference B.memory r).tries
  where
    go : (f s any : Bool) (n limit start : ℕ)
        → (if (if f then true else any) then limit else start) - (if f then 0 else if s then n + 1 else n)
        ≡ (if f then limit else if s then (if any then limit else start) - n - 1 else (if any then limit else start) - n)
    go true s any n limit start = omega arith
    go false true true n limit start = omega arith
    go false true false n limit start = omega arith
    go false false true n limit start = refl
    go false false false n limit start = refl

pub secret-step : (B : Base) (H : Past) (e : CardEntry) (r : RefId)
    → secret B (e ∷ H) r ≡ unwrap_or (gave (profile B) (secret_by r) H e) (secret B H r)
secret-step B H e r = refl

pub tries-nil : (B : Base) (r : RefId) → tries B [] r ≡ (reference B.memory r).tries
unfolding tries
tries-nil B r = omega arith

pub ruleset tries_steps = (tries-step, tries-nil)

-- a legal history goes on by an entry that is allowed after it
pub IsLegal-step : (B : Base) (H : Past) (e : CardEntry) → IsLegal B H → IsAllowed B H e → IsLegal B (e ∷ H)
IsLegal-step B H e l a = (l, a)
