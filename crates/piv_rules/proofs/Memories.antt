-- How the memory changes by one entry.
use Rattle.std.proofs.Common.{◌≡◌, ℕ, suc, zero, ◌+◌, ◌-◌, [], ◌∷◌, Option, Some, None, true, refl, ap, unwrap_or, arith, ◌∙◌, eq-eqb, ne_eqb, ◌<◌, ◌≤◌}
use Rattle.std.specs.Prelude.{if◌then◌else◌, IsTrue, ◌==◌, map, slice_set, option_map, option_and_then, is_some}
use Rattle.std.specs.List.{range_with_len}
use Rattle.std.proofs.lemmas.List.FromFn.{get_or-map-range_with_len}
use Rattle.piv_model.specs.declared.kinds.RefId.{RefId}
use Rattle.piv_model.specs.declared.kinds.RefId.TheVariants.{Pin, Puk, GlobalPin}
use Rattle.piv_model.specs.declared.kinds.Took.{Took}
use Rattle.piv_model.specs.declared.kinds.Took.TheVariants.{Nothing, Spent, Done}
use Rattle.piv_model.specs.Commands.{CardCommand}
use Rattle.piv_model.specs.Entries.{CardEntry, Past}
use Rattle.piv_model.specs.Base.{Profile, profile, profile_of, Base}
use Rattle.piv_model.specs.Memory.{Memory, Reference, stored, has, no_reference, reference}
use Rattle.piv_model.specs.Changes.{change_reference, full, renewed, one_less}
use Rattle.piv_rules.specs.Asks.{Ask, Refused, Select, Get, Put, Logout, Query, Compare, Internal, AskChallenge, External, AskWitness, Mutual, Verify, Change, Unblock, ask}
use Rattle.piv_rules.specs.Memories.{did, mem, object, reference_now, filled_by, did_so, spent_by, secret_by, object_by}
use Rattle.piv_rules.specs.Effects.{memory_by, memory_after}
use Rattle.piv_rules.proofs.Steps.{tries-step}

-- a value set below the places changes none of them
map-below : {A : Type 0} (f : ℕ → A) (v : A) (k n q : ℕ) → q < k
    → map (λ id. unwrap_or (if id == q then Some v else None) (f id)) (range_with_len k n) ≡ map f (range_with_len k n)
map-below f v k zero q h = refl
map-below f v k (suc n) q h = rw (ne_eqb k q (omega arith)) (ap (λ xs. f k ∷ xs) (map-below f v (k + 1) n q (omega arith)))

-- a list of places with one value set anew
map-set_at : {A : Type 0} (f : ℕ → A) (v : A) (k n p q : ℕ) → q ≡ k + p
    → map (λ id. unwrap_or (if id == q then Some v else None) (f id)) (range_with_len k n) ≡ slice_set (map f (range_with_len k n)) p v
map-set_at f v k zero p q e = refl
map-set_at f v k (suc n) zero q e = rw (eq-eqb k q (omega arith)) (ap (λ xs. v ∷ xs) (map-below f v (k + 1) n q (omega arith)))
map-set_at f v k (suc n) (suc p) q e =
    rw (ne_eqb k q (omega arith)) (ap (λ xs. f k ∷ xs) (map-set_at f v (k + 1) n p q (omega arith)))

-- the references, from what an entry did
abbrev reference_by : Profile → RefId → Option (CardCommand × Took) → Reference → Reference
reference_by m r d x = record {
  limit = x.limit;
  tries = if did_so m (filled_by r) d then x.limit else if did_so m (spent_by r) d then x.tries - 1 else x.tries;
  secret = unwrap_or (option_and_then (λ e. secret_by r (ask m e.0) e.1) d) x.secret;
}

reference-step : (B : Base) (H : Past) (e : CardEntry) (r : RefId)
    → reference_now B (e ∷ H) r ≡ reference_by (profile B) r (did H e) (reference_now B H r)
reference-step B H e r = rw (tries-step B H e r)

-- the memory, from what an entry did
mem_by : Base → Past → Option (CardCommand × Took) → Memory
mem_by B H d = record {
  pin = reference_by (profile B) Pin d (reference_now B H Pin);
  puk = reference_by (profile B) Puk d (reference_now B H Puk);
  global = option_map (λ g. reference_by (profile B) GlobalPin d (reference_now B H GlobalPin)) B.memory.global;
  admin = B.memory.admin;
  card_auth = B.memory.card_auth;
  budget = B.memory.budget;
  objects = map (λ id. unwrap_or (option_and_then (λ x. object_by id (ask (profile B) x.0) x.1) d) (object B H id)) (range_with_len 0 33);
}

mem_by-did : (B : Base) (H : Past) (e : CardEntry) → mem B (e ∷ H) ≡ mem_by B H (did H e)
unfolding mem mem_by
mem_by-did B H e = rw (reference-step B H e Pin, reference-step B H e Puk, reference-step B H e GlobalPin)

-- a function of the Global PIN's reference, if there is one
global-changed : (m : Memory) (f : Reference → Reference) (x : Reference) (g : Option Reference)
    → record m { global = option_map (λ y. f x) g } ≡ record m { global = option_map f (option_map (λ y. x) g) }
global-changed m f x None = refl
global-changed m f x (Some y) = refl

mem_by-cases : (B : Base) (H : Past) (k : CardCommand) (a : Ask) (t : Took) → ask (profile B) k ≡ a
    → mem_by B H (Some (k, t)) ≡ memory_after a t (mem B H)
unfolding mem mem_by
mem_by-cases B H k (Refused w) t h = rw h
mem_by-cases B H k (Select x) t h = rw h
mem_by-cases B H k (Get id) t h = rw h
mem_by-cases B H k (Put id v) Nothing h = rw h
mem_by-cases B H k (Put id v) Spent h = rw h
mem_by-cases B H k (Put id v) Done h = rw h (ap (λ xs. record (mem B H) { objects = xs }) (map-set_at (object B H) v 0 33 id id (omega arith)))
mem_by-cases B H k (Logout r) t h = rw h
mem_by-cases B H k (Query r) t h = rw h
mem_by-cases B H k (Internal x) t h = rw h
mem_by-cases B H k AskChallenge t h = rw h
mem_by-cases B H k (External x) t h = rw h
mem_by-cases B H k AskWitness t h = rw h
mem_by-cases B H k (Mutual w x) t h = rw h
mem_by-cases B H k (Compare Pin p Verify) Nothing h = rw h
mem_by-cases B H k (Compare Pin p Verify) Spent h = rw h
mem_by-cases B H k (Compare Pin p Verify) Done h = rw h
mem_by-cases B H k (Compare Pin p (Change n)) Nothing h = rw h
mem_by-cases B H k (Compare Pin p (Change n)) Spent h = rw h
mem_by-cases B H k (Compare Pin p (Change n)) Done h = rw h
mem_by-cases B H k (Compare Pin p (Unblock n)) Nothing h = rw h
mem_by-cases B H k (Compare Pin p (Unblock n)) Spent h = rw h
mem_by-cases B H k (Compare Pin p (Unblock n)) Done h = rw h
mem_by-cases B H k (Compare Puk p Verify) Nothing h = rw h
mem_by-cases B H k (Compare Puk p Verify) Spent h = rw h
mem_by-cases B H k (Compare Puk p Verify) Done h = rw h
mem_by-cases B H k (Compare Puk p (Change n)) Nothing h = rw h
mem_by-cases B H k (Compare Puk p (Change n)) Spent h = rw h
mem_by-cases B H k (Compare Puk p (Change n)) Done h = rw h
mem_by-cases B H k (Compare Puk p (Unblock n)) Nothing h = rw h
mem_by-cases B H k (Compare Puk p (Unblock n)) Spent h = rw h
mem_by-cases B H k (Compare Puk p (Unblock n)) Done h = rw h
mem_by-cases B H k (Compare GlobalPin p Verify) Nothing h = rw h
mem_by-cases B H k (Compare GlobalPin p Verify) Spent h = rw h (global-changed (mem B H) one_less (reference_now B H GlobalPin) B.memory.global)
mem_by-cases B H k (Compare GlobalPin p Verify) Done h = rw h (global-changed (mem B H) full (reference_now B H GlobalPin) B.memory.global)
mem_by-cases B H k (Compare GlobalPin p (Change n)) Nothing h = rw h
mem_by-cases B H k (Compare GlobalPin p (Change n)) Spent h = rw h (global-changed (mem B H) one_less (reference_now B H GlobalPin) B.memory.global)
mem_by-cases B H k (Compare GlobalPin p (Change n)) Done h = rw h (global-changed (mem B H) (renewed n) (reference_now B H GlobalPin) B.memory.global)
mem_by-cases B H k (Compare GlobalPin p (Unblock n)) Nothing h = rw h
mem_by-cases B H k (Compare GlobalPin p (Unblock n)) Spent h = rw h (global-changed (mem B H) one_less (reference_now B H GlobalPin) B.memory.global)
mem_by-cases B H k (Compare GlobalPin p (Unblock n)) Done h = rw h (global-changed (change_reference Pin (renewed n) (mem B H)) full (reference_now B H GlobalPin) B.memory.global)

mem_by-memory_by : (B : Base) (H : Past) (d : Option (CardCommand × Took)) → mem_by B H d ≡ memory_by (profile B) d (mem B H)
unfolding mem mem_by
mem_by-memory_by B H None = refl
mem_by-memory_by B H (Some d) = mem_by-cases B H d.0 (ask (profile B) d.0) d.1 refl

pub mem-step : (B : Base) (H : Past) (e : CardEntry) → mem B (e ∷ H) ≡ memory_by (profile B) (did H e) (mem B H)
mem-step B H e = mem_by-did B H e ∙ mem_by-memory_by B H (did H e)

-- no command changes what another one's meaning depends on
pub profile_of-mem : (B : Base) (H : Past) → profile_of (mem B H) ≡ profile B
unfolding mem
profile_of-mem B H = go B.memory.global
  where
    go : (g : Option Reference) → record (profile B) { has_global = is_some (option_map (λ x. reference_now B H GlobalPin) g) } ≡ record (profile B) { has_global = is_some g }
    go None = refl
    go (Some x) = refl

-- the objects of the memory are those of the history
pub stored-mem : (B : Base) (H : Past) (id : ℕ) → id ≤ 32 → stored (mem B H) id ≡ object B H id
unfolding mem
stored-mem B H id h = get_or-map-range_with_len (object B H) 0 33 id id [] (omega arith) (omega arith)

-- a reference that the card has, in the memory after a history
pub reference-mem : (B : Base) (H : Past) (ref : RefId) → IsTrue (has B.memory ref) → reference (mem B H) ref ≡ reference_now B H ref
unfolding mem
reference-mem B H Pin h = refl
reference-mem B H Puk h = refl
reference-mem B H GlobalPin h = go B.memory.global h
  where
    go : (g : Option Reference) → is_some g ≡ true → unwrap_or (option_map (λ x. reference_now B H GlobalPin) g) no_reference ≡ reference_now B H GlobalPin
    go None k = absurd (cc)
    go (Some x) k = refl
