-- What losses of power leave, and the memory at the start.
use Rattle.std.specs.Prelude.{map, option_map, unwrap_or}
use Rattle.std.specs.List.{range_with_len}
use Rattle.std.proofs.Common.{◌≡◌, ℕ, true, false, [], ◌∷◌, Option, Some, None, refl, ap, sym, ◌∙◌, length}
use Rattle.std.proofs.lemmas.List.FromFn.{fill_by_all}
use Rattle.piv_model.specs.declared.kinds.RefId.{RefId}
use Rattle.piv_model.specs.declared.kinds.RefId.TheVariants.{Pin, Puk, GlobalPin}
use Rattle.piv_model.specs.declared.kinds.Took.TheVariants.{Nothing}
use Rattle.piv_model.specs.Commands.{CardCommand}
use Rattle.piv_model.specs.Entries.{Opened, Closed, Call, Part, Rest, Bad, Reset, Cut, Up, Note}
use Rattle.piv_model.specs.Memory.{Reference, no_reference, reference, stored}
use Rattle.piv_model.specs.Base.{Base, profile}
use Rattle.piv_rules.specs.Memories.{running, reference_now, mem}
use Rattle.piv_rules.specs.Asks.{ask}
use Rattle.piv_rules.specs.Effects.{memory_after}
use Rattle.piv_rules.specs.Losses.{MayBeSaid}
use Rattle.piv_rules.proofs.Steps.{tries-nil}
use Rattle.piv_rules.proofs.Memories.{mem-step}
use Rattle.card_laws.specs.LossLaws.{CutsLeaveTheMemory, UpsTellTheMemory, NothingMayBeTaken, ToldMayBeTaken, OffLeavesTheMemory, StartsWithTheBase}

pub CutsLeaveTheMemory-law : CutsLeaveTheMemory
CutsLeaveTheMemory-law B H r = mem-step B H (Cut r)

pub UpsTellTheMemory-law : UpsTellTheMemory
UpsTellTheMemory-law B H t = ((λ h. mem-step B H (Up t) ∙ rw h refl), (λ r h. mem-step B H (Up t) ∙ rw h refl))

pub NothingMayBeTaken-law : NothingMayBeTaken
NothingMayBeTaken-law B H = go (running H)
  where
    go : (o : Option (ℕ × CardCommand)) → MayBeSaid (mem B H) (option_map (λ r. ask (profile B) r.1) o) Nothing
    go None = refl
    go (Some r) = (refl, tt)

pub ToldMayBeTaken-law : ToldMayBeTaken
ToldMayBeTaken-law B G c k t now told = ((rw same told.possible, rw same told.first), told.gives ∙ sym says)
  where
    same : mem B (Cut (Some (c, k)) ∷ G) ≡ mem B G
    same = CutsLeaveTheMemory-law B G (Some (c, k))

    says : mem B (Up t ∷ Cut (Some (c, k)) ∷ G) ≡ memory_after (ask (profile B) k) t (mem B G)
    says = (UpsTellTheMemory-law B (Cut (Some (c, k)) ∷ G) t).1 (c, k) refl ∙ ap (memory_after (ask (profile B) k) t) same

-- off, the memory is the one before the loss
pub OffLeavesTheMemory-law : OffLeavesTheMemory
OffLeavesTheMemory-law B [] legal off = absurd (cc)
OffLeavesTheMemory-law B (Cut r ∷ H) legal off = mem-step B H (Cut r)
OffLeavesTheMemory-law B (Closed c ∷ H) legal off = mem-step B H (Closed c) ∙ OffLeavesTheMemory-law B H legal.0 off
OffLeavesTheMemory-law B (Note a w ∷ H) legal off = mem-step B H (Note a w) ∙ OffLeavesTheMemory-law B H legal.0 off
OffLeavesTheMemory-law B (Opened c i shared ∷ H) legal off = absurd (let h : false ≡ true = sym off ∙ legal.1.0 in cc)
OffLeavesTheMemory-law B (Call c k word block ∷ H) legal off = absurd (let h : false ≡ true = sym off ∙ legal.1.0 in cc)
OffLeavesTheMemory-law B (Part c ∷ H) legal off = absurd (let h : false ≡ true = sym off ∙ legal.1.0 in cc)
OffLeavesTheMemory-law B (Rest c ∷ H) legal off = absurd (let h : false ≡ true = sym off ∙ legal.1.0 in cc)
OffLeavesTheMemory-law B (Bad c word ∷ H) legal off = absurd (let h : false ≡ true = sym off ∙ legal.1.0 in cc)
OffLeavesTheMemory-law B (Reset i ∷ H) legal off = absurd (let h : false ≡ true = sym off ∙ legal.1 in cc)
OffLeavesTheMemory-law B (Up t ∷ H) legal off = absurd (cc)

start_reference : (B : Base) (r : RefId) → reference_now B [] r ≡ reference B.memory r
start_reference B r = ap (λ n. record (reference B.memory r) { tries = n }) (tries-nil B r)

start_objects : (B : Base) → length B.memory.objects ≡ 33 → map (stored B.memory) (range_with_len 0 33) ≡ B.memory.objects
start_objects B h = sym (fill_by_all (stored B.memory) B.memory.objects 33 [] h (λ k l. refl))

-- the Global PIN's reference, if there is one
start_global : (B : Base) → option_map (λ g. reference_now B [] GlobalPin) B.memory.global ≡ B.memory.global
start_global B = go B.memory.global (start_reference B GlobalPin)
  where
    go : (o : Option Reference) → reference_now B [] GlobalPin ≡ unwrap_or o no_reference
        → option_map (λ g. reference_now B [] GlobalPin) o ≡ o
    go None e = refl
    go (Some x) e = ap (λ y. Some y) e

pub StartsWithTheBase-law : StartsWithTheBase
unfolding mem
StartsWithTheBase-law B h =
    rw (start_reference B Pin, start_reference B Puk)
    (ap (λ xs. record B.memory { global = option_map (λ g. reference_now B [] GlobalPin) B.memory.global; objects = xs }) (start_objects B h)
    ∙ ap (λ g. record B.memory { global = g }) (start_global B))

pub ruleset loss_laws = (CutsLeaveTheMemory-law, UpsTellTheMemory-law, NothingMayBeTaken-law, ToldMayBeTaken-law, OffLeavesTheMemory-law, StartsWithTheBase-law)
