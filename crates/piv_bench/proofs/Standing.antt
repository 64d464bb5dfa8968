-- What stands on the devices after a scheduled run.
use Rattle.std.specs.Prelude.{is_some, option_map, slice_get}
use Rattle.std.proofs.Common.{◌≡◌, ℕ, Bool, true, List, [], ◌++◌, length, map, Option, Some, None, IfSome, sym, ap, subst, ◌∙◌, arith}
use Rattle.std.proofs.lemmas.List.{append-nil}
use Rattle.std.proofs.lemmas.Option.{slice_get_within}
use Rattle.power_loss.specs.Plans.{write_numbers}
use Rattle.piv_model.specs.declared.answers.ApiAnswer.{ApiAnswer}
use Rattle.piv_model.specs.declared.store.Store.{Ghosts}
use Rattle.piv_model.specs.Base.{Base}
use Rattle.piv_model.specs.Entries.{Past}
use Rattle.piv_model.specs.Memory.{Memory}
use Rattle.nvm_device.specs.Device.{DeviceState}
use Rattle.piv_rules.specs.Acts.{entries}
use Rattle.piv_rules.specs.Plans.{ArePlanned, IsPlanOf}
use Rattle.card_image.specs.Images.{memory_of}
use Rattle.block_store.specs.Blocks.{block_form}
use Rattle.block_store.specs.Devices.{OthersStand}
use Rattle.client_api.specs.Ports.{records_of}
use Rattle.scene_cards.specs.CardValues.{CardValue}
use Rattle.piv_scene.specs.SceneValues.{SceneValue}
use Rattle.card_cell.specs.declared.base.CellBase.{CellBase}
use Rattle.card_cell.specs.declared.cell.CardCell.{CardCell}
use Rattle.card_cell.specs.Cells.{history_of, store_in}
use Rattle.card_cell.specs.Holds.{IsHeld, base_of}
use Rattle.script_runs.specs.Runs.{Run, log_of}
use Rattle.cell_port.specs.Owned.{tells_due}
use Rattle.cell_port.specs.OwnedLaws.{found}
use Rattle.scene_cells.specs.Lowered.{AreLeft}
use Rattle.scene_cells.specs.Raised.{AreRaised, cell_base, cell_bases}
use Rattle.scene_cells.specs.Turns.{scene_turns}
use Rattle.scene_runs.proofs.Holding.{bases-there}
use Rattle.scene_runs.proofs.Standing.{are-left-by, cards-ran, made-of, mapped}
use Rattle.piv_bench.specs.Benched.{Benched}
use Rattle.piv_bench.specs.Played.{AreLeftAsPlanned, PlayedOn}

-- ---- losses that were told

planned-in : (B : Base) (L : List ℕ) (H : Past) (due : Option (List ℕ)) → is_some due ≡ true → IfSome due (λ d. IsPlanOf block_form.put_cost B L H d)
    → ArePlanned block_form.put_cost B L H
planned-in B L H None told plan = absurd (cc)
planned-in B L H (Some due) told plan = plan.planned

planned-row : (B : Base) (L : List ℕ) (H : Past) (due : Option (List ℕ)) (mem : Option Memory) (bytes : Option (List ℕ))
    → mem ≡ option_map (λ row. memory_of block_form row) bytes → is_some due ≡ true
    → (is_some mem ≡ true → IfSome due (λ d. IsPlanOf block_form.put_cost B L H d)) → IfSome bytes (λ row. ArePlanned block_form.put_cost B L H)
planned-row B L H due mem None same told plan = tt
planned-row B L H due mem (Some row) same told plan = planned-in B L H due told (plan (ap is_some same))

-- ---- cells that were taken down

module _ {N S T : Type 0} {meaning : Ghosts S T} (state : N → DeviceState) (device : CardCell S T meaning → N) (scene : SceneValue)
    (answers : List (List ApiAnswer)) (bases : List CellBase) (tells : List Bool) (cells : List (CardCell S T meaning)) (run : Run)
    (spelled : (cell : CardCell S T meaning) → (store_in cell).mem ≡ option_map (λ row. memory_of block_form row) (state (device cell)).bytes)
    (played : PlayedOn scene answers bases tells cells run)
    (left : AreLeft (λ cell base R. IsHeld block_form.put_cost cell base R) (λ cell. state (device cell)) cells) where
  -- one cell
  planned-by : (k : ℕ) (base : CellBase) (cell : CardCell S T meaning) → slice_get bases k ≡ Some base → slice_get tells k ≡ Some true
      → slice_get cells k ≡ Some cell
      → IfSome (state (device cell)).bytes (λ row. ArePlanned block_form.put_cost (base_of base.start) base.plan (entries (records_of k (log_of run))))
  planned-by k base cell base_at told_at cell_at =
      let told : tells_due cell ≡ true = made-of (λ (c : CardCell S T meaning). tells_due c) cells [] tells k cell true
      (sym played.told ∙ sym (append-nil (map (λ (c : CardCell S T meaning). tells_due c) cells))) cell_at told_at in
      planned-row (base_of base.start) base.plan (entries (records_of k (log_of run))) (store_in cell).power.due (store_in cell).mem (state (device cell)).bytes
      (spelled cell) told (played.held.each k cell base cell_at base_at).plan

  pub left-as-planned : (devices rest : List N) (histories : List Past) → devices ≡ map device cells ++ rest
      → histories ≡ map (λ cell. history_of cell) cells ++ [] → AreLeftAsPlanned state scene bases tells devices answers histories run
  left-as-planned devices rest histories devices_are histories_are = record {
    scripts = played.scripts;
    cards = are-left-by state device bases cells (λ k. records_of k (log_of run)) played.held left devices rest histories devices_are histories_are;
    planned = λ k base now base_at told_at now_at.
        let low = slice_get_within bases k base base_at in
        let cell = found cells k (let n = played.held.many in omega (arith, low, n)) in
        subst (λ (d : N). IfSome (state d).bytes (λ row. ArePlanned block_form.put_cost (base_of base.start) base.plan (entries (records_of k (log_of run)))))
        (made-of device cells rest devices k cell.0 now devices_are cell.1 now_at) (planned-by k base cell.0 base_at told_at cell.1);
  }

-- ---- the devices of the scene's cards

module _ {N S T : Type 0} {meaning : Ghosts S T} (state : N → DeviceState) (device : CardCell S T meaning → N) (scene : SceneValue)
    (before new : List N) (losses : List ℕ) (raised : List (CardCell S T meaning)) (answers : List (List ApiAnswer)) (histories : List Past) (run : Run)
    (were : AreRaised state device (scene_turns scene.scripts) scene.cards before losses raised)
    (by : AreLeftAsPlanned state scene (cell_bases (scene_turns scene.scripts) scene.cards losses) (map (λ cell. tells_due cell) raised) new answers histories run) where
  card-planned : (k : ℕ) (card : CardValue) (old now : N) → slice_get scene.cards k ≡ Some card → slice_get before k ≡ Some old
      → slice_get new k ≡ Some now → (state old).power.due ≡ Some []
      → IfSome (state now).bytes (λ row. ArePlanned block_form.put_cost (base_of card.start) (write_numbers card.plan) (entries (records_of k (log_of run))))
  card-planned k card old now card_at old_at now_at none =
      let low = slice_get_within scene.cards k card card_at in
      let lost = found losses k (let n = were.counts in omega (arith, low, n)) in
      let first = found raised k (let n = were.many in omega (arith, low, n)) in
      let is = (were.each k card old lost.0 first.0 card_at old_at lost.1 first.1).0 in
      let told_at : slice_get (map (λ (c : CardCell S T meaning). tells_due c) raised) k ≡ Some true =
      ap (λ (l : List Bool). slice_get l k) (sym (append-nil (map (λ (c : CardCell S T meaning). tells_due c) raised)))
      ∙ mapped (λ (c : CardCell S T meaning). tells_due c) raised [] k first.0 first.1 ∙ ap (λ (b : Bool). Some b) (ap is_some (is.due none)) in
      let base = cell_base card.start card.plan (scene_turns scene.scripts) lost.0 in
      by.planned k base now (bases-there (scene_turns scene.scripts) scene.cards losses k card lost.0 card_at lost.1) told_at now_at

  pub benched : OthersStand (length scene.cards) before new → Benched state scene before new answers histories run
  benched others = record {
    scripts = by.scripts;
    cards = cards-ran state device scene before new losses raised histories (λ k. records_of k (log_of run)) were by.cards others;
    planned = card-planned;
  }
