-- How the tries and the memory change by one entry, and that what runs is legal (this project's own).
use Rattle.std.specs.Prelude.{◌≡◌, ◌-◌, if◌then◌else◌}
use Rattle.piv_model.specs.declared.kinds.RefId.{RefId}
use Rattle.piv_model.specs.Entries.{CardEntry, Past, ◌▸◌}
use Rattle.piv_model.specs.Memory.{reference}
use Rattle.piv_model.specs.Base.{Base, profile}
use Rattle.piv_rules.specs.Memories.{did, fills, spends, tries, mem}
use Rattle.piv_rules.specs.Effects.{memory_by}
use Rattle.piv_rules.specs.Legal.{IsLegal}
use Rattle.piv_rules.specs.Acts.{Records, entries}
use Rattle.piv_rules.specs.Turns.{Runs}

-- the tries: filled, or one less, or as before
abbrev pub TriesSteps : Type 0
TriesSteps = (B : Base) (H : Past) (e : CardEntry) (r : RefId)
    → tries B (H ▸ e) r ≡ (if fills (profile B) r H e then (reference B.memory r).limit
    else if spends (profile B) r H e then tries B H r - 1
    else tries B H r)

abbrev pub MemorySteps : Type 0
MemorySteps = (B : Base) (H : Past) (e : CardEntry) → mem B (H ▸ e) ≡ memory_by (profile B) (did H e) (mem B H)

abbrev pub RunsAreLegal : Type 0
RunsAreLegal = (B : Base) (R : Records) → Runs B R → IsLegal B (entries R)
