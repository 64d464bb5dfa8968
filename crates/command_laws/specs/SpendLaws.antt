-- How often a reference is compared between fillings (SP 800-73-4 part 2, the retry counters).
use Rattle.std.specs.Prelude.{◌≤◌, ◌-◌}
use Rattle.piv_model.specs.declared.kinds.RefId.{RefId}
use Rattle.piv_model.specs.Entries.{Past}
use Rattle.piv_model.specs.Memory.{reference}
use Rattle.piv_model.specs.Base.{Base}
use Rattle.piv_rules.specs.Memories.{spends_since, tries, comparisons}
use Rattle.piv_rules.specs.Legal.{IsLegal}

-- no reference is compared beyond its limit between fillings
abbrev pub SpendsAreLimited : Type 0
SpendsAreLimited = (B : Base) (H : Past) (r : RefId) → IsLegal B H
    → (reference B.memory r).tries ≤ (reference B.memory r).limit → spends_since B H r ≤ (reference B.memory r).limit

abbrev pub ComparisonsAreLimited : Type 0
ComparisonsAreLimited = (B : Base) (H : Past) (r : RefId) → IsLegal B H
    → (reference B.memory r).tries ≤ (reference B.memory r).limit → comparisons B H r ≤ (reference B.memory r).limit
