-- The comparisons that a cell counts (this project's own).
use Rattle.std.specs.Prelude.{◌≡◌, ℕ, IsTrue}
use Rattle.piv_model.specs.declared.kinds.RefId.{RefId}
use Rattle.piv_model.specs.declared.kinds.RefId.TheVariants.{Pin, Puk, GlobalPin}
use Rattle.piv_model.specs.Base.{Base}
use Rattle.piv_model.specs.Entries.{Past}
use Rattle.piv_model.specs.Memory.{has}
use Rattle.piv_rules.specs.Memories.{comparisons}
use Rattle.card_cell.specs.declared.tally.Tally.{Tally}

abbrev pub count_in : Tally → RefId → ℕ
count_in t Pin = t.pin
count_in t Puk = t.puk
count_in t GlobalPin = t.global

-- they are those of a history, for each reference that the card has
abbrev pub AreCounted : Base → Past → Tally → Type 0
AreCounted B H t = (r : RefId) → IsTrue (has B.memory r) → count_in t r ≡ comparisons B H r
