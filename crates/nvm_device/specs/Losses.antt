-- What a planned loss leaves of the write that it names.
use Rattle.std.specs.Prelude.{ℕ, ◌%◌, List, length, slice_index, map}
use Rattle.std.specs.List.{range_with_len}
use Rattle.nvm_device.specs.declared.loss.How.{How}
use Rattle.nvm_device.specs.declared.loss.How.TheVariants.{Before, Torn, After}

-- n bytes of a pattern, again and again
unfoldable pub repeated : List ℕ → ℕ → List ℕ
repeated pattern n = map (λ i. slice_index pattern (i % length pattern)) (range_with_len 0 n)

-- what a lost write leaves in its range, in which `was` stood
abbrev pub left_by : How → List ℕ → List ℕ → List ℕ
left_by Before was bytes = was
left_by (Torn pattern) was bytes = repeated pattern (length bytes)
left_by After was bytes = bytes
