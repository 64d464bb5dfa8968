-- The bytes of an answer (this project's own).
use Rattle.std.specs.Prelude.{ℕ, List}
use Rattle.piv_model.specs.declared.reply_bytes.Kept.{Kept}
use Rattle.piv_model.specs.declared.reply_bytes.Kept.TheVariants.{Short, Long}

abbrev pub kept_bytes : Kept → List ℕ
kept_bytes (Short reply) = reply
kept_bytes (Long bytes) = bytes.items
