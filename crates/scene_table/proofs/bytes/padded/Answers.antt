use Rattle.std.proofs.Common.{◌++◌, ◌∙◌, ap, length, replicate, drop, List, ℕ}
use Rattle.std.proofs.lemmas.List.{drop-replicate}
use Rattle.scene_table.proofs.bytes.padded.Goals as goal

pub returns : goal.returns
returns c = ap (λ (l : List ℕ). l ++ drop (length c.args.key.now) (replicate 32 0)) c.copy_from_slice.ensures.after ∙ ap (λ (l : List ℕ). c.args.key.now ++ l) (drop-replicate (length c.args.key.now) 32 0)
