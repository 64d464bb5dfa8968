use Rattle.std.proofs.Common.{rules}
use Rattle.aes_block.proofs.WordLemmas.{sized}
use Rattle.aes_block.proofs.Columns.{earlier_columns}
use Rattle.aes_block.proofs.back.unsubstituted_rows.Goals as goal

pub returns : goal.returns
returns c =
    earlier_columns _ _ _ _ (sized 4 c.args.s (search rules)) c.unsubstituted.ensures c.unsubstituted-2.ensures c.unsubstituted-3.ensures c.unsubstituted-4.ensures
