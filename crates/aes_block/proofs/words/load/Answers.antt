use Rattle.std.proofs.Common.{◌∙◌}
use Rattle.aes_block.proofs.WordLemmas.{sized, joined, bytes_of-made, block_places}
use Rattle.aes_block.proofs.words.load.Goals as goal

pub returns : goal.returns
returns c =
    joined _ _ _ _
    (bytes_of-made c.from_be_bytes.result (c.fits-block 0) (c.fits-block 1) (c.fits-block 2) (c.fits-block 3) c.from_be_bytes.ensures)
    (bytes_of-made c.from_be_bytes-2.result (c.fits-block 4) (c.fits-block 5) (c.fits-block 6) (c.fits-block 7) c.from_be_bytes-2.ensures)
    (bytes_of-made c.from_be_bytes-3.result (c.fits-block 8) (c.fits-block 9) (c.fits-block 10) (c.fits-block 11) c.from_be_bytes-3.ensures)
    (bytes_of-made c.from_be_bytes-4.result (c.fits-block 12) (c.fits-block 13) (c.fits-block 14) (c.fits-block 15) c.from_be_bytes-4.ensures)
    ∙ block_places (sized 16 c.args.block.now c.told-block)
