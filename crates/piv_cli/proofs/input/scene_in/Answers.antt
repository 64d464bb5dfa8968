use Rattle.piv_cli.proofs.SceneInput.{small-other}
use Rattle.piv_cli.proofs.input.scene_in.Goals as goal

pub returns-in-Err-TooLarge-clause-few : goal.returns-in-Err-TooLarge-clause-few
returns-in-Err-TooLarge-clause-few c small same =
    small-other c.args.input.now c.in-Err-TooLarge.what small (rw c.in-Err-TooLarge.field-0-is at c.in-Err-TooLarge.ensures.answer) (cc)
