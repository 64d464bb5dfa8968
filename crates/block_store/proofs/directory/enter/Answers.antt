use Rattle.std.proofs.Common.{◌≡◌, ◌+◌, ◌*◌, ℕ, List, get_or, sym, ◌∙◌, ap, subst}
use Rattle.block_store.specs.Writes.{IsEntered, with_number}
use Rattle.block_store.proofs.Numbers.{entered_by}
use Rattle.block_store.proofs.directory.enter.Goals as goal

pub returns : goal.returns
returns c =
    let chosen : List ℕ = c.args.chosen.now in
    let d : List ℕ = c.args.directory.now in
    let k : ℕ = c.args.place in
    let n : ℕ = c.args.n in
    let linked : List ℕ = c.link.new.directory in
    let new : List ℕ = c.put_number-2.new.directory in
    let is : new ≡ with_number (with_number linked (4 * k) n) (4 * k + 2) (get_or chosen 0 0) =
    c.put_number-2.ensures ∙ ap (λ (l : List ℕ). with_number l (4 * k + 2) c.first_of.result) c.put_number.ensures ∙ ap (with_number (with_number linked (4 * k) n) (4 * k + 2)) c.first_of.ensures.first in
    λ differ. subst (IsEntered k n chosen d) (sym is) (entered_by k n chosen d linked c.requires.place c.requires.few c.told-directory c.link.ensures differ)
