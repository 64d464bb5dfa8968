use Rattle.std.proofs.Common.{◌≡◌, ℕ, ◌≤◌, ◌<◌, List, length, take, sym, arith}
use Rattle.std.proofs.lemmas.List.{take_all, length-take-le}
use Rattle.client_api.proofs.commands.front.Goals as goal

at_most : (n : ℕ) (l : List ℕ) → n < length l → n ≤ length l
at_most n l h = omega (arith, h)

same_least : (m n : ℕ) → m ≡ n → m ≤ n
same_least m n e = omega (arith, e)

pub slice_bounds-result-end : goal.slice_bounds-result-end
slice_bounds-result-end c = sym (length-take-le 255 c.args.left.now (at_most 255 c.args.left.now c.if-left-gt-PIECE.true))

pub returns-then-left-gt-PIECE-clause-short : goal.returns-then-left-gt-PIECE-clause-short
returns-then-left-gt-PIECE-clause-short c = same_least (length (take 255 c.args.left.now)) 255 (length-take-le 255 c.args.left.now (at_most 255 c.args.left.now c.if-left-gt-PIECE.true))

pub returns-else-left-gt-PIECE-clause-is : goal.returns-else-left-gt-PIECE-clause-is
returns-else-left-gt-PIECE-clause-is c = sym (take_all 255 c.args.left.now c.if-left-gt-PIECE.false)
