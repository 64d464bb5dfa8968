use Rattle.std.proofs.Common.{◌≡◌, ℕ, ◌+◌, ◌<◌, List, [], ◌∷◌, ◌++◌, Some, length, take, arith}
use Rattle.std.specs.Prelude.{slice_get}
use Rattle.std.proofs.lemmas.List.{take_more}
use Rattle.std.proofs.lemmas.Option.{get_or_from_slice_get}
use Rattle.piv_model.proofs.start.StartObjects.copy.Goals as goal

one_more : {X : Type 0} (xs : List X) (k : ℕ) (x : X) → k < length xs → slice_get xs k ≡ Some x → take k xs ++ x ∷ [] ≡ take (k + 1) xs
one_more xs k x within at_k =
    let next = get_or_from_slice_get xs k x x at_k in
    let more = take_more xs k x within in
    cc

pub loop-k-preserved : goal.loop-k-preserved
loop-k-preserved c =
    let more = one_more c.args.self.now c.loop-k.k (c.value-id.result.0, c.value-id.result.1.now) (omega arith) c.value-id.ensures in
    cc (c.in_ok-push.ensures.ok, c.loop-k.invariant, more)
