use Rattle.std.proofs.Common.{◌≡◌, ◌∙◌, ◌+◌, ◌-◌, ◌++◌, true, length, take, replicate, refl, ap, sym, rules, arith}
use Rattle.std.specs.Prelude.{is_ok, vec_len}
use Rattle.std.proofs.lemmas.Grind.{common_steps}
use Rattle.std.proofs.lemmas.List.{take_all}
use Rattle.piv_chaining.specs.Waiting.{Waiting}
use Rattle.piv_chaining.proofs.Rooms.{written, seen}
use Rattle.piv_chaining.proofs.pieces.Pieces.lend.Goals as goal

pub returns : goal.returns
returns c =
    let xs = c.self.inside.bytes.items in
    let start : c.len-start.result ≡ length xs = search rules in
    let len : vec_len c.self.inside.bytes ≡ length xs = search rules in
    let ok : is_ok c.resize.result ≡ true = search (rules, common_steps) in
    let items = rw ok at c.resize.ensures.items in
    let total : vec_len c.resize.new.self ≡ c.len-start.result + c.args.size = rw ok at c.resize.ensures.len in
    let kept : take (c.len-start.result + c.args.size) xs ≡ xs = take_all (c.len-start.result + c.args.size) xs (omega arith) in
    let zeros : (c.len-start.result + c.args.size) - vec_len c.self.inside.bytes ≡ c.args.size = omega arith in
    let grown : c.resize.new.self.items ≡ xs ++ replicate c.args.size 0 =
    items ∙ ap (λ zs. zs ++ replicate ((c.len-start.result + c.args.size) - vec_len c.self.inside.bytes) 0) kept
    ∙ ap (λ k. xs ++ replicate k 0) zeros in (
      (
        refl,
        λ w.
            seen xs _ w c.self.inside.from c.self.inside.given c.args.size c.args.self.now c.self.invariant.0 c.self.invariant.1
            (sym (ap (λ (p : Waiting). p.waiting) c.self.view_is)) (sym (ap (λ (p : Waiting). p.piece) c.self.view_is)) (sym (ap (λ (p : Waiting). p.used) c.self.view_is))
            (written xs c.resize.new.self.items w c.args.size c.len-start.result (vec_len c.resize.new.self) grown start total),
      ),
      record { writes_back = tt; size = search (rules, common_steps) },
    )
