use Rattle.std.proofs.Common.{◌≡◌, ◌+◌, ◌≤◌, ℕ, List, subst, sym, arith}
use Rattle.card_image.specs.Header.{reference_in}
use Rattle.card_image.proofs.WrittenReferences.{reference_here, reference_beside}
use Rattle.card_image.proofs.references.write_reference.Goals as goal

room : (at : ℕ) → at ≤ 20 → at + 10 ≤ 30
room at le = omega arith

pub returns-clause-here : goal.returns-clause-here
returns-clause-here c =
    let l : List ℕ = c.args.bytes.now in
    subst (λ (b : List ℕ). reference_in b c.args.at ≡ record { limit = c.args.limit; tries = c.args.limit; secret = c.args.secret.now }) (sym c.write_secret.ensures.bytes)
    (reference_here l c.args.secret.now c.args.at c.args.limit c.told-bytes (room c.args.at c.requires.within) c.told-secret)

pub returns-clause-others : goal.returns-clause-others
returns-clause-others c k apart =
    let l : List ℕ = c.args.bytes.now in
    subst (λ (b : List ℕ). reference_in b k ≡ reference_in l k) (sym c.write_secret.ensures.bytes)
    (reference_beside l c.args.secret.now c.args.at c.args.limit c.told-bytes (room c.args.at c.requires.within) c.told-secret k apart)
