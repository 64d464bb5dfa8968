-- A command that is cut is joined again, and the pieces of a reply are the reply.
use Rattle.std.proofs.Common.{◌≡◌, ◌⊎◌, inl, inr, ℕ, ◌≤◌, Bool, true, false, List, [], ◌∷◌, ◌++◌, length, take, drop, Option, Some, None, refl, ap, sym, subst, ◌∙◌, arith, length-append, length-drop, append_assoc}
use Rattle.std.specs.Prelude.{◌==◌, flat_map, replicate, if◌then◌else◌}
use Rattle.std.specs.List.{AllByRecursion}
use Rattle.std.proofs.lemmas.Bool.{le-ltb}
use Rattle.std.proofs.lemmas.Bool.Decides.{nat_tests}
use Rattle.std.proofs.lemmas.List.{take-append-drop}
use Rattle.piv_model.specs.Commands.{CardCommand, CardApdu}
use Rattle.piv_model.specs.Chains.{Link, PartOf, WholeOf, RefusedBy, linked, sized, same_header}
use Rattle.piv_model.specs.StatusWords.{piece_word}
use Rattle.piv_chaining.specs.declared.joiner.Joining.{Joining}
use Rattle.piv_chaining.specs.declared.joiner.Joining.TheVariants.{Part, Whole, Refused}
use Rattle.piv_chaining.specs.Chains.{Chain, chain_of}
use Rattle.piv_chaining.specs.Fed.{IsFed}
use Rattle.piv_chaining.specs.Waiting.{Waiting}
use Rattle.piv_chaining.specs.Cuttings.{AreFed, HasHeader, CuttingsAreJoined, all_bytes, PiecesAreWhole}

-- these bytes of a command were joined so far
abbrev HasJoined : CardCommand → List ℕ → Chain → Type 0
HasJoined k before s = ((chain_of s ≡ None) × (before ≡ [])) ⊎ (chain_of s ≡ Some (record k { body = before }))

one-header : (k : CardCommand) (b before : List ℕ) → same_header (record k { body = b }) (record k { body = before }) ≡ true
one-header k b before = grind (arith, nat_tests)

link-on : (k : CardCommand) (before : List ℕ) (chain : Option CardCommand) (a : CardApdu)
    → ((chain ≡ None) × (before ≡ [])) ⊎ (chain ≡ Some (record k { body = before }))
    → a.command ≡ record k { body = a.command.body }
    → linked chain a ≡ sized a.class (record k { body = before ++ a.command.body })
link-on k before chain a (inl (none, empty)) header =
    ap (λ c. linked c a) none
    ∙ ap (sized a.class) header
    ∙ ap (λ (bs : List ℕ). sized a.class (record k { body = bs ++ a.command.body })) (sym empty)
link-on k before chain a (inr some) header =
    ap (λ c. linked c a) some
    ∙ ap (λ (c : CardCommand). if same_header c (record k { body = before }) then sized a.class (record k { body = before ++ c.body }) else RefusedBy 0x6883) header
    ∙ ap (λ (b : Bool). if b then sized a.class (record k { body = before ++ a.command.body }) else RefusedBy 0x6883) (one-header k a.command.body before)

fits-part : (class : ℕ) (k : CardCommand) → class ≡ 0x10 → length k.body ≤ 16640 → sized class k ≡ PartOf k
fits-part class k e few =
    ap (λ b. if b then RefusedBy 0x6700 else if class == 0x10 then PartOf k else WholeOf k) (le-ltb 16640 (length k.body) few)
    ∙ ap (λ c. if c == 0x10 then PartOf k else WholeOf k) e

fits-whole : (class : ℕ) (k : CardCommand) → class ≡ 0x00 → length k.body ≤ 16640 → sized class k ≡ WholeOf k
fits-whole class k e few =
    ap (λ b. if b then RefusedBy 0x6700 else if class == 0x10 then PartOf k else WholeOf k) (le-ltb 16640 (length k.body) few)
    ∙ ap (λ c. if c == 0x10 then PartOf k else WholeOf k) e

part-fed : (k : CardCommand) (j : Joining) (mid : Chain) → IsFed (PartOf k) j mid
    → (j ≡ Part) × (mid ≡ record { command = k; is_chain = true })
part-fed k Part mid h = (refl, h)
part-fed k Whole mid h = absurd h
part-fed k (Refused w) mid h = absurd h

whole-fed : (k : CardCommand) (j : Joining) (mid : Chain) → IsFed (WholeOf k) j mid
    → (j ≡ Whole) × (mid ≡ record { command = k; is_chain = false })
whole-fed k Part mid h = absurd h
whole-fed k Whole mid h = (refl, h)
whole-fed k (Refused w) mid h = absurd h

joins : (k : CardCommand) (before : List ℕ) (parts : List CardApdu) (last : CardApdu) (js : List Joining) (old new : Chain)
    → AllByRecursion (HasHeader 0x10 k) parts → HasHeader 0x00 k last
    → before ++ (flat_map (λ a. a.command.body) parts ++ last.command.body) ≡ k.body → length k.body ≤ 16640
    → HasJoined k before old → AreFed (parts ++ last ∷ []) js old new
    → (js ≡ replicate (length parts) Part ++ Whole ∷ []) × (new ≡ record { command = k; is_chain = false })
joins k before [] last [] old new each is all few opened fed = absurd fed
joins k before [] last (j ∷ i ∷ js) old new each is all few opened (mid, fed, none) = absurd none
joins k before [] last (j ∷ []) old new each is all few opened (mid, fed, same) =
    let link : linked (chain_of old) last ≡ WholeOf k =
    link-on k before (chain_of old) last opened is.header
    ∙ ap (λ (bs : List ℕ). sized last.class (record k { body = bs })) all
    ∙ fits-whole last.class k is.class few in
    let f = whole-fed k j mid (subst (λ (l : Link). IsFed l j mid) link fed) in
    (ap (λ (i : Joining). i ∷ []) f.0, same ∙ f.1)
joins k before (p ∷ ps) last [] old new each is all few opened fed = absurd fed
joins k before (p ∷ ps) last (j ∷ js) old new (first, each) is all few opened (mid, fed, later) =
    let more : List ℕ = before ++ p.command.body in
    let rest : List ℕ = flat_map (λ (a : CardApdu). a.command.body) ps ++ last.command.body in
    let e : (before ++ p.command.body) ++ (flat_map (λ (a : CardApdu). a.command.body) ps ++ last.command.body) ≡ k.body =
    simp append_assoc (simp append_assoc at all) in
    let within : length (before ++ p.command.body) ≤ 16640 =
    omega (arith, length-append (before ++ p.command.body) (flat_map (λ (a : CardApdu). a.command.body) ps ++ last.command.body), ap length e) in
    let link : linked (chain_of old) p ≡ PartOf (record k { body = before ++ p.command.body }) =
    link-on k before (chain_of old) p opened first.header
    ∙ fits-part p.class (record k { body = before ++ p.command.body }) first.class within in
    let f = part-fed (record k { body = before ++ p.command.body }) j mid (subst (λ (l : Link). IsFed l j mid) link fed) in
    let ih = joins k (before ++ p.command.body) ps last js mid new each is e few (inr (ap chain_of f.1)) later in
    ((λ i. f.0 i ∷ ih.0 i), ih.1)

pub cutting_joined : CuttingsAreJoined
cutting_joined k parts last js old new each is all few closed fed =
    joins k [] parts last js old new each is all few (inl (ap (λ b. if b then Some old.command else None) closed, refl)) fed

pub pieces_whole : PiecesAreWhole
pieces_whole [] [] old new same none = (sym none ∙ ap (λ (w : Waiting). w.waiting) same, tt)
pieces_whole [] (p ∷ ps) old new given none = absurd given
pieces_whole (most ∷ mosts) [] old new given none = absurd given
pieces_whole (most ∷ mosts) (p ∷ ps) old new (mid, given, piece, later) none =
    let ih = pieces_whole mosts ps mid new later none in
    let bytes : p.bytes ≡ take most old.waiting = sym piece ∙ ap (λ (w : Waiting). w.piece) given.2 in
    let left : all_bytes ps ≡ drop most old.waiting = ih.0 ∙ ap (λ (w : Waiting). w.waiting) given.2 in (
      (λ i. bytes i ++ left i) ∙ take-append-drop most old.waiting,
      (given.1 ∙ ap piece_word (sym (length-drop most old.waiting) ∙ sym (ap length left)), ih.1),
    )

pub ruleset cutting_laws = (cutting_joined, pieces_whole)
