-- One authenticator after the other, to the end or to what can't be one.
use Rattle.std.proofs.Common.{◌≡◌, [], ◌∷◌, ◌++◌, length, map, sym, ap, ◌∙◌, arith}
use Rattle.std.proofs.lemmas.List.{map_push, length-map, nil_from_length}
use Rattle.std.proofs.lemmas.Bool.{eqb-true}
use Rattle.piv_objects.specs.Authenticators.{credential_of}
use Rattle.piv_objects.proofs.Begins.{some_left, none_left}
use Rattle.piv_objects.proofs.Chain.{goes_on, goes_start, goes_end, goes_nowhere, too_many, none_at_all, pins_stand}
use Rattle.piv_objects.proofs.login_fields.authenticators.Goals as goal

pub returns-then-is_full-clause-err : goal.returns-then-is_full-clause-err
returns-then-is_full-clause-err c = λ list h.
    let found = map credential_of c.loop-rest.list.items in
    let goes = (c.loop-rest.invariant list).1 ((goes_start c.args.bytes.now list).0 h.are_authenticators) in
    let more = too_many c.loop-rest.rest.now found list (some_left c.loop-rest.rest.now c.is_empty.result c.loop-rest-test.true c.is_empty.ensures) goes in
    let full = eqb-true (length c.loop-rest.list.items) _ (sym c.is_full.ensures.value ∙ c.if-is_full.true) in
    absurd (omega (arith, more, full, h.most, length-map c.loop-rest.list.items credential_of))

pub loop-rest-preserved : goal.loop-rest-preserved
loop-rest-preserved c = λ whole.
    let found = map credential_of c.loop-rest.list.items in
    let so_far = c.loop-rest.invariant whole in
    let step = goes_on c.loop-rest.rest.now (credential_of c.in-Ok.authenticator) c.in-Ok.after.now found c.in-Ok.ensures.ok whole in
    let now : map credential_of c.push.new.self.items ≡ found ++ credential_of c.in-Ok.authenticator ∷ [] = ap (map credential_of) c.push.ensures.items ∙ map_push credential_of c.loop-rest.list.items c.in-Ok.authenticator in
    rw now (λ h. so_far.0 (step.1 h), λ h. step.0 (so_far.1 h))

pub returns-in-Err-clause-err : goal.returns-in-Err-clause-err
returns-in-Err-clause-err c = λ list h.
    let goes = (c.loop-rest.invariant list).1 ((goes_start c.args.bytes.now list).0 h.are_authenticators) in
    goes_nowhere c.loop-rest.rest.now (map credential_of c.loop-rest.list.items) list (some_left c.loop-rest.rest.now c.is_empty.result c.loop-rest-test.true c.is_empty.ensures) c.in-Err.ensures.err goes

pub returns-in-0-clause-err : goal.returns-in-0-clause-err
returns-in-0-clause-err c = λ list h.
    let ended = none_left c.loop-rest.rest.now c.is_empty.result c.loop-rest-test.false c.is_empty.ensures in
    let none : map credential_of c.loop-rest.list.items ≡ [] = ap (map credential_of) (nil_from_length c.loop-rest.list.items (sym c.len.ensures.value ∙ c.in-0.is)) in
    let goes = (c.loop-rest.invariant list).1 ((goes_start c.args.bytes.now list).0 h.are_authenticators) in
    let nothing : length list ≡ 0 = none_at_all c.loop-rest.rest.now list ended (rw none at goes) in
    absurd (omega (arith, nothing, h.some))

pub returns-in_default-clause-ok : goal.returns-in_default-clause-ok
returns-in_default-clause-ok c =
    let found = map credential_of c.loop-rest.list.items in
    let ended = none_left c.loop-rest.rest.now c.is_empty.result c.loop-rest-test.false c.is_empty.ensures in
    let len = length-map c.loop-rest.list.items credential_of in
    record {
      are_authenticators = (goes_start c.args.bytes.now found).1 ((c.loop-rest.invariant found).0 (goes_end c.loop-rest.rest.now found ended));
      some = omega (arith, len, c.len.ensures.value);
      most = omega (arith, len, c.len.ensures.value, c.len.ensures.fits);
    }

pub returns-in_default-clause-lent : goal.returns-in_default-clause-lent
returns-in_default-clause-lent c =
    let found = map credential_of c.loop-rest.list.items in
    let ended = none_left c.loop-rest.rest.now c.is_empty.result c.loop-rest-test.false c.is_empty.ensures in
    pins_stand c.args.bytes.now found ((goes_start c.args.bytes.now found).1 ((c.loop-rest.invariant found).0 (goes_end c.loop-rest.rest.now found ended)))
