use Rattle.std.proofs.Common.{◌≡◌, ◌<◌, ℕ, ◌+◌, cond, length, sym, ap, ◌∙◌, arith}
use Rattle.std.specs.Prelude.{reverse}
use Rattle.std.specs.Int.{from_bool}
use Rattle.std.proofs.lemmas.List.{length-reverse}
use Rattle.piv_model.specs.Entries.{entry_of}
use Rattle.run_text.specs.Summaries.{grants, refuses, is_call, is_granted, is_refused}
use Rattle.run_text.proofs.Counting.{counted, counted-none, counted-next, counted-few, counted-all, as-number, all-calls, few-calls}
use Rattle.run_text.proofs.summary.count_calls.Goals as goal

pub entries-init : goal.entries-init
entries-init c = record {
  granted = counted-none is_granted c.args.history.now.past;
  refused = counted-none is_refused c.args.history.now.past;
  few_granted = omega arith;
  few_refused = omega arith;
}

pub entries-preserved : goal.entries-preserved
entries-preserved c =
    let H = c.args.history.now.past in
    let k = c.entries.k in
    let e = entry_of c.entry.result in
    let within : k < length (reverse H) = let n = length-reverse H in let end = c.len-k-end.ensures in let t = c.entries-test.true in omega (arith, n, end, t) in
    let one_granted : c.from-granted.result ≡ cond (is_granted e) 1 0 = c.from-granted.ensures ∙ ap from_bool (c.is_granted.ensures ∙ ap grants c.word_of-word.ensures) ∙ as-number (is_granted e) in
    let one_refused : c.from-refused.result ≡ cond (is_refused e) 1 0 = c.from-refused.ensures ∙ ap from_bool (c.is_refused.ensures ∙ ap refuses c.word_of-word.ensures) ∙ as-number (is_refused e) in
    let granted : c.entries.granted + c.from-granted.result ≡ counted is_granted H (k + 1) =
    ap (λ (n : ℕ). c.entries.granted + n) one_granted ∙ ap (λ (n : ℕ). n + cond (is_granted e) 1 0) c.entries.invariant.granted ∙ sym (counted-next is_granted H k e within c.entry.ensures) in
    let refused : c.entries.refused + c.from-refused.result ≡ counted is_refused H (k + 1) =
    ap (λ (n : ℕ). c.entries.refused + n) one_refused ∙ ap (λ (n : ℕ). n + cond (is_refused e) 1 0) c.entries.invariant.refused ∙ sym (counted-next is_refused H k e within c.entry.ensures) in
    record {
      granted = granted;
      refused = refused;
      few_granted = let f = counted-few is_granted H (k + 1) in omega (arith, f, granted);
      few_refused = let f = counted-few is_refused H (k + 1) in omega (arith, f, refused);
    }

pub returns-clause-granted : goal.returns-clause-granted
returns-clause-granted c =
    let H = c.args.history.now.past in
    c.entries.invariant.granted ∙ counted-all is_granted H c.entries.k (let n = length-reverse H in let end = c.len-k-end.ensures in let t = c.entries-test.false in omega (arith, n, end, t))

pub returns-clause-refused : goal.returns-clause-refused
returns-clause-refused c =
    let H = c.args.history.now.past in
    c.entries.invariant.refused ∙ counted-all is_refused H c.entries.k (let n = length-reverse H in let end = c.len-k-end.ensures in let t = c.entries-test.false in omega (arith, n, end, t))

pub returns-clause-calls : goal.returns-clause-calls
returns-clause-calls c =
    let a = returns-clause-granted c in
    let b = returns-clause-refused c in
    let all = all-calls c.args.history.now.past in
    omega (arith, a, b, all)

pub returns-clause-few : goal.returns-clause-few
returns-clause-few c =
    let few = few-calls is_call c.args.history.now.past in
    let end = c.len-k-end.ensures in
    let range = c.len-k-end.type_inv in
    omega (arith, few, end, range)
