-- Texts that are written one after the other.
use Rattle.std.proofs.Common.{◌≡◌, ◌≤◌, ◌+◌, ℕ, List, [], ◌++◌, length, take, Option, Some, None, Result, Ok, Err, refl, sym, ap, ◌∙◌, subst, arith, length-append}
use Rattle.std.proofs.lemmas.List.{append_assoc, append-nil, take-append-le}
use Rattle.std.proofs.Math.Seq.{take-append-add}
use Rattle.piv_ports.specs.declared.sink.WriteStop.{WriteStop}
use Rattle.piv_ports.specs.Ports.{Rises, with_bytes}
use Rattle.piv_ports.specs.Writes.{Writes}

with_bytes-append : (told : Option (List ℕ)) (xs ys : List ℕ) → with_bytes (with_bytes told xs) ys ≡ with_bytes told (xs ++ ys)
with_bytes-append None xs ys = refl
with_bytes-append (Some taken) xs ys = ap Some (append_assoc taken xs ys)

with_bytes-nil : (told : Option (List ℕ)) → told ≡ with_bytes told []
with_bytes-nil None = refl
with_bytes-nil (Some taken) = ap Some (sym (append-nil taken))

-- a text and then a prefix of the next one are a prefix of both
prefix-of-both : (a b c : Option (List ℕ)) (xs ys : List ℕ) → b ≡ with_bytes a xs
    → (n : ℕ) × (n ≤ length ys) × (c ≡ with_bytes b (take n ys))
    → (n : ℕ) × (n ≤ length (xs ++ ys)) × (c ≡ with_bytes a (take n (xs ++ ys)))
prefix-of-both a b c xs ys first next = (
  length xs + next.0,
  let n = next.1 in omega (arith, length-append xs ys, n),
  next.2 ∙ ap (λ told. with_bytes told (take next.0 ys)) first ∙ with_bytes-append a xs (take next.0 ys)
      ∙ ap (with_bytes a) (sym (take-append-add xs ys next.0)),
)

-- no text was written
pub Writes-nothing : {S : Type 0} (taken flushed : S → Option (List ℕ)) (faults : S → ℕ) (s : S) → Writes taken flushed faults [] s s (Ok tt)
Writes-nothing taken flushed faults s = record {
  ok = with_bytes-nil (taken s);
  prefix = (0, omega arith, with_bytes-nil (taken s));
  no_fault = refl;
  failed = tt;
  told = refl;
}

-- a text was written, and then the next one was or was stopped within
pub Writes-then : {S : Type 0} (taken flushed : S → Option (List ℕ)) (faults : S → ℕ) (xs ys : List ℕ) (a b c : S) (r : Result (Unit {0}) WriteStop)
    → Writes taken flushed faults xs a b (Ok tt) → Writes taken flushed faults ys b c r → Writes taken flushed faults (xs ++ ys) a c r
Writes-then taken flushed faults xs ys a b c (Ok u) first next = record {
  ok = next.ok ∙ ap (λ told. with_bytes told ys) first.ok ∙ with_bytes-append (taken a) xs ys;
  prefix = prefix-of-both (taken a) (taken b) (taken c) xs ys first.ok next.prefix;
  no_fault = next.no_fault ∙ first.no_fault;
  failed = tt;
  told = next.told ∙ first.told;
}
Writes-then taken flushed faults xs ys a b c (Err e) first next = record {
  ok = tt;
  prefix = prefix-of-both (taken a) (taken b) (taken c) xs ys first.ok next.prefix;
  no_fault = tt;
  failed = subst (λ n. Rises n (faults c)) first.no_fault next.failed;
  told = next.told ∙ first.told;
}

-- a text that was stopped within is a longer text that was stopped within
pub Writes-stopped : {S : Type 0} (taken flushed : S → Option (List ℕ)) (faults : S → ℕ) (xs ys text : List ℕ) (a b : S) (e : WriteStop)
    → Writes taken flushed faults xs a b (Err e) → text ≡ xs ++ ys → Writes taken flushed faults text a b (Err e)
Writes-stopped taken flushed faults xs ys text a b e stopped whole = record {
  ok = tt;
  prefix = (
    stopped.prefix.0,
    let n = stopped.prefix.1 in let same : length text ≡ length xs + length ys = ap length whole ∙ length-append xs ys in omega (arith, same, n),
    stopped.prefix.2 ∙ ap (with_bytes (taken a)) (sym (ap (take stopped.prefix.0) whole ∙ take-append-le stopped.prefix.0 xs ys stopped.prefix.1)),
  );
  no_fault = tt;
  failed = stopped.failed;
  told = stopped.told;
}
