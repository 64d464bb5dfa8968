-- What the writing of a text leaves of a sink, whatever pieces it was written in.
use Rattle.std.specs.Prelude.{◌≡◌, ◌≤◌, ℕ, List, length, take, Option, is_some, Result, OnOk, OnErr}
use Rattle.piv_ports.specs.declared.sink.WriteStop.{WriteStop}
use Rattle.piv_ports.specs.Ports.{Rises, with_bytes}

-- the sink took the whole text, or it took a prefix of it and its count of faults rose
pub record Writes {S : Type 0} (taken flushed : S → Option (List ℕ)) (faults : S → ℕ)
    (text : List ℕ) (old new : S) (result : Result (Unit {0}) WriteStop) : Type 0 where
  pub ok : OnOk result (taken new ≡ with_bytes (taken old) text)
  pub prefix : (n : ℕ) × (n ≤ length text) × (taken new ≡ with_bytes (taken old) (take n text))
  pub no_fault : OnOk result (faults new ≡ faults old)
  pub failed : OnErr result (Rises (faults old) (faults new))
  pub told : is_some (flushed new) ≡ is_some (flushed old)
