-- What sources and sinks tell of their bytes and of their faults.
use Rattle.std.specs.Prelude.{◌≡◌, ◌<◌, ◌≤◌, ◌+◌, ◌⊎◌, ℕ, min, List, ◌++◌, take, drop, Option, Some, None, Result, Ok, Err, IfSome}
use Rattle.piv_ports.specs.declared.source.ReadStop.{ReadStop}
use Rattle.piv_ports.specs.declared.source.ReadStop.TheVariants.{Failed, TooLarge, NoMemory}

-- the last count of 64 bits, at which a count stays
abbrev pub last_count : ℕ
last_count = 0xffff_ffff_ffff_ffff

-- a number as a count of 64 bits tells it
abbrev pub capped : ℕ → ℕ
capped n = min n last_count

-- a count after n more, which stays at the last one
abbrev pub counted : ℕ → ℕ → ℕ
counted before n = capped (before + n)

-- a count of faults rose, or stands at the last one
pub record Rises (before after : ℕ) : Type 0 where
  pub never_falls : before ≤ after
  pub rose : (before < after) ⊎ (after ≡ last_count)

-- the count of faults rose where a read failed, and is as before with every other answer
abbrev pub CountsFailure : {A : Type 0} → Result A ReadStop → ℕ → ℕ → Type 0
CountsFailure (Ok x) before after = after ≡ before
CountsFailure (Err Failed) before after = Rises before after
CountsFailure (Err TooLarge) before after = after ≡ before
CountsFailure (Err NoMemory) before after = after ≡ before

-- how many bytes a reader of at most so many may have taken: one more where there were too many
abbrev pub reach : {A : Type 0} → Result A ReadStop → ℕ → ℕ
reach (Ok x) most = most
reach (Err Failed) most = most
reach (Err TooLarge) most = most + 1
reach (Err NoMemory) most = most

-- the bytes that are left after the first n
abbrev pub after_first_bytes : ℕ → Option (List ℕ) → Option (List ℕ)
after_first_bytes n None = None
after_first_bytes n (Some bytes) = Some (drop n bytes)

-- these bytes are the first n of those that are left, where these are told
abbrev pub AreFirst : ℕ → List ℕ → Option (List ℕ) → Type 0
AreFirst n out None = Unit {0}
AreFirst n out (Some bytes) = take n out ≡ take n bytes

-- what a sink has taken once it took these bytes too
abbrev pub with_bytes : Option (List ℕ) → List ℕ → Option (List ℕ)
with_bytes None piece = None
with_bytes (Some taken) piece = Some (taken ++ piece)

-- what was flushed is all that was taken, where both are told
abbrev pub IsFlushed : Option (List ℕ) → Option (List ℕ) → Type 0
IsFlushed taken flushed = IfSome flushed (λ out. IfSome taken (λ bytes. out ≡ bytes))

-- so many bytes at most were taken from what is left, and counted
pub record TakesAtMost (most : ℕ) (left now : Option (List ℕ)) (given given_now : ℕ) : Type 0 where
  pub some : (n : ℕ) × (n ≤ most) × (now ≡ after_first_bytes n left) × (given_now ≡ counted given n)
