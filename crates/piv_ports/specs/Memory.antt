-- A source and a sink in memory, and what each call makes of them.
use Rattle.std.specs.Prelude.{ℕ, ◌+◌, ◌-◌, ◌<◌, ◌≤◌, List, ◌++◌, drop}
use Rattle.piv_ports.specs.Ports.{counted}

-- the bytes that are left, what was counted, and the numbers of the reads that fail
pub record MemSourceState : Type 0 where
  pub left : List ℕ
  pub given : ℕ
  pub faults : ℕ
  pub reads : ℕ
  pub fails : List ℕ

-- after a read of n bytes, and after one that failed
abbrev pub after_read : ℕ → MemSourceState → MemSourceState
after_read n s = record s { left = drop n s.left; given = counted s.given n; reads = counted s.reads 1 }

abbrev pub after_failed_read : MemSourceState → MemSourceState
after_failed_read s = record s { faults = counted s.faults 1; reads = counted s.reads 1 }

-- the bytes taken and flushed, what was counted, the room that is left, the most bytes of one write,
-- and the numbers of the writes that fail
pub record MemSinkState : Type 0 where
  pub taken : List ℕ
  pub flushed : List ℕ
  pub faults : ℕ
  pub room : ℕ
  pub step : ℕ
  pub writes : ℕ
  pub fails : List ℕ

-- after a write of these n bytes, and after one that failed
abbrev pub after_write : List ℕ → ℕ → MemSinkState → MemSinkState
after_write piece n s = record s { taken = s.taken ++ piece; room = s.room - n; writes = counted s.writes 1 }

abbrev pub after_failed_write : MemSinkState → MemSinkState
after_failed_write s = record s { faults = counted s.faults 1; writes = counted s.writes 1 }

-- the room that is left was reserved, and what is flushed was taken
pub record IsRoom (step flushed taken room capacity : ℕ) : Type 0 where
  pub steps : 0 < step
  pub within : flushed ≤ taken
  pub reserved : taken + room ≤ capacity
