-- A piece without bytes is laid by no write.
use Rattle.std.proofs.Common.{◌≡◌, ◌+◌, ◌≤◌, ℕ, List, [], ◌∷◌, length, refl, arith}
use Rattle.power_loss.proofs.EachLaws.{told_all}
use Rattle.nvm_device.specs.Bytes.{bytes_at}
use Rattle.nvm_device.specs.Device.{DeviceState}
use Rattle.nvm_slots.specs.Laying.{Area, Piece, Laid, LaysMore}
use Rattle.nvm_slots.proofs.KeptLaws.{leaves_implies}
use Rattle.nvm_slots.proofs.LayingLaws.{below_more}

empty_laid : (area : Area) (pieces : List Piece) (end place : ℕ) (old row : List ℕ) → end ≤ place → Laid area pieces end old row → Laid area ((place, []) ∷ pieces) (place + 0) old row
unfolding bytes_at
empty_laid area pieces end place old row le laid = record {
  enough = laid.enough;
  kept = laid.kept;
  below = (omega arith, below_more pieces end (place + 0) (omega arith) laid.below);
  holds = (refl, laid.holds);
}

pub lays_none : (place : ℕ) (v : List ℕ) (s : DeviceState) → length v ≡ 0 → LaysMore place v s s
lays_none place [] s none = λ area pieces end t front within after laying. record {
  left = leaves_implies (λ row. Unit {0}) (Laid area pieces end) (Laid area ((place, []) ∷ pieces) (place + 0)) (λ old row any laid. empty_laid area pieces end place old row after laid) t s (told_all (λ row. Unit {0}) (λ row. tt) t.bytes) laying.left;
  same = laying.same;
  due = laying.due;
}
lays_none place (x ∷ v) s none = absurd (omega arith)
