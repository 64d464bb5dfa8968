use Rattle.std.proofs.Common.{◌≡◌, List, ℕ, IfSome, Some, None, get_or, ap, ◌∙◌, arith}
use Rattle.std.specs.declared.option.Option.{Option}
use Rattle.nvm_device.specs.Bytes.{bytes_at}
use Rattle.nvm_device.proofs.Row.{get_or-bytes_at}
use Rattle.nvm_slots.proofs.twin.Twin.selector_byte.Goals as goal

first_of_read : (told : Option (List ℕ)) (out : List ℕ) (at : ℕ) → IfSome told (λ row. out ≡ bytes_at row at 1) → IfSome told (λ row. get_or out 0 0 ≡ get_or row at 0)
first_of_read None out at is = tt
first_of_read (Some row) out at is = ap (λ (l : List ℕ). get_or l 0 0) is ∙ get_or-bytes_at row at 1 0 0 (omega arith) ∙ ap (λ k. get_or row k 0) (omega arith)

pub returns : goal.returns
returns g c = first_of_read (g.N.Nvm.state c.args.nvm.now).bytes c.read.new.out c.args.self.now.selector c.read.ensures
