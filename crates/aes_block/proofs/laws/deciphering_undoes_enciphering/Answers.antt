use Rattle.std.proofs.Common.{refl}
use Rattle.piv_model.specs.Cipher.{Deciphers, encipher}
use Rattle.piv_model.proofs.CipherBytes.{encipher-block}
use Rattle.aes_block.proofs.Inverse.{only_source}
use Rattle.aes_block.proofs.laws.deciphering_undoes_enciphering.Goals as goal

pub returns-clause-block : goal.returns-clause-block
returns-clause-block c = λ key x. encipher-block {key = key} {x = x}

pub returns-clause-back : goal.returns-clause-back
returns-clause-back c =
    λ key x z h b.
    let own : Deciphers key (encipher key x) x = record { block = b; back = refl } in
    (λ d. only_source key (encipher key x) z x h d own, λ e. rw e own)
