-- A reference as the rules see it.
use Rattle.piv_model.specs.Memory as rules
use Rattle.memory_store.specs.declared.reference.Reference.{Reference}

abbrev pub reference_of : Reference → rules.Reference
reference_of x = record { limit = x.limit; tries = x.tries; secret = x.secret }
