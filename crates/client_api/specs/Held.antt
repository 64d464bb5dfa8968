-- A handle under its name, as plain data (this project's own).
use Rattle.client_api.specs.declared.player.NamedHandle.{NamedHandle as Lent}
use Rattle.client_api.specs.Playing.{NamedHandle}

abbrev pub named_of : Lent → NamedHandle
named_of x = record { name = x.name.now; handle = x.handle }
