use Rattle.std.specs.Prelude.{take}
use Rattle.std.proofs.Common.{ap, ◌∙◌}
use Rattle.piv_ports.specs.Ports.{with_bytes}
use Rattle.piv_cli.proofs.ServeLemmas.{first-ready, read-as}
use Rattle.piv_cli.proofs.apdu.apdu.Goals as goal

pub returns-in-Err-Failed-clause-size : goal.returns-in-Err-Failed-clause-size
returns-in-Err-Failed-clause-size g c = (first-ready g.N.Nvm.state c.args.devices.now.items c.requires).size

pub returns-in-Err-TooLarge-clause-size : goal.returns-in-Err-TooLarge-clause-size
returns-in-Err-TooLarge-clause-size g c = (first-ready g.N.Nvm.state c.args.devices.now.items c.requires).size

pub returns-in-Err-NoMemory-clause-size : goal.returns-in-Err-NoMemory-clause-size
returns-in-Err-NoMemory-clause-size g c = (first-ready g.N.Nvm.state c.args.devices.now.items c.requires).size

pub returns-in-Ok-serve_first-clause-done : goal.returns-in-Ok-serve_first-clause-done
returns-in-Ok-serve_first-clause-done g c done = (
  c.in-Ok-serve_first.output.items,
  record {
    input = c.deref.result.now;
    read = read-as (g.S.Source.left c.args.source.now) c.in-Ok.input.items c.deref.result.now c.in-Ok.ensures.bytes c.deref.ensures.value;
    at_end = c.in-Ok.ensures.at_end;
    serves = c.in-Ok-serve_first.ensures.serves;
  },
  c.write_out.ensures.done done ∙ ap (with_bytes (g.K.Sink.taken c.args.sink.now)) c.deref-in-Ok-serve_first.ensures.value,
)

pub returns-in-Ok-serve_first-clause-prefix : goal.returns-in-Ok-serve_first-clause-prefix
returns-in-Ok-serve_first-clause-prefix g c failed = (
  c.in-Ok-serve_first.output.items,
  record {
    input = c.deref.result.now;
    read = read-as (g.S.Source.left c.args.source.now) c.in-Ok.input.items c.deref.result.now c.in-Ok.ensures.bytes c.deref.ensures.value;
    at_end = c.in-Ok.ensures.at_end;
    serves = c.in-Ok-serve_first.ensures.serves;
  },
  (
    c.write_out.ensures.prefix.0,
    c.write_out.ensures.prefix.1
        ∙ ap (λ xs. with_bytes (g.K.Sink.taken c.args.sink.now) (take c.write_out.ensures.prefix.0 xs)) c.deref-in-Ok-serve_first.ensures.value,
  ),
)
