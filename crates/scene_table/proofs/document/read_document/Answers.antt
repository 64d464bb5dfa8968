use Rattle.std.proofs.Common.{sym, ◌∙◌}
use Rattle.scene_table.proofs.DocumentLaws.{document-found, document-absent}
use Rattle.scene_table.proofs.document.read_document.Goals as goal

pub returns-in-Ok : goal.returns-in-Ok
returns-in-Ok c = record { exact = document-found c.args.bytes.now _ c.in-Ok.ensures.ok.0 c.in-Ok.ensures.ok.1 }

pub returns-else-is_memory : goal.returns-else-is_memory
returns-else-is_memory c = record { exact = document-absent c.args.bytes.now (c.in-Err.ensures.refused (λ m. cc (sym c.if-is_memory.false ∙ c.is_memory.ensures.1 m))) }
