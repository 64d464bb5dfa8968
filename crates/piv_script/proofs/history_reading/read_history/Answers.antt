use Rattle.piv_script.proofs.HistoryLaws.{gives-history_found, gives-history_only}
use Rattle.piv_script.proofs.history_reading.read_history.Goals as goal

pub returns : goal.returns
returns c = record {
  found = gives-history_found c.read_lines.result c.args.text.now c.read_lines.ensures;
  only = gives-history_only c.read_lines.result c.args.text.now c.read_lines.ensures;
}
