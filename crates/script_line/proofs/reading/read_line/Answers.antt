use Rattle.script_line.proofs.LineLaws.{gives-found, gives-only}
use Rattle.script_line.proofs.reading.read_line.Goals as goal

pub returns : goal.returns
returns c = record {
  found = gives-found c.args.text.now c.read_words.result c.read_words.ensures;
  only = gives-only c.args.text.now c.read_words.result c.read_words.ensures;
  exact = c.read_words.ensures;
}
