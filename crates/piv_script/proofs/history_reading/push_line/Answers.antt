use Rattle.line_words.specs.Words.{words}
use Rattle.piv_script.specs.EntryReading.{entry_of_words}
use Rattle.piv_script.proofs.HistoryLaws.{push-found, push-only, push-same}
use Rattle.piv_script.proofs.history_reading.push_line.Goals as goal

pub returns : goal.returns
returns c = record {
  found = push-found c.push_text.result c.args.line.now c.args.h.now.past c.push_text.new.h.past c.push_text.ensures;
  only = push-only c.push_text.result c.args.line.now c.args.h.now.past c.push_text.new.h.past c.push_text.ensures;
  same = push-same c.push_text.result (entry_of_words (words c.args.line.now)) c.args.h.now.past c.push_text.new.h.past c.push_text.ensures;
}
