use Rattle.eval_laws.proofs.PrintedReading.{lines_read}
use Rattle.eval_laws.proofs.printed.a_printed_text_is_read_line_by_line.Goals as goal

pub returns : goal.returns
returns c = lines_read
