use Rattle.eval_laws.proofs.FileImports.{file_lines_read}
use Rattle.eval_laws.proofs.root_files.a_file_is_read_line_by_line.Goals as goal

pub returns : goal.returns
returns c = file_lines_read
