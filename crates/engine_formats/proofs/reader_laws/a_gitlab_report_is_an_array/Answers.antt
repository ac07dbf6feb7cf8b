use Rattle.std.proofs.lemmas.List.Elements.{recursion_from_All}
use Rattle.engine_formats.specs.Readers.{HasPlace}
use Rattle.engine_formats.proofs.Read.{report_line_read}
use Rattle.engine_formats.proofs.reader_laws.a_gitlab_report_is_an_array.Goals as goal

pub returns : goal.returns
returns c diagnostics placed = report_line_read diagnostics (recursion_from_All HasPlace diagnostics placed)
