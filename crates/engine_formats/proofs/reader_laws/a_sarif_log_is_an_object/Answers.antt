use Rattle.std.proofs.lemmas.List.Elements.{recursion_from_All}
use Rattle.file_catalogue.specs.Catalogue.{remarks}
use Rattle.engine_formats.specs.Readers.{HasPlace}
use Rattle.engine_formats.proofs.Logs.{log_line_read}
use Rattle.engine_formats.proofs.reader_laws.a_sarif_log_is_an_object.Goals as goal

pub returns : goal.returns
returns c diagnostics placed = log_line_read remarks diagnostics (recursion_from_All HasPlace diagnostics placed)
