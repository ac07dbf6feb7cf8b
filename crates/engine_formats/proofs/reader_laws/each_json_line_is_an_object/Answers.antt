use Rattle.std.proofs.lemmas.List.Elements.{recursion_from_All}
use Rattle.engine_formats.specs.Readers.{HasPlace}
use Rattle.engine_formats.proofs.Read.{lines_read}
use Rattle.engine_formats.proofs.reader_laws.each_json_line_is_an_object.Goals as goal

pub returns : goal.returns
returns c diagnostics placed = lines_read diagnostics (recursion_from_All HasPlace diagnostics placed)
