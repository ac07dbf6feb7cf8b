use Rattle.std.proofs.Common.{[], ◌≡◌, false, map}
use Rattle.std.proofs.lemmas.List.Elements.{recursion_from_All}
use Rattle.text_tables.specs.Texts.{is_among}
use Rattle.engine_formats.specs.Diagnostics.{DiagnosticValue}
use Rattle.engine_formats.specs.Fingerprints.{mark_of}
use Rattle.engine_formats.proofs.Counts.{by_marks, stay}
use Rattle.engine_formats.proofs.reader_laws.fingerprints_stay.Goals as goal

pub returns-clause-marks : goal.returns-clause-marks
returns-clause-marks c old new same = by_marks [] old new same

pub returns-clause-others : goal.returns-clause-others
returns-clause-others c before diagnostics apart =
    stay before diagnostics (recursion_from_All (λ (d : DiagnosticValue). is_among (map mark_of before) (mark_of d) ≡ false) diagnostics apart)
