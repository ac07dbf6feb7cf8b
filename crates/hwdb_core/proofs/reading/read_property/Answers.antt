use Rattle.std.proofs.Common.{◌∙◌, sym, ap}
use Rattle.hwdb_core.specs.Found.{onto}
use Rattle.hwdb_core.proofs.Joining.{onto_nothing, same_part}
use Rattle.hwdb_core.proofs.Showing.{property_good, property_reported}
use Rattle.hwdb_core.proofs.reading.read_property.Goals as goal

pub returns-in-Ok : goal.returns-in-Ok
returns-in-Ok c =
    sym (onto_nothing c.args.found.now) ∙ ap (onto c.args.found.now) (sym (property_good c.args.file.now c.args.line.now (record { key = c.in-Ok.field-0.key.now; value = c.in-Ok.field-0.value.now }) c.in-Ok.ensures))

pub returns-in-Err : goal.returns-in-Err
returns-in-Err c =
    same_part c.args.found.now c.report.new.self _ _ c.report.result
    (property_reported c.args.file.now c.args.line.now c.number.result c.property_text.result.now c.in-Err.kind c.in-Err.ensures c.number.ensures c.property_text.ensures)
    c.report.ensures
