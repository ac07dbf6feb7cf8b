use Rattle.std.proofs.Common.{◌∙◌, sym, ap}
use Rattle.hwdb_core.specs.Found.{onto}
use Rattle.hwdb_core.proofs.Joining.{onto_nothing, same_part}
use Rattle.hwdb_core.proofs.Showing.{pair_given, pair_missing}
use Rattle.hwdb_core.proofs.reading.read_pair.Goals as goal

pub returns-in-Ok : goal.returns-in-Ok
returns-in-Ok c =
    same_part c.args.found.now c.add_entry.new.self _ _ c.add_entry.result
    (pair_given c.args.file.now c.args.pattern c.args.line.now c.number.result (record { key = c.in-Ok.pair.key.now; value = c.in-Ok.pair.value.now }) c.in-Ok.ensures c.number.ensures)
    c.add_entry.ensures

pub returns-in-Err : goal.returns-in-Err
returns-in-Err c =
    sym (onto_nothing c.args.found.now) ∙ ap (onto c.args.found.now) (sym (pair_missing c.args.file.now c.args.pattern c.args.line.now c.in-Err.field-0 c.in-Err.ensures))
