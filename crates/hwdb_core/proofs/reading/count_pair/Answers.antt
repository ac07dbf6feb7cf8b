use Rattle.std.proofs.Common.{◌∙◌, ap, refl, sym}
use Rattle.text_bytes.specs.Numbers.{capped}
use Rattle.hwdb_core.specs.Found.{onto}
use Rattle.hwdb_core.proofs.Joining.{onto_nothing, same_part}
use Rattle.hwdb_core.proofs.Keeping.{counted_adds}
use Rattle.hwdb_core.proofs.Showing.{pair_given, pair_missing}
use Rattle.hwdb_core.proofs.reading.count_pair.Goals as goal

pub returns-in-Ok-clause-added : goal.returns-in-Ok-clause-added
returns-in-Ok-clause-added c = λ file pattern u.
    same_part c.args.found.now c.count_entry.new.self _ _ c.count_entry.result
    (pair_given file pattern c.args.line.now c.args.line.now.number (record { key = c.in-Ok.pair.key.now; value = c.in-Ok.pair.value.now }) c.in-Ok.ensures refl)
    (counted_adds c.args.found.now c.count_entry.new.self (record { pattern = pattern; key = c.in-Ok.pair.key.now; value = c.in-Ok.pair.value.now; file = file; line = capped c.args.line.now.number }) _ c.count_entry.result
    refl u c.count_entry.ensures.counted c.count_entry.ensures.too_many)

pub returns-in-Err-clause-added : goal.returns-in-Err-clause-added
returns-in-Err-clause-added c = λ file pattern u.
    sym (onto_nothing c.args.found.now) ∙ ap (onto c.args.found.now) (sym (pair_missing file pattern c.args.line.now c.in-Err.field-0 c.in-Err.ensures))
