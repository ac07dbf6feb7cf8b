use Rattle.std.proofs.lemmas.Result.{err_from_is_err_and}
use Rattle.hwdb_core.specs.Found.{found_in}
use Rattle.hwdb_core.specs.Parts.{pair_found}
use Rattle.std.proofs.Common.{[], ◌∙◌, ap, sym}
use Rattle.hwdb_core.specs.Ruling.{passes_over}
use Rattle.hwdb_core.proofs.RuledOut.{skipped}
use Rattle.hwdb_core.proofs.Joining.{first_failed, found_as, returned, same_failed, same_part, second_part}
use Rattle.hwdb_core.proofs.Showing.{match_read}
use Rattle.hwdb_core.proofs.reading.read_match.Goals as goal

pub returns-in_ok-count_match-in-Ok : goal.returns-in_ok-count_match-in-Ok
returns-in_ok-count_match-in-Ok c =
    same_part c.args.found.now c.read_pairs.new.found _ _ c.read_pairs.result
    (match_read c.args.file.now c.args.properties.now c.args.line.now c.text-2.result.now c.in-Ok.pattern c.used_len.result c.text-2.ensures c.in-Ok.ensures.value c.used_len.ensures)
    (second_part c.args.found.now c.count_match.new.self c.read_pairs.new.found (found_as [] [] c.used_len.result) (found_in (pair_found c.args.file.now c.in-Ok.pattern) c.args.properties.now) c.read_pairs.result
    c.in_ok-count_match-in-Ok.ensures c.read_pairs.ensures)

pub returns-in_err-count_match-in-Ok : goal.returns-in_err-count_match-in-Ok
returns-in_err-count_match-in-Ok c =
    let p = err_from_is_err_and c.from_residual.result c.from_residual.ensures.1 in
    returned c.args.found.now c.count_match.new.self _ c.from_residual.result p.0 c.in_err-count_match-in-Ok.field-0.0 p.1 p.2
    (same_failed c.args.found.now _ _ c.in_err-count_match-in-Ok.field-0.0
    (match_read c.args.file.now c.args.properties.now c.args.line.now c.text-2.result.now c.in-Ok.pattern c.used_len.result c.text-2.ensures c.in-Ok.ensures.value c.used_len.ensures)
    (first_failed c.args.found.now (found_as [] [] c.used_len.result) (found_in (pair_found c.args.file.now c.in-Ok.pattern) c.args.properties.now) c.in_err-count_match-in-Ok.field-0.0 c.in_err-count_match-in-Ok.ensures))

pub returns-then-passes_over : goal.returns-then-passes_over
returns-then-passes_over c =
    c.pass_over.ensures c.args.file.now (skipped c.args.found.now.wanted c.args.line.now.text (ap (passes_over c.args.found.now.wanted) (sym c.text.ensures) ∙ sym c.passes_over.ensures ∙ c.if-passes_over.true))
