use Rattle.std.proofs.Common.{[], ◌∙◌, ap, refl}
use Rattle.std.proofs.lemmas.Result.{err_from_is_err_and}
use Rattle.hwdb_core.specs.Found.{Held, counts, found_in}
use Rattle.hwdb_core.specs.Parts.{pair_found}
use Rattle.hwdb_core.proofs.Joining.{first_failed, found_as, onto_wanted, returned, same_failed, same_part, second_part}
use Rattle.hwdb_core.proofs.Showing.{match_read}
use Rattle.hwdb_core.proofs.reading.pass_over.Goals as goal

pub returns-in_err-count_match : goal.returns-in_err-count_match
returns-in_err-count_match c = λ file q.
    let p = err_from_is_err_and c.from_residual.result c.from_residual.ensures.1 in
    returned c.args.found.now c.count_match.new.self _ c.from_residual.result p.0 c.in_err-count_match.field-0.0 p.1 p.2
    (same_failed c.args.found.now _ _ c.in_err-count_match.field-0.0
    (match_read file c.args.properties.now c.args.line.now c.args.line.now.text q.items c.used_len.result refl q.spelled c.used_len.ensures)
    (first_failed c.args.found.now (found_as [] [] c.used_len.result) (found_in (pair_found file q.items) c.args.properties.now) c.in_err-count_match.field-0.0 c.in_err-count_match.ensures))

pub returns : goal.returns
returns c = λ file q.
    same_part c.args.found.now c.count_pairs.new.found _ _ c.count_pairs.result
    (match_read file c.args.properties.now c.args.line.now c.args.line.now.text q.items c.used_len.result refl q.spelled c.used_len.ensures)
    (second_part c.args.found.now c.count_match.new.self c.count_pairs.new.found (found_as [] [] c.used_len.result) (found_in (pair_found file q.items) c.args.properties.now) c.count_pairs.result
    c.in_ok-count_match.ensures
    (c.count_pairs.ensures file q.items (ap (λ w. counts w q.items) (ap (λ (h : Held). h.wanted) c.in_ok-count_match.ensures ∙ onto_wanted c.args.found.now (found_as [] [] c.used_len.result)) ∙ q.uncounted)))
