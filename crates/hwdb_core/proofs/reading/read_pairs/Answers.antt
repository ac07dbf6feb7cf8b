use Rattle.std.proofs.Common.{◌≡◌, ◌∙◌, ap, refl, sym}
use Rattle.std.proofs.lemmas.Result.{err_from_is_err_and}
use Rattle.hwdb_core.specs.Found.{found_in, join}
use Rattle.hwdb_core.specs.Parts.{pair_found}
use Rattle.hwdb_core.proofs.Joining.{ends, first_failed, found_in_last, returned, same_failed, same_part, second_part}
use Rattle.hwdb_core.proofs.reading.read_pairs.Goals as goal

pub returns-in-None : goal.returns-in-None
returns-in-None c = ends (pair_found c.args.file.now c.args.pattern) c.args.found.now c.args.found.now c.args.properties.now c.args.properties.now refl c.in-None.ensures.cases

pub returns-in_err-read_copies-in-Some : goal.returns-in_err-read_copies-in-Some
returns-in_err-read_copies-in-Some c =
    let p = err_from_is_err_and c.from_residual.result c.from_residual.ensures.1 in
    let all : join (found_in (pair_found c.args.file.now c.args.pattern) c.in-Some.others.now) (pair_found c.args.file.now c.args.pattern c.in-Some.last.now) ≡ found_in (pair_found c.args.file.now c.args.pattern) c.args.properties.now =
    found_in_last (pair_found c.args.file.now c.args.pattern) c.in-Some.others.now c.in-Some.last.now ∙ ap (found_in (pair_found c.args.file.now c.args.pattern)) (sym c.in-Some.ensures.cases.0) in
    returned c.args.found.now c.read_copies.new.found _ c.from_residual.result p.0 c.in_err-read_copies-in-Some.field-0.0 p.1 p.2
    (same_failed c.args.found.now _ _ c.in_err-read_copies-in-Some.field-0.0 all
    (first_failed c.args.found.now (found_in (pair_found c.args.file.now c.args.pattern) c.in-Some.others.now) (pair_found c.args.file.now c.args.pattern c.in-Some.last.now) c.in_err-read_copies-in-Some.field-0.0 c.in_err-read_copies-in-Some.ensures))

pub returns-in_ok-read_copies-in-Some : goal.returns-in_ok-read_copies-in-Some
returns-in_ok-read_copies-in-Some c =
    let all : join (found_in (pair_found c.args.file.now c.args.pattern) c.in-Some.others.now) (pair_found c.args.file.now c.args.pattern c.in-Some.last.now) ≡ found_in (pair_found c.args.file.now c.args.pattern) c.args.properties.now =
    found_in_last (pair_found c.args.file.now c.args.pattern) c.in-Some.others.now c.in-Some.last.now ∙ ap (found_in (pair_found c.args.file.now c.args.pattern)) (sym c.in-Some.ensures.cases.0) in
    same_part c.args.found.now c.read_pair.new.found _ _ c.read_pair.result all
    (second_part c.args.found.now c.read_copies.new.found c.read_pair.new.found (found_in (pair_found c.args.file.now c.args.pattern) c.in-Some.others.now) (pair_found c.args.file.now c.args.pattern c.in-Some.last.now) c.read_pair.result
    c.in_ok-read_copies-in-Some.ensures c.read_pair.ensures)
