use Rattle.std.proofs.Common.{◌+◌, ◌∙◌, ap, drop}
use Rattle.std.proofs.lemmas.Result.{err_from_is_err_and}
use Rattle.hwdb_core.specs.Found.{onto}
use Rattle.hwdb_core.specs.Parts.{pair_found}
use Rattle.hwdb_core.proofs.Joining.{ends, fails, proceeds, returned, same_failed}
use Rattle.hwdb_core.proofs.Showing.{drop_item, nothing_left}
use Rattle.hwdb_core.proofs.reading.read_copies.Goals as goal

pub returns-in_err-read_pair : goal.returns-in_err-read_pair
returns-in_err-read_pair c =
    let p = err_from_is_err_and c.from_residual-in_err-read_pair.result c.from_residual-in_err-read_pair.ensures.1 in
    returned c.args.found.now c.read_pair.new.found _ c.from_residual-in_err-read_pair.result p.0 c.in_err-read_pair.field-0.0 p.1 p.2
    (fails (pair_found c.args.file.now c.args.pattern.now) c.args.found.now c.loop-line.found c.args.properties.now (drop c.loop-line.line-index c.args.properties.now) c.line-item.result (drop (c.loop-line.line-index + 1) c.args.properties.now) c.in_err-read_pair.field-0.0
    c.loop-line.invariant (drop_item c.args.properties.now c.loop-line.line-index c.line-item.result c.loop-line-test.true c.line-item.is) (same_failed c.loop-line.found _ _ c.in_err-read_pair.field-0.0 (ap (λ q. pair_found c.args.file.now q c.line-item.result) c.in_ok-own.ensures) c.in_err-read_pair.ensures))

pub loop-line-preserved : goal.loop-line-preserved
loop-line-preserved c =
    proceeds (pair_found c.args.file.now c.args.pattern.now) c.args.found.now c.loop-line.found c.read_pair.new.found c.args.properties.now (drop c.loop-line.line-index c.args.properties.now) c.line-item.result (drop (c.loop-line.line-index + 1) c.args.properties.now)
    c.loop-line.invariant (drop_item c.args.properties.now c.loop-line.line-index c.line-item.result c.loop-line-test.true c.line-item.is) (c.in_ok-read_pair.ensures ∙ ap (λ q. onto c.loop-line.found (pair_found c.args.file.now q c.line-item.result)) c.in_ok-own.ensures)

pub returns : goal.returns
returns c = ends (pair_found c.args.file.now c.args.pattern.now) c.args.found.now c.loop-line.found c.args.properties.now (drop c.loop-line.line-index c.args.properties.now) c.loop-line.invariant (nothing_left c.args.properties.now c.loop-line.line-index c.loop-line-test.false)
