use Rattle.std.proofs.Common.{◌+◌, drop}
use Rattle.std.proofs.lemmas.Result.{err_from_is_err_and}
use Rattle.hwdb_core.specs.Parts.{match_found}
use Rattle.hwdb_core.proofs.Joining.{ends, fails, proceeds, returned}
use Rattle.hwdb_core.proofs.Showing.{drop_item, nothing_left}
use Rattle.hwdb_core.proofs.reading.read_matches.Goals as goal

pub returns-in_err-read_match : goal.returns-in_err-read_match
returns-in_err-read_match c =
    let p = err_from_is_err_and c.from_residual.result c.from_residual.ensures.1 in
    returned c.args.found.now c.read_match.new.found _ c.from_residual.result p.0 c.in_err-read_match.field-0.0 p.1 p.2
    (fails (match_found c.args.file.now c.args.properties.now) c.args.found.now c.loop-line.found c.args.matches.now (drop c.loop-line.line-index c.args.matches.now) c.line-item.result (drop (c.loop-line.line-index + 1) c.args.matches.now) c.in_err-read_match.field-0.0
    c.loop-line.invariant (drop_item c.args.matches.now c.loop-line.line-index c.line-item.result c.loop-line-test.true c.line-item.is) c.in_err-read_match.ensures)

pub loop-line-preserved : goal.loop-line-preserved
loop-line-preserved c =
    proceeds (match_found c.args.file.now c.args.properties.now) c.args.found.now c.loop-line.found c.read_match.new.found c.args.matches.now (drop c.loop-line.line-index c.args.matches.now) c.line-item.result (drop (c.loop-line.line-index + 1) c.args.matches.now)
    c.loop-line.invariant (drop_item c.args.matches.now c.loop-line.line-index c.line-item.result c.loop-line-test.true c.line-item.is) c.in_ok-read_match.ensures

pub returns : goal.returns
returns c = ends (match_found c.args.file.now c.args.properties.now) c.args.found.now c.loop-line.found c.args.matches.now (drop c.loop-line.line-index c.args.matches.now) c.loop-line.invariant (nothing_left c.args.matches.now c.loop-line.line-index c.loop-line-test.false)
