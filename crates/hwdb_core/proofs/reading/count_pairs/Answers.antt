use Rattle.std.proofs.Common.{◌+◌, ◌∙◌, ap, drop}
use Rattle.std.proofs.lemmas.Result.{err_from_is_err_and}
use Rattle.hwdb_core.specs.Found.{counts}
use Rattle.hwdb_core.specs.Parts.{pair_found}
use Rattle.hwdb_core.proofs.Joining.{ends, fails, proceeds, returned}
use Rattle.hwdb_core.proofs.Showing.{drop_item, nothing_left}
use Rattle.hwdb_core.proofs.reading.count_pairs.Goals as goal

pub returns-in_err-count_pair : goal.returns-in_err-count_pair
returns-in_err-count_pair c = λ file pattern u.
    let p = err_from_is_err_and c.from_residual.result c.from_residual.ensures.1 in
    returned c.args.found.now c.count_pair.new.found _ c.from_residual.result p.0 c.in_err-count_pair.field-0.0 p.1 p.2
    (fails (pair_found file pattern) c.args.found.now c.loop-line.found c.args.properties.now (drop c.loop-line.line-index c.args.properties.now) c.line-item.result (drop (c.loop-line.line-index + 1) c.args.properties.now) c.in_err-count_pair.field-0.0
    (c.loop-line.invariant.1 file pattern u) (drop_item c.args.properties.now c.loop-line.line-index c.line-item.result c.loop-line-test.true c.line-item.is)
    (c.in_err-count_pair.ensures.added file pattern (ap (λ w. counts w pattern) c.loop-line.invariant.0 ∙ u)))

pub loop-line-preserved : goal.loop-line-preserved
loop-line-preserved c = (
  c.in_ok-count_pair.ensures.wanted ∙ c.loop-line.invariant.0,
  λ file pattern u. proceeds (pair_found file pattern) c.args.found.now c.loop-line.found c.count_pair.new.found c.args.properties.now (drop c.loop-line.line-index c.args.properties.now) c.line-item.result (drop (c.loop-line.line-index + 1) c.args.properties.now)
      (c.loop-line.invariant.1 file pattern u) (drop_item c.args.properties.now c.loop-line.line-index c.line-item.result c.loop-line-test.true c.line-item.is)
      (c.in_ok-count_pair.ensures.added file pattern (ap (λ w. counts w pattern) c.loop-line.invariant.0 ∙ u)),
)

pub returns : goal.returns
returns c = λ file pattern u.
    ends (pair_found file pattern) c.args.found.now c.loop-line.found c.args.properties.now (drop c.loop-line.line-index c.args.properties.now) (c.loop-line.invariant.1 file pattern u) (nothing_left c.args.properties.now c.loop-line.line-index c.loop-line-test.false)
