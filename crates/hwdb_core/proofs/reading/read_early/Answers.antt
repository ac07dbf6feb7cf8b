use Rattle.std.proofs.Common.{◌+◌, ◌∙◌, ap, drop}
use Rattle.std.proofs.lemmas.Result.{err_from_is_err_and}
use Rattle.file_messages.specs.declared.message.MessageKind.TheVariants.{PropertyWithoutMatch}
use Rattle.hwdb_core.specs.Properties.{property_text}
use Rattle.hwdb_core.specs.Parts.{early_found}
use Rattle.hwdb_core.specs.Found.{onto}
use Rattle.hwdb_core.proofs.Joining.{ends, fails, proceeds, returned, same_failed}
use Rattle.hwdb_core.proofs.Showing.{drop_item, nothing_left, same_message}
use Rattle.hwdb_core.proofs.reading.read_early.Goals as goal

pub returns-in_err-report : goal.returns-in_err-report
returns-in_err-report c =
    let p = err_from_is_err_and c.from_residual.result c.from_residual.ensures.1 in
    returned c.args.found.now c.report.new.self _ c.from_residual.result p.0 c.in_err-report.field-0.0 p.1 p.2
    (fails (early_found c.args.file.now) c.args.found.now c.loop-line.found c.args.early.now (drop c.loop-line.line-index c.args.early.now) c.line-item.result (drop (c.loop-line.line-index + 1) c.args.early.now) c.in_err-report.field-0.0
    c.loop-line.invariant (drop_item c.args.early.now c.loop-line.line-index c.line-item.result c.loop-line-test.true c.line-item.is) (same_failed c.loop-line.found _ _ c.in_err-report.field-0.0 (same_message c.args.file.now PropertyWithoutMatch c.number.result c.line-item.result.number c.property_text.result.now (property_text c.line-item.result) c.number.ensures c.property_text.ensures) c.in_err-report.ensures))

pub loop-line-preserved : goal.loop-line-preserved
loop-line-preserved c =
    proceeds (early_found c.args.file.now) c.args.found.now c.loop-line.found c.report.new.self c.args.early.now (drop c.loop-line.line-index c.args.early.now) c.line-item.result (drop (c.loop-line.line-index + 1) c.args.early.now)
    c.loop-line.invariant (drop_item c.args.early.now c.loop-line.line-index c.line-item.result c.loop-line-test.true c.line-item.is) (c.in_ok-report.ensures ∙ ap (onto c.loop-line.found) (same_message c.args.file.now PropertyWithoutMatch c.number.result c.line-item.result.number c.property_text.result.now (property_text c.line-item.result) c.number.ensures c.property_text.ensures))

pub returns : goal.returns
returns c = ends (early_found c.args.file.now) c.args.found.now c.loop-line.found c.args.early.now (drop c.loop-line.line-index c.args.early.now) c.loop-line.invariant (nothing_left c.args.early.now c.loop-line.line-index c.loop-line-test.false)
