use Rattle.std.proofs.lemmas.Result.{err_from_is_err_and}
use Rattle.rule_core.specs.Rules.{file_rules}
use Rattle.rule_core.proofs.Adding.{returned, turn_failed}
use Rattle.rule_core.proofs.reading.read_files.Goals as goal

pub returns-in_err-read_file-clause-rules : goal.returns-in_err-read_file-clause-rules
returns-in_err-read_file-clause-rules c =
    let p = err_from_is_err_and c.from_residual.result c.from_residual.ensures.1 in
    returned c.args.rules.now c.read_file.new.rules _ c.from_residual.result p.0 c.in_err-read_file.field-0.0 p.1 p.2
    (turn_failed (file_rules c.args.profile) c.args.rules.now c.loop-file.rules c.args.files.now c.loop-file.file-index c.file-item.result c.in_err-read_file.field-0.0
    c.loop-file-test.true c.file-item.is c.loop-file.invariant.rules c.in_err-read_file.ensures.rules)
