use Rattle.std.proofs.Common.{◌∙◌}
use Rattle.std.proofs.lemmas.Result.{err_from_is_err_and}
use Rattle.rule_core.proofs.Adding.{set_read, within_read, too_many_read}
use Rattle.rule_core.proofs.reading.read_rules_as.Goals as goal

pub returns-in_err-read_files-clause-too_many : goal.returns-in_err-read_files-clause-too_many
returns-in_err-read_files-clause-too_many c =
    let p = err_from_is_err_and c.from_residual.result c.from_residual.ensures.1 in
    too_many_read c.args.profile c.args.files.now c.new-rules.result c.from_residual.result p.0 c.in_err-read_files.field-0.0 p.1 p.2 c.new-rules.ensures c.in_err-read_files.ensures.rules

pub returns-clause-set : goal.returns-clause-set
returns-clause-set c =
    set_read c.args.profile c.args.files.now c.new-rules.result c.read_files.new.rules c.new.result c.new-messages.result.items c.read_files.new.messages.items
    c.new-rules.ensures c.new-messages.ensures.items c.in_ok-read_files.ensures.rules c.in_ok-read_files.ensures.messages (c.new.ensures ∙ c.into_rules.ensures.items)

pub returns-clause-within : goal.returns-clause-within
returns-clause-within c = within_read c.args.profile c.args.files.now c.new-rules.result c.read_files.new.rules c.new-rules.ensures c.in_ok-read_files.ensures.rules c.into_rules.ensures.within
