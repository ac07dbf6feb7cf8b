use Rattle.std.proofs.lemmas.Result.{IfOk-weaker}
use Rattle.engine_formats.specs.Diagnostics.{shown}
use Rattle.engine_checks.proofs.Reporting.{all_reported}
use Rattle.engine_checks.proofs.reported.file_reported.Goals as goal

pub returns : goal.returns
returns c =
    IfOk-weaker c.merged.result _ _
    (λ reported h.
    all_reported shown c.args.asked.now c.args.file.now c.args.ignores.now c.args.found.items c.deref.result.now c.keep_reported.result.items c.in_ok-comment_remarks.field-0.items c.keep_asked-remarks.result.items _
    c.in_ok-met.met.in_file c.in_ok-met.met.at_lines c.in_ok-silenced.silenced.in_file c.in_ok-silenced.silenced.at_lines
    c.deref.ensures.value c.in_ok-met.ensures c.in_ok-silenced.ensures c.in_ok-comment_remarks.ensures c.keep_asked-remarks.ensures c.keep_reported.ensures h)
    c.merged.ensures
