use Rattle.std.proofs.Common.{sym, ◌∙◌, ap, ◌++◌, map, option_map, option_to_list}
use Rattle.engine_formats.specs.Diagnostics.{shown}
use Rattle.engine_checks.specs.Tables.{remark_by}
use Rattle.engine_checks.specs.Reported.{comment_diagnostic}
use Rattle.engine_checks.proofs.Reporting.{filter_map_more}
use Rattle.engine_checks.proofs.comment_remarks.comment_remarks.Goals as goal

pub loop-ignore-preserved : goal.loop-ignore-preserved
loop-ignore-preserved c =
    c.in_ok-push_remark.ensures
    ∙ ap (λ o. map shown c.loop-ignore.remarks.items ++ option_to_list (option_map (comment_diagnostic c.args.file.now c.ignore-item.result) o)) c.remark_on.ensures
    ∙ ap (λ rs. rs ++ option_to_list (option_map (comment_diagnostic c.args.file.now c.ignore-item.result) (remark_by c.args.met.now.in_file c.args.met.now.at_lines c.ignore-item.result))) c.loop-ignore.invariant
    ∙ sym (filter_map_more (λ i. option_map (comment_diagnostic c.args.file.now i) (remark_by c.args.met.now.in_file c.args.met.now.at_lines i)) c.args.ignores.now c.loop-ignore.ignore-index c.ignore-item.result c.loop-ignore-test.true c.ignore-item.is)
