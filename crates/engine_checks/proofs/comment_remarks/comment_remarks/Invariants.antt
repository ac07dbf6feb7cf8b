use Rattle.std.proofs.Common.{◌≡◌, map, take, option_map}
use Rattle.std.specs.List.{filter_map}
use Rattle.engine_formats.specs.Diagnostics.{shown}
use Rattle.engine_checks.specs.Tables.{remark_by}
use Rattle.engine_checks.specs.Reported.{comment_diagnostic}
use Rattle.engine_checks.proofs.comment_remarks.comment_remarks.Given as goal

abbrev pub invariant-loop-ignore : goal.invariant-loop-ignore
invariant-loop-ignore l = map shown l.remarks.items ≡ filter_map (λ i. option_map (comment_diagnostic l.file i) (remark_by l.met.in_file l.met.at_lines i)) (take l.ignore-index l.ignores)
