use Rattle.std.proofs.Common.{◌∙◌, ap, map}
use Rattle.rule_core.specs.Lines.{Joined, joined_lines}
use Rattle.rule_core.specs.Rules.{landed, reading_of}
use Rattle.rule_core.proofs.Filing.{file_reported}
use Rattle.rule_core.proofs.reading.read_kept.Goals as goal

pub returns-clause-messages : goal.returns-clause-messages
returns-clause-messages c =
    let joined = c.in_ok-joined.ensures ∙ ap (joined_lines c.args.profile) c.as_slice.ensures in
    file_reported c.args.profile c.args.file.now c.as_slice-name.result.now c.in_ok-lines.lines.items c.open_at.result c.args.messages.now.items c.add_lines.new.messages.items c.report_open.new.messages.items
    c.as_slice-name.ensures
    (c.in_ok-lines.ensures ∙ ap (λ ls. landed (map (reading_of c.args.profile) ls)) (c.lines.ensures ∙ ap (λ (j : Joined). j.lines) joined))
    (c.open_at.ensures ∙ ap (λ (j : Joined). j.open_at) joined)
    c.in_ok-add_lines.ensures.messages c.in_ok-report_open.ensures
