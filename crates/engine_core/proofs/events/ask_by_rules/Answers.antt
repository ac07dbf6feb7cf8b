use Rattle.std.proofs.Common.{rules, ◌≡◌}
use Rattle.engine_formats.specs.Masked.{shown_in}
use Rattle.engine_reports.specs.Reports.{shown_rules}
use Rattle.engine_core.proofs.Running.{asked_runs}
use Rattle.engine_core.proofs.events.ask_by_rules.Goals as goal

pub returns : goal.returns
returns g c =
    let opened = shown_rules c.args.read (g.L.Lookup.entries c.args.lookup) in
    let messages : c.deref-2.result.now ≡ shown_in c.args.line.now.format c.args.read.messages.items = search rules in
    let tables : c.new-tables.result ≡ (opened.rules, record { links = c.args.line.now.links.items; files = c.args.found.now; entries = opened.entries }) = search rules in
    asked_runs c.args.line.now c.args.found.now opened c.deref-2.result.now c.new-tables.result c.rules-rules.result.now c.knowledge-knowledge.result.now _ _ _ c.requires messages tables c.rules-rules.ensures c.knowledge-knowledge.ensures c.answer_and_say.ensures.says c.answer_and_say.ensures.answers
