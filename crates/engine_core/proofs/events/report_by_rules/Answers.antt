use Rattle.std.proofs.Common.{rules, ◌≡◌, true, false}
use Rattle.engine_formats.specs.Masked.{shown_in}
use Rattle.engine_reports.specs.Reports.{shown_rules}
use Rattle.engine_core.specs.Outcomes.{asks_more, reported_for}
use Rattle.engine_core.proofs.Running.{alone_runs, reported_runs}
use Rattle.engine_core.proofs.events.report_by_rules.Goals as goal

pub returns-then-asks_more : goal.returns-then-asks_more
returns-then-asks_more g c =
    let opened = shown_rules c.args.read (g.L.Lookup.entries c.args.lookup) in
    let asks : asks_more c.args.line.now ≡ true = search rules in
    let messages : c.deref-then-asks_more-2.result.now ≡ shown_in c.args.line.now.format c.args.read.messages.items = search rules in
    let tables : c.new-tables.result ≡ (reported_for c.args.line.now opened, record { links = c.args.line.now.links.items; files = c.args.found.now; entries = opened.entries }) = search rules in
    reported_runs c.args.line.now c.args.found.now opened c.deref-then-asks_more-2.result.now c.new-tables.result c.rules-rules.result.now c.knowledge-knowledge.result.now _ _ _ c.requires asks messages tables c.rules-rules.ensures c.knowledge-knowledge.ensures c.answer_and_say.ensures.says c.answer_and_say.ensures.answers

pub returns-in-Ok : goal.returns-in-Ok
returns-in-Ok g c =
    let opened = shown_rules c.args.read (g.L.Lookup.entries c.args.lookup) in
    let asks : asks_more c.args.line.now ≡ false = search rules in
    let messages : c.deref-in-Ok.result.now ≡ shown_in c.args.line.now.format c.args.read.messages.items = search rules in
    let tables : c.in-Ok.tables ≡ (opened.rules, record { links = c.args.line.now.links.items; files = c.args.found.now; entries = opened.entries }) = search rules in
    alone_runs c.args.line.now c.args.found.now opened c.deref-in-Ok.result.now c.in-Ok.tables c.rules-rules-in-Ok.result.now c.knowledge-knowledge-in-Ok.result.now _ _ _ c.requires asks messages tables c.rules-rules-in-Ok.ensures c.knowledge-knowledge-in-Ok.ensures c.answer_and_say-in-Ok.ensures.says c.answer_and_say-in-Ok.ensures.answers
