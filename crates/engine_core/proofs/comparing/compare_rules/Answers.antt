use Rattle.std.proofs.Common.{rules, ◌≡◌, ap, ◌∙◌}
use Rattle.engine_formats.specs.Masked.{shown_in}
use Rattle.engine_reports.specs.Reports.{shown_rules}
use Rattle.engine_core.specs.Comparing.{both_messages}
use Rattle.engine_core.specs.Outcomes.{is_json}
use Rattle.engine_core.proofs.Compared.{finds_both}
use Rattle.engine_core.proofs.comparing.compare_rules.Goals as goal

pub returns-in-Ok : goal.returns-in-Ok
returns-in-Ok g c =
    let old = shown_rules c.args.old (g.L.Lookup.entries c.args.old_lookup) in
    let new = shown_rules c.args.new (g.M.Lookup.entries c.args.new_lookup) in
    let messages : c.deref-in-Ok.result.now ≡ shown_in c.args.old_line.now.format (both_messages c.args.old.messages.items c.args.new.messages.items) =
    c.deref-in-Ok.ensures.value ∙ c.shown_in.ensures ∙ ap (shown_in c.args.old_line.now.format) c.in-Ok.ensures.messages in
    let tables : c.in-Ok.tables ≡ (
      is_json c.args.old_line.now.format,
      (
        (c.args.old_line.now.sources, (old.rules, record { links = c.args.old_line.now.links.items; files = c.args.old_found.now; entries = old.entries })),
        (c.args.old_line.now.sources, (new.rules, record { links = c.args.new_line.now.links.items; files = c.args.new_found.now; entries = new.entries })),
      ),
    ) = search rules in
    finds_both c.args.old_line.now c.telling_of-telling.result _ _ c.in-Ok.tables _ _ _ _ c.telling_of-telling.ensures messages tables c.find_after_messages.ensures.steps
