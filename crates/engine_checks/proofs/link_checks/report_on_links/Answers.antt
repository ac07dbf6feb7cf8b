use Rattle.std.proofs.Common.{◌≡◌, map, ap, ◌∙◌}
use Rattle.std.specs.List.{flat_map}
use Rattle.engine_formats.specs.Diagnostics.{shown}
use Rattle.engine_checks.specs.Links.{links_outcome, links_reported}
use Rattle.engine_checks.specs.Tables.{links_reported_by}
use Rattle.engine_checks.specs.Outcomes.{checks_said}
use Rattle.engine_checks.proofs.Checking.{links_by}
use Rattle.engine_checks.proofs.link_checks.report_on_links.Goals as goal

pub returns-clause-said : goal.returns-clause-said
unfolding links_outcome
returns-clause-said c =
    let shows : map shown c.deref-2.result.now ≡ flat_map (links_reported c.args.line.now c.args.files.now) c.args.files.now =
    ap (map shown) c.deref-2.ensures.value
    ∙ c.in_ok-reported.ensures
    ∙ ap (flat_map (links_reported_by c.in_ok-asked.asked c.args.files.now)) (c.deref.ensures.value ∙ c.in_ok-reads.ensures)
    ∙ links_by c.args.line.now c.in_ok-asked.asked c.in_ok-asked.ensures.profile c.in_ok-asked.ensures.accounts c.in_ok-asked.ensures.style c.in_ok-asked.ensures.lint c.in_ok-asked.ensures.ignored c.args.files.now c.args.files.now in
    c.in_ok-report.ensures.said ∙ ap (checks_said c.args.line.now c.args.files.now) shows
