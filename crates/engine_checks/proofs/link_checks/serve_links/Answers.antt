use Rattle.engine_checks.specs.Links.{links_outcome}
use Rattle.engine_checks.proofs.link_checks.serve_links.Goals as goal

pub returns-clause-delivers : goal.returns-clause-delivers
returns-clause-delivers g c =
    c.deliver_report.ensures.delivers (links_outcome c.args.line.now c.args.files.now)
    (record { says = c.report_on_links.ensures.said; refused = c.report_on_links.ensures.refused })
