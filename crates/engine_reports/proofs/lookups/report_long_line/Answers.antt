use Rattle.std.proofs.Common.{rules, ◌≡◌, decimal}
use Rattle.engine_reports.proofs.AnswerLemmas.{too_long_pieces}
use Rattle.engine_reports.proofs.lookups.report_long_line.Goals as goal

pub returns : goal.returns
returns g c =
    let is : c.as_bytes.result.now ≡ decimal c.args.number = search rules in
    rw (too_long_pieces c.args.number) (rw is at c.report_in_pieces.ensures)
