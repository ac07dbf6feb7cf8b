use Rattle.std.proofs.Common.{Some, None}
use Rattle.file_catalogue.specs.Catalogue.{is_same, lints, messages, row_of, row_on}
use Rattle.file_catalogue.proofs.Rows.{in_first, in_second, seen_found}
use Rattle.file_catalogue.proofs.remark.Remark.row.Goals as goal

pub returns-in-Some : goal.returns-in-Some
unfolding row_on
returns-in-Some c =
    in_first (λ row. is_same row.remark c.args.self) messages lints _ (seen_found (λ row. is_same row.remark c.args.self) row_of c.messages.result.now messages (Some c.in-Some.row) c.in-Some.ensures c.messages.ensures)

pub returns-in-None : goal.returns-in-None
unfolding row_on
returns-in-None c =
    in_second (λ row. is_same row.remark c.args.self) messages lints _ (seen_found (λ row. is_same row.remark c.args.self) row_of c.messages.result.now messages None c.in-None.ensures c.messages.ensures)
    (seen_found (λ row. is_same row.remark c.args.self) row_of c.lints.result.now lints _ c.row_among-in-None.ensures c.lints.ensures)
