use Rattle.std.proofs.Common.{Some, None}
use Rattle.std.proofs.Common.{nat_eq}
use Rattle.std.specs.Cmp.Lexicographic.{pointwise}
use Rattle.file_catalogue.specs.Catalogue.{lints, messages, row_of}
use Rattle.file_catalogue.proofs.Rows.{in_first, in_second, seen_found}
use Rattle.file_catalogue.proofs.remark.row_of_code.Goals as goal

pub returns-in-Some : goal.returns-in-Some
returns-in-Some c =
    in_first (λ row. pointwise nat_eq row.code c.args.code.now) messages lints _ (seen_found (λ row. pointwise nat_eq row.code c.args.code.now) row_of c.messages.result.now messages (Some c.in-Some.row) c.in-Some.ensures c.messages.ensures)

pub returns-in-None : goal.returns-in-None
returns-in-None c =
    in_second (λ row. pointwise nat_eq row.code c.args.code.now) messages lints _ (seen_found (λ row. pointwise nat_eq row.code c.args.code.now) row_of c.messages.result.now messages None c.in-None.ensures c.messages.ensures)
    (seen_found (λ row. pointwise nat_eq row.code c.args.code.now) row_of c.lints.result.now lints _ c.row_with-in-None.ensures c.lints.ensures)
