use Rattle.std.proofs.Common.{◌∙◌, ◌++◌, ap, map}
use Rattle.file_catalogue.proofs.Rows.{remarks_of_two}
use Rattle.file_catalogue.proofs.remark.remarks.Goals as goal

pub returns : goal.returns
returns c =
    c.in_ok-push_remarks-2.ensures
    ∙ ap (λ all. all ++ map (λ row. row.0) c.lints.result.now)
    (c.in_ok-push_remarks.ensures ∙ ap (λ all. all ++ map (λ row. row.0) c.messages.result.now) c.new-all.ensures.items)
    ∙ remarks_of_two c.messages.result.now c.lints.result.now c.messages.ensures c.lints.ensures
