use Rattle.std.proofs.Common.{◌∙◌, ◌++◌, ap, map}
use Rattle.file_catalogue.proofs.Rows.{codes_of_two}
use Rattle.file_catalogue.proofs.remark.all_codes.Goals as goal

pub returns : goal.returns
returns c =
    c.in_ok-push_codes-2.ensures
    ∙ ap (λ all. all ++ map (λ row. row.1.now) c.lints.result.now)
    (c.in_ok-push_codes.ensures ∙ ap (λ all. map (λ code. code.now) all ++ map (λ row. row.1.now) c.messages.result.now) c.new-all.ensures.items)
    ∙ codes_of_two c.messages.result.now c.lints.result.now c.messages.ensures c.lints.ensures
