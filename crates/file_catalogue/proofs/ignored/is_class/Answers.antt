use Rattle.std.proofs.Common.{◌∙◌, ◌||◌, ap}
use Rattle.std.specs.List.{list_any}
use Rattle.file_catalogue.specs.Ignored.{is_class, is_of_class}
use Rattle.file_catalogue.proofs.Rows.{any_of_two}
use Rattle.file_catalogue.proofs.ignored.is_class.Goals as goal

pub returns : goal.returns
unfolding is_class
returns c =
    ap (λ b. b || c.is_class_among-2.result) c.is_class_among.ensures
    ∙ ap (λ b. list_any (λ row. is_of_class c.args.part.now row.1.now) c.messages.result.now || b) c.is_class_among-2.ensures
    ∙ any_of_two (is_of_class c.args.part.now) c.messages.result.now c.lints.result.now c.messages.ensures c.lints.ensures
