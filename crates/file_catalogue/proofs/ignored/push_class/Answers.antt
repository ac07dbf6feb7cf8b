use Rattle.std.proofs.Common.{◌≡◌, ◌∙◌, ◌++◌, OnOk, ap, append_assoc, filter, map, subst}
use Rattle.file_catalogue.specs.Ignored.{class_codes, is_of_class}
use Rattle.file_catalogue.proofs.Rows.{kept_of_two}
use Rattle.file_catalogue.proofs.ignored.push_class.Goals as goal

pub returns : goal.returns
unfolding class_codes
returns c =
    subst (λ cs. OnOk c.push_class_among-2.result (map (λ c. c.now) c.push_class_among-2.new.named.items ≡ cs))
    (ap (λ cs. cs ++ filter (is_of_class c.args.part.now) (map (λ row. row.1.now) c.lints.result.now)) c.in_ok-push_class_among.ensures
    ∙ append_assoc (map (λ c. c.now) c.args.named.now.items) (filter (is_of_class c.args.part.now) (map (λ row. row.1.now) c.messages.result.now)) _
    ∙ ap (λ cs. map (λ c. c.now) c.args.named.now.items ++ cs)
    (kept_of_two (is_of_class c.args.part.now) c.messages.result.now c.lints.result.now c.messages.ensures c.lints.ensures))
    c.push_class_among-2.ensures
