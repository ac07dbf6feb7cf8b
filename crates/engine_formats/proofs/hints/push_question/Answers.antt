use Rattle.std.proofs.Common.{◌∙◌, ℕ, List, [], ◌∷◌, ◌++◌, ap, append_assoc, codes}
use Rattle.engine_formats.proofs.hints.push_question.Goals as goal

pub returns : goal.returns
returns c =
    let said = codes "Did you mean " in
    let mark : List ℕ = 63 ∷ [] in
    c.in_ok-push.ensures.items
    ∙ ap (λ (t : List ℕ). t ++ mark) (c.in_ok-extend_from_slice-2.ensures.items ∙ ap (λ (t : List ℕ). t ++ c.args.name.now) c.in_ok-extend_from_slice.ensures.items)
    ∙ append_assoc (c.args.text.now.items ++ said) c.args.name.now mark
    ∙ append_assoc c.args.text.now.items said (c.args.name.now ++ mark)
