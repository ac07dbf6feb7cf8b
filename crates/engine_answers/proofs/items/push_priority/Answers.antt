use Rattle.std.proofs.Common.{rules, ◌≡◌, ◌++◌, ◌∷◌, [], codes, ap, sym, ◌∙◌, option_map}
use Rattle.std.proofs.lemmas.Result.{IfOk-weaker}
use Rattle.std.specs.Fmt.{signed_decimal}
use Rattle.engine_answers.specs.Answers.{lines_after}
use Rattle.engine_answers.specs.Items.{priority_lines}
use Rattle.engine_answers.specs.Lines.{line}
use Rattle.engine_answers.proofs.InFront.{one_after}
use Rattle.engine_answers.specs.Inner.{front_of}
use Rattle.engine_answers.proofs.items.push_priority.Goals as goal

pub returns : goal.returns
returns c =
    let front = front_of (option_map (λ s. s.now) c.args.sources) in
    let number : c.as_bytes-number.result.now ≡ signed_decimal c.in-Some.priority = search rules in
    IfOk-weaker c.push_line.result _ _
    (λ done h.
    one_after front c.args.lines.now.items c.push_origin.new.lines.items c.push_line.new.lines.items (line (codes "priority") c.as_bytes-number.result.now) (codes "priority", c.as_bytes-number.result.now) c.in_ok-push_origin.ensures h
    ∙ ap (λ n. c.args.lines.now.items ++ lines_after front (((codes "priority", n), line (codes "priority") n) ∷ [])) number
    ∙ ap (λ o. c.args.lines.now.items ++ lines_after front (priority_lines o)) (sym c.in-Some.is))
    c.push_line.ensures
