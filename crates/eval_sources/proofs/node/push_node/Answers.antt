use Rattle.std.proofs.Common.{◌≡◌, ◌++◌, List, Option, OnOk, append_assoc, ap, subst, ◌∙◌}
use Rattle.text_bytes.specs.Text.{Text}
use Rattle.eval_sources.specs.Touched.{marks_found, texts_found}
use Rattle.eval_sources.proofs.Lookups.{node_is}
use Rattle.eval_sources.proofs.node.push_node.Goals as goal

pub returns : goal.returns
returns c =
    let old : List (Text × Option Text) = c.args.found.now.items in
    subst (λ (all : List (Text × Option Text)). OnOk c.push_marks.result (c.push_marks.new.found.items ≡ all))
    (ap (λ l. l ++ marks_found c.args.scene.now) c.in_ok-push_texts.ensures
    ∙ append_assoc old (texts_found c.args.scene.now) (marks_found c.args.scene.now)
    ∙ ap (λ l. old ++ l) (node_is c.args.scene.now))
    c.push_marks.ensures
