use Rattle.std.proofs.Common.{◌≡◌, ◌++◌, ◌∷◌, [], Bool, true, false, List, Option, Some, None, OnOk, option_map, cond, codes, ap, subst, ◌∙◌}
use Rattle.std.specs.Fmt.{signed_decimal}
use Rattle.text_bytes.specs.Text.{Text}
use Rattle.eval_state.specs.declared.scene.Scene.{Scene}
use Rattle.eval_sources.specs.Touched.{is_watch}
use Rattle.eval_sources.proofs.Lookups.{four}
use Rattle.eval_sources.proofs.node.push_marks.Goals as goal

pub returns : goal.returns
returns c =
    let s : Scene = c.args.scene.now in
    let old : List (Text × Option Text) = c.args.found.now.items in
    let watch : Bool → List (Text × Option Text) → List (Text × Option Text) = λ b l. l ++ (codes "watch", cond b (Some []) None) ∷ [] in
    let nowatch : Bool → List (Text × Option Text) → List (Text × Option Text) = λ b l. l ++ (codes "nowatch", cond b (Some []) None) ∷ [] in
    let persist : List (Text × Option Text) → List (Text × Option Text) = λ l. l ++ (codes "persist", cond s.persist (Some []) None) ∷ [] in
    subst (λ (all : List (Text × Option Text)). OnOk c.push_mark-3.result (c.push_mark-3.new.found.items ≡ all))
    (ap persist
    (c.in_ok-push_mark-2.ensures
    ∙ ap (λ b. nowatch b c.push_mark.new.found.items) c.is_watch-2.ensures
    ∙ ap (nowatch (is_watch s.watch false)) (c.in_ok-push_mark.ensures ∙ ap (λ b. watch b c.push_priority.new.found.items) c.is_watch.ensures ∙ ap (watch (is_watch s.watch true)) c.in_ok-push_priority.ensures))
    ∙ four old (codes "priority", option_map signed_decimal s.priority) (codes "watch", cond (is_watch s.watch true) (Some []) None) (codes "nowatch", cond (is_watch s.watch false) (Some []) None) (codes "persist", cond s.persist (Some []) None))
    c.push_mark-3.ensures
