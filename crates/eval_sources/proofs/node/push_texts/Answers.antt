use Rattle.std.proofs.Common.{◌≡◌, ◌++◌, ◌∷◌, [], List, Option, OnOk, codes, ap, subst, ◌∙◌}
use Rattle.text_bytes.specs.Text.{Text}
use Rattle.eval_state.specs.Texts.{filled}
use Rattle.eval_state.specs.declared.scene.Scene.{Scene}
use Rattle.eval_sources.proofs.Lookups.{four}
use Rattle.eval_sources.proofs.node.push_texts.Goals as goal

pub returns : goal.returns
returns c =
    let s : Scene = c.args.scene.now in
    let old : List (Text × Option Text) = c.args.found.now.items in
    subst (λ (all : List (Text × Option Text)). OnOk c.push_text-3.result (c.push_text-3.new.found.items ≡ all))
    (ap (λ (l : List (Text × Option Text)). l ++ (codes "mode", s.mode) ∷ [])
    (c.in_ok-push_text-2.ensures
    ∙ ap (λ (l : List (Text × Option Text)). l ++ (codes "group", s.group) ∷ []) (c.in_ok-push_text.ensures ∙ ap (λ (l : List (Text × Option Text)). l ++ (codes "owner", s.owner) ∷ []) c.in_ok-push_name.ensures))
    ∙ four old (codes "name", filled s.state.name) (codes "owner", s.owner) (codes "group", s.group) (codes "mode", s.mode))
    c.push_text-3.ensures
