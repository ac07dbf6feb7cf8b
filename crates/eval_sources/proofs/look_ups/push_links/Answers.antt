use Rattle.std.proofs.Common.{◌≡◌, ◌++◌, ℕ, List, Vec, Global, OnOk, drop, map, ap, subst, sym, ◌∙◌}
use Rattle.std.proofs.lemmas.List.{drop-map}
use Rattle.text_bytes.specs.Text.{Text}
use Rattle.eval_effects.specs.Items.{items}
use Rattle.eval_sources.specs.Touched.{found, of_links}
use Rattle.eval_sources.proofs.look_ups.push_links.Goals as goal

pub returns : goal.returns
returns c =
    let raw : List (Vec ℕ Global) = c.as_slice.result.now in
    subst (λ (texts : List Text). OnOk c.push_each_link.result (c.push_each_link.new.found.items ≡ c.args.found.now.items ++ found (items c.args.scene.now) (of_links texts)))
    (ap (λ (l : List (Vec ℕ Global)). map (λ t. t.items) l) c.texts_after.ensures ∙ sym (drop-map (λ (t : Vec ℕ Global). t.items) c.args.count raw) ∙ ap (drop c.args.count) c.as_slice.ensures.texts)
    c.push_each_link.ensures
