use Rattle.std.proofs.Common.{◌≡◌, ℕ, ◌++◌, ◌∙◌, List, Vec, Global, OnOk, ap, codes, drop, map, subst, sym}
use Rattle.std.proofs.lemmas.List.{drop-map}
use Rattle.text_bytes.specs.Text.{Text}
use Rattle.eval_effects.specs.Items.{text_items}
use Rattle.eval_effects.proofs.items.push_links.Goals as goal

pub returns : goal.returns
returns c =
    let left : map (λ (t : Vec ℕ Global). t.items) c.texts_after-links.result.now ≡ drop c.args.count c.args.scene.now.state.links =
    ap (λ (l : List (Vec ℕ Global)). map (λ t. t.items) l) c.texts_after-links.ensures
    ∙ sym (drop-map (λ (t : Vec ℕ Global). t.items) c.args.count c.as_slice.result.now)
    ∙ ap (drop c.args.count) c.as_slice.ensures.texts in
    subst (λ (links : List Text). OnOk c.push_texts.result (c.push_texts.new.items.items ≡ c.args.items.now.items ++ text_items (codes "link") links)) left c.push_texts.ensures
