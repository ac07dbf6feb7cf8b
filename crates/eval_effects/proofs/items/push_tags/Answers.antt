use Rattle.std.proofs.Common.{◌≡◌, ℕ, ◌++◌, ◌∙◌, List, Vec, Global, OnOk, ap, codes, drop, flat_map, map, subst, sym}
use Rattle.std.proofs.lemmas.List.{drop-map}
use Rattle.text_tables.specs.Pairs.{Pair}
use Rattle.text_bytes.specs.Text.{Text}
use Rattle.eval_assignments.specs.Lists.{without_texts}
use Rattle.eval_effects.specs.Inner.{tag_item}
use Rattle.eval_effects.specs.Items.{text_items}
use Rattle.eval_effects.proofs.Tags.{tags_reported}
use Rattle.eval_effects.proofs.items.push_tags.Goals as goal

pub returns : goal.returns
returns c =
    let start : List Pair = c.args.items.now.items in
    let gone : List Text = c.args.scene.now.gone in
    let tags : List Text = drop c.args.count c.args.scene.now.state.tags in
    let left : map (λ (t : Vec ℕ Global). t.items) c.texts_after-tags.result.now ≡ tags =
    ap (λ (l : List (Vec ℕ Global)). map (λ t. t.items) l) c.texts_after-tags.ensures
    ∙ sym (drop-map (λ (t : Vec ℕ Global). t.items) c.args.count c.as_slice.result.now)
    ∙ ap (drop c.args.count) c.as_slice.ensures.texts in
    let reported : flat_map (tag_item gone) (map (λ (t : Vec ℕ Global). t.items) c.texts_after-tags.result.now) ≡ text_items (codes "tag") (without_texts tags gone) =
    ap (flat_map (tag_item gone)) left ∙ tags_reported gone tags in
    subst (λ (shown : List Pair). OnOk c.push_each_tag.result (c.push_each_tag.new.items.items ≡ start ++ shown)) reported c.push_each_tag.ensures
