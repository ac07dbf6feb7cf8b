use Rattle.std.proofs.Common.{◌≡◌, ◌<◌, ◌∙◌, ap, arith, get_or, length, rules, sym}
use Rattle.std.specs.declared.cmp.Ordering.TheVariants.{Equal}
use Rattle.text_core.specs.declared.item.Item.{Item}
use Rattle.text_core.specs.declared.item.Item.TheVariants.{One}
use Rattle.trie_build.specs.Order.{label_cmp}
use Rattle.trie_build.proofs.Sharing.{common_more}
use Rattle.trie_build.proofs.rows.common_prefix.Goals as goal

pub loop-at-preserved : goal.loop-at-preserved
loop-at-preserved c =
    let tie : c.compare_labels.result ≡ Equal = search rules in
    let first : c.loop-at.at < length c.args.pattern.now = omega arith in
    let second : c.loop-at.at < length c.args.other.now = omega arith in
    let labels : label_cmp (get_or c.args.pattern.now c.loop-at.at One) (get_or c.args.other.now c.loop-at.at One) ≡ label_cmp c.item.result c.item-in-loop-at.result =
    ap (λ (x : Item). label_cmp x (get_or c.args.other.now c.loop-at.at One)) (sym c.item.ensures) ∙ ap (label_cmp c.item.result) (sym c.item-in-loop-at.ensures) in
    common_more c.args.pattern.now c.args.other.now c.loop-at.at One first second c.loop-at.invariant (labels ∙ sym c.compare_labels.ensures ∙ tie)
