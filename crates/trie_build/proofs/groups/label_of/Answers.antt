use Rattle.std.proofs.Common.{◌≡◌, ◌<◌, ◌∙◌, List, get_or, ap, arith, sym}
use Rattle.text_core.specs.declared.item.Item.{Item}
use Rattle.trie_build.specs.Prefixes.{codes}
use Rattle.trie_build.specs.Rows.{pattern_at, patterns}
use Rattle.trie_build.specs.declared.rows.Row.{Row}
use Rattle.trie_build.proofs.Prefixing.{first_at, prefix_reports}
use Rattle.trie_build.proofs.groups.label_of.Goals as goal

pub returns-in-Some : goal.returns-in-Some
returns-in-Some c =
    let none : Row = c.index-rows-at.result in
    let row : Row = get_or c.args.rows.now c.args.at none in
    let p : List Item = pattern_at (patterns c.args.rows.now) c.args.at in
    let byte : get_or row.prefix c.args.depth 0 ≡ get_or (codes 24 p) c.args.depth 0 =
    ap (λ l. get_or l c.args.depth 0) (first_at c.args.rows.now none c.args.at c.requires.first_labels c.requires.within) in
    let some : 0 < get_or row.prefix c.args.depth 0 = c.in-Some.ensures.some in
    sym (c.in-Some.ensures.label _ (prefix_reports 24 c.args.depth p (omega arith) (omega (arith, some, byte)) ∙ sym byte))
