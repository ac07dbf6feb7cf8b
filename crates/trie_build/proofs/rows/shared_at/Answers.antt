use Rattle.std.proofs.Common.{◌≡◌, ◌-◌, ◌∙◌, ℕ, List, get_or, ap, arith, sym}
use Rattle.text_core.specs.declared.item.Item.{Item}
use Rattle.trie_build.specs.Prefixes.{codes}
use Rattle.trie_build.specs.Rows.{pattern_at, patterns}
use Rattle.trie_build.specs.declared.rows.Row.{Row}
use Rattle.trie_build.proofs.Prefixing.{common_by_codes, first_at}
use Rattle.trie_build.proofs.rows.shared_at.Goals as goal

pub returns-then-bytes-lt-PREFIX : goal.returns-then-bytes-lt-PREFIX
returns-then-bytes-lt-PREFIX c =
    let before : Row = c.index-rows-at.result in
    let here : Row = c.index-rows-at-2.result in
    let rows : List Row = c.args.rows.now in
    let p : List Item = pattern_at (patterns rows) (c.args.at - 1) in
    let q : List Item = pattern_at (patterns rows) c.args.at in
    let left : (get_or rows (c.args.at - 1) before).prefix ≡ codes 24 p = first_at rows before (c.args.at - 1) c.requires.first_labels (omega (arith, c.requires.within)) in
    let right : (get_or rows c.args.at here).prefix ≡ codes 24 q = first_at rows here c.args.at c.requires.first_labels c.requires.within in
    let bytes : ℕ = c.common_bytes-bytes.result in
    λ _. common_by_codes 24 bytes p q (omega arith)
    (λ d k. sym (ap (λ l. get_or l d 0) left) ∙ c.common_bytes-bytes.ensures.same d k ∙ ap (λ l. get_or l d 0) right)
    (λ tie. c.common_bytes-bytes.ensures.next (omega arith) (ap (λ l. get_or l bytes 0) left ∙ tie ∙ sym (ap (λ l. get_or l bytes 0) right)))
