use Rattle.std.proofs.Common.{ℕ, ◌≡◌, ◌<◌, get_or}
use Rattle.text_core.specs.declared.item.Item.TheVariants.{One}
use Rattle.trie_build.proofs.rows.common_prefix.Given as goal

abbrev pub invariant-loop-at : goal.invariant-loop-at
invariant-loop-at l = (d : ℕ) → d < l.at → get_or l.pattern d One ≡ get_or l.other d One
