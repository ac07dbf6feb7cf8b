-- The part of a pattern from a place on.
use Rattle.std.proofs.Common.{◌≡◌, ℕ, suc, ◌+◌, ◌<◌, ◌≤◌, List, [], ◌∷◌, length, drop, get_or, drop-cons, ap, ◌∙◌, arith}
use Rattle.std.proofs.lemmas.List.{drop_all}
use Rattle.std.specs.Ordering.{ordering_then}
use Rattle.std.specs.declared.cmp.Ordering.TheVariants.{Less, Greater}
use Rattle.text_core.specs.declared.item.Item.{Item}
use Rattle.text_core.specs.declared.item.Item.TheVariants.{One}
use Rattle.trie_build.specs.Order.{label_cmp, pattern_cmp}

pub here : (p : List Item) (at : ℕ) → at < length p → drop at p ≡ get_or p at One ∷ drop (at + 1) p
here p at h = drop-cons p at One h ∙ ap (λ n. get_or p at One ∷ drop n p) (let e : suc at ≡ at + 1 = omega arith in e)

-- patterns compare from places on by the labels there, and then from the next places on
pub compare_step : (p q : List Item) (at next : ℕ) → at < length p → next < length q
    → pattern_cmp (drop at p) (drop next q) ≡ ordering_then (label_cmp (get_or p at One) (get_or q next One)) (pattern_cmp (drop (at + 1) p) (drop (next + 1) q))
compare_step p q at next h k = ap (λ l. pattern_cmp l (drop next q)) (here p at h) ∙ ap (pattern_cmp (get_or p at One ∷ drop (at + 1) p)) (here q next k)

-- a pattern that is at its end is less than one that is not
pub longer : (p q : List Item) (at next : ℕ) → at < length p → length q ≤ next → pattern_cmp (drop at p) (drop next q) ≡ Greater
longer p q at next h k = ap (λ l. pattern_cmp l (drop next q)) (here p at h) ∙ ap (pattern_cmp (get_or p at One ∷ drop (at + 1) p)) (drop_all next q k)

pub shorter : (p q : List Item) (at next : ℕ) → length p ≤ at → next < length q → pattern_cmp (drop at p) (drop next q) ≡ Less
shorter p q at next h k = ap (λ l. pattern_cmp l (drop next q)) (drop_all at p h) ∙ ap (pattern_cmp []) (here q next k)
