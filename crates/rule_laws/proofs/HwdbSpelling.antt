-- The sets of a pattern that is read have 32 bytes.
use Rattle.std.proofs.Common.{◌≡◌, ℕ, zero, suc, ◌+◌, ◌*◌, ◌==◌, Bool, true, false, cond, nat_lt, List, ◌∷◌, [], length, Option, Some, None, Result, Ok, Err}
use Rattle.std.proofs.lemmas.List.FromFn.{length-map-range_with_len}
use Rattle.std.specs.List.{AllByRecursion}
use Rattle.text_bytes.specs.Names.{open_bracket, question_mark, star}
use Rattle.text_core.specs.Sets.{bits_of, set_of, set_takes}
use Rattle.text_core.specs.Spell.{WrittenSet, bracket, class_place, first_item, items_at, max_len, set_after, set_or_byte, set_unless_class, spell, spell_by, with_first, with_item}
use Rattle.text_core.specs.declared.glob_fault.GlobFault.{GlobFault}
use Rattle.text_core.specs.declared.glob_fault.GlobFault.TheVariants.{TooLong}
use Rattle.text_core.specs.declared.item.Item.{Item}
use Rattle.text_core.specs.declared.reading.Reading.TheVariants.{Exact}
use Rattle.text_core.specs.declared.spell.Head.{Head}
use Rattle.trie_build.specs.Sizes.{set_in}
use Rattle.trie_nodes.specs.Bounds.{set_len}

-- the set of a label, if it has one, has 32 bytes
abbrev pub IsWhole : Item → Type 0
IsWhole x = AllByRecursion (λ (bits : List ℕ). length bits ≡ set_len) (set_in x)

-- the same of each label that was read
abbrev pub AreWhole : Result (List Item) GlobFault → Type 0
AreWhole (Ok items) = AllByRecursion IsWhole items
AreWhole (Err fault) = Unit {0}

abbrev IsWholeHead : Result Head GlobFault → Type 0
IsWholeHead (Ok head) = IsWhole head.item
IsWholeHead (Err fault) = Unit {0}

set_whole : (p : ℕ → Bool) → length (set_of p).bits ≡ set_len
unfolding set_of
set_whole p = length-map-range_with_len (λ i. bits_of p (8 * i) 8) 0 32

either : (v : Bool) (x y : Result Head GlobFault) → IsWholeHead x → IsWholeHead y → IsWholeHead (cond v x y)
either true x y h k = h
either false x y h k = k

whole_bracket : (at : ℕ) (t : List ℕ) → IsWholeHead (bracket Exact at t)
unfolding bracket
whole_bracket at t = by_set (set_after at t) where
  by_class : (set : WrittenSet) (place : Option ℕ) → IsWholeHead (set_unless_class Exact set place)
  by_class set None = (set_whole (set_takes Exact set.negated set.members), tt)
  by_class set (Some n) = tt

  by_set : (o : Option WrittenSet) → IsWholeHead (set_or_byte Exact o)
  by_set None = tt
  by_set (Some set) = by_class set (class_place set.members)

whole_prefix : (at b : ℕ) (t : List ℕ) → IsWholeHead (first_item Exact at b t)
unfolding first_item
whole_prefix at b t = either (b == star) _ _ tt (either (b == question_mark) _ _ tt (either (b == open_bracket) _ _ (whole_bracket at t) tt))

whole_items : (t : List ℕ) (passed at : ℕ) → AreWhole (items_at Exact t passed at)
whole_items [] passed at = tt
whole_items (b ∷ t) zero at = by_first_item (λ n. whole_items t n (at + 1)) (first_item Exact at b t) (whole_prefix at b t) where
  by_rest : (x : Item) (r : Result (List Item) GlobFault) → IsWhole x → AreWhole r → AreWhole (with_item x r)
  by_rest x (Ok rest) first others = (first, others)
  by_rest x (Err fault) first others = tt

  by_first_item : ((n : ℕ) → AreWhole (items_at Exact t n (at + 1))) → (h : Result Head GlobFault) → IsWholeHead h
      → AreWhole (with_first h (λ n. items_at Exact t n (at + 1)))
  by_first_item rest (Ok head) first = by_rest head.item (items_at Exact t head.following (at + 1)) first (rest head.following)
  by_first_item rest (Err fault) first = tt
whole_items (b ∷ t) (suc n) at = whole_items t n (at + 1)

pub whole_spell : (t : List ℕ) → AreWhole (spell t)
unfolding spell spell_by
whole_spell t = by (nat_lt max_len (length t)) where
  by : (v : Bool) → AreWhole (cond v (Err TooLong) (items_at Exact t 0 0))
  by true = tt
  by false = whole_items t 0 0
