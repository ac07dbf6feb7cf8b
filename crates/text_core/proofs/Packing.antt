-- What a text without a bracket spells.
use Rattle.std.proofs.Common.{◌≡◌, ℕ, ◌+◌, Bool, true, false, cond, List, [], ◌∷◌, map, refl, ◌∙◌, ap}
use Rattle.std.specs.Prelude.{◌==◌, Result, Ok}
use Rattle.std.specs.List.{list_any}
use Rattle.std.proofs.lemmas.Bool.{or_parts}
use Rattle.text_bytes.specs.Names.{open_bracket, question_mark, star}
use Rattle.text_core.specs.Packed.{written}
use Rattle.text_core.specs.Spell.{bracket, first_item, items_at, with_first, with_item}
use Rattle.text_core.specs.declared.glob_fault.GlobFault.{GlobFault}
use Rattle.text_core.specs.declared.item.Item.{Item}
use Rattle.text_core.specs.declared.item.Item.TheVariants.{Byte, One, Many}
use Rattle.text_core.specs.declared.reading.Reading.TheVariants.{Exact}
use Rattle.text_core.specs.declared.spell.Head.{Head}

abbrev is_bracket : ℕ → Bool
is_bracket b = b == open_bracket

abbrev head : Item → Result Head GlobFault
head x = Ok (record { item = x; following = 0 })

shape : (s q : Bool) (b : ℕ) → cond s (head Many) (cond q (head One) (head (Byte b))) ≡ head (cond s Many (cond q One (Byte b)))
shape true q b = refl
shape false true b = refl
shape false false b = refl

-- a byte that is not a bracket is an item, the one that it is written as
alone : (b at : ℕ) (t : List ℕ) → is_bracket b ≡ false → first_item Exact at b t ≡ head (written b)
unfolding first_item
alone b at t none =
    ap (λ v. cond (b == star) (head Many) (cond (b == question_mark) (head One) (cond v (bracket Exact at t) (head (Byte b))))) none
    ∙ shape (b == star) (b == question_mark) b

pub spelled : (t : List ℕ) (at : ℕ) → list_any is_bracket t ≡ false → items_at Exact t 0 at ≡ Ok (map written t)
spelled [] at none = refl
spelled (b ∷ t) at none =
    let parts = or_parts (is_bracket b) (list_any is_bracket t) none in
    ap (λ h. with_first h (λ n. items_at Exact t n (at + 1))) (alone b at t parts.0)
    ∙ ap (with_item (written b)) (spelled t (at + 1) parts.1)
