-- What is read blind fits texts in any case.
use Rattle.std.proofs.Common.{◌≡◌, ℕ, ◌<◌, Bool, true, false, cond, not, ◌||◌, ◌&&◌, eqb, List, ◌∷◌, [], map, refl, sym, ◌∙◌, ap}
use Rattle.std.specs.Char.{eq_ignore_ascii_case, is_ascii_alphabetic, to_ascii_lowercase, to_ascii_uppercase}
use Rattle.std.proofs.lemmas.Bool.{eqb-true}
use Rattle.text_core.specs.Fits.{fits, some_suffix, SameButCase}
use Rattle.rule_laws.specs.Grammar.{Piece, many, one, set, byte, item_of, negates, Spells}
use Rattle.text_core.specs.Items.{takes}
use Rattle.text_core.specs.Sets.{members_have, members_have_by, set_of, set_takes}
use Rattle.text_core.specs.Spell.{itself}
use Rattle.text_core.specs.declared.item.Item.{Item}
use Rattle.text_core.specs.declared.item.Item.TheVariants.{Byte, One, Among}
use Rattle.text_core.specs.declared.reading.Reading.TheVariants.{Blind}
use Rattle.rule_laws.proofs.Belonging.{set_has-set_of}
use Rattle.rule_laws.proofs.Cases.{itself_takes, upper_of_lower}
use Rattle.text_core.proofs.Suffixes.{IsSingle, fits_single}

-- an item takes both bytes or neither if they are equal apart from their case
abbrev Ignores : Item → Type 0
Ignores x = (b c : ℕ) → b < 256 → c < 256 → eq_ignore_ascii_case b c ≡ true → takes x b ≡ takes x c

byte_ignores : (d : ℕ) → Ignores (itself Blind d)
byte_ignores d b c p q e =
    itself_takes d b p ∙ ap (λ (n : ℕ). eqb (to_ascii_lowercase d) n) (eqb-true (to_ascii_lowercase b) (to_ascii_lowercase c) e) ∙ sym (itself_takes d c q)

has_same : (members : List ℕ) (b c : ℕ) → eq_ignore_ascii_case b c ≡ true → members_have_by Blind members b ≡ members_have_by Blind members c
has_same members b c e =
    let lower : to_ascii_lowercase b ≡ to_ascii_lowercase c = eqb-true (to_ascii_lowercase b) (to_ascii_lowercase c) e in
    let upper : to_ascii_uppercase b ≡ to_ascii_uppercase c = sym (upper_of_lower b) ∙ ap to_ascii_uppercase lower ∙ upper_of_lower c in
    ap (λ (n : ℕ). members_have members n || members_have members (to_ascii_uppercase b)) lower
    ∙ ap (λ (n : ℕ). members_have members (to_ascii_lowercase c) || members_have members n) upper

set_ignores : (negated : Bool) (members : List ℕ) → Ignores (Among (set_of (set_takes Blind negated members)))
set_ignores negated members b c p q e =
    set_has-set_of (set_takes Blind negated members) b p
    ∙ ap (λ (v : Bool). cond negated (not v) v) (has_same members b c e)
    ∙ sym (set_has-set_of (set_takes Blind negated members) c q)

one_itself : (d : ℕ) → IsSingle (itself Blind d)
one_itself d = by_letter (is_ascii_alphabetic d) where
  by_letter : (v : Bool) → IsSingle (cond v (Among (set_of (set_takes Blind false (d ∷ [])))) (Byte d))
  by_letter true = tt
  by_letter false = tt

-- items after an item
single_same : (x : Item) (items : List Item) → IsSingle x → Ignores x → ((u v : List ℕ) → SameButCase u v → fits items u ≡ fits items v)
    → (u v : List ℕ) → SameButCase u v → fits (x ∷ items) u ≡ fits (x ∷ items) v
single_same x items s i again [] [] same = refl
single_same x items s i again [] (c ∷ v) same = absurd same
single_same x items s i again (b ∷ u) [] same = absurd same
single_same x items s i again (b ∷ u) (c ∷ v) same =
    fits_single x items b u s
    ∙ ap (λ (w : Bool). w && fits items u) (i b c same.0.0 same.0.1 same.0.2)
    ∙ ap (λ (w : Bool). takes x c && w) (again u v same.1)
    ∙ sym (fits_single x items c v s)

suffix_same : (p : List ℕ → Bool) → ((u v : List ℕ) → SameButCase u v → p u ≡ p v) → (u v : List ℕ) → SameButCase u v → some_suffix p u ≡ some_suffix p v
suffix_same p again [] [] same = refl
suffix_same p again [] (c ∷ v) same = absurd same
suffix_same p again (b ∷ u) [] same = absurd same
suffix_same p again (b ∷ u) (c ∷ v) same =
    ap (λ (w : Bool). w || some_suffix p u) (again (b ∷ u) (c ∷ v) same)
    ∙ ap (λ (w : Bool). p (c ∷ v) || w) (suffix_same p again u v same.1)

nothing_same : (u v : List ℕ) → SameButCase u v → fits [] u ≡ fits [] v
nothing_same [] [] same = refl
nothing_same [] (c ∷ v) same = absurd same
nothing_same (b ∷ u) [] same = absurd same
nothing_same (b ∷ u) (c ∷ v) same = refl

pieces_same : (pieces : List Piece) (u v : List ℕ) → SameButCase u v → fits (map (item_of Blind) pieces) u ≡ fits (map (item_of Blind) pieces) v
pieces_same [] = nothing_same
pieces_same (many ∷ pieces) = suffix_same (fits (map (item_of Blind) pieces)) (pieces_same pieces)
pieces_same (one ∷ pieces) = single_same One (map (item_of Blind) pieces) tt (λ b c p q e. refl) (pieces_same pieces)
pieces_same (set sign members ∷ pieces) =
    single_same (item_of Blind (set sign members)) (map (item_of Blind) pieces) tt (set_ignores (negates sign) members) (pieces_same pieces)
pieces_same (byte d ∷ pieces) = single_same (itself Blind d) (map (item_of Blind) pieces) (one_itself d) (byte_ignores d) (pieces_same pieces)

pub spelled_same : (t : List ℕ) (items : List Item) → Spells Blind t items → (u v : List ℕ) → SameButCase u v → fits items u ≡ fits items v
spelled_same t items s u v same =
    ap (λ (xs : List Item). fits xs u) s.meant ∙ pieces_same s.pieces u v same ∙ sym (ap (λ (xs : List Item). fits xs v) s.meant)
