-- What the texts that fit a pattern say of its items.
use Rattle.std.proofs.Common.{◌≡◌, ℕ, ◌==◌, Bool, true, ◌&&◌, nat_le, List, [], ◌∷◌, refl, subst, ◌↔◌, inl, inr, ◌⊎◌}
use Rattle.std.proofs.lemmas.Bool.{and_parts, or_cases, or_left, or_right, eqb-true, false≢true}
use Rattle.std.specs.List.{list_all, list_any}
use Rattle.text_core.specs.Fits.{fits, some_suffix}
use Rattle.text_core.specs.Items.{takes}
use Rattle.text_core.specs.declared.item.Item.{Item}
use Rattle.text_core.specs.declared.item.Item.TheVariants.{Byte, One, Many, Among}
use Rattle.rule_lints.specs.Laws.{has_capital}
use Rattle.rule_lints.specs.LetterCase.{is_capital, is_many}
use Rattle.rule_lints.specs.Patterns.{take_all}

-- the empty suffix is one of a text
some_suffix_end : (p : List ℕ → Bool) (t : List ℕ) → p [] ≡ true → some_suffix p t ≡ true
some_suffix_end p [] e = e
some_suffix_end p (b ∷ t) e = or_right (p (b ∷ t)) (some_suffix p t) (some_suffix_end p t e)

many_fit_nothing : (items : List Item) → list_all is_many items ≡ true → fits items [] ≡ true
many_fit_nothing [] h = refl
many_fit_nothing (Many ∷ items) h = many_fit_nothing items h
many_fit_nothing (Byte b ∷ items) h = absurd (false≢true h)
many_fit_nothing (One ∷ items) h = absurd (false≢true h)
many_fit_nothing (Among set ∷ items) h = absurd (false≢true h)

fit_all : (items : List Item) → take_all items ≡ true → (t : List ℕ) → fits items t ≡ true
fit_all [] h t = absurd (false≢true h)
fit_all (Many ∷ items) h t = some_suffix_end (fits items) t (many_fit_nothing items h)
fit_all (Byte b ∷ items) h t = absurd (false≢true h)
fit_all (One ∷ items) h t = absurd (false≢true h)
fit_all (Among set ∷ items) h t = absurd (false≢true h)

nothing_fits_many : (items : List Item) → fits items [] ≡ true → list_all is_many items ≡ true
nothing_fits_many [] h = refl
nothing_fits_many (Many ∷ items) h = nothing_fits_many items h
nothing_fits_many (Byte b ∷ items) h = absurd (false≢true h)
nothing_fits_many (One ∷ items) h = absurd (false≢true h)
nothing_fits_many (Among set ∷ items) h = absurd (false≢true h)

all_from_fits : (items : List Item) → ((t : List ℕ) → fits items t ≡ true) → take_all items ≡ true
all_from_fits [] h = absurd (false≢true (h (0 ∷ [])))
all_from_fits (item ∷ items) h = nothing_fits_many (item ∷ items) (h [])

pub any_text_fits : (items : List Item) → (take_all items ≡ true) ↔ ((t : List ℕ) → fits items t ≡ true)
any_text_fits items = (fit_all items, all_from_fits items)

-- what holds for some suffix of a text, if it says that the suffix has a capital letter
in_suffix : (p : List ℕ → Bool) → ((t : List ℕ) → p t ≡ true → has_capital t ≡ true) → (t : List ℕ) → some_suffix p t ≡ true → has_capital t ≡ true
in_suffix p f [] e = f [] e
in_suffix p f (b ∷ t) e = by (or_cases (p (b ∷ t)) (some_suffix p t) e) (λ g. in_suffix p f t g)
  where
    by : (p (b ∷ t) ≡ true) ⊎ (some_suffix p t ≡ true) → (some_suffix p t ≡ true → has_capital t ≡ true) → has_capital (b ∷ t) ≡ true
    by (inl g) more = f (b ∷ t) g
    by (inr g) more = or_right (nat_le 65 b && nat_le b 90) (has_capital t) (more g)

-- a pattern with a capital letter fits no text without one
pub capital_kept : (items : List Item) (t : List ℕ) → list_any is_capital items ≡ true → fits items t ≡ true → has_capital t ≡ true
capital_kept [] t h e = absurd (false≢true h)
capital_kept (Many ∷ items) t h e = in_suffix (fits items) (λ s g. capital_kept items s h g) t e
capital_kept (Byte c ∷ items) [] h e = absurd (false≢true e)
capital_kept (One ∷ items) [] h e = absurd (false≢true e)
capital_kept (Among set ∷ items) [] h e = absurd (false≢true e)
capital_kept (One ∷ items) (b ∷ t) h e = or_right (nat_le 65 b && nat_le b 90) (has_capital t) (capital_kept items t h e)
capital_kept (Among set ∷ items) (b ∷ t) h e =
    let both = and_parts (takes (Among set) b) (fits items t) e in
    or_right (nat_le 65 b && nat_le b 90) (has_capital t) (capital_kept items t h both.1)
capital_kept (Byte c ∷ items) (b ∷ t) h e =
    let both = and_parts (c == b) (fits items t) e in
    by both.0 (or_cases (nat_le 65 c && nat_le c 90) (list_any is_capital items) h) (λ g. capital_kept items t g both.1)
  where
    by : (c == b) ≡ true → ((nat_le 65 c && nat_le c 90) ≡ true) ⊎ (list_any is_capital items ≡ true) → (list_any is_capital items ≡ true → has_capital t ≡ true) → has_capital (b ∷ t) ≡ true
    by same (inl g) more = or_left (nat_le 65 b && nat_le b 90) (has_capital t) (subst (λ (x : ℕ). (nat_le 65 x && nat_le x 90) ≡ true) (eqb-true c b same) g)
    by same (inr g) more = or_right (nat_le 65 b && nat_le b 90) (has_capital t) (more g)
