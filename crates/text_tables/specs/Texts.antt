-- Texts in their order, and what becomes of them as one is added or removed.
use Rattle.std.specs.Prelude.{◌≡◌, ℕ, Bool, not, List, [], ◌∷◌, ◌++◌, if◌then◌else◌, nat_eq, filter, fold, take}
use Rattle.std.specs.Cmp.Lexicographic.{pointwise}
use Rattle.std.specs.List.{list_any, IsDistinct}
use Rattle.text_bytes.specs.Text.{Text}

-- whether two texts have the same bytes
abbrev pub same_text : Text → Text → Bool
same_text a b = pointwise nat_eq a b

-- whether a text is one of these
abbrev pub is_among : List Text → Text → Bool
is_among texts text = list_any (same_text text) texts

-- no text is there twice
abbrev pub AreOnce : List Text → Type 0
AreOnce texts = IsDistinct same_text texts

-- a text that is there stays where it is, another one is added at the end
abbrev pub with_text : List Text → Text → List Text
with_text texts text = if is_among texts text then texts else texts ++ text ∷ []

-- each of these is added, one after another
abbrev pub with_texts : List Text → List Text → List Text
with_texts texts more = fold with_text texts more

-- the first so many of these are added, and the others are not
abbrev pub AddsFirst : List Text → List Text → List Text → Type 0
AddsFirst texts more new = (n : ℕ) × (new ≡ with_texts texts (take n more))

-- all but this text
abbrev pub without_text : List Text → Text → List Text
without_text texts text = filter (λ other. not (same_text text other)) texts
