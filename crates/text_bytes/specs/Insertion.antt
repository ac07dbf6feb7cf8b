-- Putting elements in their places among others, of which each has a text and no two the same.
use Rattle.std.specs.Prelude.{List, ◌∷◌, []}
use Rattle.std.specs.Cmp.Lexicographic.{slice_cmp}
use Rattle.std.specs.Ordering.{match_ordering, nat_cmp}
use Rattle.std.specs.declared.cmp.Ordering.{Ordering}
use Rattle.text_bytes.specs.Text.{Text}

-- how a text compares with another, byte by byte: a text comes before a longer one that begins with it
abbrev pub text_order : Text → Text → Ordering
text_order text other = slice_cmp nat_cmp text other

-- an element in its place among others that are sorted by their texts; of the two with one text the winner stays
abbrev pub put_by : {X : Type 0} → (X → Text) → (X → X → X) → List X → X → List X
put_by text winner [] new = new ∷ []
put_by text winner (x ∷ xs) new =
    match_ordering (text_order (text x) (text new)) (x ∷ put_by text winner xs new) (winner x new ∷ xs) (new ∷ x ∷ xs)
