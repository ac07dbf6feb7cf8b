-- Elements that are merged with others by the lines with which they are reported.
use Rattle.std.specs.Prelude.{ℕ, nat_lt, List, [], ◌∷◌, ◌++◌}
use Rattle.std.specs.List.{take_while}
use Rattle.text_bytes.specs.Texts.{skip_while}

-- those at the front that are reported for lines before one
abbrev pub before : {X : Type 0} → (X → ℕ) → List X → ℕ → List X
before line_of xs line = take_while (λ x. nat_lt (line_of x) line) xs

-- what follows these
abbrev pub from_line : {X : Type 0} → (X → ℕ) → List X → ℕ → List X
from_line line_of xs line = skip_while (λ x. nat_lt (line_of x) line) xs

-- elements with others merged in by line: each of the others comes after all elements for its line or for one before
-- it
abbrev pub by_line : {X : Type 0} → (X → ℕ) → List X → List X → List X
by_line line_of [] others = others
by_line line_of (x ∷ xs) others = before line_of others (line_of x) ++ x ∷ by_line line_of xs (from_line line_of others (line_of x))
