-- Names with values in their order, and what becomes of them as a name is set or removed. Values
-- are texts, or of any other kind.
use Rattle.std.specs.Prelude.{◌≡◌, ℕ, Bool, not, List, [], ◌∷◌, Option, Some, None, if◌then◌else◌, filter, fold, map, take}
use Rattle.std.specs.List.{list_any}
use Rattle.text_bytes.specs.Text.{Text}
use Rattle.text_tables.specs.Texts.{same_text}

-- two texts, as a name and its value
abbrev pub Pair : Type 0
Pair = Text × Text

module _ {V : Type 0} where
  -- the names
  abbrev pub names : List (Text × V) → List Text
  names pairs = map (λ pair. pair.0) pairs

  -- whether a name has a value
  abbrev pub named : List (Text × V) → Text → Bool
  named pairs name = list_any (λ pair. same_text name pair.0) pairs

  -- the value of a name, the first one
  abbrev pub value_of : List (Text × V) → Text → Option V
  value_of [] name = None
  value_of (pair ∷ pairs) name = if same_text name pair.0 then Some pair.1 else value_of pairs name

  -- a name that is there takes the value in its place, another one is added at the end
  abbrev pub with_value : List (Text × V) → Text → V → List (Text × V)
  with_value [] name value = (name, value) ∷ []
  with_value (pair ∷ pairs) name value = if same_text name pair.0 then (pair.0, value) ∷ pairs else pair ∷ with_value pairs name value

  -- each of these names takes its value, one after another
  abbrev pub with_values : List (Text × V) → List (Text × V) → List (Text × V)
  with_values pairs more = fold (λ held pair. with_value held pair.0 pair.1) pairs more

  -- the first so many of these names take their values, and the others do not
  abbrev pub SetsFirst : List (Text × V) → List (Text × V) → List (Text × V) → Type 0
  SetsFirst pairs more new = (n : ℕ) × (new ≡ with_values pairs (take n more))

  -- all but this name
  abbrev pub without_name : List (Text × V) → Text → List (Text × V)
  without_name pairs name = filter (λ pair. not (same_text name pair.0)) pairs
