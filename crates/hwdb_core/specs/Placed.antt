-- Lints with their places.
use Rattle.std.specs.Prelude.{ℕ, ◌+◌, ◌-◌, Bool, if◌then◌else◌, List, [], ◌∷◌, length, Option, Some, None}
use Rattle.text_bytes.specs.Numbers.{capped}
use Rattle.text_bytes.specs.Text.{Text}
use Rattle.hwdb_core.specs.declared.lint.DatabaseLint.{DatabaseLint}
use Rattle.hwdb_core.specs.declared.placed_lint.PlacedLint.{PlacedLint}

-- a lint that is reported for a text of the line with a number, before which so many bytes come
abbrev pub placed : ℕ → DatabaseLint → ℕ → Text → PlacedLint
placed number lint start word = record {
  line = capped number;
  column = capped (start + 1);
  end = capped (start + length word + 1);
  lint = lint;
  word = word;
}

-- a lint, if it is reported
abbrev pub reported_if : Bool → PlacedLint → List PlacedLint
reported_if holds lint = if holds then lint ∷ [] else []

-- the lint of a text that begins its line, if it has one
abbrev pub reported : ℕ → Text → Option DatabaseLint → List PlacedLint
reported number text None = []
reported number text (Some lint) = placed number lint 0 text ∷ []

-- a lint of the end of a text that begins its line, if there is such an end
abbrev pub suffix_reported : ℕ → DatabaseLint → Text → Option Text → List PlacedLint
suffix_reported number lint text None = []
suffix_reported number lint text (Some suffix) = placed number lint (length text - length suffix) suffix ∷ []
