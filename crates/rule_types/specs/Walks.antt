-- Serves inner proofs only: what the pass over rules keeps.
use Rattle.std.specs.Prelude.{ℕ, ◌-◌, List, Option, Some, None}
use Rattle.text_bytes.specs.Text.{Text}
use Rattle.text_tables.specs.Pairs.{value_of, with_value}

-- how many of these rules a jump skips, by how many are below the rule with its label
abbrev pub over_to : Option ℕ → ℕ → ℕ
over_to None below = below
over_to (Some following) below = below - following - 1

-- how many rules a jump skips, by the labels met
abbrev pub over_met : List (Text × ℕ) → Option Text → ℕ → ℕ
over_met labels None below = 0
over_met labels (Some name) below = over_to (value_of labels name) below

-- labels with that of one more rule, if it has one
abbrev pub with_label : List (Text × ℕ) → Option Text → ℕ → List (Text × ℕ)
with_label labels None below = labels
with_label labels (Some name) below = with_value labels name below
