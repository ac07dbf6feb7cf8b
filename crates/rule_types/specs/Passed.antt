-- Serves inner proofs only: how many rules each jump skips.
use Rattle.std.specs.Prelude.{ℕ, not, List, [], ◌∷◌, Option, Some, None}
use Rattle.std.specs.List.{prefix_len}
use Rattle.text_bytes.specs.Text.{Text}
use Rattle.rule_types.specs.Jumps.{is_named}
use Rattle.rule_types.specs.Rules.{Rule}

-- how many of the rules below it a jump skips: those before the first with the label; no jump skips none
abbrev pub over : Option Text → List Rule → ℕ
over None below = 0
over (Some name) below = prefix_len (λ r. not (is_named name r.label)) below

-- how many rules the jump of each rule skips
abbrev pub skipped : List Rule → List ℕ
skipped [] = []
skipped (r ∷ below) = over r.goto below ∷ skipped below
