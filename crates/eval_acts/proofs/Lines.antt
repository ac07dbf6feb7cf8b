-- Properties that lines give, set one after another.
use Rattle.std.proofs.Common.{◌≡◌, List, [], ◌∷◌, Option, Some, None, refl}
use Rattle.std.specs.List.{cons_option, filter_map}
use Rattle.text_bytes.specs.Text.{Text}
use Rattle.text_tables.specs.Pairs.{Pair}
use Rattle.eval_state.specs.Properties.{properties_set}
use Rattle.eval_acts.specs.Printed.{line_property}

by_line : (env : List Pair) (found : Option Pair) (more : List Pair) → properties_set (properties_set env (cons_option found [])) more ≡ properties_set env (cons_option found more)
by_line env None more = refl
by_line env (Some property) more = refl

-- those of a line, and then those of the lines after it
pub set_more : (env : List Pair) (line : Text) (lines : List Text)
    → properties_set (properties_set env (filter_map line_property (line ∷ []))) (filter_map line_property lines) ≡ properties_set env (filter_map line_property (line ∷ lines))
set_more env line lines = by_line env (line_property line) (filter_map line_property lines)
