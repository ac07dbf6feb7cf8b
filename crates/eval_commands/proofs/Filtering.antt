-- Without a filter each property counts.
use Rattle.std.proofs.Common.{◌≡◌, List, [], ◌∷◌, filter, refl, ap}
use Rattle.std.specs.Prelude.{None}
use Rattle.text_tables.specs.Pairs.{Pair}
use Rattle.eval_commands.specs.LookUps.{counts}

pub all_count : (properties : List Pair) → properties ≡ filter (λ property. counts None property.0) properties
all_count [] = refl
all_count (property ∷ properties) = ap (λ more. property ∷ more) (all_count properties)
