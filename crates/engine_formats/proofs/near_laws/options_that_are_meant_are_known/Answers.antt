use Rattle.std.proofs.Common.{◌≡◌, ◌++◌, [], ◌∷◌, codes, refl, true}
use Rattle.std.specs.List.{list_any}
use Rattle.std.proofs.lemmas.List.Elements.{All-from_recursion}
use Rattle.rule_parts.specs.Options.{is_known_option}
use Rattle.engine_formats.specs.Meant.{option_names}
use Rattle.engine_formats.proofs.near_laws.options_that_are_meant_are_known.Goals as goal

pub returns : goal.returns
returns c =
    All-from_recursion (λ name. list_any (λ value. is_known_option (name ++ value)) ([] ∷ codes "=" ∷ codes "=none" ∷ []) ≡ true) option_names
    (refl, (refl, (refl, (refl, (refl, (refl, (refl, tt)))))))
