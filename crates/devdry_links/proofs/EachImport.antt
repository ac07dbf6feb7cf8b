-- The path of each act that imports a file is among those of the rules.
use Rattle.std.proofs.Common.{◌≡◌, ◌++◌, ◌∷◌, [], ◌<◌, ℕ, zero, suc, Contains, List, Option, Some, arith, flat_map, get_or, length, refl, subst, sym}
use Rattle.std.proofs.lemmas.List.Elements.{Contains-append_left, Contains-append_right}
use Rattle.std.specs.Option.{option_to_list}
use Rattle.text_bytes.specs.Text.{Text}
use Rattle.rule_types.specs.Rules.{Rule}
use Rattle.rule_types.specs.declared.part.Act.{Act}
use Rattle.devdry_links.specs.Naming.{path_of_kind, paths_of}

-- what one of these gives is among what all give
from_one : {X Y : Type 0} (f : X → List Y) (xs : List X) (x : X) (y : Y) (k : ℕ) → k < length xs → get_or xs k x ≡ x → Contains (f x) y → Contains (flat_map f xs) y
from_one f [] x y k l e h = absurd (omega (arith, l))
from_one f (z ∷ xs) x y zero l e h = Contains-append_left (f z) (flat_map f xs) y (subst (λ w. Contains (f w) y) (sym e) h)
from_one f (z ∷ xs) x y (suc k) l e h = Contains-append_right (f z) (flat_map f xs) y (from_one f xs x y k (omega (arith, l)) e h)

-- what may be there is there
there : {Y : Type 0} (found : Option Y) (y : Y) → found ≡ Some y → Contains (option_to_list found) y
there found y e = subst (λ it. Contains (option_to_list it) y) (sym e) (0, omega arith, refl)

pub each_is_named : (rules : List Rule) (rule : Rule) (act : Act) (path : Text) → Contains rules rule → Contains rule.acts act
    → path_of_kind act.kind ≡ Some path → Contains (paths_of rules) path
each_is_named rules rule act path in_rules in_acts e =
    from_one (λ r. flat_map (λ a. option_to_list (path_of_kind a.kind)) r.acts) rules rule path in_rules.0 in_rules.1 in_rules.2
    (from_one (λ a. option_to_list (path_of_kind a.kind)) rule.acts act path in_acts.0 in_acts.1 in_acts.2 (there (path_of_kind act.kind) path e))
