-- No part is lost.
use Rattle.std.proofs.Common.{List, [], ◌∷◌, arith}
use Rattle.rule_types.specs.declared.part.Part.{Part}
use Rattle.rule_types.specs.declared.part.Part.TheVariants as part
use Rattle.rule_core.specs.Laws.{NoneIsLost}

pub none_is_lost : (parts : List Part) → NoneIsLost parts
none_is_lost [] = omega arith
none_is_lost (part.Plain m ∷ parts) = let e : NoneIsLost parts = none_is_lost parts in omega arith
none_is_lost (part.Up m ∷ parts) = let e : NoneIsLost parts = none_is_lost parts in omega arith
none_is_lost (part.Act a ∷ parts) = let e : NoneIsLost parts = none_is_lost parts in omega arith
none_is_lost (part.Result c ∷ parts) = let e : NoneIsLost parts = none_is_lost parts in omega arith
none_is_lost (part.Set a ∷ parts) = let e : NoneIsLost parts = none_is_lost parts in omega arith
none_is_lost (part.Label name ∷ parts) = let e : NoneIsLost parts = none_is_lost parts in omega arith
none_is_lost (part.Goto name ∷ parts) = let e : NoneIsLost parts = none_is_lost parts in omega arith
