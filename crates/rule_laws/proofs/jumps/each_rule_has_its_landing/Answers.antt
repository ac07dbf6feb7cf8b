use Rattle.std.proofs.Common.{List, sym, subst}
use Rattle.rule_laws.specs.Landings.{AreLandings}
use Rattle.rule_types.specs.declared.jumps.Landing.{Landing}
use Rattle.rule_laws.proofs.Placed.{are_landings, only_landings}
use Rattle.rule_laws.proofs.jumps.each_rule_has_its_landing.Goals as goal

pub returns : goal.returns
returns c = λ rules found. (only_landings rules found, λ same. subst (λ (ls : List Landing). AreLandings rules ls) (sym same) (are_landings rules))
