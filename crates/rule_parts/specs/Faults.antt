-- How a fault that was returned agrees with what reading gives.
use Rattle.std.specs.Prelude.{◌≡◌, Result, Err}
use Rattle.rule_parts.specs.declared.finding.Finding.{Finding}
use Rattle.rule_parts.specs.declared.finding.PartFault.{PartFault}
use Rattle.rule_parts.specs.declared.finding.PartFault.TheVariants.{Wrong, Memory}

-- A finding is what reading gives; about out of memory nothing is said.
abbrev pub FaultOf : {A : Type 0} → PartFault → Result A Finding → Type 0
FaultOf (Wrong found) read = read ≡ Err found
FaultOf Memory read = Unit {0}
