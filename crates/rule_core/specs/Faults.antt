-- How a fault that was returned agrees with what reading a line gives.
use Rattle.std.specs.Prelude.{◌≡◌, Result, Err}
use Rattle.file_messages.specs.declared.message.MessageKind.{MessageKind}
use Rattle.rule_core.specs.declared.line_fault.LineFault.{LineFault}
use Rattle.rule_core.specs.declared.line_fault.LineFault.TheVariants.{Wrong, Memory}
use Rattle.rule_types.specs.declared.spot.Spot.{Spot}

-- A finding is what reading gives; about out of memory nothing is said.
abbrev pub FaultOf : {A : Type 0} → LineFault → Result A (Spot MessageKind) → Type 0
FaultOf (Wrong found) read = read ≡ Err found
FaultOf Memory read = Unit {0}
