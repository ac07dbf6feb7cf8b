-- For contracts of inner functions only: what they return, compared with what reading gives.
use Rattle.std.specs.Prelude.{◌≡◌, Result, Ok, Err}
use Rattle.text_bytes.specs.Text.{Text}
use Rattle.file_messages.specs.declared.message.MessageKind.{MessageKind}
use Rattle.text_core.specs.declared.glob_fault.GlobFault.{GlobFault}
use Rattle.text_core.specs.declared.glob_fault.GlobFault.TheVariants as glob
use Rattle.rule_parts.specs.Faults.{FaultOf}
use Rattle.rule_parts.specs.Values.{choice_fault, finding}
use Rattle.rule_parts.specs.declared.finding.Finding.{Finding}
use Rattle.rule_parts.specs.declared.finding.PartFault.{PartFault}
use Rattle.rule_parts.specs.declared.finding.PartFault.TheVariants.{Wrong, Memory}

-- A finding has this kind and this word; about out of memory nothing is said.
abbrev pub Reports : MessageKind → Text → PartFault → Type 0
Reports kind word (Wrong found) = found ≡ finding kind word
Reports kind word Memory = Unit {0}

-- A finding says why a text is not a choice; out of memory stays out of memory.
abbrev pub ReportsOf : GlobFault → Text → PartFault → Type 0
ReportsOf (glob.Class at) text answered = Reports (choice_fault (glob.Class at)) text answered
ReportsOf glob.TooLong text answered = Reports (choice_fault glob.TooLong) text answered
ReportsOf glob.Memory text answered = answered ≡ Memory

-- What was returned is what reading gives, or a fault that agrees with it.
abbrev pub Gives : {A : Type 0} → Result A PartFault → Result A Finding → Type 0
Gives (Ok x) read = read ≡ Ok x
Gives (Err fault) read = FaultOf fault read
