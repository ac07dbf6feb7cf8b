use Rattle.std.proofs.Common.{◌≡◌, map}
use Rattle.engine_formats.specs.Diagnostics.{shown}
use Rattle.engine_checks.specs.Links.{link_diagnostic}
use Rattle.engine_checks.proofs.link_faults.link_diagnostics.Given as goal

abbrev pub invariant-loop-fault : goal.invariant-loop-fault
invariant-loop-fault l = map shown l.found.items ≡ map (link_diagnostic l.file) l.yielded
