use Rattle.std.proofs.Common.{◌≡◌, true, drop}
use Rattle.device_core.specs.Parts.{names_follow}
use Rattle.device_core.proofs.parts.names_follow.Given as goal

abbrev pub invariant-loop-b : goal.invariant-loop-b
invariant-loop-b l = names_follow l.after_slash (drop l.b-index l.text) ≡ names_follow true l.text
