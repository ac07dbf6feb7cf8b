use Rattle.std.proofs.Common.{◌≡◌, ◌++◌, drop}
use Rattle.engine_core.specs.Mending.{changed_names}
use Rattle.engine_core.proofs.mending.changed_names.Given as goal

abbrev pub invariant-loop-file : goal.invariant-loop-file
invariant-loop-file l = l.names.items ++ changed_names (drop l.file-index l.files) ≡ changed_names l.files
