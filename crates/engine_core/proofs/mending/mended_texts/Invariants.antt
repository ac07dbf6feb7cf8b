use Rattle.std.proofs.Common.{◌≡◌, ◌++◌, drop}
use Rattle.engine_core.specs.Mending.{mended_texts}
use Rattle.engine_core.proofs.mending.mended_texts.Given as goal

abbrev pub invariant-loop-file : goal.invariant-loop-file
invariant-loop-file l = l.texts.items ++ mended_texts (drop l.file-index l.files) ≡ mended_texts l.files
