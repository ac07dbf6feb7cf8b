use Rattle.std.proofs.Common.{◌≡◌, take, map, flat_map}
use Rattle.engine_formats.specs.Diagnostics.{shown}
use Rattle.engine_formats.specs.Lines.{plain_line}
use Rattle.engine_formats.proofs.plain.plain_lines.Given as goal

abbrev pub invariant-loop-diagnostic : goal.invariant-loop-diagnostic
invariant-loop-diagnostic l = l.text.items ≡ flat_map plain_line (map shown (take l.diagnostic-index l.diagnostics))
