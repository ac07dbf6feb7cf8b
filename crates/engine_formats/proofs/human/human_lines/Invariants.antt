use Rattle.std.proofs.Common.{◌≡◌, take, map, flat_map}
use Rattle.engine_formats.specs.Diagnostics.{shown}
use Rattle.engine_formats.specs.Human.{human_lines}
use Rattle.engine_formats.proofs.human.human_lines.Given as goal

abbrev pub invariant-loop-diagnostic : goal.invariant-loop-diagnostic
invariant-loop-diagnostic l = l.text.items ≡ flat_map (human_lines l.in_color) (map shown (take l.diagnostic-index l.diagnostics))
