use Rattle.std.proofs.Common.{◌≡◌, ◌++◌, flat_map, take}
use Rattle.devdry_links.specs.Reading.{line_on_link}
use Rattle.devdry_links.proofs.reading.push_lines.Given as goal

abbrev pub invariant-loop-link : goal.invariant-loop-link
invariant-loop-link l = l.lines.items ≡ l.initial.lines.items ++ flat_map (line_on_link l.root) (take l.link-index l.links)
