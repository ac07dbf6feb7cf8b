use Rattle.std.proofs.Common.{false, true}
use Rattle.std.proofs.lemmas.List.Elements.{recursion_from_All}
use Rattle.engine_formats.specs.Readers.{HasPlace}
use Rattle.engine_formats.proofs.Counted.{gcc_counted, github_counted, human_counted, plain_counted}
use Rattle.engine_formats.proofs.laws.diagnostics_have_their_lines.Goals as goal

pub returns-clause-plain : goal.returns-clause-plain
returns-clause-plain c diagnostics placed = plain_counted diagnostics (recursion_from_All HasPlace diagnostics placed)

pub returns-clause-gcc : goal.returns-clause-gcc
returns-clause-gcc c diagnostics placed = gcc_counted diagnostics (recursion_from_All HasPlace diagnostics placed)

pub returns-clause-github : goal.returns-clause-github
returns-clause-github c diagnostics placed = github_counted diagnostics (recursion_from_All HasPlace diagnostics placed)

pub returns-clause-human : goal.returns-clause-human
returns-clause-human c diagnostics placed = human_counted false diagnostics (recursion_from_All HasPlace diagnostics placed)

pub returns-clause-in_color : goal.returns-clause-in_color
returns-clause-in_color c diagnostics placed = human_counted true diagnostics (recursion_from_All HasPlace diagnostics placed)
