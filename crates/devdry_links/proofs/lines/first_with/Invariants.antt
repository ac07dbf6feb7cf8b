use Rattle.std.proofs.Common.{◌≡◌, find}
use Rattle.devdry_links.specs.Notes.{first_with}
use Rattle.devdry_links.specs.Unseen.{is_in}
use Rattle.devdry_links.proofs.lines.first_with.Given as goal

abbrev pub invariant-loop-line : goal.invariant-loop-line
invariant-loop-line l = find (λ line. is_in l.unseen line.text) l.line-iterator ≡ first_with l.unseen l.bytes
