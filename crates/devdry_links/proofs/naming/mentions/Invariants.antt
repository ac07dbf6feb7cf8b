use Rattle.std.proofs.Common.{◌≡◌, length}
use Rattle.devdry_links.specs.Naming.{mentions}
use Rattle.devdry_links.proofs.naming.mentions.Given as goal

-- the rest has the key just if all has it
abbrev pub invariant-loop-after : goal.invariant-loop-after
invariant-loop-after l = mentions l.rest ≡ mentions l.text

abbrev pub decreases-loop-after : goal.decreases-loop-after
decreases-loop-after l = length l.rest
