use Rattle.std.proofs.Common.{◌≡◌, take, max, fold}
use Rattle.engine_courses.proofs.unused.lines.greatest.Given as goal

abbrev pub invariant-loop-count : goal.invariant-loop-count
invariant-loop-count l = l.most ≡ fold max 0 (take l.count-index l.counts)
