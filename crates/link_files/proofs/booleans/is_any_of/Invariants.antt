use Rattle.std.proofs.Common.{◌≡◌, drop, map}
use Rattle.link_files.specs.Booleans.{is_any_of}
use Rattle.link_files.proofs.booleans.is_any_of.Given as goal

abbrev pub invariant-loop-other : goal.invariant-loop-other
invariant-loop-other l = is_any_of (map (λ word. word.now) (drop l.other-index l.words)) l.word ≡ is_any_of (map (λ word. word.now) l.words) l.word
