use Rattle.std.proofs.Common.{◌≡◌, drop, map}
use Rattle.link_files.specs.Matching.{gives_any}
use Rattle.link_files.proofs.matching.gives_any.Given as goal

abbrev pub invariant-loop-key : goal.invariant-loop-key
invariant-loop-key l = gives_any (map (λ key. key.now) (drop l.key-index l.keys)) l.settings ≡ gives_any (map (λ key. key.now) l.keys) l.settings
