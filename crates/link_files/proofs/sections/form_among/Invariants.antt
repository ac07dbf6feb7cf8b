use Rattle.std.proofs.Common.{◌≡◌, drop, map}
use Rattle.link_files.specs.Keys.{form_among}
use Rattle.link_files.proofs.sections.form_among.Given as goal

abbrev pub invariant-loop-known : goal.invariant-loop-known
invariant-loop-known l =
    form_among (map (λ known. (known.0.now, known.1)) (drop l.known-index l.keys)) l.key ≡ form_among (map (λ known. (known.0.now, known.1)) l.keys) l.key
