use Rattle.std.proofs.Common.{◌≡◌, ◌++◌, drop, map}
use Rattle.std.specs.List.{concat}
use Rattle.builtin_path.proofs.texts.concatenated.Given as goal

abbrev pub invariant-loop-text : goal.invariant-loop-text
invariant-loop-text l = l.whole.items ++ concat (map (λ t. t.now) (drop l.text-index l.texts)) ≡ concat (map (λ t. t.now) l.texts)
