use Rattle.std.proofs.Common.{◌≡◌, ◌∷◌, drop, flat_map, map}
use Rattle.text_bytes.specs.Names.{space}
use Rattle.text_bytes.specs.Steps.{grown}
use Rattle.text_bytes.specs.Underscores.{underscored}
use Rattle.eval_rendering.specs.Words.{spaced}
use Rattle.eval_rendering.proofs.spaced_words.spaced_word.Given as goal

abbrev pub invariant-loop-text : goal.invariant-loop-text
invariant-loop-text l = grown l.word (flat_map (λ t. space ∷ t.items) (drop l.text-index l.texts)) ≡ underscored (spaced (map (λ t. t.items) l.texts))
