-- Texts as one word.
use Rattle.std.proofs.Common.{◌≡◌, ℕ, true, false, List, [], ◌∷◌, flat_map}
use Rattle.text_bytes.specs.Names.{space}
use Rattle.text_bytes.specs.Steps.{added}
use Rattle.text_bytes.specs.Underscores.{underscored}
use Rattle.text_bytes.proofs.JoinedWords.{added_first}
use Rattle.eval_rendering.specs.Words.{spaced}

-- texts with a space before each are the same word as with one between each two
pub spaced_first : (texts : List (List ℕ)) → added true false (flat_map (λ text. space ∷ text) texts) ≡ underscored (spaced texts)
spaced_first [] = added_first false []
spaced_first (text ∷ texts) = added_first false (spaced (text ∷ texts))
