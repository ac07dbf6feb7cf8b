use Rattle.std.proofs.Common.{◌++◌, ◌∷◌, ◌∙◌, true, false, flat_map, map, ap}
use Rattle.text_bytes.specs.Names.{space}
use Rattle.text_bytes.specs.Texts.{is_empty}
use Rattle.text_bytes.specs.Steps.{added}
use Rattle.eval_rendering.proofs.Joining.{others_seen}
use Rattle.eval_rendering.proofs.SpacedWords.{spaced_first}
use Rattle.eval_rendering.proofs.spaced_words.spaced_word.Goals as goal

pub loop-text-init : goal.loop-text-init
loop-text-init c =
    let texts = flat_map (λ t. space ∷ t.items) c.args.texts.now in
    ap (λ word. word ++ added (is_empty word) c.new-word.result.gap texts) c.new-word.ensures.bytes
    ∙ ap (λ gap. added true gap texts) c.new-word.ensures.gap
    ∙ ap (added true false) (others_seen (λ t. t.items) c.args.texts.now)
    ∙ spaced_first (map (λ t. t.items) c.args.texts.now)
