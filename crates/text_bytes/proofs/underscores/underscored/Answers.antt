use Rattle.std.proofs.Common.{◌++◌, [], ◌∙◌, true, false, ap, sym}
use Rattle.std.proofs.lemmas.List.{append-nil}
use Rattle.text_bytes.specs.Texts.{is_empty}
use Rattle.text_bytes.specs.Steps.{added}
use Rattle.text_bytes.proofs.JoinedWords.{added_first, all_added}
use Rattle.text_bytes.proofs.underscores.underscored.Goals as goal

pub returns : goal.returns
returns c =
    let text = c.args.text.now in
    c.into_bytes.ensures ∙ sym (all_added c.push.new.self.bytes.items c.push.new.self.gap) ∙ c.in_ok-push.ensures []
    ∙ ap (λ word. word ++ added (is_empty word) c.new-word.result.gap (text ++ [])) c.new-word.ensures.bytes
    ∙ ap (λ gap. added true gap (text ++ [])) c.new-word.ensures.gap
    ∙ ap (added true false) (append-nil text)
    ∙ added_first false text
