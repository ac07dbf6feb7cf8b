use Rattle.std.proofs.Common.{[], Some, None, ap, cond, ◌∙◌}
use Rattle.lsp_messages.proofs.Known.{same_after}
use Rattle.lsp_messages.specs.TextChanges.{all_changed}
use Rattle.lsp_messages.proofs.text_laws.whole_texts_bring_documents_back.Goals as goal

pub returns-clause-back : goal.returns-clause-back
returns-clause-back c encoding changes before is =
    ap (λ b. cond b (Some (all_changed encoding [] changes)) None) is ∙ ap Some (same_after encoding changes [] before is)

pub returns-clause-away : goal.returns-clause-away
returns-clause-away c encoding changes is = ap (λ b. cond b (Some (all_changed encoding [] changes)) None) is
