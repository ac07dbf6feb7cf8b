use Rattle.std.proofs.Common.{◌≡◌, [], take}
use Rattle.text_tables.specs.Texts.{with_texts}
use Rattle.lsp_answers.proofs.settings.Settings.asked.Given as goal

abbrev pub invariant-loop-code : goal.invariant-loop-code
invariant-loop-code l = l.ignored ≡ with_texts [] (take l.code-index l.code-items)
