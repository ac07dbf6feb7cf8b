-- Texts that are known again after a text in place of all.
use Rattle.std.proofs.Common.{◌≡◌, true, ◌||◌, List, [], ◌∷◌, Option, Some, None, is_none, refl}
use Rattle.text_bytes.specs.Text.{Text}
use Rattle.lsp_messages.specs.ChangeValues.{ChangeValue}
use Rattle.lsp_messages.specs.TextChanges.{all_changed, changed}
use Rattle.lsp_messages.specs.Documents.{has_whole}
use Rattle.lsp_messages.specs.declared.counting.Encoding.{Encoding}
use Rattle.lsp_messages.specs.declared.rows.Position.{Position}

-- whatever the text was before
pub same_after : (encoding : Encoding) (changes : List ChangeValue) (one other : Text) → has_whole changes ≡ true
    → all_changed encoding one changes ≡ all_changed encoding other changes
same_after encoding [] one other h = cc
same_after encoding (change ∷ changes) one other h = by change.range h (λ one other there. same_after encoding changes one other there)
  where
    after : Option (Position × Position) → Text → Text
    after range text = changed encoding text (record { range = range; text = change.text })

    by : (range : Option (Position × Position)) → (is_none range || has_whole changes) ≡ true
        → ((one other : Text) → has_whole changes ≡ true → all_changed encoding one changes ≡ all_changed encoding other changes)
        → all_changed encoding (after range one) changes ≡ all_changed encoding (after range other) changes
    by None there more = refl
    by (Some range) there more = more (after (Some range) one) (after (Some range) other) there
