-- Changes of a text.
use Rattle.std.specs.Prelude.{ℕ, ◌++◌, max, List, fold, take, drop, Option, Some, None}
use Rattle.text_bytes.specs.Text.{Text}
use Rattle.lsp_messages.specs.ChangeValues.{ChangeValue}
use Rattle.lsp_messages.specs.Rows.{offset_of}
use Rattle.lsp_messages.specs.declared.counting.Encoding.{Encoding}
use Rattle.lsp_messages.specs.declared.rows.Position.{Position}

-- a text in place of what is from a place up to another one; of nothing if that does not follow
abbrev pub replaced : Text → (from to : ℕ) → Text → Text
replaced text from to new = take from text ++ new ++ drop (max from to) text

-- a text after a change: without a range all is replaced
abbrev pub changed : Encoding → Text → ChangeValue → Text
changed encoding text change = by change.range
  where
    by : Option (Position × Position) → Text
    by None = change.text
    by (Some range) = replaced text (offset_of encoding text range.0) (offset_of encoding text range.1) change.text

-- a text after changes, one after another
abbrev pub all_changed : Encoding → Text → List ChangeValue → Text
all_changed encoding text changes = fold (changed encoding) text changes
