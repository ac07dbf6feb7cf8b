-- What a change is.
use Rattle.std.specs.Prelude.{Option}
use Rattle.text_bytes.specs.Text.{Text}
use Rattle.lsp_messages.specs.declared.rows.Position.{Position}

-- a text in place of what is in a range, or of all
pub record ChangeValue : Type 0 where
  pub range : Option (Position × Position)
  pub text : Text
