-- Diagnostics, as contracts see them.
use Rattle.std.specs.Prelude.{ℕ}
use Rattle.text_bytes.specs.Text.{Text}
use Rattle.engine_formats.specs.declared.diagnostic.Diagnostic.{Diagnostic}
use Rattle.file_catalogue.specs.declared.remark.Remark.{Remark}

-- what is said about a place in a file
pub record DiagnosticValue : Type 0 where
  pub name : Text
  pub path : Text
  pub source : Text
  pub begins : ℕ
  pub line : ℕ
  pub column : ℕ
  pub end : ℕ
  pub remark : Remark
  pub word : Text

-- what a contract sees of a diagnostic
abbrev pub shown : Diagnostic → DiagnosticValue
shown d = record {
  name = d.name.now;
  path = d.path.now;
  source = d.source.now;
  begins = d.begins;
  line = d.line;
  column = d.column;
  end = d.end;
  remark = d.remark;
  word = d.word;
}
