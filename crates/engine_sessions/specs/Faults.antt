-- Why a file gives no options.
use Rattle.std.specs.Prelude.{◌≡◌, ⊤, IsSomeAnd}
use Rattle.text_bytes.specs.Text.{Text}
use Rattle.engine_sessions.specs.Files.{bad_line, said_of}
use Rattle.engine_sessions.specs.declared.files.OptionsFault.{OptionsFault}
use Rattle.engine_sessions.specs.declared.files.OptionsFault.TheVariants.{BadLine, Memory}

-- a bad line is answered with what is said about the first one; memory may run out for any file
abbrev pub AnswersFile : (path bytes : Text) → OptionsFault → Type 0
AnswersFile path bytes (BadLine said) = IsSomeAnd (bad_line bytes) (λ line. said ≡ said_of path line)
AnswersFile path bytes Memory = ⊤
