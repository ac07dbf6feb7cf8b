-- Diagnostics that are made of messages, written as these are.
use Rattle.std.proofs.Common.{◌≡◌, ℕ, List, [], ◌∷◌, ◌++◌, flat_map, refl, ap, ◌∙◌}
use Rattle.file_messages.specs.declared.message.Message.{Message}
use Rattle.engine_reports.specs.Messages.{message_line, message_lines}
use Rattle.engine_formats.specs.Diagnostics.{DiagnosticValue}
use Rattle.engine_formats.specs.Lines.{plain_line}
use Rattle.engine_formats.specs.Made.{AreMadeFrom, IsMadeFrom}

same_line : (message : Message) (d : DiagnosticValue) → IsMadeFrom message d → plain_line d ≡ message_line message
unfolding plain_line message_line
same_line message d made = rw (made.name, made.begins, made.remark, made.word) refl

pub same_lines : (messages : List Message) (diagnostics : List DiagnosticValue) → AreMadeFrom messages diagnostics → flat_map plain_line diagnostics ≡ message_lines messages
same_lines [] [] made = refl
same_lines [] (d ∷ ds) made = absurd made
same_lines (m ∷ ms) [] made = absurd made
same_lines (m ∷ ms) (d ∷ ds) made =
    ap (λ (line : List ℕ). line ++ flat_map plain_line ds) (same_line m d made.0) ∙ ap (λ (rest : List ℕ). message_line m ++ rest) (same_lines ms ds made.1)
