-- What is said of a file.
use Rattle.std.proofs.Common.{◌≡◌, ℕ, List, ◌++◌, ◌∙◌, ap, append_assoc, Option, None}
use Rattle.std.specs.List.{flat_map}
use Rattle.file_messages.specs.declared.message.Message.{Message}
use Rattle.text_bytes.specs.declared.profile.Profile.{Profile}
use Rattle.text_bytes.specs.declared.source_file.SourceFile.{SourceFile}
use Rattle.rule_core.specs.Lines.{joined_lines}
use Rattle.rule_types.specs.declared.jumps.Landing.{Landing}
use Rattle.rule_core.specs.Rules.{Reading, landed, line_messages, messages_unless, open_messages, readings_of}

abbrev reported : List ℕ → List (Reading × Landing) → Option ℕ → List Message
reported name lines at = flat_map (λ x. line_messages name x.0.line x.0.read x.1) lines ++ open_messages name at

pub file_reported : (by : Profile) (f : SourceFile) (name : List ℕ) (lines : List (Reading × Landing)) (at : Option ℕ) (before middle now : List Message)
    → name ≡ f.name → lines ≡ landed (readings_of by f) → at ≡ (joined_lines by f.bytes).open_at
    → middle ≡ before ++ flat_map (λ x. line_messages name x.0.line x.0.read x.1) lines → now ≡ middle ++ open_messages name at → now ≡ before ++ messages_unless by f None
file_reported by f name lines at before middle now n r o m e =
    e ∙ ap (λ (ms : List Message). ms ++ open_messages name at) m ∙ append_assoc before (flat_map (λ x. line_messages name x.0.line x.0.read x.1) lines) (open_messages name at)
    ∙ ap (λ (x : List Message). before ++ x)
    (ap (λ (x : List ℕ). reported x lines at) n
    ∙ ap (λ (x : List (Reading × Landing)). reported f.name x at) r
    ∙ ap (λ (x : Option ℕ). reported f.name (landed (readings_of by f)) x) o)
