-- What is counted of a scene, and how much a note more counts.
use Rattle.std.proofs.Common.{ℕ, ◌+◌, ◌≤◌, arith}
use Rattle.std.proofs.lemmas.List.Sums.{sum_by_push}
use Rattle.std.specs.List.{sum_by}
use Rattle.text_bytes.specs.Text.{Text}
use Rattle.rule_types.specs.declared.part.ActKind.{ActKind}
use Rattle.rule_types.specs.declared.part.ActKind.TheVariants as act_kind
use Rattle.rule_types.specs.Rules.{Rule}
use Rattle.eval_state.specs.Notes.{note_about}
use Rattle.eval_state.specs.Runs.{RunValue}
use Rattle.eval_state.specs.Scenes.{noted}
use Rattle.eval_state.specs.declared.notes.Note.{Note}
use Rattle.eval_state.specs.declared.note_kind.NoteKind.{NoteKind}
use Rattle.eval_state.specs.declared.scene.Scene.{Scene}

-- What is counted of a scene: its notes and the commands that may leave one, each by a measure of its own. A part of a rule adds at most one note
-- or one such command, so that it adds no more than the greatest that one of the rule may be.
abbrev pub measured : (Note → ℕ) → (RunValue → ℕ) → Scene → ℕ
measured w v s = sum_by w s.notes + sum_by v s.runs

-- a note more
pub noted_more : (w : Note → ℕ) (v : RunValue → ℕ) (c : Rule → ℕ) (light : (r : Rule) (kind : NoteKind) (text : Text) → w (note_about r kind text) ≤ c r) (r : Rule) (s : Scene) (kind : NoteKind) (text : Text)
    → measured w v (noted r kind text s) ≤ measured w v s + c r
noted_more w v c light r s kind text =
    let a = sum_by_push w s.notes (note_about r kind text) in
    let b = light r kind text in
    omega (arith, a, b)

-- what an act adds at most, if each note adds so much: an IMPORT may leave two
abbrev pub act_most : ℕ → ActKind → ℕ
act_most most (act_kind.Test mask template) = most
act_most most (act_kind.Program template) = most
act_most most (act_kind.Import from) = most + most
