-- How long the lines of notes about a block are.
use Rattle.std.proofs.Common.{◌≡◌, ℕ, ◌+◌, ◌*◌, ◌≤◌, Bool, true, false, List, ◌∷◌, ◌++◌, [], length, take, codes, flat_map, append-nil, min, unwrap_or, ap, sym, subst, arith}
use Rattle.std.proofs.lemmas.List.{length-append, length-take}
use Rattle.std.proofs.lemmas.List.Concat.{flat_map-append}
use Rattle.text_bytes.specs.declared.profile.Profile.{Profile}
use Rattle.text_bytes.specs.declared.profile.Profile.TheVariants.{Manual, Udev}
use Rattle.text_bytes.specs.Text.{Text}
use Rattle.device_core.specs.Values.{EventValue}
use Rattle.device_core.specs.Notes.{about, block_notes, due_note, is_due, kinds, note_about, note_if, notes_by, text_of}
use Rattle.device_core.specs.declared.kinds.BlockNoteKind.{BlockNoteKind}
use Rattle.device_core.specs.declared.kinds.BlockNoteKind.TheVariants.{BehindCommands, GoneAttributes, NoSubsystem, PathBeginsWithSys, ReturnAtEnds, StoredByUdev, UnknownAction}
use Rattle.device_core.specs.declared.notes.BlockNote.{BlockNote}
use Rattle.engine_sessions.specs.Places.{word_part}
use Rattle.engine_answers.specs.Lines.{block_note_line, block_note_lines}
use Rattle.eval_laws.specs.Weights.{most_about_a_block}
use Rattle.eval_laws.proofs.Lines.{line_length, word_short}

kind_short : (kind : BlockNoteKind) → length (text_of kind) ≤ 33
kind_short UnknownAction = omega arith
kind_short PathBeginsWithSys = omega arith
kind_short StoredByUdev = omega arith
kind_short BehindCommands = omega arith
kind_short NoSubsystem = omega arith
kind_short GoneAttributes = omega arith
kind_short ReturnAtEnds = omega arith

kept_short : (text : Text) → length (take 32 text) ≤ 32
kept_short text = let a = length-take 32 text in omega (arith, a)

one_short : (kind : BlockNoteKind) (text : Text) → length (block_note_line (note_about kind text)) ≤ 172
unfolding block_note_line
one_short kind text =
    let a = line_length (codes "note") (codes "-: " ++ text_of kind ++ word_part (take 32 text)) in
    let b = length-append (codes "-: " ++ text_of kind) (word_part (take 32 text)) in
    let c = length-append (codes "-: ") (text_of kind) in
    let d = kind_short kind in
    let e = word_short (take 32 text) in
    let f = kept_short text in
    omega (arith, a, b, c, d, e, f)

if_short : (is_so : Bool) (kind : BlockNoteKind) (text : Text) → length (flat_map block_note_line (note_if is_so kind text)) ≤ 172
if_short true kind text = subst (λ (t : Text). length t ≤ 172) (sym (append-nil (block_note_line (note_about kind text)))) (one_short kind text)
if_short false kind text = omega arith

-- the notes of some kinds
each_short : (event : EventValue) (ks : List BlockNoteKind) → length (flat_map block_note_line (flat_map (due_note event) ks)) ≤ 172 * length ks
each_short event [] = omega arith
each_short event (k ∷ ks) =
    let all : length (flat_map block_note_line (due_note event k ++ flat_map (due_note event) ks))
    ≡ length (flat_map block_note_line (due_note event k) ++ flat_map block_note_line (flat_map (due_note event) ks)) = ap length (flat_map-append block_note_line (due_note event k) (flat_map (due_note event) ks)) in
    let parts = length-append (flat_map block_note_line (due_note event k)) (flat_map block_note_line (flat_map (due_note event) ks)) in
    let one = if_short (is_due event k) k (about event k) in
    let more = each_short event ks in
    omega (arith, all, parts, one, more)

pub about_a_block_short : (event : EventValue) → length (block_note_lines event) ≤ most_about_a_block event.profile
unfolding block_notes
about_a_block_short event = by event.profile
  where
    by : (profile : Profile) → length (flat_map block_note_line (notes_by profile event)) ≤ most_about_a_block profile
    by Manual = omega arith
    by Udev = each_short event kinds
