-- What is reported where no file was found that a run needs.
use Rattle.std.specs.Prelude.{◌≡◌, ◌==◌, ◌&&◌, ◌||◌, Bool, List, [], MatchBool, codes, length, not, vec_len}
use Rattle.std.specs.List.{list_any}
use Rattle.text_bytes.specs.Text.{Text}
use Rattle.text_bytes.specs.declared.source_file.FileKind.{FileKind}
use Rattle.text_bytes.specs.declared.source_file.FileKind.TheVariants.{Hwdb}
use Rattle.engine_sessions.specs.Kinds.{kinds_read, reads_folders_of}
use Rattle.engine_sessions.specs.declared.line.Line.{Line}
use Rattle.devdry_files.specs.Answers.{Answer}
use Rattle.devdry_files.specs.Answers.Answer.{Looked}
use Rattle.devdry_files.specs.Inside.{MayInside}
use Rattle.devdry_files.specs.declared.look.Look.{Look}
use Rattle.devdry_files.specs.declared.look.Look.TheVariants as look
use Rattle.devdry_folders.specs.Indexes.{is_index_read}
use Rattle.devdry_folders.specs.Nothing.{AreElsewhere, line_on, nothing_lines}
use Rattle.devdry_folders.specs.Unread.{has_files, is_one_of}
use Rattle.devdry_folders.specs.declared.elsewhere.Elsewhere.{Elsewhere}
use Rattle.devdry_folders.specs.declared.sights.Survey.{Survey}

-- whether a file of these kinds was read, or the index in place of the database
abbrev pub has_needed : List FileKind → Survey → Bool
has_needed kinds survey = has_files kinds survey.visits.items || (is_one_of kinds Hwdb && is_index_read survey.index)

-- whether folders are read below a root that a line gives, beside files that it names or adds
abbrev pub looks_at_root : Line → Bool
looks_at_root line = (not (length line.root.now == 0) && (not (vec_len line.files == 0) || not (vec_len line.added == 0)))
    && list_any (reads_folders_of line) (kinds_read line.verb)

-- the line on a root that is no folder, by a look at it
abbrev pub root_line : Text → Look → Text
root_line root look.Absent = line_on root (codes ": absent")
root_line root look.File = line_on root (codes ": not a folder")
root_line root look.Other = line_on root (codes ": not a folder")
root_line root _ = []

-- the line on the root of a line, by a look that the disk may give, if it is looked at and is no folder
abbrev pub IsLineOnRoot : (Answer → Type 0) → Line → Text → Type 0
IsLineOnRoot may line text =
    MatchBool (looks_at_root line) ((shown : Look) × may (Looked line.root.now shown) × (text ≡ root_line line.root.now shown)) (text ≡ [])

-- what is reported if no file of these kinds was read, with where they were looked for, or if folders are read below a root that is
-- no folder
abbrev pub AreMissing : (Answer → Type 0) → Line → List FileKind → Survey → Text → Type 0
AreMissing may line kinds survey text = MatchBool (has_needed kinds survey) (IsLineOnRoot may line text)
    ((others : List Elsewhere) × AreElsewhere (MayInside may line.root.now) line kinds others × (text ≡ nothing_lines kinds survey.visits.items others))
