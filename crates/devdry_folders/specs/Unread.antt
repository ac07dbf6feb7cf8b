-- What is reported for what can't be read, and the files that were read.
use Rattle.std.specs.Prelude.{◌++◌, ◌∷◌, ◌==◌, ◌&&◌, ℕ, Bool, true, false, List, [], None, Option, Some, codes, flat_map, if◌then◌else◌, length, not}
use Rattle.std.specs.List.{list_any}
use Rattle.std.specs.Option.{option_map_or, option_to_list}
use Rattle.text_bytes.specs.Text.{Text}
use Rattle.text_bytes.specs.Escapes.{escape_text}
use Rattle.text_bytes.specs.Names.{newline}
use Rattle.text_bytes.specs.declared.source_file.FileKind.{FileKind}
use Rattle.text_bytes.specs.declared.source_file.SourceFile.{SourceFile}
use Rattle.engine_sessions.specs.Kinds.{same_kind}
use Rattle.devdry_folders.specs.Reasons.{advice_on, reason_text, wrong_by}
use Rattle.devdry_folders.specs.declared.reasons.Reason.{Reason}
use Rattle.devdry_folders.specs.declared.sights.Met.{Met}
use Rattle.devdry_folders.specs.declared.sights.Met.TheVariants as met
use Rattle.devdry_folders.specs.declared.sights.Scan.{Scan}
use Rattle.devdry_folders.specs.declared.sights.Sight.{Sight}
use Rattle.devdry_folders.specs.declared.sights.Spot.{Spot}
use Rattle.devdry_folders.specs.declared.sights.Spot.TheVariants as spot
use Rattle.devdry_folders.specs.declared.sights.Survey.{Survey}
use Rattle.devdry_folders.specs.declared.sights.Visit.{Visit}

-- why what is met can't be read, if it can't
abbrev pub reason_met : Met → Option Reason
reason_met (met.Unread reason) = Some reason
reason_met _ = None

-- why what is at the path of a folder can't be read, if it can't
abbrev pub reason_at : Spot → Option Reason
reason_at (spot.Unread reason) = Some reason
reason_at _ = None

-- the line on what can't be read
abbrev pub unread_line : Text → Reason → Text
unread_line path reason = codes "devdry: cannot read " ++ escape_text path ++ codes ": " ++ reason_text reason ++ newline ∷ []

-- the two lines for people on a reason: what is wrong, and what to do about it
abbrev pub advice_lines : Reason → Text
advice_lines reason = codes "  " ++ wrong_by reason ++ codes "\n  = " ++ advice_on reason ++ newline ∷ []

-- what is said about what can't be read, for people or not
abbrev pub unread_said : (for_people : Bool) → Text → Reason → Text
unread_said for_people path reason = unread_line path reason ++ (if for_people then advice_lines reason else [])

-- what is said about a path, if there is a reason why it can't be read
abbrev pub said_by : (for_people : Bool) → Text → Option Reason → Text
said_by for_people path reason = option_map_or (unread_said for_people path) reason []

-- what is said about sights that can't be read
abbrev pub sights_said : (for_people : Bool) → List Sight → Text
sights_said for_people sights = flat_map (λ s. said_by for_people s.path (reason_met s.met)) sights

-- what is said about what was met at the path of a folder: about the folder, and about what is in it
abbrev pub lines_on_scan : (for_people : Bool) → Text → Scan → Text
lines_on_scan for_people path scan = said_by for_people path (reason_at scan.spot) ++ sights_said for_people scan.sights.items

-- the lines on all that can't be read, for people or not, in the order of the visits, those on the index last
abbrev pub all_unread : (for_people : Bool) → Survey → Text
all_unread for_people survey =
    flat_map (λ v. lines_on_scan for_people v.path v.scan) survey.visits.items ++ sights_said for_people (option_to_list survey.index)

-- whether a file was read
abbrev pub is_file : Met → Bool
is_file (met.File bytes) = true
is_file _ = false

-- whether one of the sights is a file that was read
abbrev pub has_file : List Sight → Bool
has_file sights = list_any (λ s. is_file s.met) sights

-- whether a kind is one of these
abbrev pub is_one_of : List FileKind → FileKind → Bool
is_one_of kinds kind = list_any (λ one. same_kind one kind) kinds

-- whether any file of these kinds was read
abbrev pub has_files : List FileKind → List Visit → Bool
has_files kinds visits = list_any (λ v. is_one_of kinds v.kind && has_file v.scan.sights.items) visits

-- the file with a name, if one was met
abbrev pub file_of_met : FileKind → ℕ → Text → Met → List SourceFile
file_of_met kind rank name (met.File bytes) = record { kind = kind; rank = rank; name = name; bytes = bytes } ∷ []
file_of_met kind rank name _ = []

-- the file of a sight, if it is one: its name is its path if it is named, else its name in its folder
abbrev pub file_of_sight : FileKind → ℕ → Bool → Sight → List SourceFile
file_of_sight kind rank named s = file_of_met kind rank (if named then s.path else s.name) s.met

-- the files of a visit
abbrev pub files_of_visit : Visit → List SourceFile
files_of_visit v = flat_map (file_of_sight v.kind v.rank v.is_named) v.scan.sights.items

-- the files of visits, in their order
abbrev pub files_of : List Visit → List SourceFile
files_of visits = flat_map files_of_visit visits

-- the least status of a run, by the lines on what can't be read and those on where no file was found: 3 if something
-- can't be read, else 1 if files are missing
abbrev pub least_status : Text → Text → ℕ
least_status unread missing = if not (length unread == 0) then 3 else if length missing == 0 then 0 else 1
