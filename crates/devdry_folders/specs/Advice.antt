-- What people are told about a path that a line asks for and that can't be read.
use Rattle.std.specs.Prelude.{◌≡◌, ◌&&◌, Bool, true, false, if◌then◌else◌, List, [], ◌∷◌, Option, Some, None}
use Rattle.std.specs.List.{list_any}
use Rattle.std.specs.Option.{option_copied, option_or, option_to_list}
use Rattle.text_bytes.specs.Text.{Text}
use Rattle.text_tables.specs.Texts.{same_text}
use Rattle.engine_sessions.specs.declared.line.Line.{Line}
use Rattle.devdry_files.specs.Answers.{Answer}
use Rattle.devdry_folders.specs.Surveys.{IsSurveyFor}
use Rattle.devdry_folders.specs.Unread.{advice_lines, reason_at, reason_met}
use Rattle.devdry_folders.specs.declared.reasons.Reason.{Reason}
use Rattle.devdry_folders.specs.declared.reasons.Reason.TheVariants.{NotRegular}
use Rattle.devdry_folders.specs.declared.sights.Sight.{Sight}
use Rattle.devdry_folders.specs.declared.sights.Spot.{Spot}
use Rattle.devdry_folders.specs.declared.sights.Spot.TheVariants as spot
use Rattle.devdry_folders.specs.declared.sights.Survey.{Survey}
use Rattle.devdry_folders.specs.declared.sights.Visit.{Visit}

-- whether a folder was listed
abbrev pub is_folder : Spot → Bool
is_folder spot.Folder = true
is_folder _ = false

-- a reason if it is about this path
abbrev pub if_about : (path at : Text) → Option Reason → Option Reason
if_about path at reason = if same_text at path then reason else None

-- why a path can't be read, by the first of some sights that is of it and can't be
abbrev pub reason_among : (path : Text) → List Sight → Option Reason
reason_among path [] = None
reason_among path (s ∷ sights) = option_or (if_about path s.path (reason_met s.met)) (reason_among path sights)

-- the same by the first of some visits: of the folder, and then of what is in it
abbrev pub reason_in_visits : (path : Text) → List Visit → Option Reason
reason_in_visits path [] = None
reason_in_visits path (v ∷ visits) =
    option_or (option_or (if_about path v.path (reason_at v.scan.spot)) (reason_among path v.scan.sights.items)) (reason_in_visits path visits)

-- the same by a survey: the index is looked at last
abbrev pub reason_in : (path : Text) → Survey → Option Reason
reason_in path survey = option_or (reason_in_visits path survey.visits.items) (reason_among path (option_to_list survey.index))

-- whether a path is that of a folder which is named as a file, and listed by the survey
abbrev pub is_named_folder : (path : Text) → Visit → Bool
is_named_folder path v = (v.is_named && is_folder v.scan.spot) && same_text v.path path

-- what people are told about a reason, if there is one; without one, what they are told about a folder that is no file, if it is one
abbrev pub advice_by : Option Reason → (is_folder : Bool) → Text
advice_by None is_folder = if is_folder then advice_lines NotRegular else []
advice_by (Some reason) is_folder = advice_lines reason

-- what people are told about a path, by a survey
abbrev pub advice_in : (path : Text) → Survey → Text
advice_in path survey = advice_by (reason_in path survey) (list_any (is_named_folder path) survey.visits.items)

-- What people are told about a path: all that the line asks for was visited, and this follows from that. It is nothing if the
-- path can be read by now.
pub record IsAdvice (may : Answer → Type 0) (line : Line) (path advice : Text) : Type 0 where
  pub survey : Survey
  pub is_survey : IsSurveyFor may line (option_copied line.index) survey
  pub advice_is : advice ≡ advice_in path survey
