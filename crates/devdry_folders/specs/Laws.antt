-- What can't be read, and which files count: as `files` reports it, and as a run reads them.
use Rattle.std.specs.Prelude.{◌≡◌, ◌≤◌, ◌||◌, ◌&&◌, ◌==◌, ℕ, Bool, true, false, List, [], ◌∷◌, Contains, Option, Some, None, MatchBool, ⊤, filter}
use Rattle.std.specs.Prelude.{is_some, length, not}
use Rattle.std.specs.List.{list_any}
use Rattle.std.specs.Option.{option_to_list}
use Rattle.text_bytes.specs.Text.{Text}
use Rattle.text_bytes.specs.declared.source_file.FileKind.{FileKind}
use Rattle.text_bytes.specs.declared.source_file.FileKind.TheVariants.{Hwdb}
use Rattle.text_bytes.specs.declared.source_file.SourceFile.{SourceFile}
use Rattle.text_bytes.specs.Texts.{is_empty}
use Rattle.text_tables.specs.Texts.{is_among}
use Rattle.engine_sessions.specs.Kinds.{same_kind}
use Rattle.devdry_folders.specs.Nothing.{has_unread}
use Rattle.devdry_folders.specs.Indexes.{index_bytes}
use Rattle.devdry_folders.specs.Unread.{files_of, is_one_of, reason_at}
use Rattle.devdry_folders.specs.declared.reasons.Reason.{Reason}
use Rattle.devdry_folders.specs.declared.reasons.Reason.TheVariants.{Absent, Forbidden, LinkToNothing, NotFolder, NotRegular, NotUtf8, Failed}
use Rattle.devdry_folders.specs.declared.sights.Met.TheVariants as met
use Rattle.devdry_folders.specs.declared.sights.Sight.{Sight}
use Rattle.devdry_folders.specs.declared.sights.Survey.{Survey}
use Rattle.devdry_folders.specs.declared.sights.Visit.{Visit}

-- each reason, with this target of a link
abbrev pub all_reasons : (target : Text) → List Reason
all_reasons target = Absent ∷ Forbidden ∷ LinkToNothing target ∷ NotFolder ∷ NotRegular ∷ NotUtf8 ∷ Failed ∷ []

-- whether none of these texts is empty, and no two are the same
abbrev pub differ : List Text → Bool
differ [] = true
differ (text ∷ texts) = not (is_empty text) && (not (is_among texts text) && differ texts)

-- whether a folder or a file that is visited can't be read, or a file in the folder
abbrev pub lacks_some : Visit → Bool
lacks_some v = is_some (reason_at v.scan.spot) || has_unread v.scan.sights.items

-- whether anything that was visited can't be read
abbrev pub lacks_any : Survey → Bool
lacks_any survey = list_any lacks_some survey.visits.items || has_unread (option_to_list survey.index)

-- the files of these kinds that are passed on
abbrev pub files_among : List FileKind → List Visit → List SourceFile
files_among kinds visits = filter (λ file. is_one_of kinds file.kind) (files_of visits)

-- whether a file of these kinds is passed on, or the index in place of the database
abbrev pub passes_needed : List FileKind → Survey → Bool
passes_needed kinds survey =
    not (length (files_among kinds survey.visits.items) == 0) || (is_one_of kinds Hwdb && is_some (index_bytes survey.index))

-- Visits of a kind are of folders, and their ranks do not fall from this one on.
abbrev pub RanksRise : FileKind → ℕ → List Visit → Type 0
RanksRise kind rank [] = ⊤
RanksRise kind rank (v ∷ visits) =
    MatchBool (same_kind kind v.kind) ((v.is_named ≡ false) × (rank ≤ v.rank) × RanksRise kind v.rank visits) (RanksRise kind rank visits)

-- the files of a kind that were read
abbrev pub files_of_kind : FileKind → List Visit → List SourceFile
files_of_kind kind visits = filter (λ file. same_kind file.kind kind) (files_of visits)

-- A file is what was met in one of these visits: it has the name there and the rank of the folder.
pub record IsMetIn (visits : List Visit) (s : Sight) (file : SourceFile) : Type 0 where
  pub visit : Visit
  pub visited : Contains visits visit
  pub seen : Contains visit.scan.sights.items s
  pub name : file.name ≡ s.name
  pub rank : file.rank ≡ visit.rank
  pub kind : file.kind ≡ visit.kind
  pub bytes : s.met ≡ met.File file.bytes

-- both are the same file of these visits, or there is none
abbrev pub AreOneFile : List Visit → Option Sight → Option SourceFile → Type 0
AreOneFile visits (Some s) (Some file) = IsMetIn visits s file
AreOneFile visits None None = ⊤
AreOneFile visits _ _ = ⊥
