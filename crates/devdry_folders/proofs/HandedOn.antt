-- Whether any file was read, and whether any is passed on.
use Rattle.std.proofs.Common.{◌≡◌, ◌∙◌, ◌++◌, ◌∷◌, ◌==◌, ◌&&◌, ◌||◌, [], Option, None, Some, ap, filter, is_some, arith, Bool, cond, false, flat_map, length, List, not, refl, sym, true, ℕ}
use Rattle.text_bytes.specs.declared.source_file.FileKind.{FileKind}
use Rattle.text_bytes.specs.declared.source_file.FileKind.TheVariants.{Hwdb}
use Rattle.text_bytes.specs.declared.source_file.SourceFile.{SourceFile}
use Rattle.std.specs.List.{list_any}
use Rattle.std.specs.Option.{option_to_list}
use Rattle.std.proofs.lemmas.List.Elements.{filter-append}
use Rattle.devdry_folders.specs.Laws.{files_among, lacks_any, lacks_some, passes_needed}
use Rattle.devdry_folders.specs.Indexes.{index_bytes, is_index_read}
use Rattle.devdry_folders.specs.Missing.{has_needed}
use Rattle.devdry_folders.specs.Nothing.{has_unread, nothing_lines}
use Rattle.devdry_folders.specs.Unread.{all_unread, file_of_met, file_of_sight, files_of, files_of_visit, has_file, has_files, is_file, is_one_of, least_status, lines_on_scan, reason_at, reason_met, said_by, sights_said}
use Rattle.devdry_folders.specs.declared.elsewhere.Elsewhere.{Elsewhere}
use Rattle.devdry_folders.specs.declared.reasons.Reason.{Reason}
use Rattle.devdry_folders.specs.declared.sights.Met.{Met}
use Rattle.devdry_folders.specs.declared.sights.Met.TheVariants as met
use Rattle.devdry_folders.specs.declared.sights.Sight.{Sight}
use Rattle.devdry_folders.specs.declared.sights.Survey.{Survey}
use Rattle.devdry_folders.specs.declared.sights.Visit.{Visit}

-- whether there are any
abbrev any : List SourceFile → Bool
any [] = false
any (f ∷ files) = true

counted : (files : List SourceFile) → any files ≡ not (length files == 0)
counted [] = refl
counted (f ∷ files) = let some : (length (f ∷ files) == 0) ≡ false = grind arith in sym (ap not some)

joined : (files more : List SourceFile) → any (files ++ more) ≡ (any files || any more)
joined [] more = refl
joined (f ∷ files) more = refl

some_met : (kind : FileKind) (rank : ℕ) (name : List ℕ) (it : Met) → is_file it ≡ any (file_of_met kind rank name it)
some_met kind rank name (met.File bytes) = refl
some_met kind rank name met.OtherName = refl
some_met kind rank name met.Folder = refl
some_met kind rank name (met.Unread reason) = refl

some_sights : (kind : FileKind) (rank : ℕ) (named : Bool) (sights : List Sight) → has_file sights ≡ any (flat_map (file_of_sight kind rank named) sights)
some_sights kind rank named [] = refl
some_sights kind rank named (s ∷ sights) =
    ap (λ b. b || has_file sights) (some_met kind rank (cond named s.path s.name) s.met)
    ∙ ap (λ b. any (file_of_sight kind rank named s) || b) (some_sights kind rank named sights)
    ∙ sym (joined (file_of_sight kind rank named s) (flat_map (file_of_sight kind rank named) sights))

-- the files of these kinds
abbrev among : List FileKind → List SourceFile → List SourceFile
among kinds files = filter (λ file. is_one_of kinds file.kind) files

both_ways : (b one more : Bool) → ((b && one) || (b && more)) ≡ (b && (one || more))
both_ways true one more = refl
both_ways false one more = refl

kept : (b : Bool) (file : SourceFile) → any (cond b (file ∷ []) []) ≡ (b && true)
kept true file = refl
kept false file = refl

none_kept : (b : Bool) → false ≡ (b && false)
none_kept true = refl
none_kept false = refl

met_among : (kinds : List FileKind) (kind : FileKind) (rank : ℕ) (name : List ℕ) (it : Met)
    → any (among kinds (file_of_met kind rank name it)) ≡ (is_one_of kinds kind && any (file_of_met kind rank name it))
met_among kinds kind rank name (met.File bytes) = kept (is_one_of kinds kind) (record { kind = kind; rank = rank; name = name; bytes = bytes })
met_among kinds kind rank name met.OtherName = none_kept (is_one_of kinds kind)
met_among kinds kind rank name met.Folder = none_kept (is_one_of kinds kind)
met_among kinds kind rank name (met.Unread reason) = none_kept (is_one_of kinds kind)

sights_among : (kinds : List FileKind) (kind : FileKind) (rank : ℕ) (named : Bool) (sights : List Sight)
    → any (among kinds (flat_map (file_of_sight kind rank named) sights)) ≡ (is_one_of kinds kind && any (flat_map (file_of_sight kind rank named) sights))
sights_among kinds kind rank named [] = none_kept (is_one_of kinds kind)
sights_among kinds kind rank named (s ∷ sights) =
    let own = file_of_sight kind rank named s in
    let others = flat_map (file_of_sight kind rank named) sights in
    ap any (filter-append (λ file. is_one_of kinds file.kind) own others)
    ∙ joined (among kinds own) (among kinds others)
    ∙ ap (λ b. b || any (among kinds others)) (met_among kinds kind rank (cond named s.path s.name) s.met)
    ∙ ap (λ b. (is_one_of kinds kind && any own) || b) (sights_among kinds kind rank named sights)
    ∙ both_ways (is_one_of kinds kind) (any own) (any others)
    ∙ ap (λ b. is_one_of kinds kind && b) (sym (joined own others))

some_visits : (kinds : List FileKind) (visits : List Visit) → has_files kinds visits ≡ any (among kinds (files_of visits))
some_visits kinds [] = refl
some_visits kinds (v ∷ visits) =
    ap (λ b. (is_one_of kinds v.kind && b) || has_files kinds visits) (some_sights v.kind v.rank v.is_named v.scan.sights.items)
    ∙ ap (λ b. b || has_files kinds visits) (sym (sights_among kinds v.kind v.rank v.is_named v.scan.sights.items))
    ∙ ap (λ b. any (among kinds (files_of_visit v)) || b) (some_visits kinds visits)
    ∙ sym (joined (among kinds (files_of_visit v)) (among kinds (files_of visits)))
    ∙ sym (ap any (filter-append (λ file. is_one_of kinds file.kind) (files_of_visit v) (files_of visits)))

-- any file of these kinds was read exactly if one is passed on
pub some_files : (kinds : List FileKind) (visits : List Visit) → has_files kinds visits ≡ not (length (files_among kinds visits) == 0)
some_files kinds visits = some_visits kinds visits ∙ counted (among kinds (files_of visits))

-- whether a text has a byte
abbrev says : List ℕ → Bool
says [] = false
says (byte ∷ text) = true

says_by_length : (text : List ℕ) → says text ≡ not (length text == 0)
says_by_length [] = refl
says_by_length (byte ∷ text) = let some : (length (byte ∷ text) == 0) ≡ false = grind arith in sym (ap not some)

says_both : (text more : List ℕ) → says (text ++ more) ≡ (says text || says more)
says_both [] more = refl
says_both (byte ∷ text) more = refl

reason_is_said : (for_people : Bool) (path : List ℕ) (reason : Option Reason) → says (said_by for_people path reason) ≡ is_some reason
reason_is_said for_people path None = refl
reason_is_said for_people path (Some reason) = refl

sights_are_said : (for_people : Bool) (sights : List Sight) → says (sights_said for_people sights) ≡ has_unread sights
sights_are_said for_people [] = refl
sights_are_said for_people (s ∷ sights) =
    says_both (said_by for_people s.path (reason_met s.met)) (sights_said for_people sights)
    ∙ ap (λ b. b || says (sights_said for_people sights)) (reason_is_said for_people s.path (reason_met s.met))
    ∙ ap (λ b. is_some (reason_met s.met) || b) (sights_are_said for_people sights)

-- the lines on visits
abbrev visits_said : Bool → List Visit → List ℕ
visits_said for_people visits = flat_map (λ v. lines_on_scan for_people v.path v.scan) visits

visits_are_said : (for_people : Bool) (visits : List Visit) → says (visits_said for_people visits) ≡ list_any lacks_some visits
visits_are_said for_people [] = refl
visits_are_said for_people (v ∷ visits) =
    says_both (lines_on_scan for_people v.path v.scan) (visits_said for_people visits)
    ∙ ap (λ b. b || says (visits_said for_people visits)) (says_both (said_by for_people v.path (reason_at v.scan.spot)) (sights_said for_people v.scan.sights.items))
    ∙ ap (λ b. (b || says (sights_said for_people v.scan.sights.items)) || says (visits_said for_people visits)) (reason_is_said for_people v.path (reason_at v.scan.spot))
    ∙ ap (λ b. (is_some (reason_at v.scan.spot) || b) || says (visits_said for_people visits)) (sights_are_said for_people v.scan.sights.items)
    ∙ ap (λ b. lacks_some v || b) (visits_are_said for_people visits)

-- one of two numbers
abbrev either : Bool → ℕ → ℕ → ℕ
either b one other = cond b one other

missing_is_said : (b : Bool) (kinds : List FileKind) (visits : List Visit) (others : List Elsewhere)
    → either (length (cond b [] (nothing_lines kinds visits others)) == 0) 0 1 ≡ either b 0 1
missing_is_said true kinds visits others = refl
missing_is_said false kinds visits others =
    let some : (length (nothing_lines kinds visits others) == 0) ≡ false = grind arith in ap (λ b. either b 0 1) some

index_is_read : (index : Option Sight) → is_index_read index ≡ is_some (index_bytes index)
index_is_read None = refl
index_is_read (Some s) = by s.met
  where
    by : (it : Met) → is_file it ≡ is_some (index_bytes (Some (record s { met = it })))
    by (met.File bytes) = refl
    by met.OtherName = refl
    by met.Folder = refl
    by (met.Unread reason) = refl

all_are_said : (for_people : Bool) (survey : Survey) → says (all_unread for_people survey) ≡ lacks_any survey
all_are_said for_people survey =
    says_both (visits_said for_people survey.visits.items) (sights_said for_people (option_to_list survey.index))
    ∙ ap (λ b. b || says (sights_said for_people (option_to_list survey.index))) (visits_are_said for_people survey.visits.items)
    ∙ ap (λ b. list_any lacks_some survey.visits.items || b) (sights_are_said for_people (option_to_list survey.index))

needed : (kinds : List FileKind) (survey : Survey) → has_needed kinds survey ≡ passes_needed kinds survey
needed kinds survey =
    ap (λ b. b || (is_one_of kinds Hwdb && is_index_read survey.index)) (some_files kinds survey.visits.items)
    ∙ ap (λ b. not (length (files_among kinds survey.visits.items) == 0) || (is_one_of kinds Hwdb && b)) (index_is_read survey.index)

-- the least status, by what could not be read and what is passed on
pub status_of_all : (kinds : List FileKind) (for_people : Bool) (survey : Survey) (others : List Elsewhere)
    → least_status (all_unread for_people survey) (cond (has_needed kinds survey) [] (nothing_lines kinds survey.visits.items others))
    ≡ either (lacks_any survey) 3 (either (passes_needed kinds survey) 0 1)
status_of_all kinds for_people survey others =
    let missing = cond (has_needed kinds survey) [] (nothing_lines kinds survey.visits.items others) in
    ap (λ b. either b 3 (either (length missing == 0) 0 1)) (sym (says_by_length (all_unread for_people survey)) ∙ all_are_said for_people survey)
    ∙ ap (λ n. either (lacks_any survey) 3 n) (missing_is_said (has_needed kinds survey) kinds survey.visits.items others)
    ∙ ap (λ b. either (lacks_any survey) 3 (either b 0 1)) (needed kinds survey)
