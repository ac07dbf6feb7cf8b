-- One more item of a list that is read in order, the first that is faulty, and faults that are passed on.
use Rattle.std.proofs.Common.{◌≡◌, ◌∙◌, ◌++◌, ◌+◌, ◌<◌, ℕ, ap, arith, drop, flat_map, get_or, length, suc, take, take-suc, List, map, [], ◌∷◌, append-nil, append_assoc, Err, IfErr, IsErrAnd, Ok, Result, inl, inr, refl, subst, sym, string_bytes, String}
use Rattle.std.proofs.Math.Seq.{split_at}
use Rattle.std.proofs.lemmas.List.{map-append}
use Rattle.std.specs.List.{AllZip}
use Rattle.std.specs.Prelude.{⊤}
use Rattle.std.specs.declared.alloc.Global.{Global}
use Rattle.text_bytes.specs.declared.source_file.FileKind.{FileKind}
use Rattle.text_bytes.specs.declared.source_file.SourceFile.{SourceFile}
use Rattle.devdry_files.specs.Answers.{Answer}
use Rattle.devdry_files.specs.Faults.{FirstFails, HasPath, IsFaultyIn, IsUnlisted, IsUnread, ReadStep, file_step, file_steps, folder_step, folder_steps}
use Rattle.devdry_files.specs.Found.{AreAdded, AreFilesAt, AreInFolder, AreInFolders, AreNamed, AreNamesIn, IsFileAt, path_in}
use Rattle.devdry_files.specs.Places.{kind_added, name_at}
use Rattle.devdry_files.specs.declared.fault.ReadFault.{ReadFault}
use Rattle.devdry_files.specs.declared.fault.ReadFault.TheVariants.{Path, Memory}
use Rattle.devdry_files.specs.declared.places.Folder.{Folder}

-- all of these steps were done
abbrev pub WereDone : List ReadStep → Type 0
WereDone [] = ⊤
WereDone (step ∷ steps) = step.WasDone × WereDone steps

-- the places of a list before the next one
pub one_more : {T : Type 0} (xs : List T) (place : ℕ) (d : T) → place < length xs → take (place + 1) xs ≡ take place xs ++ get_or xs place d ∷ []
one_more xs place d within =
    let one : place + 1 ≡ suc place = omega arith in
    ap (λ n. take n xs) one ∙ take-suc xs place d within

-- one more item of each of two lists
pub zip_more : {A B : Type 0} (R : A → B → Type 0) (xs : List A) (ys : List B) (x : A) (y : B) → AllZip R xs ys → R x y → AllZip R (xs ++ x ∷ []) (ys ++ y ∷ [])
zip_more R [] [] x y h here = (here, tt)
zip_more R [] (z ∷ zs) x y h here = absurd h
zip_more R (w ∷ ws) [] x y h here = absurd h
zip_more R (w ∷ ws) (z ∷ zs) x y h here = (h.0, zip_more R ws zs x y h.1 here)

-- the file of one more name
pub file_more : {T : Type 0} (text : T → List ℕ) (may : Answer → Type 0) (kind : FileKind) (rank : ℕ) (path_of : List ℕ → List ℕ) (xs : List T) (files : List SourceFile) (x : T) (file : SourceFile)
    → AreFilesAt may kind rank path_of (map text xs) files → IsFileAt may kind rank (path_of (text x)) (text x) file → AreFilesAt may kind rank path_of (map text (xs ++ x ∷ [])) (files ++ file ∷ [])
file_more text may kind rank path_of xs files x file h here =
    subst (λ names. AreFilesAt may kind rank path_of names (files ++ file ∷ [])) (sym (map-append text xs (x ∷ []))) (zip_more _ (map text xs) files (text x) file h here)

-- the files of one more folder
pub folders_more : (may : Answer → Type 0) (folders : List Folder) (files : List SourceFile) (folder : Folder) (own : List SourceFile) → AreInFolders may folders files → AreInFolder may folder own
    → AreInFolders may (folders ++ folder ∷ []) (files ++ own)
folders_more may folders files folder own h here = (
  h.0 ++ own ∷ [],
  zip_more (AreInFolder may) folders h.0 folder own h.1 here,
  ap (λ fs. fs ++ own) h.2 ∙ sym (joined h.0),
)
  where
    joined : (parts : List (List SourceFile)) → flat_map (λ part. part) (parts ++ own ∷ []) ≡ flat_map (λ part. part) parts ++ own
    joined [] = append-nil own
    joined (part ∷ parts) = ap (λ fs. part ++ fs) (joined parts) ∙ sym (append_assoc part (flat_map (λ p. p) parts) own)

-- each item of the first list has one of the second, so that its step was done
each_done : {A B : Type 0} (R : A → B → Type 0) (step : A → ReadStep) (done : (a : A) (b : B) → R a b → (step a).WasDone) (xs : List A) (ys : List B) → AllZip R xs ys → WereDone (map step xs)
each_done R step done [] ys h = tt
each_done R step done (x ∷ xs) [] h = absurd h
each_done R step done (x ∷ xs) (y ∷ ys) h = (done x y h.0, each_done R step done xs ys h.1)

-- files at these names were read at the paths of the names
were_read : (may : Answer → Type 0) (kind : FileKind) (rank : ℕ) (path_of : List ℕ → List ℕ) (names : List (List ℕ)) (files : List SourceFile) → AreFilesAt may kind rank path_of names files → WereDone (file_steps may (map path_of names))
were_read may kind rank path_of [] files h = tt
were_read may kind rank path_of (name ∷ names) [] h = absurd h
were_read may kind rank path_of (name ∷ names) (file ∷ files) h = ((file.bytes, h.0.1), were_read may kind rank path_of names files h.1)

-- the first that fails, if those before it were done
first_at : (before : List ReadStep) (one : ReadStep) (following : List ReadStep) (path : List ℕ) → WereDone before → one.FailsAt path → FirstFails (before ++ one ∷ following) path
first_at [] one following path were h = inl h
first_at (step ∷ steps) one following path were h = inr (were.0, first_at steps one following path were.1 h)

-- a fault at the step of one of the items, if the steps of those before it were done
at_one : {T : Type 0} (step : T → ReadStep) (items before : List T) (one : T) (following : List T) (fault : ReadFault) → items ≡ before ++ one ∷ following → WereDone (map step before) → HasPath (step one).FailsAt fault
    → HasPath (FirstFails (map step items)) fault
at_one step items before one following (Path text) cut were h =
    subst (λ steps. FirstFails steps (string_bytes text)) (sym (ap (map step) cut ∙ map-append step before (one ∷ following)))
    (first_at (map step before) (step one) (map step following) (string_bytes text) were h)
at_one step items before one following Memory cut were h = tt

-- a fault at one of the files, if those before it were read
at_file : {T : Type 0} (text : T → List ℕ) (may : Answer → Type 0) (kind : FileKind) (rank : ℕ) (path_of : List ℕ → List ℕ) (items before : List T) (one : T) (following : List T) (files : List SourceFile) (fault : ReadFault)
    → items ≡ before ++ one ∷ following → AreFilesAt may kind rank path_of (map text before) files → HasPath (λ p. (p ≡ path_of (text one)) × IsUnread may p) fault → HasPath (FirstFails (file_steps may (map path_of (map text items)))) fault
at_file text may kind rank path_of items before one following files fault cut were h =
    at_one (file_step may) (map path_of (map text items)) (map path_of (map text before)) (path_of (text one)) (map path_of (map text following)) fault
    (ap (λ xs. map path_of (map text xs)) cut ∙ ap (map path_of) (map-append text before (one ∷ following)) ∙ map-append path_of (map text before) (text one ∷ map text following))
    (were_read may kind rank path_of (map text before) files were) h

-- a path is itself
pub as_itself : (paths : List (List ℕ)) → map (λ path. path) paths ≡ paths
as_itself [] = refl
as_itself (path ∷ paths) = ap (λ ps. path ∷ ps) (as_itself paths)

-- a fault at the named file of this place, if those before it were read
pub at_named : {T : Type 0} (text : T → List ℕ) (may : Answer → Type 0) (kind : FileKind) (items : List T) (place : ℕ) (d : T) (files : List SourceFile) (fault : ReadFault)
    → place < length items → AreNamed may kind (map text (take place items)) files → HasPath (λ p. (p ≡ text (get_or items place d)) × IsUnread may p) fault → HasPath (FirstFails (file_steps may (map text items))) fault
at_named text may kind items place d files fault within were h =
    subst (λ ps. HasPath (FirstFails (file_steps may ps)) fault) (as_itself (map text items))
    (at_file text may kind 0 (λ path. path) items (take place items) (get_or items place d) (drop (suc place) items) files fault (split_at items place d within) were h)

-- the named file of this place is read after those before it
pub named_more : {T : Type 0} (text : T → List ℕ) (may : Answer → Type 0) (kind : FileKind) (items : List T) (place : ℕ) (d : T) (files : List SourceFile) (file : SourceFile)
    → place < length items → AreNamed may kind (map text (take place items)) files → IsFileAt may kind 0 (text (get_or items place d)) (text (get_or items place d)) file
    → AreNamed may kind (map text (take (place + 1) items)) (files ++ file ∷ [])
named_more text may kind items place d files file within were h =
    subst (λ ps. AreNamed may kind (map text ps) (files ++ file ∷ [])) (sym (one_more items place d within))
    (file_more text may kind 0 (λ path. path) (take place items) files (get_or items place d) file were h)

-- the added files were read at their paths
pub were_added : (may : Answer → Type 0) (paths : List (List ℕ)) (files : List SourceFile) → AreAdded may paths files → WereDone (file_steps may paths)
were_added may [] files h = tt
were_added may (path ∷ paths) [] h = absurd h
were_added may (path ∷ paths) (file ∷ files) h = ((file.bytes, h.0.1), were_added may paths files h.1)

-- the named files were read at their paths
pub were_named : (may : Answer → Type 0) (kind : FileKind) (paths : List (List ℕ)) (files : List SourceFile) → AreNamed may kind paths files → WereDone (file_steps may paths)
were_named may kind paths files h = subst (λ ps. WereDone (file_steps may ps)) (as_itself paths) (were_read may kind 0 (λ path. path) paths files h)

-- a fault at the added file of this place, if those before it were read
pub at_added : {T : Type 0} (text : T → List ℕ) (may : Answer → Type 0) (items : List T) (place : ℕ) (d : T) (files : List SourceFile) (fault : ReadFault)
    → place < length items → AreAdded may (map text (take place items)) files → HasPath (λ p. (p ≡ text (get_or items place d)) × IsUnread may p) fault → HasPath (FirstFails (file_steps may (map text items))) fault
at_added text may items place d files fault within were h =
    let before = take place items in
    let one = get_or items place d in
    let following = drop (suc place) items in
    at_one (file_step may) (map text items) (map text before) (text one) (map text following) fault
    (ap (map text) (split_at items place d within) ∙ map-append text before (one ∷ following))
    (were_added may (map text before) files were) h

-- the added file of this place is read after those before it
pub added_more : {T : Type 0} (text : T → List ℕ) (may : Answer → Type 0) (items : List T) (place : ℕ) (d : T) (files : List SourceFile) (file : SourceFile)
    → place < length items → AreAdded may (map text (take place items)) files → IsFileAt may (kind_added (text (get_or items place d))) 0 (text (get_or items place d)) (name_at (text (get_or items place d))) file
    → AreAdded may (map text (take (place + 1) items)) (files ++ file ∷ [])
added_more text may items place d files file within were h =
    let before = take place items in
    let one = get_or items place d in
    subst (λ ps. AreAdded may (map text ps) (files ++ file ∷ [])) (sym (one_more items place d within))
    (subst (λ names. AreAdded may names (files ++ file ∷ [])) (sym (map-append text before (one ∷ [])))
    (zip_more _ (map text before) files (text one) file were h))

-- a fault at a file of the folder, if those before it were read
pub at_file_in : (may : Answer → Type 0) (folder : Folder) (names before : List (String Global)) (name : String Global) (following : List (String Global)) (files : List SourceFile) (fault : ReadFault) → AreNamesIn may folder names → names ≡ before ++ name ∷ following
    → AreFilesAt may folder.kind folder.rank (path_in folder) (map string_bytes before) files → HasPath (λ p. (p ≡ path_in folder (string_bytes name)) × IsUnread may p) fault → HasPath (IsFaultyIn may folder) fault
at_file_in may folder names before name following files (Path path) are cut were h =
    (names, inr (are, at_file string_bytes may folder.kind folder.rank (path_in folder) names before name following files (Path path) cut were h))
at_file_in may folder names before name following files Memory are cut were h = tt

-- a fault at the listing of a folder
pub at_folder : (may : Answer → Type 0) (folder : Folder) (fault : ReadFault) → HasPath (λ p. (p ≡ string_bytes folder.path) × IsUnlisted may p) fault → HasPath (IsFaultyIn may folder) fault
at_folder may folder (Path path) h = ([], inl h)
at_folder may folder Memory h = tt

-- the folders were read if their files were
were_listed : (may : Answer → Type 0) (folders : List Folder) (files : List SourceFile) → AreInFolders may folders files → WereDone (folder_steps may folders)
were_listed may folders files were = each_done (AreInFolder may) (folder_step may) (λ folder own h. (own, h)) folders were.0 were.1

-- a fault at a folder among others, if those before it were read
pub among : (may : Answer → Type 0) (folders before : List Folder) (folder : Folder) (following : List Folder) (files : List SourceFile) (fault : ReadFault) → folders ≡ before ++ folder ∷ following → AreInFolders may before files → HasPath (IsFaultyIn may folder) fault
    → HasPath (FirstFails (folder_steps may folders)) fault
among may folders before folder following files fault cut were h = at_one (folder_step may) folders before folder following fault cut (were_listed may before files were) h

-- a fault at one of these steps is one at them and more
pub in_front : (steps more : List ReadStep) (fault : ReadFault) → HasPath (FirstFails steps) fault → HasPath (FirstFails (steps ++ more)) fault
in_front steps more (Path path) h = failing steps h
  where
    failing : (steps : List ReadStep) → FirstFails steps (string_bytes path) → FirstFails (steps ++ more) (string_bytes path)
    failing [] h = absurd h
    failing (step ∷ steps) (inl h) = inl h
    failing (step ∷ steps) (inr h) = inr (h.0, failing steps h.1)
in_front steps more Memory h = tt

-- a fault at what follows steps that were done
pub behind : (steps more : List ReadStep) (fault : ReadFault) → WereDone steps → HasPath (FirstFails more) fault → HasPath (FirstFails (steps ++ more)) fault
behind steps more (Path path) were h = failing steps were
  where
    failing : (steps : List ReadStep) → WereDone steps → FirstFails (steps ++ more) (string_bytes path)
    failing [] were = h
    failing (step ∷ steps) were = inr (were.0, failing steps were.1)
behind steps more Memory were h = tt

-- what `?` hands on is the fault itself
pub handed_on : {T : Type 0} (P : List ℕ → Type 0) (r : Result T ReadFault) (fault : ReadFault) → IsErrAnd r (λ e. e ≡ fault) → HasPath P fault → IfErr r (HasPath P)
handed_on P (Ok x) fault is h = tt
handed_on P (Err e) fault is h = subst (HasPath P) (sym is) h
