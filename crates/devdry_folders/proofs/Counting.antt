-- A table of files into which the sights are put from the last one on has of each name the first file.
use Rattle.std.proofs.Common.{◌≡◌, ◌∙◌, ◌++◌, ◌∷◌, ◌&&◌, [], ap, Bool, Bor, codes, cond, false, List, map, Option, option_copied, refl, reverse, Some, subst, sym, true, ℕ}
use Rattle.std.proofs.lemmas.List.{map-append, reverse-append, reverse-reverse}
use Rattle.text_bytes.specs.Escapes.{escape_text}
use Rattle.text_bytes.specs.Names.{newline}
use Rattle.text_bytes.specs.declared.source_file.FileKind.{FileKind}
use Rattle.text_tables.proofs.Found.{value_set}
use Rattle.text_tables.specs.Pairs.{value_of, with_value}
use Rattle.text_tables.specs.Texts.{same_text}
use Rattle.devdry_folders.specs.SightStatus.{counting, sight_status, status_line}
use Rattle.devdry_folders.specs.Unread.{is_file}
use Rattle.devdry_folders.specs.declared.sights.Sight.{Sight}

-- files by name
abbrev Files : Type 0
Files = List (List ℕ × Bor Sight)

-- each name has the file that counts among these sights
pub record AreCounting (files : Files) (sights : List Sight) : Type 0 where
  pub by_name : (name : List ℕ) → option_copied (value_of files name) ≡ counting sights name

-- one sight more in front of the others
abbrev with_file : Files → Bor Sight → Files
with_file files s = cond (is_file s.now.met) (with_value files s.now.name s) files

prepended : (files : Files) (sights : List Sight) (s : Bor Sight) → AreCounting files sights → AreCounting (with_file files s) (s.now ∷ sights)
prepended files sights s held = record { by_name = λ name. by name (is_file s.now.met) }
  where
    same : (name : List ℕ) (b : Bool) → option_copied (cond b (Some s) (value_of files name)) ≡ cond b (Some s.now) (counting sights name)
    same name true = refl
    same name false = held.by_name name

    by : (name : List ℕ) (b : Bool) → option_copied (value_of (cond b (with_value files s.now.name s) files) name) ≡ cond (b && same_text name s.now.name) (Some s.now) (counting sights name)
    by name true = ap option_copied (value_set files s.now.name s name) ∙ same name (same_text name s.now.name)
    by name false = held.by_name name

-- sights in their order, taken from the last to the first
abbrev seen : List (Bor Sight) → List Sight
seen past = reverse (map (λ s. s.now) past)

seen_more : (past : List (Bor Sight)) (s : Bor Sight) → seen (past ++ s ∷ []) ≡ s.now ∷ seen past
seen_more past s = ap reverse (map-append (λ r. r.now) past (s ∷ [])) ∙ reverse-append (map (λ r. r.now) past) (s.now ∷ [])

pub counting_none : (files : Files) → files ≡ [] → AreCounting files []
counting_none files e = record { by_name = λ name. ap (λ (held : Files). option_copied (value_of held name)) e }

pub counting_more : (files new : Files) (past : List (Bor Sight)) (s : Bor Sight) → AreCounting files (seen past) → new ≡ with_file files s → AreCounting new (seen (past ++ s ∷ []))
counting_more files new past s held e =
    subst (λ (sights : List Sight). AreCounting new sights) (sym (seen_more past s))
    (subst (λ (now : Files). AreCounting now (s.now ∷ seen past)) (sym e) (prepended files (seen past) s held))

pub counting_all : (files : Files) (past : List (Bor Sight)) (sights : List Sight) → AreCounting files (seen past) → map (λ r. r.now) past ≡ reverse sights
    → (name : List ℕ) → option_copied (value_of files name) ≡ counting sights name
counting_all files past sights held all name =
    held.by_name name ∙ ap (λ (now : List Sight). counting now name) (ap reverse all ∙ reverse-reverse sights)

-- the line by the file that counts is the line on the sight
pub line_is : (kind : FileKind) (sights : List Sight) (s : Sight) (first : Option Sight) → first ≡ counting sights s.name
    → escape_text s.path ++ codes ": " ++ sight_status kind s.path first s.met ++ newline ∷ [] ≡ status_line kind sights s
line_is kind sights s first e = ap (λ (held : Option Sight). escape_text s.path ++ codes ": " ++ sight_status kind s.path held s.met ++ newline ∷ []) e
