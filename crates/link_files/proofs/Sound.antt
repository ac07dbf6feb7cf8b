-- A file without faults in its lines can be read.
use Rattle.std.proofs.Common.{◌≡◌, ℕ, Bool, true, false, not, cond, List, [], ◌∷◌, ◌++◌, ◌+◌, Option, Some, None, flat_map, fold, refl, ap, ◌∙◌, sym}
use Rattle.std.specs.Str.{is_utf8}
use Rattle.text_bytes.specs.Lines.{NumberedLine, lines, numbered_from}
use Rattle.text_bytes.specs.Names.{equals, open_bracket, space}
use Rattle.text_bytes.specs.Texts.{begins_with, is_empty, split_once, without_last}
use Rattle.text_bytes.specs.declared.source_file.SourceFile.{SourceFile}
use Rattle.text_bytes.specs.Text.{Text}
use Rattle.link_files.specs.Files.{reading_of}
use Rattle.link_files.specs.Lines.{bare, is_comment, is_continued, joined_from, stripped}
use Rattle.link_files.specs.Settings.{ReadingValue, broken, section_of, unmarked, with_assignment, with_file, with_line, with_section}
use Rattle.link_files.specs.Faults.{assignment_faults, bad_line, faults_from, file_faults, line_faults, section_after, section_faults}
use Rattle.link_files.specs.Joined.{JoinedLine, joined_after, joined_lines, with_part, with_space}
use Rattle.link_files.specs.declared.sections.Section.{Section}
use Rattle.link_files.specs.declared.sections.Section.TheVariants as section

-- an assignment leaves what was read sound
assigned : (r : ReadingValue) (parts : Option (Text × Text)) → (with_assignment r parts).is_sound ≡ r.is_sound
assigned r None = refl
assigned r (Some p) = refl

-- a section that has a name does so, and one that has none is a fault
begun : (r : ReadingValue) (l : JoinedLine) (name : Option Text) → section_faults l name ≡ [] → (with_section r name).is_sound ≡ r.is_sound
begun r l None h = cc
begun r l (Some n) h = refl

-- a line without faults leaves what was read sound
line_sound : (section : Section) (r : ReadingValue) (l : JoinedLine) → line_faults section l ≡ [] → (with_line r l.text).is_sound ≡ r.is_sound
unfolding line_faults with_line
line_sound section r l h =
    by (is_empty (stripped l.text)) (is_utf8 (stripped l.text)) (begins_with open_bracket (stripped l.text)) h
  where
    by : (none utf8 bracket : Bool)
        → cond none [] (cond (not utf8) (bad_line l) (cond bracket (section_faults l (section_of (stripped l.text))) (assignment_faults section l (split_once equals (stripped l.text))))) ≡ []
        → (cond none r (cond (not utf8) (broken r) (cond bracket (with_section r (section_of (stripped l.text))) (with_assignment r (split_once equals (stripped l.text)))))).is_sound ≡ r.is_sound
    by true utf8 bracket h = refl
    by false false bracket h = cc
    by false true true h = begun r l (section_of (stripped l.text)) h
    by false true false h = assigned r (split_once equals (stripped l.text))

-- the text that is held of a line that goes on
abbrev held_text : Option JoinedLine → Text
held_text None = []
held_text (Some l) = l.text

-- a part after it
part_text : (held : Option JoinedLine) (l : NumberedLine) (part : Text) → (with_part held l part).text ≡ held_text held ++ part
part_text None l part = refl
part_text (Some h) l part = refl

-- no line of two lists has a fault
no_more : {X : Type 0} (xs ys : List X) → xs ++ ys ≡ [] → (xs ≡ []) × (ys ≡ [])
no_more [] ys h = (refl, h)
no_more (x ∷ xs) ys h = cc

-- an empty line adds nothing
nothing : (r : ReadingValue) → with_line r [] ≡ r
unfolding with_line stripped
nothing r = refl

-- a line with its number
abbrev numbered : ℕ → Text → NumberedLine
numbered n t = record { number = n; text = t }

-- what is held after a line that goes on, and the line that ends otherwise
abbrev more : Option JoinedLine → ℕ → Text → JoinedLine
more held n t = with_space (with_part held (numbered n t) (without_last (bare t)))

abbrev whole : Option JoinedLine → ℕ → Text → JoinedLine
whole held n t = with_part held (numbered n t) (bare t)

more_text : (held : Option JoinedLine) (n : ℕ) (t : Text) → (more held n t).text ≡ (held_text held ++ without_last (bare t)) ++ space ∷ []
more_text held n t = ap (λ x. x ++ space ∷ []) (part_text held (numbered n t) (without_last (bare t)))

-- lines without faults leave what was read sound
lines_sound : (n : ℕ) (ts : List Text) (held : Option JoinedLine) (section : Section) (r : ReadingValue)
    → faults_from section (joined_after held (numbered_from n ts)) ≡ [] → (fold with_line r (joined_from (held_text held) ts)).is_sound ≡ r.is_sound
unfolding joined_after joined_from
lines_sound n [] None section r h = ap (λ (s : ReadingValue). s.is_sound) (nothing r)
lines_sound n [] (Some l) section r h = line_sound section r l (no_more (line_faults section l) [] h).0
lines_sound n (t ∷ ts) held section r h =
    by (is_comment t) (is_continued (bare t)) (lines_sound (n + 1) ts held section r) (lines_sound (n + 1) ts (Some (more held n t)) section r)
    (lines_sound (n + 1) ts None (section_after section (whole held n t)) (with_line r (whole held n t).text)) h
  where
    by : (comment goes_on : Bool)
        → (faults_from section (joined_after held (numbered_from (n + 1) ts)) ≡ [] → (fold with_line r (joined_from (held_text held) ts)).is_sound ≡ r.is_sound)
        → (faults_from section (joined_after (Some (more held n t)) (numbered_from (n + 1) ts)) ≡ [] → (fold with_line r (joined_from (more held n t).text ts)).is_sound ≡ r.is_sound)
        → (faults_from (section_after section (whole held n t)) (joined_after None (numbered_from (n + 1) ts)) ≡ []
        → (fold with_line (with_line r (whole held n t).text) (joined_from [] ts)).is_sound ≡ (with_line r (whole held n t).text).is_sound)
        → faults_from section (cond comment (joined_after held (numbered_from (n + 1) ts)) (cond goes_on (joined_after (Some (more held n t)) (numbered_from (n + 1) ts)) (whole held n t ∷ joined_after None (numbered_from (n + 1) ts)))) ≡ []
        → (fold with_line r (cond comment (joined_from (held_text held) ts) (cond goes_on (joined_from ((held_text held ++ without_last (bare t)) ++ space ∷ []) ts) ((held_text held ++ bare t) ∷ joined_from [] ts)))).is_sound ≡ r.is_sound
    by true goes_on skipped on ended h = skipped h
    by false true skipped on ended h = ap (λ (x : Text). (fold with_line r (joined_from x ts)).is_sound) (sym (more_text held n t)) ∙ on h
    by false false skipped on ended h =
        let both = no_more (line_faults section (whole held n t)) (faults_from (section_after section (whole held n t)) (joined_after None (numbered_from (n + 1) ts))) h in
        ap (λ (x : Text). (fold with_line (with_line r x) (joined_from [] ts)).is_sound) (sym (part_text held (numbered n t) (bare t)))
        ∙ ended both.1
        ∙ line_sound section r (whole held n t) both.0

-- a file without faults in its lines leaves what was read sound
file_sound : (r : ReadingValue) (bytes : Text) → file_faults bytes ≡ [] → (with_file r bytes).is_sound ≡ r.is_sound
unfolding file_faults joined_lines with_file
file_sound r bytes h = lines_sound 1 (lines (unmarked bytes)) None section.Before (record r { section = [] }) h

-- files without such faults do so, one after another
pub files_sound : (r : ReadingValue) (files : List SourceFile) → flat_map (λ f. file_faults f.bytes) files ≡ [] → (reading_of r files).is_sound ≡ r.is_sound
files_sound r [] h = refl
files_sound r (f ∷ fs) h =
    let both = no_more (file_faults f.bytes) (flat_map (λ g. file_faults g.bytes) fs) h in
    files_sound (with_file r f.bytes) fs both.1 ∙ file_sound r f.bytes both.0
