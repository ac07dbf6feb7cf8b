-- The lines of a file, walked through.
use Rattle.std.proofs.Common.{◌≡◌, ℕ, true, false, List, ◌∷◌, [], ◌++◌, map, refl, sym, ◌∙◌, ap, subst, append-nil, append_assoc, arith, Result, Ok, Err}
use Rattle.std.specs.List.{All, filter, slice_split}
use Rattle.std.proofs.lemmas.List.Splits.{slice_split_at, slice_split_none}
use Rattle.std.proofs.lemmas.List.Elements.{All-push}
use Rattle.text_bytes.specs.declared.SourceFile.{SourceFile}
use Rattle.text_bytes.specs.Lines.{NumberedLine, lines, numbered_from}
use Rattle.text_bytes.specs.Names.{hash}
use Rattle.text_bytes.specs.Texts.{begins_with}
use Rattle.hwdb_core.specs.Lines.{clean_lines, cleaned, lines_of}
use Rattle.hwdb_core.specs.Paragraphs.{cut, has_lines, is_empty_line, paragraphs}
use Rattle.hwdb_core.specs.Found.{Adds, FailsAt, Found, Held, IsKept, found_in, join, onto}
use Rattle.hwdb_core.specs.Parts.{cut_found, file_found}
use Rattle.hwdb_core.specs.declared.fault.HwdbFault.{HwdbFault}
use Rattle.hwdb_core.specs.declared.fault.HwdbFault.TheVariants.{TooMany, Memory}
use Rattle.hwdb_core.proofs.Joining.{found_in-map, join_nothing, kept_before, nothing_join, onto_join}

abbrev pub paragraph_found : List ℕ → List NumberedLine → Found
paragraph_found file p = cut_found file (cut p)

-- what is found in clean lines
unfoldable pub lines_found : List ℕ → List NumberedLine → Found
lines_found file ls = found_in (paragraph_found file) (paragraphs ls)

-- lines of which none is empty
abbrev pub Open : List NumberedLine → Type 0
Open ls = All (λ l. is_empty_line l ≡ false) ls

pub comment_passed : (l : NumberedLine) (ls : List NumberedLine) → begins_with hash l.text ≡ true → clean_lines (l ∷ ls) ≡ clean_lines ls
comment_passed l ls e = rw e refl

pub line_cleaned : (l : NumberedLine) (ls : List NumberedLine) → begins_with hash l.text ≡ false → clean_lines (l ∷ ls) ≡ cleaned l ∷ clean_lines ls
line_cleaned l ls e = rw e refl

pub found_lines_of : (file bytes : List ℕ) → found_in (cut_found file) (map cut (paragraphs (lines_of bytes))) ≡ lines_found file (lines_of bytes)
unfolding lines_found
found_lines_of file bytes = found_in-map (cut_found file) cut (paragraphs (lines_of bytes))

-- an empty list of lines is not a paragraph, and nothing is found in it
one_more : (file : List ℕ) (p : List NumberedLine) (ps : List (List NumberedLine))
    → found_in (paragraph_found file) (filter has_lines (p ∷ ps)) ≡ join (paragraph_found file p) (found_in (paragraph_found file) (filter has_lines ps))
unfolding found_in
one_more file [] ps = sym (nothing_join (found_in (paragraph_found file) (filter has_lines ps)))
one_more file (l ∷ ls) ps = refl

pub paragraph_ended : (file : List ℕ) (p : List NumberedLine) (l : NumberedLine) (ls : List NumberedLine) → Open p → is_empty_line l ≡ true → lines_found file (p ++ l ∷ ls) ≡ join (paragraph_found file p) (lines_found file ls)
unfolding lines_found
paragraph_ended file p l ls o e =
    ap (λ (ps : List (List NumberedLine)). found_in (paragraph_found file) (filter has_lines ps)) (slice_split_at is_empty_line p l ls o e)
    ∙ one_more file p (slice_split is_empty_line ls)

pub file_ended : (file : List ℕ) (p : List NumberedLine) → Open p → lines_found file (p ++ []) ≡ paragraph_found file p
unfolding lines_found found_in
file_ended file p o =
    ap (λ (q : List NumberedLine). lines_found file q) (append-nil p)
    ∙ ap (λ (ps : List (List NumberedLine)). found_in (paragraph_found file) (filter has_lines ps)) (slice_split_none is_empty_line p o)
    ∙ one_more file p [] ∙ join_nothing (paragraph_found file p)

-- what was found, and what is to be found in the open paragraph and the lines after it, is what is to be found in all
pub record Walks (file : List ℕ) (all now : Held) (p ls : List NumberedLine) : Type 0 where
  pub open_lines : Open p
  pub same : onto now (lines_found file (p ++ clean_lines ls)) ≡ all

module _ (file : List ℕ) (all now : Held) (p : List NumberedLine) (l : NumberedLine) (ls left : List NumberedLine) (w : Walks file all now p left) (e : left ≡ l ∷ ls) where
  here : onto now (lines_found file (p ++ clean_lines (l ∷ ls))) ≡ all
  here = ap (λ (xs : List NumberedLine). onto now (lines_found file (p ++ clean_lines xs))) (sym e) ∙ w.same

  pub walks_comment : begins_with hash l.text ≡ true → Walks file all now p ls
  walks_comment c = record {
    open_lines = w.open_lines;
    same = ap (λ (xs : List NumberedLine). onto now (lines_found file (p ++ xs))) (sym (comment_passed l ls c)) ∙ here;
  }

  pub walks_line : (x : NumberedLine) → begins_with hash l.text ≡ false → x ≡ cleaned l → is_empty_line x ≡ false → (q : List NumberedLine) → q ≡ p ++ x ∷ [] → Walks file all now q ls
  walks_line x c f g q h = record {
    open_lines = subst Open (sym h) (All-push (λ y. is_empty_line y ≡ false) p x w.open_lines g);
    same =
        ap (λ (xs : List NumberedLine). onto now (lines_found file (xs ++ clean_lines ls))) h
        ∙ ap (λ (xs : List NumberedLine). onto now (lines_found file xs)) (append_assoc p (x ∷ []) (clean_lines ls))
        ∙ ap (λ (y : NumberedLine). onto now (lines_found file (p ++ y ∷ clean_lines ls))) f
        ∙ ap (λ (xs : List NumberedLine). onto now (lines_found file (p ++ xs))) (sym (line_cleaned l ls c)) ∙ here;
  }

  at_end : (x : NumberedLine) → begins_with hash l.text ≡ false → x ≡ cleaned l → is_empty_line x ≡ true → onto now (join (paragraph_found file p) (lines_found file (clean_lines ls))) ≡ all
  at_end x c f g =
      ap (onto now) (sym (paragraph_ended file p x (clean_lines ls) w.open_lines g))
      ∙ ap (λ (y : NumberedLine). onto now (lines_found file (p ++ y ∷ clean_lines ls))) f
      ∙ ap (λ (xs : List NumberedLine). onto now (lines_found file (p ++ xs))) (sym (line_cleaned l ls c)) ∙ here

  pub walks_end : (x : NumberedLine) → begins_with hash l.text ≡ false → x ≡ cleaned l → is_empty_line x ≡ true → (next : Held) → next ≡ onto now (paragraph_found file p) → (q : List NumberedLine) → q ≡ [] → Walks file all next q ls
  walks_end x c f g next h q i = record {
    open_lines = subst Open (sym i) (λ k d b. absurd (omega arith));
    same =
        ap (λ (xs : List NumberedLine). onto next (lines_found file (xs ++ clean_lines ls))) i
        ∙ ap (λ (y : Held). onto y (lines_found file (clean_lines ls))) h
        ∙ onto_join now (paragraph_found file p) (lines_found file (clean_lines ls)) ∙ at_end x c f g;
  }

  pub walks_failed : (x : NumberedLine) → begins_with hash l.text ≡ false → x ≡ cleaned l → is_empty_line x ≡ true → (start : Held) (part : Found) → all ≡ onto start part → (f : HwdbFault) → FailsAt now (paragraph_found file p) f → FailsAt start part f
  walks_failed x c f g start part a TooMany h =
      λ k. h (kept_before (onto now (paragraph_found file p)) (lines_found file (clean_lines ls)) (subst IsKept (sym (onto_join now (paragraph_found file p) (lines_found file (clean_lines ls)) ∙ at_end x c f g ∙ a)) k))
  walks_failed x c f g start part a Memory h = tt

-- a walk begins with all lines before it
pub walks_in : (file bytes text : List ℕ) (now : Held) (p ls : List NumberedLine) → p ≡ [] → ls ≡ numbered_from 1 (lines text) → text ≡ bytes
    → Walks file (onto now (lines_found file (lines_of bytes))) now p ls
walks_in file bytes text now p ls e f g = record {
  open_lines = subst Open (sym e) (λ k d b. absurd (omega arith));
  same =
      ap (λ (xs : List NumberedLine). onto now (lines_found file (xs ++ clean_lines ls))) e
      ∙ ap (λ (xs : List NumberedLine). onto now (lines_found file (clean_lines xs))) f
      ∙ ap (λ (t : List ℕ). onto now (lines_found file (lines_of t))) g;
}

pub whole_file : (f : SourceFile) (name : List ℕ) → name ≡ f.name → lines_found name (lines_of f.bytes) ≡ file_found f
whole_file f name e = ap (λ (n : List ℕ). lines_found n (lines_of f.bytes)) e ∙ sym (found_lines_of f.name f.bytes)

-- the last paragraph ends with its file
pub walks_out : {T : Type 0} (file : List ℕ) (all now next : Held) (p left : List NumberedLine) → Walks file all now p left → left ≡ [] → (start : Held) (part : Found) → all ≡ onto start part
    → (r : Result T HwdbFault) → Adds now next (paragraph_found file p) r → Adds start next part r
walks_out {T} file all now next p left w e start part a r h = by_result r h where
  same : onto now (paragraph_found file p) ≡ onto start part
  same =
      ap (onto now) (sym (file_ended file p w.open_lines))
      ∙ ap (λ (xs : List NumberedLine). onto now (lines_found file (p ++ clean_lines xs))) (sym e) ∙ w.same ∙ a

  by_result : (r : Result T HwdbFault) → Adds {T = T} now next (paragraph_found file p) r → Adds {T = T} start next part r
  by_result (Ok x) h = h ∙ same
  by_result (Err TooMany) h = λ k. h (subst IsKept (sym same) k)
  by_result (Err Memory) h = tt
