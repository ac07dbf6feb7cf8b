-- The words of messages about a database, at their places.
use Rattle.std.proofs.Common.{◌≡◌, ℕ, zero, suc, ◌+◌, ◌-◌, ◌^◌, ◌<◌, Bool, true, false, cond, not, ◌==◌, List, [], ◌∷◌, All, Option, Some, None, Result, Ok, Err, length, take, drop, get_or, map, filter, flat_map, refl, ap, sym, ◌∙◌, arith}
use Rattle.std.specs.List.{Contains, onto_first, position, prefix_len, slice_split}
use Rattle.std.proofs.Math.Path.{subst}
use Rattle.std.proofs.lemmas.List.{get_or_default}
use Rattle.std.proofs.lemmas.List.Elements.{All-append, All-cons, All-drop, All-filter, All-from_get_or, All-head, All-map, All-nil, All-tail, All-take, All-weaker}
use Rattle.text_bytes.specs.Lines.{NumberedLine, lines, numbered_from, numbered_lines}
use Rattle.text_bytes.specs.Numbers.{capped}
use Rattle.file_messages.specs.Messages.{message}
use Rattle.text_bytes.specs.Names.{equals, hash}
use Rattle.text_bytes.specs.Texts.{begins_with, skip_while, trimmed, up_to, word_of}
use Rattle.file_messages.specs.declared.message.Message.{Message}
use Rattle.file_messages.specs.declared.message.MessageKind.{MessageKind}
use Rattle.file_messages.specs.declared.message.MessageKind.TheVariants.{PropertyWithoutMatch, MatchWithoutProperty, UnindentedLine, NoEquals, EmptyKey, PatternNotSupported}
use Rattle.text_bytes.specs.declared.source_file.SourceFile.{SourceFile}
use Rattle.text_core.specs.Spell.{spell}
use Rattle.text_core.specs.declared.glob_fault.GlobFault.{GlobFault}
use Rattle.text_core.specs.declared.item.Item.{Item}
use Rattle.hwdb_core.specs.Lines.{cleaned, lines_of}
use Rattle.hwdb_core.specs.Messages.{about_bare, about_early, about_match, about_pair, about_property, about_spelled, cut_messages}
use Rattle.hwdb_core.specs.Paragraphs.{cut, has_lines, is_empty_line, is_match, is_property, paragraphs}
use Rattle.hwdb_core.specs.Properties.{pair_at, property_text}
use Rattle.hwdb_core.specs.Sources.{cuts_of, messages_of}
use Rattle.engine_formats.specs.Made.{IsFoundIn}
use Rattle.engine_formats.specs.Placing.{line_numbered, placed, reported_text}
use Rattle.engine_formats.proofs.Places.{word_at}

-- the line to use if there is none
abbrev no_line : NumberedLine
no_line = record { number = 0; text = [] }

-- the line of an index among numbered texts
numbered_at : (n : ℕ) (ts : List (List ℕ)) (k : ℕ) → k < length (numbered_from n ts) → (get_or (numbered_from n ts) k no_line).number ≡ n + k
numbered_at n [] k h = absurd (omega arith)
numbered_at n (t ∷ ts) zero h = omega arith
numbered_at n (t ∷ ts) (suc k) h = numbered_at (n + 1) ts k (omega arith) ∙ omega arith

length_numbered : (n : ℕ) (ts : List (List ℕ)) → length (numbered_from n ts) ≡ length ts
length_numbered n [] = refl
length_numbered n (t ∷ ts) = ap suc (length_numbered (n + 1) ts)

-- all lines of a file with their numbers, of which there are few enough to be reported
module _ (bytes : List ℕ) (few : length (lines bytes) < 2 ^ 32) where
  abbrev there : List NumberedLine
  there = numbered_lines bytes

  -- a line is in the file at its number, which is reported as it is
  abbrev IsPresent : NumberedLine → Type 0
  IsPresent l = (line_numbered there l.number ≡ l.text) × (l.number < 2 ^ 32) × Contains there l

  -- the file has a line of a number
  abbrev HasLine : ℕ → Type 0
  HasLine number = Contains there (record { number = number; text = line_numbered there number })

  -- a line is what is left of such a line
  abbrev IsLeft : NumberedLine → Type 0
  IsLeft l = (trimmed (up_to hash (line_numbered there l.number)) ≡ l.text) × (l.number < 2 ^ 32) × HasLine l.number

  -- a message keeps the first bytes of the text at its place, and its line is there
  abbrev KeepsWord : Message → Type 0
  KeepsWord m = (word_of (placed there m).word ≡ m.word) × HasLine m.line

  is_at : (k : ℕ) → k < length there → IsPresent (get_or there k no_line)
  is_at k h =
      let number : (get_or there k no_line).number ≡ 1 + k = numbered_at 1 (lines bytes) k h in
      let size : length there ≡ length (lines bytes) = length_numbered 1 (lines bytes) in
      let index : (get_or there k no_line).number - 1 ≡ k = omega arith in
      (ap (λ (j : ℕ). (get_or there j no_line).text) index, omega arith, (k, h, get_or_default there k (get_or there k no_line) no_line h))

  all_in_place : All IsPresent there
  all_in_place = All-from_get_or IsPresent there no_line is_at

  left_lines : All IsLeft (lines_of bytes)
  left_lines =
      let kept : NumberedLine → Bool = λ (l : NumberedLine). not (begins_with hash l.text) in
      All-map IsLeft cleaned (filter kept there)
      (All-weaker IsPresent (λ l. IsLeft (cleaned l)) (λ l h. (ap (λ (t : List ℕ). trimmed (up_to hash t)) h.0, h.1, subst (λ (t : List ℕ). Contains there (record { number = l.number; text = t })) (sym h.0) h.2)) (filter kept there) (All-filter kept IsPresent there all_in_place))

  onto : (l : NumberedLine) (parts : List (List NumberedLine)) → IsLeft l → All (λ ls. All IsLeft ls) parts → All (λ ls. All IsLeft ls) (onto_first l parts)
  onto l [] h k = All-cons (λ ls. All IsLeft ls) (l ∷ []) [] (All-cons IsLeft l [] h (All-nil IsLeft)) (All-nil (λ ls. All IsLeft ls))
  onto l (part ∷ parts) h k =
      All-cons (λ ls. All IsLeft ls) (l ∷ part) parts (All-cons IsLeft l part h (All-head (λ ls. All IsLeft ls) part parts k)) (All-tail (λ ls. All IsLeft ls) part parts k)

  split : (ls : List NumberedLine) → All IsLeft ls → All (λ part. All IsLeft part) (slice_split is_empty_line ls)
  split [] h = All-cons (λ part. All IsLeft part) [] [] (All-nil IsLeft) (All-nil (λ part. All IsLeft part))
  split (l ∷ ls) h = by_test (is_empty_line l) (split ls (All-tail IsLeft l ls h)) where
    by_test : (v : Bool) → All (λ part. All IsLeft part) (slice_split is_empty_line ls)
        → All (λ part. All IsLeft part) (cond v ([] ∷ slice_split is_empty_line ls) (onto_first l (slice_split is_empty_line ls)))
    by_test true k = All-cons (λ part. All IsLeft part) [] (slice_split is_empty_line ls) (All-nil IsLeft) k
    by_test false k = onto l (slice_split is_empty_line ls) (All-head IsLeft l ls h) k

  left_paragraphs : All (λ part. All IsLeft part) (paragraphs (lines_of bytes))
  left_paragraphs = All-filter has_lines (λ part. All IsLeft part) (slice_split is_empty_line (lines_of bytes)) (split (lines_of bytes) left_lines)

  -- the message that says about what is left of a line, by what it says about it
  keeps : (file : List ℕ) (l : NumberedLine) (kind : MessageKind) (text : List ℕ) → IsLeft l → text ≡ reported_text l.text kind → KeepsWord (message file l.number kind text)
  keeps file l kind text h same =
      let number : capped l.number ≡ l.number = omega (arith, h.1) in (
        ap (λ (n : ℕ). word_of (reported_text (trimmed (up_to hash (line_numbered there n))) kind)) number
            ∙ ap (λ (t : List ℕ). word_of (reported_text t kind)) h.0 ∙ ap word_of (sym same),
        subst HasLine (sym number) h.2,
      )

  early : (file : List ℕ) (ls : List NumberedLine) → All IsLeft ls → All KeepsWord (map (about_early file) ls)
  early file ls h = All-map KeepsWord (about_early file) ls (All-weaker IsLeft (λ l. KeepsWord (about_early file l)) (λ l k. keeps file l PropertyWithoutMatch (property_text l) k refl) ls h)

  first_reported : (file : List ℕ) (kind : MessageKind) (ls : List NumberedLine) → ((t : List ℕ) → reported_text t kind ≡ t) → All IsLeft ls
      → All KeepsWord (map (λ l. message file l.number kind l.text) (take 1 ls))
  first_reported file kind ls whole h =
      All-map KeepsWord (λ l. message file l.number kind l.text) (take 1 ls)
      (All-weaker IsLeft (λ l. KeepsWord (message file l.number kind l.text)) (λ l k. keeps file l kind l.text k (sym (whole l.text))) (take 1 ls) (All-take IsLeft 1 ls h))

  bare : (file : List ℕ) (matches properties : List NumberedLine) → All IsLeft matches → All KeepsWord (about_bare file matches properties)
  bare file matches properties h = by_test (length properties == 0) where
    by_test : (v : Bool) → All KeepsWord (cond v (map (λ l. message file l.number MatchWithoutProperty l.text) (take 1 matches)) [])
    by_test true = first_reported file MatchWithoutProperty matches (λ t. refl) h
    by_test false = All-nil KeepsWord

  spelled : (file : List ℕ) (l : NumberedLine) (r : Result (List Item) GlobFault) → IsLeft l → All KeepsWord (about_spelled file l r)
  spelled file l (Ok pattern) h = All-nil KeepsWord
  spelled file l (Err fault) h = All-cons KeepsWord (message file l.number PatternNotSupported l.text) [] (keeps file l PatternNotSupported l.text h refl) (All-nil KeepsWord)

  one_reported : (file : List ℕ) (l : NumberedLine) (kind : MessageKind) → IsLeft l → property_text l ≡ reported_text l.text kind → All KeepsWord (message file l.number kind (property_text l) ∷ [])
  one_reported file l kind h same = All-cons KeepsWord (message file l.number kind (property_text l)) [] (keeps file l kind (property_text l) h same) (All-nil KeepsWord)

  paired : (file : List ℕ) (l : NumberedLine) (o : Option ℕ) → IsLeft l → All KeepsWord (about_pair file l (pair_at (property_text l) o))
  paired file l None h = one_reported file l NoEquals h refl
  paired file l (Some at) h = by_test (at == 0) where
    by_test : (v : Bool) → All KeepsWord (about_pair file l (cond v (Err EmptyKey) (Ok (record { key = take at (property_text l); value = drop (at + 1) (property_text l) }))))
    by_test true = one_reported file l EmptyKey h refl
    by_test false = All-nil KeepsWord

  each : (f : NumberedLine → List Message) → ((l : NumberedLine) → IsLeft l → All KeepsWord (f l)) → (ls : List NumberedLine) → All IsLeft ls → All KeepsWord (flat_map f ls)
  each f reported [] h = All-nil KeepsWord
  each f reported (l ∷ ls) h = All-append KeepsWord (f l) (flat_map f ls) (reported l (All-head IsLeft l ls h)) (each f reported ls (All-tail IsLeft l ls h))

  reported_for_cut : (file : List ℕ) (p : List NumberedLine) → All IsLeft p → All KeepsWord (cut_messages file (cut p))
  reported_for_cut file p h =
      let c = cut p in
      let from_matches = All-drop IsLeft (prefix_len is_property p) p h in
      let matches = All-take IsLeft (prefix_len is_match (skip_while is_property p)) (skip_while is_property p) from_matches in
      let from_properties = All-drop IsLeft (prefix_len is_match (skip_while is_property p)) (skip_while is_property p) from_matches in
      let following : List NumberedLine = skip_while is_match (skip_while is_property p) in
      let properties = All-take IsLeft (prefix_len is_property following) following from_properties in
      let rest = All-drop IsLeft (prefix_len is_property following) following from_properties in
      All-append KeepsWord (map (about_early file) c.early) _ (early file c.early (All-take IsLeft (prefix_len is_property p) p h))
      (All-append KeepsWord (about_bare file c.matches c.properties) _ (bare file c.matches c.properties matches)
      (All-append KeepsWord (flat_map (about_match file) c.matches) _ (each (about_match file) (λ l k. spelled file l (spell l.text) k) c.matches matches)
      (All-append KeepsWord (flat_map (about_property file) c.properties) _ (each (about_property file) (λ l k. paired file l (position (λ b. b == equals) (property_text l)) k) c.properties properties)
      (first_reported file UnindentedLine c.rest (λ t. refl) rest))))

  reported_for_cuts : (file : List ℕ) (ps : List (List NumberedLine)) → All (λ part. All IsLeft part) ps → All KeepsWord (flat_map (cut_messages file) (map cut ps))
  reported_for_cuts file [] h = All-nil KeepsWord
  reported_for_cuts file (p ∷ ps) h =
      All-append KeepsWord (cut_messages file (cut p)) (flat_map (cut_messages file) (map cut ps))
      (reported_for_cut file p (All-head (λ part. All IsLeft part) p ps h)) (reported_for_cuts file ps (All-tail (λ part. All IsLeft part) p ps h))

kept : (file : SourceFile) (few : length (lines file.bytes) < 2 ^ 32) → All (KeepsWord file.bytes few) (messages_of (file ∷ []))
kept file few =
    All-append (KeepsWord file.bytes few) (flat_map (cut_messages file.name) (cuts_of file)) []
    (reported_for_cuts file.bytes few file.name (paragraphs (lines_of file.bytes)) (left_paragraphs file.bytes few))
    (All-nil (KeepsWord file.bytes few))

pub words_kept : (file : SourceFile) → length (lines file.bytes) < 2 ^ 32 → All (λ m. word_of (placed (numbered_lines file.bytes) m).word ≡ m.word) (messages_of (file ∷ []))
words_kept file few =
    All-weaker (KeepsWord file.bytes few) (λ m. word_of (placed (numbered_lines file.bytes) m).word ≡ m.word) (λ m k. k.0) (messages_of (file ∷ [])) (kept file few)

-- what each line has, and the empty text, is had by the text of a line by its number
text_at : (P : List ℕ → Type 0) → P [] → (n : ℕ) (ts : List (List ℕ)) → All P ts → (k : ℕ) → P (get_or (numbered_from n ts) k no_line).text
text_at P e n [] h k = e
text_at P e n (t ∷ ts) h zero = All-head P t ts h
text_at P e n (t ∷ ts) h (suc k) = text_at P e (n + 1) ts (All-tail P t ts h) k

pub places_kept : (file : SourceFile) → length (lines file.bytes) < 2 ^ 32 → All (λ line. length line < 2 ^ 32 - 1) (lines file.bytes)
    → All (λ m. IsFoundIn (numbered_lines file.bytes) m.line (placed (numbered_lines file.bytes) m)) (messages_of (file ∷ []))
places_kept file few short =
    All-weaker (KeepsWord file.bytes few) (λ m. IsFoundIn (numbered_lines file.bytes) m.line (placed (numbered_lines file.bytes) m))
    (λ m k.
    let at = word_at (line_numbered (numbered_lines file.bytes) m.line) m.kind (text_at (λ line. length line < 2 ^ 32 - 1) (omega arith) 1 (lines file.bytes) short (m.line - 1)) in
    record { line = k.1; first = at.0; end = at.1; text = at.2 })
    (messages_of (file ∷ [])) (kept file few)
