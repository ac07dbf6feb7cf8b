-- How many lines the formats for people have.
use Rattle.std.proofs.Common.{◌≡◌, ℕ, ◌+◌, ◌-◌, ◌*◌, ◌^◌, ◌<◌, ◌≤◌, Bool, true, false, ◌||◌, ◌==◌, cond, eqb, ltb, List, [], ◌∷◌, ◌++◌, Option, Some, None, IfSome, codes, decimal, drop, flat_map, length, map, nat_eq, take, refl, ap, sym, ◌∙◌, arith, append_assoc}
use Rattle.std.specs.List.{AllByRecursion, list_any, starts_with}
use Rattle.std.proofs.lemmas.Bool.{agree_below_at, le-ltb, ltb-false, ltb-true, ne_eqb, or_from}
use Rattle.text_bytes.specs.Escapes.{escape_byte, escape_text, is_control}
use Rattle.text_bytes.specs.Lines.{lines}
use Rattle.text_bytes.specs.Names.{carriage_return, colon, comma, newline, question_mark, space, tab}
use Rattle.text_bytes.specs.Texts.{begins_with}
use Rattle.engine_sessions.specs.Places.{place_of, word_part}
use Rattle.file_catalogue.specs.Catalogue.{advice_of}
use Rattle.engine_formats.specs.Diagnostics.{DiagnosticValue}
use Rattle.engine_formats.specs.Github.{github_line, github_place, github_property, github_text}
use Rattle.engine_formats.specs.Hints.{advice_by, advice_for, advice_on_comma, advice_with, byte_order_mark, is_at_end, no_break_space}
use Rattle.engine_formats.specs.Meant.{meant_as}
use Rattle.engine_formats.specs.Human.{advice_line, continues, human_lines, mark_line, shown_byte, source_line, source_lines, tilde, title_line, under, window, window_start, with_masked_path}
use Rattle.engine_formats.specs.Lines.{code_part, gcc_line, plain_line, spot_of}
use Rattle.engine_formats.specs.Masked.{masked}
use Rattle.engine_formats.specs.Paints.{paint_of, paint_start, paint_stop}
use Rattle.engine_formats.specs.Readers.{HasPlace, ends_line, ends_property}
use Rattle.file_catalogue.specs.Catalogue.{code_of, remark_heading, severity_of, severity_word, text_of}
use Rattle.engine_formats.specs.declared.paint.Paint.{Paint}
use Rattle.engine_formats.specs.declared.paint.Paint.TheVariants.{Unpainted, Red, Yellow}
use Rattle.file_catalogue.specs.declared.remark.Remark.{Remark}
use Rattle.file_catalogue.specs.declared.remark.Remark.TheVariants as about
use Rattle.file_messages.specs.declared.message.MessageKind.TheVariants.{BadSyntax, CommaExpected, UnknownKey, PropertyWithoutMatch, MatchWithoutProperty, UnindentedLine, NoEquals, EmptyKey, PatternNotSupported, OperatorNotAllowed, WrongAttribute, BadValue, BadSubstitution, NoLaterLabel, GivenTwice, LineTooLong, BadPrefix, SetNotSupported, OpenAtEnd, ReservedProperty, NameWithoutEffect, UnknownBuiltin, MatchesExclude, SaidTwice, RuleWithoutEffect, ResultBeforeProgram, EmptyValue, BadAttributeSubstitution, AttributeElsewhere, OldSubsystemName, AssignExpected, UnknownAccount, FileAbandoned, BlankExpected, ReadAsAssign, LabelUnused, LeadingComma, BlankBeforeComma}
use Rattle.file_catalogue.specs.declared.remark.Severity.{Severity}
use Rattle.file_catalogue.specs.declared.remark.Severity.TheVariants.{Error, Warning}
use Rattle.engine_formats.proofs.Commands.{property_ends_none, text_ends_no_line}
use Rattle.file_catalogue.proofs.Telling.{advice_lacks, code_lacks, heading_lacks, text_lacks}
use Rattle.engine_formats.proofs.MeantNames.{meant_lacks}
use Rattle.engine_formats.proofs.OneLine.{Lacks, decimal_lacks, first_line_is, lacks-append, or_parts}

-- a text is a line: a newline ends it, and none comes before
unfoldable pub IsLine : List ℕ → Type 0
IsLine text = (body : List ℕ) × Lacks newline body × (text ≡ body ++ newline ∷ [])

whole_line : (body : List ℕ) → Lacks newline body → IsLine (body ++ newline ∷ [])
unfolding IsLine
whole_line body h = (body, h, refl)

longer_line : (first text : List ℕ) → Lacks newline first → IsLine text → IsLine (first ++ text)
unfolding IsLine
longer_line first text h line =
    (first ++ line.0, lacks-append newline first line.0 h line.1, ap (λ (t : List ℕ). first ++ t) line.2 ∙ sym (append_assoc first line.0 (newline ∷ [])))

one_more : (text rest : List ℕ) → IsLine text → length (lines (text ++ rest)) ≡ 1 + length (lines rest)
unfolding IsLine
one_more text rest line =
    ap (λ (t : List ℕ). length (lines (t ++ rest))) line.2
    ∙ ap (λ (t : List ℕ). length (lines t)) (append_assoc line.0 (newline ∷ []) rest)
    ∙ ap length (first_line_is line.0 rest line.1) ∙ omega arith

low_escape : (b : ℕ) → b < 128 → Lacks newline (escape_byte b)
low_escape b h = agree_below_at (λ b. list_any (λ x. eqb x newline) (escape_byte b)) (λ _. false) 128 b refl h

high_escape : (b : ℕ) → 128 ≤ b → Lacks newline (escape_byte b)
high_escape b h =
    rw (le-ltb b 32 (omega arith), ne_eqb b 127 (λ e. omega arith), ne_eqb b 92 (λ e. omega arith))
    (or_from (eqb b newline) false (ne_eqb b newline (λ e. omega arith)) refl)

by_height : (b : ℕ) (low : Bool) → ltb b 128 ≡ low → Lacks newline (escape_byte b)
by_height b true e = low_escape b (ltb-true b 128 e)
by_height b false e = high_escape b (ltb-false b 128 e)

escape_lacks : (text : List ℕ) → Lacks newline (escape_text text)
escape_lacks [] = refl
escape_lacks (b ∷ text) = lacks-append newline (escape_byte b) (escape_text text) (by_height b (ltb b 128) refl) (escape_lacks text)

word_lacks : (word : List ℕ) → Lacks newline (word_part word)
word_lacks word = by_test (length word == 0) where
  by_test : (v : Bool) → Lacks newline (cond v [] (codes ": " ++ escape_text word))
  by_test true = refl
  by_test false = lacks-append newline (codes ": ") (escape_text word) refl (escape_lacks word)

number_lacks : (n : ℕ) → n < 2 ^ 32 → Lacks newline (decimal n)
number_lacks n h = decimal_lacks newline (λ d small. ne_eqb (48 + d) newline (λ e. omega arith)) n (omega arith)

severity_lacks : (severity : Severity) → Lacks newline (severity_word severity)
severity_lacks Error = refl
severity_lacks Warning = refl

-- what is in no byte that passes a test is in none that passes a narrower one
narrower : (wide narrow : ℕ → Bool) → ((b : ℕ) → wide b ≡ false → narrow b ≡ false) → (text : List ℕ) → list_any wide text ≡ false → list_any narrow text ≡ false
narrower wide narrow within [] h = refl
narrower wide narrow within (b ∷ text) h =
    let parts = or_parts (wide b) (list_any wide text) h in
    or_from (narrow b) (list_any narrow text) (within b parts.0) (narrower wide narrow within text parts.1)

github_text_lacks : (text : List ℕ) → Lacks newline (github_text text)
github_text_lacks text =
    narrower ends_line (λ b. eqb b newline) (λ b h. (or_parts (eqb b carriage_return) (eqb b newline) h).1) (github_text text) (text_ends_no_line text)

github_property_lacks : (text : List ℕ) → Lacks newline (github_property text)
github_property_lacks text =
    narrower ends_property (λ b. eqb b newline)
    (λ b h. (or_parts (eqb b carriage_return) (eqb b newline) (or_parts (eqb b comma || eqb b colon) (ends_line b) h).1).1)
    (github_property text) (property_ends_none text)

plain_is_line : (d : DiagnosticValue) → HasPlace d → IsLine (plain_line d)
unfolding plain_line
plain_is_line d h =
    let place = lacks-append newline (escape_text d.name ++ colon ∷ decimal d.begins) (codes ": ")
    (lacks-append newline (escape_text d.name) (colon ∷ decimal d.begins) (escape_lacks d.name) (number_lacks d.begins h.begins)) refl in
    let heading = lacks-append newline (place_of d.name d.begins) (remark_heading d.remark) place (heading_lacks d.remark) in
    whole_line (place_of d.name d.begins ++ remark_heading d.remark ++ word_part (take 32 d.word))
    (lacks-append newline (place_of d.name d.begins ++ remark_heading d.remark) (word_part (take 32 d.word)) heading (word_lacks (take 32 d.word)))

spot_lacks : (d : DiagnosticValue) → HasPlace d → Lacks newline (spot_of d)
unfolding spot_of
spot_lacks d h =
    lacks-append newline (escape_text d.path ++ colon ∷ decimal d.line ++ colon ∷ decimal d.column ++ codes ": " ++ severity_word (severity_of d.remark)) (codes ": ")
    (lacks-append newline (escape_text d.path ++ colon ∷ decimal d.line ++ colon ∷ decimal d.column ++ codes ": ") (severity_word (severity_of d.remark))
    (lacks-append newline (escape_text d.path ++ colon ∷ decimal d.line ++ colon ∷ decimal d.column) (codes ": ")
    (lacks-append newline (escape_text d.path ++ colon ∷ decimal d.line) (colon ∷ decimal d.column)
    (lacks-append newline (escape_text d.path) (colon ∷ decimal d.line) (escape_lacks d.path) (number_lacks d.line h.line))
    (number_lacks d.column h.column)) refl)
    (severity_lacks (severity_of d.remark))) refl

code_is_line : (remark : Remark) → IsLine (code_part remark)
unfolding IsLine
code_is_line remark =
    longer_line (codes " [" ++ code_of remark) (codes "]\n") (lacks-append newline (codes " [") (code_of remark) refl (code_lacks remark)) (codes "]", refl, refl)

gcc_is_line : (d : DiagnosticValue) → HasPlace d → IsLine (gcc_line d)
unfolding gcc_line
gcc_is_line d h =
    longer_line (spot_of d ++ text_of d.remark ++ word_part d.word) (code_part d.remark)
    (lacks-append newline (spot_of d ++ text_of d.remark) (word_part d.word) (lacks-append newline (spot_of d) (text_of d.remark) (spot_lacks d h) (text_lacks d.remark)) (word_lacks d.word))
    (code_is_line d.remark)

place_lacks : (d : DiagnosticValue) → HasPlace d → Lacks newline (github_place d)
unfolding github_place
place_lacks d h =
    lacks-append newline (codes " file=" ++ github_property d.path ++ codes ",line=" ++ decimal d.line ++ codes ",col=" ++ decimal d.column ++ codes ",endColumn=") (decimal d.end)
    (lacks-append newline (codes " file=" ++ github_property d.path ++ codes ",line=" ++ decimal d.line ++ codes ",col=" ++ decimal d.column) (codes ",endColumn=")
    (lacks-append newline (codes " file=" ++ github_property d.path ++ codes ",line=" ++ decimal d.line ++ codes ",col=") (decimal d.column)
    (lacks-append newline (codes " file=" ++ github_property d.path ++ codes ",line=" ++ decimal d.line) (codes ",col=")
    (lacks-append newline (codes " file=" ++ github_property d.path ++ codes ",line=") (decimal d.line)
    (lacks-append newline (codes " file=" ++ github_property d.path) (codes ",line=")
    (lacks-append newline (codes " file=") (github_property d.path) refl (github_property_lacks d.path)) refl)
    (number_lacks d.line h.line)) refl)
    (number_lacks d.column h.column)) refl)
    (number_lacks d.end h.end)

github_is_line : (d : DiagnosticValue) → HasPlace d → IsLine (github_line d)
unfolding github_line
github_is_line d h =
    whole_line (codes "::" ++ severity_word (severity_of d.remark) ++ github_place d ++ codes ",title=" ++ code_of d.remark ++ codes "::" ++ github_text (text_of d.remark ++ word_part d.word))
    (lacks-append newline (codes "::" ++ severity_word (severity_of d.remark) ++ github_place d ++ codes ",title=" ++ code_of d.remark ++ codes "::") (github_text (text_of d.remark ++ word_part d.word))
    (lacks-append newline (codes "::" ++ severity_word (severity_of d.remark) ++ github_place d ++ codes ",title=" ++ code_of d.remark) (codes "::")
    (lacks-append newline (codes "::" ++ severity_word (severity_of d.remark) ++ github_place d ++ codes ",title=") (code_of d.remark)
    (lacks-append newline (codes "::" ++ severity_word (severity_of d.remark) ++ github_place d) (codes ",title=")
    (lacks-append newline (codes "::" ++ severity_word (severity_of d.remark)) (github_place d)
    (lacks-append newline (codes "::") (severity_word (severity_of d.remark)) refl (severity_lacks (severity_of d.remark)))
    (place_lacks d h)) refl)
    (code_lacks d.remark)) refl)
    (github_text_lacks (text_of d.remark ++ word_part d.word)))

start_lacks : (paint : Paint) → Lacks newline (paint_start paint)
start_lacks Unpainted = refl
start_lacks Red = refl
start_lacks Yellow = refl

stop_lacks : (paint : Paint) → Lacks newline (paint_stop paint)
stop_lacks Unpainted = refl
stop_lacks Red = refl
stop_lacks Yellow = refl

pub title_is_line : (paint : Paint) (d : DiagnosticValue) → HasPlace d → IsLine (title_line paint d)
unfolding title_line
title_is_line paint d h =
    longer_line (paint_start paint ++ spot_of d ++ paint_stop paint ++ text_of d.remark) (code_part d.remark)
    (lacks-append newline (paint_start paint ++ spot_of d ++ paint_stop paint) (text_of d.remark)
    (lacks-append newline (paint_start paint ++ spot_of d) (paint_stop paint)
    (lacks-append newline (paint_start paint) (spot_of d) (start_lacks paint) (spot_lacks d h))
    (stop_lacks paint))
    (text_lacks d.remark)) (code_is_line d.remark)

shown_is_no_newline : (b : ℕ) (is_tab control : Bool) → is_control b ≡ control → eqb (cond is_tab space (cond control question_mark b)) newline ≡ false
shown_is_no_newline b true control e = refl
shown_is_no_newline b false true e = refl
shown_is_no_newline b false false e =
    let high : 32 ≤ b = ltb-false b 32 (or_parts (ltb b 32) (eqb b 127) e).0 in
    ne_eqb b newline (λ same. omega arith)

pub shown_lacks : (bytes : List ℕ) → Lacks newline (map shown_byte bytes)
shown_lacks [] = refl
shown_lacks (b ∷ bytes) =
    or_from (eqb (shown_byte b) newline) (list_any (λ x. eqb x newline) (map shown_byte bytes)) (shown_is_no_newline b (eqb b tab) (is_control b) refl) (shown_lacks bytes)

source_is_line : (part : List ℕ) → IsLine (source_line part)
unfolding source_line
source_is_line part = whole_line (codes "  " ++ map shown_byte part) (lacks-append newline (codes "  ") (map shown_byte part) refl (shown_lacks part))

under_lacks : (mark : ℕ) → eqb mark newline ≡ false → (bytes : List ℕ) → Lacks newline (flat_map (under mark) bytes)
under_lacks mark h [] = refl
under_lacks mark h (b ∷ bytes) = lacks-append newline (under mark b) (flat_map (under mark) bytes) (by_test (continues b)) (under_lacks mark h bytes) where
  by_test : (v : Bool) → Lacks newline (cond v [] (mark ∷ []))
  by_test true = refl
  by_test false = or_from (eqb mark newline) false h refl

-- the marks below a place, without the newline that ends them
unfoldable pub mark_body : Paint → List ℕ → List ℕ → List ℕ
mark_body paint before place =
    codes "  " ++ flat_map (under space) before ++ paint_start paint ++ codes "^" ++ flat_map (under tilde) (drop 1 place) ++ paint_stop paint

pub mark_body_lacks : (paint : Paint) (before place : List ℕ) → Lacks newline (mark_body paint before place)
unfolding mark_body
mark_body_lacks paint before place =
    lacks-append newline (codes "  " ++ flat_map (under space) before ++ paint_start paint ++ codes "^" ++ flat_map (under tilde) (drop 1 place)) (paint_stop paint)
    (lacks-append newline (codes "  " ++ flat_map (under space) before ++ paint_start paint ++ codes "^") (flat_map (under tilde) (drop 1 place))
    (lacks-append newline (codes "  " ++ flat_map (under space) before ++ paint_start paint) (codes "^")
    (lacks-append newline (codes "  " ++ flat_map (under space) before) (paint_start paint)
    (lacks-append newline (codes "  ") (flat_map (under space) before) refl (under_lacks space refl before))
    (start_lacks paint)) refl)
    (under_lacks tilde refl (drop 1 place)))
    (stop_lacks paint)

mark_is_line : (paint : Paint) (before place : List ℕ) → IsLine (mark_line paint before place)
unfolding mark_line mark_body
mark_is_line paint before place = whole_line (mark_body paint before place) (mark_body_lacks paint before place)

text_hint_lacks : (otherwise : List ℕ) (is_mark is_space is_return : Bool) → Lacks newline otherwise
    → Lacks newline (cond is_mark (codes "The file begins with a byte order mark, which an editor does not show: save it as UTF-8 without one.")
    (cond is_space (codes "Here is a no-break space, which looks like a space: write a space.")
    (cond is_return (codes "The line ends in CR LF, as on Windows: save the file with LF alone.") otherwise)))
text_hint_lacks otherwise true s r h = refl
text_hint_lacks otherwise false true r h = refl
text_hint_lacks otherwise false false true h = refl
text_hint_lacks otherwise false false false h = h

comma_hint_lacks : (otherwise : List ℕ) (at_end : Bool) → Lacks newline otherwise → Lacks newline (advice_on_comma otherwise at_end)
comma_hint_lacks otherwise true h = refl
comma_hint_lacks otherwise false h = h

-- the sentence if no known name is near is that on its remark, or one of the others
hint_lacks : (remark : Remark) (d : DiagnosticValue) → Lacks newline (advice_of d.remark) → Lacks newline (advice_by remark d)
hint_lacks (about.Message BadSyntax) d h =
    text_hint_lacks (advice_of d.remark) (starts_with nat_eq d.word byte_order_mark) (starts_with nat_eq d.word no_break_space) (begins_with carriage_return d.word) h
hint_lacks (about.Message CommaExpected) d h = comma_hint_lacks (advice_of d.remark) (is_at_end d) h
hint_lacks (about.Message UnknownKey) d h = h
hint_lacks (about.Message PropertyWithoutMatch) d h = h
hint_lacks (about.Message MatchWithoutProperty) d h = h
hint_lacks (about.Message UnindentedLine) d h = h
hint_lacks (about.Message NoEquals) d h = h
hint_lacks (about.Message EmptyKey) d h = h
hint_lacks (about.Message PatternNotSupported) d h = h
hint_lacks (about.Message OperatorNotAllowed) d h = h
hint_lacks (about.Message WrongAttribute) d h = h
hint_lacks (about.Message BadValue) d h = h
hint_lacks (about.Message BadSubstitution) d h = h
hint_lacks (about.Message NoLaterLabel) d h = h
hint_lacks (about.Message GivenTwice) d h = h
hint_lacks (about.Message LineTooLong) d h = h
hint_lacks (about.Message BadPrefix) d h = h
hint_lacks (about.Message SetNotSupported) d h = h
hint_lacks (about.Message OpenAtEnd) d h = h
hint_lacks (about.Message ReservedProperty) d h = h
hint_lacks (about.Message NameWithoutEffect) d h = h
hint_lacks (about.Message UnknownBuiltin) d h = h
hint_lacks (about.Message MatchesExclude) d h = h
hint_lacks (about.Message SaidTwice) d h = h
hint_lacks (about.Message RuleWithoutEffect) d h = h
hint_lacks (about.Message ResultBeforeProgram) d h = h
hint_lacks (about.Message EmptyValue) d h = h
hint_lacks (about.Message BadAttributeSubstitution) d h = h
hint_lacks (about.Message AttributeElsewhere) d h = h
hint_lacks (about.Message OldSubsystemName) d h = h
hint_lacks (about.Message AssignExpected) d h = h
hint_lacks (about.Message UnknownAccount) d h = h
hint_lacks (about.Message FileAbandoned) d h = h
hint_lacks (about.Message BlankExpected) d h = h
hint_lacks (about.Message ReadAsAssign) d h = h
hint_lacks (about.Message LabelUnused) d h = h
hint_lacks (about.Message LeadingComma) d h = h
hint_lacks (about.Message BlankBeforeComma) d h = h
hint_lacks (about.Lint lint) d h = h
hint_lacks (about.DatabaseLint lint) d h = h
hint_lacks (about.LinkFault fault) d h = h
hint_lacks about.IdleIgnore d h = h
hint_lacks about.UnknownCode d h = h

-- the sentence is this one, or a question about a name
advice_with_lacks : (otherwise : List ℕ) (name : Option (List ℕ)) → Lacks newline otherwise → IfSome name (Lacks newline) → Lacks newline (advice_with otherwise name)
advice_with_lacks otherwise None h none = h
advice_with_lacks otherwise (Some name) h named =
    lacks-append newline (codes "Did you mean ") (name ++ codes "?") refl (lacks-append newline name (codes "?") named refl)

advice_for_lacks : (d : DiagnosticValue) → Lacks newline (advice_for d)
advice_for_lacks d = advice_with_lacks (advice_by d.remark d) (meant_as d.remark d.word) (hint_lacks d.remark d (advice_lacks d.remark)) (meant_lacks d.remark d.word)

advice_is_line : (d : DiagnosticValue) → IsLine (advice_line d)
unfolding advice_line
advice_is_line d = whole_line (codes "  = " ++ advice_for d) (lacks-append newline (codes "  = ") (advice_for d) refl (advice_for_lacks d))

-- it has its place with a masked path, too
pub masked_place : (d : DiagnosticValue) → HasPlace d → HasPlace (with_masked_path d)
masked_place d h = record { begins = h.begins; line = h.line; column = h.column; end = h.end }

four_more : (in_color : Bool) (d : DiagnosticValue) (rest : List ℕ) → HasPlace d → length (lines (human_lines in_color d ++ rest)) ≡ 4 + length (lines rest)
unfolding human_lines source_lines
four_more in_color d rest h =
    let paint : Paint = paint_of in_color d.remark in
    let source : List ℕ = masked d.source in
    let start : ℕ = window_start source d.column in
    let part : List ℕ = window source start in
    let line : List ℕ = source_line part in
    let marks : List ℕ = mark_line paint (take (d.column - 1 - start) part) (take (d.end - d.column) (drop (d.column - 1 - start) part)) in
    let title : List ℕ = title_line paint (with_masked_path d) in
    let advice : List ℕ = advice_line d in
    let regrouped : ((title ++ (line ++ marks)) ++ advice) ++ rest ≡ title ++ (line ++ (marks ++ (advice ++ rest))) = simp append_assoc in
    let first = one_more title (line ++ (marks ++ (advice ++ rest))) (title_is_line paint (with_masked_path d) (masked_place d h)) in
    let second = one_more line (marks ++ (advice ++ rest)) (source_is_line part) in
    let third = one_more marks (advice ++ rest) (mark_is_line paint (take (d.column - 1 - start) part) (take (d.end - d.column) (drop (d.column - 1 - start) part))) in
    let fourth = one_more advice rest (advice_is_line d) in
    ap (λ (t : List ℕ). length (lines t)) regrouped ∙ omega (arith, first, second, third, fourth)

counted : (f : DiagnosticValue → List ℕ) (n : ℕ) → ((d : DiagnosticValue) (rest : List ℕ) → HasPlace d → length (lines (f d ++ rest)) ≡ n + length (lines rest))
    → (ds : List DiagnosticValue) → AllByRecursion HasPlace ds → length (lines (flat_map f ds)) ≡ n * length ds
counted f n more [] h = omega arith
counted f n more (d ∷ ds) h = more d (flat_map f ds) h.0 ∙ omega (arith, counted f n more ds h.1)

pub plain_counted : (ds : List DiagnosticValue) → AllByRecursion HasPlace ds → length (lines (flat_map plain_line ds)) ≡ length ds
plain_counted ds h = counted plain_line 1 (λ d rest k. one_more (plain_line d) rest (plain_is_line d k)) ds h ∙ omega arith

pub gcc_counted : (ds : List DiagnosticValue) → AllByRecursion HasPlace ds → length (lines (flat_map gcc_line ds)) ≡ length ds
gcc_counted ds h = counted gcc_line 1 (λ d rest k. one_more (gcc_line d) rest (gcc_is_line d k)) ds h ∙ omega arith

pub github_counted : (ds : List DiagnosticValue) → AllByRecursion HasPlace ds → length (lines (flat_map github_line ds)) ≡ length ds
github_counted ds h = counted github_line 1 (λ d rest k. one_more (github_line d) rest (github_is_line d k)) ds h ∙ omega arith

pub human_counted : (in_color : Bool) (ds : List DiagnosticValue) → AllByRecursion HasPlace ds → length (lines (flat_map (human_lines in_color) ds)) ≡ 4 * length ds
human_counted in_color ds h = counted (human_lines in_color) 4 (four_more in_color) ds h
