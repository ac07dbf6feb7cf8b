-- What is told of the messages about files of a database is the plain lines of what is reported for these.
use Rattle.std.proofs.Common.{◌≡◌, ℕ, ◌+◌, ◌^◌, ◌<◌, ◌≤◌, ◌==◌, Bool, true, false, true≢false, not, ◌&&◌, ◌||◌, cond, nat_lt, List, [], ◌∷◌, ◌++◌, length, take, drop, position, filter, map, count_by, All, Option, Some, None, Result, Ok, Err, refl, ap, ap₂, sym, ◌∙◌, append-nil, arith}
use Rattle.std.specs.List.{flat_map, onto_first}
use Rattle.std.proofs.lemmas.Bool.{and_parts, ltb-true}
use Rattle.std.proofs.lemmas.Grind.{flat_map-append}
use Rattle.std.proofs.lemmas.List.{length-append, map-append, take-take}
use Rattle.std.proofs.lemmas.List.Elements.{All-append, All-cons, All-head, All-map, All-nil, All-tail}
use Rattle.std.proofs.lemmas.List.Sums.{sum_by-append, sum_by-cons}
use Rattle.text_bytes.specs.Lines.{NumberedLine, lines, numbered_lines}
use Rattle.text_bytes.specs.Texts.{word_of}
use Rattle.file_messages.specs.Messages.{message}
use Rattle.text_bytes.specs.Names.{equals, newline}
use Rattle.file_messages.specs.declared.message.Message.{Message}
use Rattle.file_messages.specs.declared.message.MessageKind.{MessageKind}
use Rattle.file_messages.specs.declared.message.MessageKind.TheVariants.{MatchWithoutProperty, UnindentedLine, PatternNotSupported, NoEquals, EmptyKey}
use Rattle.text_bytes.specs.declared.source_file.SourceFile.{SourceFile}
use Rattle.text_bytes.specs.Text.{Text}
use Rattle.text_tables.specs.Texts.{is_among}
use Rattle.text_core.specs.Spell.{spell}
use Rattle.text_core.specs.declared.glob_fault.GlobFault.{GlobFault}
use Rattle.text_core.specs.declared.item.Item.{Item}
use Rattle.hwdb_core.specs.Messages.{about_bare, about_early, about_match, about_pair, about_property, about_spelled, cut_messages}
use Rattle.hwdb_core.specs.Paragraphs.{Cut}
use Rattle.hwdb_core.specs.Properties.{pair_at, property_text}
use Rattle.hwdb_core.specs.Sources.{cuts_of, messages_of}
use Rattle.hwdb_core.specs.Lints.{database_lints}
use Rattle.engine_sessions.specs.Places.{place_of, word_part}
use Rattle.engine_sessions.specs.declared.line.Format.{Format}
use Rattle.engine_sessions.specs.declared.line.Format.TheVariants as formats
use Rattle.engine_sessions.specs.declared.line.Line.{Line}
use Rattle.engine_formats.specs.Diagnostics.{DiagnosticValue}
use Rattle.engine_formats.specs.Formats.{formatted}
use Rattle.engine_formats.specs.Lines.{plain_line}
use Rattle.engine_formats.specs.Placing.{placed}
use Rattle.file_catalogue.specs.Catalogue.{remark_heading}
use Rattle.file_catalogue.specs.declared.remark.Remark.TheVariants as about
use Rattle.engine_checks.specs.Codes.{has_comments}
use Rattle.engine_checks.specs.Files.{accounts_by, database_diagnostic, database_found_with, database_reported, file_text, ignored_by, ignores_counted}
use Rattle.engine_checks.specs.Ignores.{ignores_in}
use Rattle.engine_checks.specs.Reported.{Asked, FileText, is_asked}
use Rattle.engine_checks.specs.Tables.{database_found_by, database_reported_by, read_by}
use Rattle.engine_checks.specs.Told.{are_short, database_said, line_told, tells_messages, told}
use Rattle.engine_checks.proofs.Among.{none_among}
use Rattle.engine_checks.proofs.Checking.{database_by}
use Rattle.engine_checks.proofs.Telling.{bare_reported, told_kept}

-- A message of a database has the name of its file.
abbrev pub IsOf : Text → Message → Type 0
IsOf name m = m.file ≡ name

module _ (name : Text) where
  abbrev AreOf : List Message → Type 0
  AreOf ms = All (IsOf name) ms

  one_of : (l : NumberedLine) (kind : MessageKind) (text : Text) → AreOf (message name l.number kind text ∷ [])
  one_of l kind text = All-cons (IsOf name) (message name l.number kind text) [] refl (All-nil (IsOf name))

  early : (ls : List NumberedLine) → AreOf (map (about_early name) ls)
  early ls = All-map (IsOf name) (about_early name) ls (λ k d h. refl)

  first_reported : (kind : MessageKind) (ls : List NumberedLine) → AreOf (map (λ l. message name l.number kind l.text) (take 1 ls))
  first_reported kind ls = All-map (IsOf name) (λ l. message name l.number kind l.text) (take 1 ls) (λ k d h. refl)

  bare : (matches properties : List NumberedLine) → AreOf (about_bare name matches properties)
  bare matches properties = by_test (length properties == 0) where
    by_test : (v : Bool) → AreOf (cond v (map (λ l. message name l.number MatchWithoutProperty l.text) (take 1 matches)) [])
    by_test true = first_reported MatchWithoutProperty matches
    by_test false = All-nil (IsOf name)

  spelled : (l : NumberedLine) (r : Result (List Item) GlobFault) → AreOf (about_spelled name l r)
  spelled l (Ok pattern) = All-nil (IsOf name)
  spelled l (Err fault) = one_of l PatternNotSupported l.text

  paired : (l : NumberedLine) (o : Option ℕ) → AreOf (about_pair name l (pair_at (property_text l) o))
  paired l None = one_of l NoEquals (property_text l)
  paired l (Some at) = by_test (at == 0) where
    by_test : (v : Bool) → AreOf (about_pair name l (cond v (Err EmptyKey) (Ok (record { key = take at (property_text l); value = drop (at + 1) (property_text l) }))))
    by_test true = one_of l EmptyKey (property_text l)
    by_test false = All-nil (IsOf name)

  each : (f : NumberedLine → List Message) → ((l : NumberedLine) → AreOf (f l)) → (ls : List NumberedLine) → AreOf (flat_map f ls)
  each f reported [] = All-nil (IsOf name)
  each f reported (l ∷ ls) = All-append (IsOf name) (f l) (flat_map f ls) (reported l) (each f reported ls)

  of_cut : (c : Cut) → AreOf (cut_messages name c)
  of_cut c =
      All-append (IsOf name) (map (about_early name) c.early) _ (early c.early)
      (All-append (IsOf name) (about_bare name c.matches c.properties) _ (bare c.matches c.properties)
      (All-append (IsOf name) (flat_map (about_match name) c.matches) _ (each (about_match name) (λ l. spelled l (spell l.text)) c.matches)
      (All-append (IsOf name) (flat_map (about_property name) c.properties) _ (each (about_property name) (λ l. paired l (position (λ b. b == equals) (property_text l))) c.properties)
      (first_reported UnindentedLine c.rest))))

  of_cuts : (cs : List Cut) → AreOf (flat_map (cut_messages name) cs)
  of_cuts [] = All-nil (IsOf name)
  of_cuts (c ∷ cs) = All-append (IsOf name) (cut_messages name c) (flat_map (cut_messages name) cs) (of_cut c) (of_cuts cs)

all_of : (file : SourceFile) → All (IsOf file.name) (messages_of (file ∷ []))
all_of file = All-append (IsOf file.name) (flat_map (cut_messages file.name) (cuts_of file)) [] (of_cuts file.name (cuts_of file)) (All-nil (IsOf file.name))

-- a file has no more lines than bytes
lines_within : (text : Text) → length (lines text) ≤ length text
lines_within [] = omega arith
lines_within (b ∷ text) = by (b == newline) (lines text) (lines_within text)
  where
    by : (v : Bool) (ls : List Text) → length ls ≤ length text → length (cond v ([] ∷ ls) (onto_first b ls)) ≤ length (b ∷ text)
    by true ls h = omega (arith, h)
    by false [] h = omega (arith, h)
    by false (l ∷ ls) h = omega (arith, h)

short_parts : (f : SourceFile) (files : List SourceFile) → are_short (f ∷ files) ≡ true → (length (lines f.bytes) < 2 ^ 32) × (are_short files ≡ true)
short_parts f files h =
    let parts = and_parts (nat_lt (length f.bytes) (2 ^ 32)) (are_short files) h in
    let short : length f.bytes < 2 ^ 32 = ltb-true (length f.bytes) (2 ^ 32) parts.0 in
    let few = lines_within f.bytes in
    (omega (arith, short, few), parts.1)

word_again : (text : Text) → word_of (word_of text) ≡ word_of text
word_again text = take-take 32 32 text (omega arith)

-- a message and its diagnostic have one plain line
same_line : (file : FileText) (m : Message) → IsOf file.name m → word_of (placed file.lines m).word ≡ m.word → plain_line (database_diagnostic file m) ≡ plain_line (database_said m)
unfolding plain_line
same_line file m h k =
    ap₂ (λ (name word : Text). place_of name m.line ++ remark_heading (about.Message m.kind) ++ word_part word ++ newline ∷ [])
    (sym h) (sym (ap word_of (sym k) ∙ word_again (placed file.lines m).word))

told_alike : (asked : Asked) (file : FileText) (ms : List Message) → All (IsOf file.name) ms → All (λ m. word_of (placed file.lines m).word ≡ m.word) ms
    → told asked (map (database_diagnostic file) ms) ≡ told asked (map database_said ms)
told_alike asked file [] h k = refl
told_alike asked file (m ∷ ms) h k =
    ap₂ (λ (one more : List ℕ). one ++ more)
    (ap (λ (t : List ℕ). cond (is_asked asked (about.Message m.kind)) t [])
    (same_line file m (All-head (IsOf file.name) m ms h) (All-head (λ m. word_of (placed file.lines m).word ≡ m.word) m ms k)))
    (told_alike asked file ms (All-tail (IsOf file.name) m ms h) (All-tail (λ m. word_of (placed file.lines m).word ≡ m.word) m ms k))

counted : (asked : Asked) (file : FileText) (ms : List Message)
    → length (filter (λ d. is_asked asked d.remark) (map (database_diagnostic file) ms)) ≡ count_by (λ m. is_asked asked (about.Message m.kind)) ms
counted asked file [] = refl
counted asked file (m ∷ ms) =
    by (is_asked asked (about.Message m.kind)) (counted asked file ms) ∙ sym (sum_by-cons (λ (x : Message). cond {A = ℕ} (is_asked asked (about.Message x.kind)) 1 0) m ms)
  where
    kept : List DiagnosticValue
    kept = filter (λ d. is_asked asked d.remark) (map (database_diagnostic file) ms)

    count : ℕ
    count = count_by (λ m. is_asked asked (about.Message m.kind)) ms

    by : (b : Bool) → length kept ≡ count → length (cond b (database_diagnostic file m ∷ kept) kept) ≡ cond {A = ℕ} b 1 0 + count
    by true h = omega (arith, h)
    by false h = omega (arith, h)

-- what is known of the words of messages
abbrev pub KeepsWords : SourceFile → Type 0
KeepsWords file = length (lines file.bytes) < 2 ^ 32 → All (λ m. word_of (placed (numbered_lines file.bytes) m).word ≡ m.word) (messages_of (file ∷ []))

module _ (asked : Asked) (line : Line) (unasked : asked.lint ≡ false) (counts : has_comments asked.ignored ≡ false) where
  -- without lints and comments, what is reported for a file is those of its messages that are asked for
  messages_reported : (f : SourceFile) → database_reported_by asked (read_by line f) ≡ filter (λ d. is_asked asked d.remark) (map (database_diagnostic (file_text line f)) (messages_of (f ∷ [])))
  messages_reported f =
      let file : FileText = file_text line f in
      let ms : List Message = messages_of (f ∷ []) in
      bare_reported asked file (ignores_counted asked f) (database_found_by asked (read_by line f)) (ap (λ b. cond b (ignores_in asked.profile f) []) counts)
      ∙ ap (filter (λ d. is_asked asked d.remark))
      (ap (λ b. database_found_with file ms (cond (b || has_comments asked.ignored) (database_lints f.bytes) [])) unasked
      ∙ ap (λ b. database_found_with file ms (cond b (database_lints f.bytes) [])) counts
      ∙ none_among (map (database_diagnostic file) ms))

  file_told : (f : SourceFile) → KeepsWords f → length (lines f.bytes) < 2 ^ 32 → flat_map plain_line (database_reported_by asked (read_by line f)) ≡ told asked (map database_said (messages_of (f ∷ [])))
  file_told f kept few =
      ap (flat_map plain_line) (messages_reported f)
      ∙ sym (told_kept asked (map (database_diagnostic (file_text line f)) (messages_of (f ∷ []))))
      ∙ told_alike asked (file_text line f) (messages_of (f ∷ [])) (all_of f) (kept few)

  file_counted : (f : SourceFile) → length (database_reported_by asked (read_by line f)) ≡ count_by (λ m. is_asked asked (about.Message m.kind)) (messages_of (f ∷ []))
  file_counted f = ap length (messages_reported f) ∙ counted asked (file_text line f) (messages_of (f ∷ []))

  abbrev reported : List SourceFile → List DiagnosticValue
  reported files = flat_map (database_reported_by asked) (map (read_by line) files)

  one_file : (f : SourceFile) → messages_of (f ∷ []) ≡ flat_map (cut_messages f.name) (cuts_of f)
  one_file f = append-nil (flat_map (cut_messages f.name) (cuts_of f))

  files_told : ((file : SourceFile) → KeepsWords file) → (files : List SourceFile) → are_short files ≡ true → flat_map plain_line (reported files) ≡ told asked (map database_said (messages_of files))
  files_told kept [] short = refl
  files_told kept (f ∷ files) short =
      let parts = short_parts f files short in
      let own : List Message = flat_map (cut_messages f.name) (cuts_of f) in
      flat_map-append plain_line (database_reported_by asked (read_by line f)) (reported files)
      ∙ ap₂ (λ (one more : List ℕ). one ++ more) (file_told f (kept f) parts.0 ∙ ap (λ ms. told asked (map database_said ms)) (one_file f)) (files_told kept files parts.1)
      ∙ sym (ap (told asked) (map-append database_said own (messages_of files)) ∙ flat_map-append (line_told asked) (map database_said own) (map database_said (messages_of files)))

  files_counted : (files : List SourceFile) → length (reported files) ≡ count_by (λ m. is_asked asked (about.Message m.kind)) (messages_of files)
  files_counted [] = refl
  files_counted (f ∷ files) =
      let own : List Message = flat_map (cut_messages f.name) (cuts_of f) in
      let more = length-append (database_reported_by asked (read_by line f)) (reported files) in
      let one = file_counted f ∙ ap (count_by (λ m. is_asked asked (about.Message m.kind))) (one_file f) in
      let rest = files_counted files in
      let all = sum_by-append (λ (m : Message). cond {A = ℕ} (is_asked asked (about.Message m.kind)) 1 0) own (messages_of files) in
      more ∙ ap₂ (λ (n m : ℕ). n + m) one rest ∙ sym all

-- where messages are told, this is what is asked for
tells_plain : (asked : Asked) (format : Format) (files : List SourceFile) → tells_messages asked format files ≡ true → format ≡ formats.Plain
tells_plain asked formats.Plain files h = refl
tells_plain asked formats.Gcc files h = absurd (true≢false (sym h))
tells_plain asked formats.Github files h = absurd (true≢false (sym h))
tells_plain asked formats.Gitlab files h = absurd (true≢false (sym h))
tells_plain asked formats.Json files h = absurd (true≢false (sym h))
tells_plain asked formats.Sarif files h = absurd (true≢false (sym h))
tells_plain asked formats.Human files h = absurd (true≢false (sym h))
tells_plain asked formats.HumanInColor files h = absurd (true≢false (sym h))

-- A line asks for its messages alone.
record AsksMessages (asked : Asked) (files : List SourceFile) : Type 0 where
  lints : asked.lint ≡ false
  comments : has_comments asked.ignored ≡ false
  short : are_short files ≡ true

asks_messages : (asked : Asked) (files : List SourceFile) → tells_messages asked formats.Plain files ≡ true → AsksMessages asked files
asks_messages asked files h =
    let parts = and_parts (not asked.lint && not (has_comments asked.ignored)) (are_short files) h in
    let both = and_parts (not asked.lint) (not (has_comments asked.ignored)) parts.0 in
    record { lints = negated asked.lint both.0; comments = negated (has_comments asked.ignored) both.1; short = parts.1 }
  where
    negated : (b : Bool) → not b ≡ true → b ≡ false
    negated true h = absurd (true≢false (sym h))
    negated false h = refl

module _ (line : Line) (asked : Asked) (files : List SourceFile) (tells : tells_messages asked line.format files ≡ true) (p : asked.profile ≡ line.profile) (a : asked.accounts ≡ accounts_by line) (s : asked.style ≡ line.style)
    (l : asked.lint ≡ line.lint) (i : (code : Text) → is_among asked.ignored code ≡ is_among (ignored_by line) code) where
  plainly : line.format ≡ formats.Plain
  plainly = tells_plain asked line.format files tells

  asks : AsksMessages asked files
  asks = asks_messages asked files (ap (λ f. tells_messages asked f files) (sym plainly) ∙ tells)

  whole : reported asked line asks.lints asks.comments files ≡ flat_map (database_reported line) files
  whole = database_by line asked p a s l i files

  text_told : ((file : SourceFile) → KeepsWords file) → flat_map plain_line (reported asked line asks.lints asks.comments files) ≡ told asked (map database_said (messages_of files))
  text_told kept = files_told asked line asks.lints asks.comments kept files asks.short

-- what is told of messages is what is reported, in the format
pub messages_told : (line : Line) (asked : Asked) (files : List SourceFile) (messages : List Message) (text : List ℕ) → text ≡ told asked (map database_said messages) → messages ≡ messages_of files
    → tells_messages asked line.format files ≡ true → asked.profile ≡ line.profile → asked.accounts ≡ accounts_by line → asked.style ≡ line.style → asked.lint ≡ line.lint
    → ((code : Text) → is_among asked.ignored code ≡ is_among (ignored_by line) code) → ((file : SourceFile) → KeepsWords file) → text ≡ formatted line.format (flat_map (database_reported line) files)
messages_told line asked files messages text t m tells p a s l i kept =
    t
    ∙ ap (λ ms. told asked (map database_said ms)) m
    ∙ sym (text_told line asked files tells p a s l i kept)
    ∙ ap (flat_map plain_line) (whole line asked files tells p a s l i)
    ∙ ap (λ f. formatted f (flat_map (database_reported line) files)) (sym (plainly line asked files tells p a s l i))

pub messages_counted : (line : Line) (asked : Asked) (files : List SourceFile) (messages : List Message) (count : ℕ) → count ≡ count_by (λ m. is_asked asked (about.Message m.kind)) messages → messages ≡ messages_of files
    → tells_messages asked line.format files ≡ true → asked.profile ≡ line.profile → asked.accounts ≡ accounts_by line → asked.style ≡ line.style → asked.lint ≡ line.lint
    → ((code : Text) → is_among asked.ignored code ≡ is_among (ignored_by line) code) → count ≡ length (flat_map (database_reported line) files)
messages_counted line asked files messages count e m tells p a s l i =
    e
    ∙ ap (count_by (λ m. is_asked asked (about.Message m.kind))) m
    ∙ sym (files_counted asked line (asks line asked files tells p a s l i).lints (asks line asked files tells p a s l i).comments files)
    ∙ ap length (whole line asked files tells p a s l i)
