-- How long each line of an answer is, by what its texts weigh.
use Rattle.std.proofs.Common.{◌≡◌, ℕ, zero, suc, ◌+◌, ◌*◌, ◌≤◌, ◌/◌, ◌%◌, ◌==◌, Bool, true, false, cond, if◌then◌else◌, List, [], ◌∷◌, ◌++◌, length, Option, Some, None, codes, decimal, flat_map, append-nil, ap, sym, subst, arith}
use Rattle.std.proofs.lemmas.List.{length-append}
use Rattle.std.proofs.lemmas.List.Sums.{sum_by-cons}
use Rattle.std.specs.Fmt.{digits, digits_onto, digit_glyph}
use Rattle.std.specs.List.{sum_by}
use Rattle.text_bytes.specs.Names.{colon, equals, newline, space}
use Rattle.text_bytes.specs.Escapes.{escape_byte, escape_text, hex_digit, is_escaped}
use Rattle.text_bytes.specs.Text.{Text}
use Rattle.text_tables.specs.Pairs.{Pair}
use Rattle.rule_types.specs.Names.{run_name}
use Rattle.eval_laws.specs.DeviceWeights.{given_weight, pair_weight, text_weight}
use Rattle.eval_state.specs.Notes.{text_of}
use Rattle.eval_state.specs.declared.note_kind.NoteKind.{NoteKind}
use Rattle.eval_state.specs.declared.note_kind.NoteKind.TheVariants.{ImportNotRun, BuiltinNotRun, BadHwdbArguments, NoAnswer, TestNotMade, SysctlNotRead, TextTooLong, NameIgnored, NoDeviceNumber, NoValue, LinkIgnored, ModeIgnored, TagIgnored, AttributeNotRead, AttributeNotFound, AttributesNotGiven, BuiltinNeeds, ConstantNotGiven}
use Rattle.eval_state.specs.declared.notes.Note.{Note}
use Rattle.eval_rules.specs.declared.outcome.Command.{Command}
use Rattle.eval_laws.specs.Weights.{command_weight, note_weight}
use Rattle.engine_sessions.specs.Places.{place_of, word_part}
use Rattle.engine_answers.specs.Lines.{is_hidden, line, note_line, pair_line, run_line, text_line}
use Rattle.engine_answers.specs.Answers.{lines_after}
use Rattle.engine_answers.specs.Inner.{shown_line}
use Rattle.engine_answers.specs.Items.{ItemLine, given_lines}

-- a byte is written as one or as four
byte_short : (b : ℕ) → length (escape_byte b) ≤ 4
byte_short b = by (is_escaped b)
  where
    by : (needed : Bool) → length (cond needed (codes "\\x" ++ hex_digit (b / 16) ∷ hex_digit (b % 16) ∷ []) (b ∷ [])) ≤ 4
    by true = omega arith
    by false = omega arith

pub escape_short : (t : Text) → length (escape_text t) ≤ 4 * length t
escape_short [] = omega arith
escape_short (b ∷ t) =
    let a = length-append (escape_byte b) (escape_text t) in
    let c = byte_short b in
    let d = escape_short t in
    omega (arith, a, c, d)

-- no more digits are written than there is room for
digits_short : (k n : ℕ) (following : List ℕ) → length (digits_onto k 10 false n following) ≤ k + length following
digits_short zero n following = omega arith
digits_short (suc k) n following = by (n / 10 == 0) (digits_short k (n / 10) (digit_glyph false (n % 10) ∷ following))
  where
    by : (last : Bool) → length (digits_onto k 10 false (n / 10) (digit_glyph false (n % 10) ∷ following)) ≤ k + length (digit_glyph false (n % 10) ∷ following)
        → length (cond last (digit_glyph false (n % 10) ∷ following) (digits_onto k 10 false (n / 10) (digit_glyph false (n % 10) ∷ following))) ≤ suc k + length following
    by true more = omega arith
    by false more = omega (arith, more)

-- however great a number is; a line's number has ten digits at most, but this is all that is needed
decimal_short : (n : ℕ) → length (decimal n) ≤ 64
unfolding digits
decimal_short n = let a = digits_short 64 n [] in omega (arith, a)

-- a line: its word, two bytes, and what it says
pub line_length : (word said : Text) → length (line word said) ≡ length word + length said + 2
line_length word said =
    let a = length-append (word ++ space ∷ said) (newline ∷ []) in
    let b = length-append word (space ∷ said) in
    omega (arith, a, b)

pub text_line_short : (word t : Text) → length word ≤ 6 → length (text_line word t) ≤ 8 * text_weight t
unfolding text_line
text_line_short word t short =
    let a = line_length word (escape_text t) in
    let b = escape_short t in
    omega (arith, a, b, short)

-- the lines about items with nothing in front
abbrev pub alone : List ItemLine → Text
alone lines = lines_after (λ item. []) lines

-- the line of one item
pub one_length : (item : Pair) (text : Text) → length (alone ((item, text) ∷ [])) ≡ length text
one_length item text = ap length (append-nil text)

pub given_line_short : (word : Text) (t : Option Text) → length word ≤ 6 → length (alone (given_lines word t)) ≤ 8 * given_weight t
given_line_short word None short = omega arith
given_line_short word (Some t) short = subst (λ k. k ≤ 8 * text_weight t) (sym (one_length (word, t) (text_line word t))) (text_line_short word t short)

pub pair_line_short : (word : Text) (pair : Pair) → length word ≤ 13 → length (pair_line word pair) ≤ 8 * pair_weight pair
unfolding pair_line
pair_line_short word pair short =
    let a = line_length word (escape_text pair.0 ++ equals ∷ escape_text pair.1) in
    let b = length-append (escape_text pair.0) (equals ∷ escape_text pair.1) in
    let c = escape_short pair.0 in
    let d = escape_short pair.1 in
    omega (arith, a, b, c, d, short)

pub shown_line_short : (pair : Pair) → length (shown_line pair) ≤ 8 * pair_weight pair
shown_line_short pair = by (is_hidden pair.0)
  where
    by : (hidden : Bool) → length (cond hidden [] (pair_line (codes "env") pair)) ≤ 8 * pair_weight pair
    by true = omega arith
    by false = pair_line_short (codes "env") pair (omega arith)

pub run_line_short : (command : Command) → length (run_line command) ≤ 8 * command_weight command
unfolding run_line
run_line_short command =
    let a = line_length (codes "run") (run_name command.kind ++ space ∷ escape_text command.text) in
    let b = length-append (run_name command.kind) (space ∷ escape_text command.text) in
    let c = escape_short command.text in
    omega (arith, a, b, c)

-- the text of a note is long enough to make up for the number of its line
kind_long : (kind : NoteKind) → 8 ≤ length (text_of kind)
kind_long ImportNotRun = omega arith
kind_long BuiltinNotRun = omega arith
kind_long BadHwdbArguments = omega arith
kind_long NoAnswer = omega arith
kind_long TestNotMade = omega arith
kind_long SysctlNotRead = omega arith
kind_long TextTooLong = omega arith
kind_long NameIgnored = omega arith
kind_long NoDeviceNumber = omega arith
kind_long NoValue = omega arith
kind_long LinkIgnored = omega arith
kind_long ModeIgnored = omega arith
kind_long TagIgnored = omega arith
kind_long AttributeNotRead = omega arith
kind_long AttributeNotFound = omega arith
kind_long BuiltinNeeds = omega arith
kind_long ConstantNotGiven = omega arith
kind_long AttributesNotGiven = omega arith

pub word_short : (word : Text) → length (word_part word) ≤ 4 * length word + 2
word_short word = by (length word == 0)
  where
    by : (none : Bool) → length (if none then [] else codes ": " ++ escape_text word) ≤ 4 * length word + 2
    by true = omega arith
    by false =
        let a = length-append (codes ": ") (escape_text word) in
        let b = escape_short word in
        omega (arith, a, b)

place_short : (file : Text) (n : ℕ) → length (place_of file n) ≤ 4 * length file + 67
place_short file n =
    let a = length-append (escape_text file ++ colon ∷ decimal n) (codes ": ") in
    let b = length-append (escape_text file) (colon ∷ decimal n) in
    let c = escape_short file in
    let d = decimal_short n in
    omega (arith, a, b, c, d)

pub note_line_short : (note : Note) → length (note_line note) ≤ 8 * note_weight note
unfolding note_line
note_line_short note =
    let a = line_length (codes "note") (place_of note.file note.line ++ text_of note.kind ++ word_part note.word) in
    let b = length-append (place_of note.file note.line ++ text_of note.kind) (word_part note.word) in
    let c = length-append (place_of note.file note.line) (text_of note.kind) in
    let d = place_short note.file note.line in
    let e = kind_long note.kind in
    let f = word_short note.word in
    omega (arith, a, b, c, d, e, f)

-- a line for each of several things
pub lines_short : {X : Type 0} (weight : X → ℕ) (reported : X → Text) → ((x : X) → length (reported x) ≤ 8 * weight x) → (xs : List X) → length (flat_map reported xs) ≤ 8 * sum_by weight xs
lines_short weight reported each [] = omega arith
lines_short weight reported each (x ∷ xs) =
    let a = length-append (reported x) (flat_map reported xs) in
    let b = sum_by-cons weight x xs in
    let c = each x in
    let d = lines_short weight reported each xs in
    omega (arith, a, b, c, d)
