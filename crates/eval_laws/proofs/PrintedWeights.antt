-- What a program printed gives no more than it weighs, and an answer weighs no more than its event.
use Rattle.std.proofs.Common.{◌≡◌, ℕ, ◌+◌, ◌≤◌, ◌-◌, Bool, true, false, ◌==◌, ◌||◌, List, [], ◌∷◌, length, take, drop, Option, Some, None, option_map, if◌then◌else◌, refl, arith, length-take, length-drop}
use Rattle.std.specs.List.{cons_option, filter_map, position, prefix_len, slice_split, suffix_len, sum_by}
use Rattle.std.specs.Option.{option_and_then}
use Rattle.std.proofs.lemmas.List.Sums.{sum_by-cons}
use Rattle.text_bytes.specs.Names.{equals, hash, is_blank}
use Rattle.text_bytes.specs.Texts.{begins_with, ends_in, is_empty, split_once, unindented}
use Rattle.text_bytes.specs.Text.{Text}
use Rattle.text_tables.specs.Texts.{same_text}
use Rattle.text_tables.specs.Pairs.{Pair, value_of}
use Rattle.text_core.proofs.Cutting.{position-lt}
use Rattle.device_core.specs.Values.{AnswerValue, EventValue}
use Rattle.eval_acts.specs.Printed.{bare, before_end, line_property, printed_properties, property_cut, property_of, unquoted, unspaced}
use Rattle.eval_acts.specs.RootImports.{ends_file_line, file_properties}
use Rattle.eval_rendering.specs.Pieces.{ends_line}
use Rattle.eval_commands.specs.Words.{is_quote}
use Rattle.eval_laws.specs.DeviceWeights.{answer_weight, event_weight, pair_weight, pairs_weight, text_weight}
use Rattle.eval_laws.proofs.Sums.{split_light}

-- ---- a line

unindented_short : (t : Text) → length (unindented t) ≤ length t
unindented_short t = let a = length-drop (prefix_len is_blank t) t in omega (arith, a)

unspaced_short : (t : Text) → length (unspaced t) ≤ length t
unspaced_short t = let a = length-take (length t - suffix_len is_blank t) t in omega (arith, a)

bare_short : (t : Text) → length (bare t) ≤ length t
bare_short t =
    let a = unindented_short t in
    let b = unspaced_short (unindented t) in
    omega (arith, a, b)

-- the weight of a text without the byte that stands for it in the line, if there is one
abbrev value_length : Option Text → ℕ
value_length None = 0
value_length (Some text) = length text

before_end_short : (byte : ℕ) (t : Text) → value_length (before_end byte t) ≤ length t
before_end_short byte t = by (ends_in byte t)
  where
    by : (b : Bool) → value_length (if b then Some (take (length t - 1) t) else None) ≤ length t
    by true = let a = length-take (length t - 1) t in omega (arith, a)
    by false = omega arith

unquoted_short : (t : Text) → value_length (unquoted t) ≤ length t
unquoted_short [] = omega arith
unquoted_short (b ∷ t) = by (is_quote b)
  where
    by : (q : Bool) → value_length (if q then before_end b t else Some (b ∷ t)) ≤ length (b ∷ t)
    by true = let a = before_end_short b t in omega (arith, a)
    by false = omega arith

-- what a property weighs, if there is one
abbrev found_weight : Option Pair → ℕ
found_weight None = 0
found_weight (Some property) = pair_weight property

property_short : (name value : Text) → found_weight (property_of name value) ≤ length name + length value + 2
property_short name value = by (is_empty name || is_empty value)
  where
    by_value : (text : Option Text) → value_length text ≤ length value → found_weight (option_map {U = Pair} (λ t. (name, t)) text) ≤ length name + length value + 2
    by_value None short = omega arith
    by_value (Some text) short = omega (arith, short)

    by : (b : Bool) → found_weight (if b then None else option_map {U = Pair} (λ t. (name, t)) (unquoted value)) ≤ length name + length value + 2
    by true = omega arith
    by false = by_value (unquoted value) (unquoted_short value)

-- both parts of a cut with the byte between them, if there is one
abbrev cut_length : Option (Text × Text) → ℕ
cut_length None = 0
cut_length (Some cut) = length cut.0 + length cut.1 + 1

cut_short : (line : Text) → cut_length (split_once equals line) ≤ length line
unfolding split_once
cut_short line = by (position (λ b. b == equals) line) refl
  where
    by : (place : Option ℕ) → position (λ b. b == equals) line ≡ place → cut_length (option_map {U = Text × Text} (λ n. (take n line, drop (n + 1) line)) place) ≤ length line
    by None at = omega arith
    by (Some n) at =
        let inside = position-lt (λ b. b == equals) line n at in
        let a = length-take n line in
        let b = length-drop (n + 1) line in
        omega (arith, inside, a, b)

line_light : (line : Text) → found_weight (line_property line) ≤ text_weight line
unfolding line_property
line_light line = by (begins_with hash (unindented line))
  where
    by_cut : (cut : Option (Text × Text)) → cut_length cut ≤ length line → found_weight (option_and_then property_cut cut) ≤ text_weight line
    by_cut None short = omega arith
    by_cut (Some cut) short =
        let a = property_short (bare cut.0) (bare cut.1) in
        let b = bare_short cut.0 in
        let c = bare_short cut.1 in
        omega (arith, a, b, c, short)

    by : (b : Bool) → found_weight (if b then None else option_and_then property_cut (split_once equals line)) ≤ text_weight line
    by true = omega arith
    by false = by_cut (split_once equals line) (cut_short line)

-- ---- a text

lines_light : (lines : List Text) → pairs_weight (filter_map line_property lines) ≤ sum_by text_weight lines
lines_light [] = omega arith
lines_light (line ∷ lines) = by (line_property line) (line_light line) (lines_light lines)
  where
    by : (found : Option Pair) → found_weight found ≤ text_weight line → pairs_weight (filter_map line_property lines) ≤ sum_by text_weight lines
        → pairs_weight (cons_option found (filter_map line_property lines)) ≤ sum_by text_weight (line ∷ lines)
    by None light rest =
        let a = sum_by-cons text_weight line lines in
        omega (arith, a, rest)
    by (Some property) light rest =
        let a = sum_by-cons text_weight line lines in
        let c = sum_by-cons pair_weight property (filter_map line_property lines) in
        omega (arith, a, rest, c, light)

pub printed_light : (text : Text) → pairs_weight (printed_properties text) ≤ text_weight text
unfolding printed_properties
printed_light text =
    let a = lines_light (slice_split ends_line text) in
    let b = split_light ends_line text in
    omega (arith, a, b)

-- what the properties that a file gives weigh
pub file_light : (text : Text) → pairs_weight (file_properties text) ≤ text_weight text
unfolding file_properties
file_light text =
    let a = lines_light (slice_split ends_file_line text) in
    let b = split_light ends_file_line text in
    omega (arith, a, b)

-- ---- an answer

-- what the text of an answer weighs, if there is one
abbrev pub answered_weight : Option AnswerValue → ℕ
answered_weight None = 0
answered_weight (Some answer) = text_weight answer.text

among_light : (programs : List (Text × AnswerValue)) (command : Text) → answered_weight (value_of programs command) ≤ sum_by answer_weight programs
among_light [] command = omega arith
among_light (program ∷ programs) command = by (same_text command program.0) (among_light programs command)
  where
    by : (b : Bool) → answered_weight (value_of programs command) ≤ sum_by answer_weight programs
        → answered_weight (if b then Some program.1 else value_of programs command) ≤ sum_by answer_weight (program ∷ programs)
    by true rest = let a = sum_by-cons answer_weight program programs in omega (arith, a)
    by false rest = let a = sum_by-cons answer_weight program programs in omega (arith, a, rest)

pub answers_light : (event : EventValue) (command : Text) → answered_weight (value_of event.programs command) ≤ event_weight event
unfolding event_weight
answers_light event command = let a = among_light event.programs command in omega (arith, a)
