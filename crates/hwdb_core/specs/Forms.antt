-- D1 to D4: a match beside the modaliases that its prefix can have.
use Rattle.std.specs.Prelude.{ℕ, Bool, true, false, not, ◌==◌, ◌&&◌, ◌||◌, nat_le, nat_eq, if◌then◌else◌, List, [], ◌∷◌, length, drop, map, find}
use Rattle.std.specs.Prelude.{Option, Some, None}
use Rattle.std.specs.List.{list_any, starts_with}
use Rattle.text_bytes.specs.Names.{backslash, close_bracket, colon, open_bracket, question_mark, star}
use Rattle.text_bytes.specs.Numbers.{is_digit}
use Rattle.text_bytes.specs.Texts.{ends_in, up_to}
use Rattle.text_bytes.specs.Text.{Text}
use Rattle.text_tables.specs.Texts.{is_among}
use Rattle.hwdb_core.specs.declared.modaliases.TheConstants.{FIRST_WORDS, MODALIASES}
use Rattle.hwdb_core.specs.declared.lint.DatabaseLint.{DatabaseLint}
use Rattle.hwdb_core.specs.declared.lint.DatabaseLint.TheVariants.{DigitCase, NoModalias, EndMissing, UnknownPrefix}
use Rattle.hwdb_core.specs.declared.forms.Meeting.{Meeting}
use Rattle.hwdb_core.specs.declared.forms.Meeting.TheVariants as meeting
use Rattle.hwdb_core.specs.declared.forms.Step.{Step}
use Rattle.hwdb_core.specs.declared.forms.Step.TheVariants as step

-- how the modaliases of a prefix are written: the prefix, what follows it, and whether they end in `:`
abbrev pub ModaliasForm : Type 0
ModaliasForm = Text × Text × Bool

-- a hexadecimal digit as the kernel writes it in capitals
abbrev pub is_capital_digit : ℕ → Bool
is_capital_digit byte = is_digit byte || (nat_le 65 byte && nat_le byte 70)

-- a hexadecimal digit as it is written in small letters
abbrev pub is_small_digit : ℕ → Bool
is_small_digit byte = is_digit byte || (nat_le 97 byte && nat_le byte 102)

-- whether a place of a form is a digit: `X` is one in capitals, `x` one in small letters
abbrev pub is_digit_place : ℕ → Bool
is_digit_place place = place == 88 || place == 120

-- a hexadecimal digit in either case
abbrev pub is_hexadecimal : ℕ → Bool
is_hexadecimal byte = is_capital_digit byte || is_small_digit byte

-- whether modaliases of a form have this byte at a place of it; a place that is no digit stands for itself
abbrev pub is_written : ℕ → ℕ → Bool
is_written place byte = if place == 88 then is_capital_digit byte else if place == 120 then is_small_digit byte else byte == place

-- whether a byte is a digit in the other case than its place has
abbrev pub is_swapped : ℕ → ℕ → Bool
is_swapped place byte = (is_hexadecimal byte && not (is_written place byte)) && is_digit_place place

-- what a byte of a match means at a place that is a digit, for which `?` can stand
abbrev pub digit_step : ℕ → Step
digit_step byte = if byte == question_mark || is_hexadecimal byte then step.On else step.Other

-- the same at a place that is no digit: a `:` can come in place of it and of what follows it, and so can a `?`
abbrev pub letter_step : ℕ → ℕ → Step
letter_step place byte =
    if byte == question_mark then step.Free
    else if byte == place then step.On
    else if byte == colon then step.Free
    else step.Other

-- what a byte of a match means at a place of a form: `*`, a set and an escape can stand for anything that follows
abbrev pub step_at : ℕ → ℕ → Step
step_at place byte =
    if (byte == star || byte == open_bracket) || byte == backslash then step.Free
    else if is_digit_place place then digit_step byte
    else letter_step place byte

-- how a match meets a form, by what its next byte means and how what follows meets the rest of the form
abbrev pub meeting_after : Step → Meeting → Meeting
meeting_after step.On following = following
meeting_after step.Free following = meeting.Fits
meeting_after step.Other following = meeting.Other

-- how what a match has after its prefix meets a form: it ends before the form does, a byte of it is another one, or it
-- fits
abbrev pub meeting_of : Text → Text → Meeting
meeting_of [] text = meeting.Fits
meeting_of (place ∷ form) [] = meeting.Short
meeting_of (place ∷ form) (byte ∷ text) = meeting_after (step_at place byte) (meeting_of form text)

-- whether a digit has the other case, by what the next byte means, whether it is one that has, and whether one that
-- follows has
abbrev pub swapped_after : Step → Bool → Bool → Bool
swapped_after step.On swapped following = swapped || following
swapped_after step.Free swapped following = false
swapped_after step.Other swapped following = false

-- whether a digit is in the other case than the form has it, among those that are compared with the form
abbrev pub has_swapped : Text → Text → Bool
has_swapped [] text = false
has_swapped (place ∷ form) [] = false
has_swapped (place ∷ form) (byte ∷ text) = swapped_after (step_at place byte) (is_swapped place byte) (has_swapped form text)

-- whether a match ends so that a modalias that ends in `:` can fit it
abbrev pub ends_well : Text → Bool
ends_well text = ((ends_in star text || ends_in colon text) || ends_in question_mark text) || ends_in close_bracket text

-- the forms of the table
abbrev pub forms : List ModaliasForm
forms = map (λ m. (m.0.now, m.1.now, m.2)) MODALIASES

-- the first of these forms whose prefix a match begins with
abbrev pub form_among : List ModaliasForm → Text → Option ModaliasForm
form_among known text = find (λ form. starts_with nat_eq text form.0) known

-- whether a byte of a text means something other than itself
abbrev pub has_sign : Text → Bool
has_sign text = list_any (λ b. ((b == star || b == question_mark) || b == open_bracket) || b == backslash) text

-- the first words of the matches that something looks up
abbrev pub first_words : List Text
first_words = map (λ word. word.now) FIRST_WORDS

-- whether nothing is known to look up what a match begins with
abbrev pub is_unknown : Text → Bool
is_unknown text = not (has_sign (up_to colon text)) && not (is_among first_words (up_to colon text))

-- why no modalias of a form fits, by how a match meets it, whether a digit has the other case, and whether the end lacks
-- what modaliases end in
abbrev pub fault_met : Meeting → Bool → Bool → Option DatabaseLint
fault_met meeting.Other swapped lacks_end = Some NoModalias
fault_met meeting.Short swapped lacks_end = if swapped then Some DigitCase else Some EndMissing
fault_met meeting.Fits swapped lacks_end = if swapped then Some DigitCase else if lacks_end then Some EndMissing else None

-- why no modalias of a form fits a match
abbrev pub fault_in_form : ModaliasForm → Text → Option DatabaseLint
fault_in_form form text =
    let following = drop (length form.0) text in
    fault_met (meeting_of form.1 following) (has_swapped form.1 following) (form.2 && not (ends_well text))

-- the same if the prefix has a form, and otherwise by the prefix alone
abbrev pub fault_by : Option ModaliasForm → Text → Option DatabaseLint
fault_by (Some form) text = fault_in_form form text
fault_by None text = if is_unknown text then Some UnknownPrefix else None

-- why no modalias fits a match, if that is known
abbrev pub match_fault : Text → Option DatabaseLint
match_fault text = fault_by (form_among forms text) text

-- whether a modalias has a form behind its prefix: the bytes of its places, or up to a place that is no digit, and then
-- `:`; more may follow
abbrev pub is_of_form : Text → Text → Bool
is_of_form [] modalias = true
is_of_form (place ∷ form) [] = false
is_of_form (place ∷ form) (byte ∷ modalias) =
    if is_written place byte then is_of_form form modalias else byte == colon && not (is_digit_place place)
