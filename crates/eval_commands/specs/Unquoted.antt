-- Serves proofs alone: the words of a command without quotes, which stand between its spaces, and what they ask for.
use Rattle.std.specs.Prelude.{ℕ, Bool, false, not, ◌==◌, if◌then◌else◌, List, [], ◌∷◌, ◌++◌, Option, Some, None, is_some, codes}
use Rattle.std.specs.List.{list_any}
use Rattle.std.specs.Option.{option_and_then}
use Rattle.text_bytes.specs.Names.{equals, space}
use Rattle.text_bytes.specs.Texts.{split_once}
use Rattle.text_bytes.specs.declared.profile.Profile.{Profile}
use Rattle.text_bytes.specs.declared.profile.Profile.TheVariants.{Manual, Udev}
use Rattle.text_bytes.specs.Text.{Text}
use Rattle.text_tables.specs.Texts.{same_text}
use Rattle.eval_commands.specs.Hwdb.{is_option, prefix_option, subsystem_option}
use Rattle.eval_commands.specs.Words.{is_quote}
use Rattle.eval_commands.specs.declared.hwdb.Hwdb.{Hwdb}

-- a byte of a word
abbrev pub is_inside : ℕ → Bool
is_inside b = not (b == space)

-- the words of a text, by what was read of the first one, if it has begun
abbrev pub words_from : (begun : Option Text) → Text → List Text
words_from None [] = []
words_from None (b ∷ text) = if b == space then words_from None text else words_from (Some (b ∷ [])) text
words_from (Some word) [] = word ∷ []
words_from (Some word) (b ∷ text) = if b == space then word ∷ words_from None text else words_from (Some (word ++ b ∷ [])) text

-- the words of a text that spaces split
abbrev pub spaced_words : Text → List Text
spaced_words text = words_from None text

-- the first element and the others, if there are any
abbrev pub first_and_others : {X : Type 0} → List X → Option (X × List X)
first_and_others [] = None
first_and_others (x ∷ xs) = Some (x, xs)

-- whether a command may be read without a copy: by the manual, if it has no quote
abbrev pub is_unquoted : Profile → Text → Bool
is_unquoted Manual text = not (list_any is_quote text)
is_unquoted Udev text = false

-- the name of a builtin, unless it is `hwdb`
abbrev pub other_of : (name : Text) → Option Text
other_of name = if same_text name (codes "hwdb") then None else Some name

-- the name of another builtin than `hwdb`, if the command has no quote
abbrev pub other_name : Profile → Text → Option Text
other_name profile text = option_and_then (λ cut. if is_unquoted profile text then other_of cut.0 else None) (first_and_others (spaced_words text))

-- what `hwdb` is asked for without options
abbrev pub no_request : Hwdb
no_request = record { subsystem = None; prefix = []; filter = None; modalias = None }

-- the same with the value of an option, if it is that of a subsystem or a prefix
abbrev pub with_value : (name value : Text) → Hwdb → Option Hwdb
with_value name value r =
    if same_text name subsystem_option then Some (record { subsystem = Some value; prefix = r.prefix; filter = r.filter; modalias = r.modalias })
    else (if same_text name prefix_option then Some (record { subsystem = r.subsystem; prefix = value; filter = r.filter; modalias = r.modalias }) else None)

-- the same with a word that is meant as an option, by what stands around its `=`
abbrev pub with_option : Text → Hwdb → Option Hwdb
with_option word r = option_and_then (λ cut. with_value cut.0 cut.1 r) (split_once equals word)

-- the same with a modalias, if there is none
abbrev pub with_modalias : Text → Hwdb → Option Hwdb
with_modalias word r =
    if is_some r.modalias then None else Some (record { subsystem = r.subsystem; prefix = r.prefix; filter = r.filter; modalias = Some word })

-- the same with one more word
abbrev pub with_word : Text → Hwdb → Option Hwdb
with_word word r = if is_option word then with_option word r else with_modalias word r

-- the same with these words
abbrev pub request_from : Hwdb → List Text → Option Hwdb
request_from r [] = Some r
request_from r (word ∷ words) = option_and_then (λ more. request_from more words) (with_word word r)

-- what words ask for of which the first is `hwdb`
abbrev pub asked_by : (name : Text) → List Text → Option Hwdb
asked_by name words = if same_text name (codes "hwdb") then request_from no_request words else None

-- what a command of `hwdb` asks for, if it has no quote and no filter, and its arguments are not bad
abbrev pub asked_of : Profile → Text → Option Hwdb
asked_of profile text = option_and_then (λ cut. if is_unquoted profile text then asked_by cut.0 cut.1 else None) (first_and_others (spaced_words text))
