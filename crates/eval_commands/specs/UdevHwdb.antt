-- The words after `hwdb` as udev takes them, one after another: options as getopt_long(3) reads them, and a modalias.
use Rattle.std.specs.Prelude.{ℕ, true, not, ◌==◌, ◌&&◌, ◌||◌, nat_eq, List, [], ◌∷◌, drop, find, fold, Option, Some, None, is_none, is_some, option_map}
use Rattle.std.specs.Prelude.{codes, false, if◌then◌else◌}
use Rattle.std.specs.List.{starts_with}
use Rattle.std.specs.Option.{option_and_then, option_or, unwrap_or}
use Rattle.text_bytes.specs.Names.{equals, minus}
use Rattle.text_bytes.specs.Texts.{begins_with, is_empty, split_once}
use Rattle.text_bytes.specs.Text.{Text}
use Rattle.eval_commands.specs.Hwdb.{is_bad_filter, pattern_of}
use Rattle.eval_commands.specs.declared.hwdb.Hwdb.{Hwdb}
use Rattle.eval_commands.specs.declared.udev_hwdb.Given.{Given}
use Rattle.eval_commands.specs.declared.udev_hwdb.HwdbOption.{HwdbOption}
use Rattle.eval_commands.specs.declared.udev_hwdb.HwdbOption.TheVariants.{Filter, Device, Subsystem, Prefix}

-- the name of an option, which follows `--`
abbrev pub option_name : HwdbOption → Text
option_name Filter = codes "filter"
option_name Device = codes "device"
option_name Subsystem = codes "subsystem"
option_name Prefix = codes "lookup-prefix"

-- its letter, which follows `-`: f, d, s and p
abbrev pub option_letter : HwdbOption → ℕ
option_letter Filter = 102
option_letter Device = 100
option_letter Subsystem = 115
option_letter Prefix = 112

-- all options, no two of which begin alike
abbrev pub options : List HwdbOption
options = Filter ∷ Device ∷ Subsystem ∷ Prefix ∷ []

-- the option whose name begins with a text, if the text is not empty
abbrev pub option_named : Text → Option HwdbOption
option_named text = if is_empty text then None else find (λ known. starts_with nat_eq (option_name known) text) options

-- the option with a letter
abbrev pub option_lettered : ℕ → Option HwdbOption
option_lettered letter = find (λ known. option_letter known == letter) options

-- what is given before the first word
abbrev pub nothing_given : Given
nothing_given = record { wanted = None; is_ended = false; filter = None; device = None; subsystem = None; prefix = None; modalias = None }

-- an option is given a value in place of the one that it had
abbrev pub with_option : HwdbOption → Text → Given → Given
with_option Filter value g = record g { wanted = None; filter = Some value }
with_option Device value g = record g { wanted = None; device = Some value }
with_option Subsystem value g = record g { wanted = None; subsystem = Some value }
with_option Prefix value g = record g { wanted = None; prefix = Some value }

-- a word that is not an option: the first one is the modalias, and others are skipped
abbrev pub with_word : Text → Given → Given
with_word word g = record g { modalias = option_or g.modalias (Some word) }

-- an option, if there is one by its name, and its value; without a value here it waits for the next word
abbrev pub named_given : Option HwdbOption → (value : Option Text) → Given → Given
named_given None value g = g
named_given (Some known) None g = record g { wanted = Some known }
named_given (Some known) (Some value) g = with_option known value g

-- what follows `--` in a word: nothing, and no option comes after it; or an option's name, perhaps with `=` and a value, cut at the first `=`
abbrev pub long_given : Text → Given → Given
long_given text g =
    if is_empty text then record g { is_ended = true }
    else (let cut = split_once equals text in named_given (option_named (unwrap_or (option_map (λ c. c.0) cut) text)) (option_map (λ c. c.1) cut) g)

-- an option, if there is one by its letter: the rest of the word is its value, or the next word if nothing is left; a letter that is not an option is skipped
abbrev pub letter_given : Option HwdbOption → (rest : Text) → (skipped : Given) → Given → Given
letter_given None rest skipped g = skipped
letter_given (Some known) rest skipped g = named_given (Some known) (if is_empty rest then None else Some rest) g

-- the letters after `-` in a word
abbrev pub letters_given : Text → Given → Given
letters_given [] g = g
letters_given (letter ∷ rest) g = letter_given (option_lettered letter) rest (letters_given rest g) g

-- a word that begins with `-`, by what follows: nothing, and it is not an option; another `-`; or letters
abbrev pub option_given : (word rest : Text) → Given → Given
option_given word [] g = with_word word g
option_given word (b ∷ rest) g = if b == minus then long_given rest g else letters_given (b ∷ rest) g

-- a word that is not the value of an option before it
abbrev pub free_given : Text → Given → Given
free_given word g = if g.is_ended || not (begins_with minus word) then with_word word g else option_given word (drop 1 word) g

-- a word, by the option that waits for its value
abbrev pub word_given : Option HwdbOption → Text → Given → Given
word_given None word g = free_given word g
word_given (Some known) word g = with_option known word g

-- one more word
abbrev pub took : Given → Text → Given
took g word = word_given g.wanted word g

-- what the words ask for; nothing if that is another device than the event's, which is not looked at (one is named, and there is no modalias, with
-- which no device is looked at), or if the filter is not a pattern
abbrev pub asked_by : Given → Option Hwdb
asked_by g =
    if (is_some g.device && is_none g.modalias) || is_bad_filter g.filter then None
    else Some (record { subsystem = g.subsystem; prefix = unwrap_or g.prefix []; filter = option_and_then pattern_of g.filter; modalias = g.modalias })

-- what the words after `hwdb` ask for
unfoldable pub udev_hwdb_of : List Text → Option Hwdb
udev_hwdb_of words = asked_by (fold took nothing_given words)
