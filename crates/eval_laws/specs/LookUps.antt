-- What `hwdb` is asked, which texts it looks up, and what it finds first.
use Rattle.std.specs.Prelude.{◌≡◌, [], ◌∷◌, ◌++◌, List, map, filter, filter_map}
use Rattle.std.specs.List.{flat_map}
use Rattle.text_bytes.specs.Names.{equals}
use Rattle.text_bytes.specs.Text.{Text}
use Rattle.text_tables.specs.Pairs.{Pair}
use Rattle.builtin_devices.specs.Knowledge.{Known}
use Rattle.eval_commands.specs.LookUps.{Candidate, counted_properties, is_wanted}
use Rattle.eval_commands.specs.declared.hwdb.Hwdb.{Hwdb}

-- One of the texts is answered with these properties, and those before it give none.
pub record IsFirstAnswer (known : Known) (hwdb : Hwdb) (texts : List Text) (properties : List Pair) : Type 0 where
  pub before : List Text
  pub text : Text
  pub following : List Text
  pub whole : texts ≡ before ++ text ∷ following
  pub nothing : flat_map (counted_properties known hwdb) before ≡ []
  pub gives : counted_properties known hwdb text ≡ properties

-- the texts of devices, nearest first: the modalias of each that is wanted and has one, after the prefix
abbrev pub texts_of : Hwdb → List Candidate → List Text
texts_of hwdb devices = map (λ modalias. hwdb.prefix ++ modalias) (filter_map (λ device. device.modalias) (filter (is_wanted hwdb.subsystem) devices))

-- the word that gives an option a value
abbrev pub option_word : Text → Text → Text
option_word name value = name ++ equals ∷ value

-- none of the words gives an option a value
abbrev pub HasNoValue : Text → List Text → Type 0
HasNoValue name words = (before : List Text) (value : Text) (following : List Text) → ¬ (words ≡ before ++ option_word name value ∷ following)

-- The last of the words that give an option a value gives it this one.
pub record IsLastValue (name : Text) (words : List Text) (value : Text) : Type 0 where
  pub before : List Text
  pub following : List Text
  pub whole : words ≡ before ++ option_word name value ∷ following
  pub last : HasNoValue name following
