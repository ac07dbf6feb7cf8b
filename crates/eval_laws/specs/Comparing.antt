-- What `==` and `!=` say about the texts that a key looks at.
use Rattle.std.specs.Prelude.{◌≡◌, ◌∷◌, ◌++◌, ℕ, zero, suc, Bool, true, not, if◌then◌else◌, List, [], All, option_to_list}
use Rattle.std.specs.List.{list_any}
use Rattle.text_bytes.specs.Names.{is_whitespace}
use Rattle.text_tables.specs.Pairs.{value_of}
use Rattle.text_bytes.specs.Text.{Text}
use Rattle.text_core.specs.Choices.{choice_fits}
use Rattle.text_core.specs.declared.item.Item.{Item}
use Rattle.text_core.specs.declared.item.Item.TheVariants as item
use Rattle.device_core.specs.Values.{DeviceValue}
use Rattle.rule_types.specs.declared.roles.MatchOperator.TheVariants.{Equal, NotEqual}
use Rattle.rule_types.specs.declared.roles.PlainKey.{PlainKey}
use Rattle.rule_types.specs.declared.roles.PlainKey.TheVariants as plain
use Rattle.rule_types.specs.declared.roles.UpKey.{UpKey}
use Rattle.rule_types.specs.declared.roles.UpKey.TheVariants as up
use Rattle.rule_types.specs.declared.part.Comparison.{Comparison}
use Rattle.eval_state.specs.Chains.{kernel_of}
use Rattle.eval_state.specs.Texts.{or_empty}
use Rattle.eval_state.specs.declared.state.State.{State}
use Rattle.eval_rendering.specs.Holding.{Subject, holds}
use Rattle.eval_rendering.specs.Subjects.{is_known}

-- the texts that each match of the event is compared with, of which one has to fit
abbrev pub event_texts : PlainKey → State → List Text
event_texts plain.Action state = state.event.action ∷ []
event_texts plain.Devpath state = state.event.device.path ∷ []
event_texts plain.Kernel state = kernel_of state.event.device ∷ []
event_texts plain.Subsystem state = or_empty state.event.device.subsystem ∷ []
event_texts plain.Driver state = or_empty state.event.device.driver ∷ []
event_texts plain.Name state = or_empty state.name ∷ []
event_texts plain.Symlink state = state.links
event_texts plain.Tag state = state.tags
event_texts (plain.Attr name) state = option_to_list (value_of state.event.device.attrs name)
event_texts (plain.Sysctl name) state = []
event_texts (plain.Env name) state = or_empty (value_of state.env name) ∷ []
event_texts (plain.Const name) state = if is_known name then option_to_list (value_of state.event.constants name) else []

-- the texts of a device of the chain that each match of one device is compared with; the event device has its current tags
abbrev pub device_texts : UpKey → State → ℕ → DeviceValue → List Text
device_texts up.Kernels state place device = kernel_of device ∷ []
device_texts up.Subsystems state place device = or_empty device.subsystem ∷ []
device_texts up.Drivers state place device = or_empty device.driver ∷ []
device_texts up.Tags state zero device = state.tags
device_texts up.Tags state (suc above) device = device.tags
device_texts (up.Attrs name) state place device = option_to_list (value_of device.attrs name)

-- a comparison by `==`, however its value was written
abbrev pub equal_to : Bool → Text → List (List Item) → Comparison
equal_to blind written choice = record { operator = Equal; blind = blind; written = written; choice = choice }

-- `==` holds if and only if the choice fits one of these texts, each as it is
abbrev pub ComparesAsItIs : Subject → List Text → Type 0
ComparesAsItIs subject texts =
    (blind : Bool) (written : Text) (choice : List (List Item)) → holds subject (equal_to blind written choice) ≡ list_any (choice_fits choice) texts

-- `!=` holds just where `==` does not
abbrev pub AreOpposite : Subject → Type 0
AreOpposite subject =
    (wanted : Comparison) → holds subject (record wanted { operator = NotEqual }) ≡ not (holds subject (record wanted { operator = Equal }))

-- A list has a last element, and that meets a condition.
pub record HasLast {A : Type 0} (Meets : A → Type 0) (xs : List A) : Type 0 where
  pub beginning : List A
  pub last : A
  pub whole : xs ≡ beginning ++ last ∷ []
  pub meets : Meets last

-- a byte is whitespace
abbrev pub IsWhitespace : ℕ → Type 0
IsWhitespace b = is_whitespace b ≡ true

-- an item of a pattern is a byte of whitespace
abbrev pub IsWhitespaceItem : Item → Type 0
IsWhitespaceItem i = (b : ℕ) × (i ≡ item.Byte b) × IsWhitespace b

-- the last item of the last part of a choice is a byte of whitespace
abbrev pub EndsInWhitespace : List (List Item) → Type 0
EndsInWhitespace choice = HasLast (HasLast IsWhitespaceItem) choice

-- A text is a shorter one and whitespace after it, and the shorter one does not end in whitespace.
pub record IsWithoutItsEnd (text short : Text) : Type 0 where
  pub end : Text
  pub whole : text ≡ short ++ end
  pub blank : All IsWhitespace end
  pub cut : ¬ HasLast IsWhitespace short

-- `==` holds if and only if the choice fits this text, if the choice ends in whitespace, and else if and only if it
-- fits the text without the whitespace at its end.
pub record ComparesWithoutItsEnd (subject : Subject) (text : Text) : Type 0 where
  pub whole : (blind : Bool) (written : Text) (choice : List (List Item)) → EndsInWhitespace choice
      → holds subject (equal_to blind written choice) ≡ choice_fits choice text
  pub cut : (blind : Bool) (written : Text) (choice : List (List Item)) → ¬ EndsInWhitespace choice → (short : Text) → IsWithoutItsEnd text short
      → holds subject (equal_to blind written choice) ≡ choice_fits choice short
