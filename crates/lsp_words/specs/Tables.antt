-- The words of each kind, with what is told about them: the tables of the code.
use Rattle.std.specs.Prelude.{List, ◌++◌, map}
use Rattle.lsp_words.specs.Entries.{Row}
use Rattle.lsp_words.specs.declared.kinds.WordKind.{WordKind}
use Rattle.lsp_words.specs.declared.kinds.WordKind.TheVariants as kind
use Rattle.lsp_words.specs.declared.keys.TheConstants.{KEYS}
use Rattle.lsp_words.specs.declared.operators.TheConstants.{OPERATORS}
use Rattle.lsp_words.specs.declared.braces.TheConstants.{CONSTANTS, IMPORT_TYPES, MODULES, RUN_TYPES}
use Rattle.lsp_words.specs.declared.usb_attributes.TheConstants.{USB_ATTRIBUTES}
use Rattle.lsp_words.specs.declared.attributes.TheConstants.{ATTRIBUTES}
use Rattle.lsp_words.specs.declared.device_properties.TheConstants.{DEVICE_PROPERTIES}
use Rattle.lsp_words.specs.declared.identity_properties.TheConstants.{IDENTITY_PROPERTIES}
use Rattle.lsp_words.specs.declared.use_properties.TheConstants.{USE_PROPERTIES}
use Rattle.lsp_words.specs.declared.builtins.TheConstants.{BUILTINS}
use Rattle.lsp_words.specs.declared.options.TheConstants.{OPTIONS}
use Rattle.lsp_words.specs.declared.actions.TheConstants.{ACTIONS}
use Rattle.lsp_words.specs.declared.subsystems.TheConstants.{SUBSYSTEMS}
use Rattle.lsp_words.specs.declared.substitutions.TheConstants.{LETTERS, SUBSTITUTIONS}
use Rattle.lsp_words.specs.declared.matches.TheConstants.{MATCHES}
use Rattle.lsp_words.specs.declared.input_database.TheConstants.{INPUT_DATABASE}
use Rattle.lsp_words.specs.declared.database.TheConstants.{DATABASE}

-- the words of a kind
unfoldable pub entries_of : WordKind → List Row
entries_of kind.Key = map (λ e. record { name = e.0.now; text = e.1.now }) KEYS
entries_of kind.Operator = map (λ e. record { name = e.0.now; text = e.1.now }) OPERATORS
entries_of kind.ImportType = map (λ e. record { name = e.0.now; text = e.1.now }) IMPORT_TYPES
entries_of kind.RunType = map (λ e. record { name = e.0.now; text = e.1.now }) RUN_TYPES
entries_of kind.Attribute =
    map (λ e. record { name = e.0.now; text = e.1.now }) USB_ATTRIBUTES ++ map (λ e. record { name = e.0.now; text = e.1.now }) ATTRIBUTES
entries_of kind.Property =
    map (λ e. record { name = e.0.now; text = e.1.now }) DEVICE_PROPERTIES
    ++ (map (λ e. record { name = e.0.now; text = e.1.now }) IDENTITY_PROPERTIES ++ map (λ e. record { name = e.0.now; text = e.1.now }) USE_PROPERTIES)
entries_of kind.Constant = map (λ e. record { name = e.0.now; text = e.1.now }) CONSTANTS
entries_of kind.Module = map (λ e. record { name = e.0.now; text = e.1.now }) MODULES
entries_of kind.Builtin = map (λ e. record { name = e.0.now; text = e.1.now }) BUILTINS
entries_of kind.RuleOption = map (λ e. record { name = e.0.now; text = e.1.now }) OPTIONS
entries_of kind.Action = map (λ e. record { name = e.0.now; text = e.1.now }) ACTIONS
entries_of kind.Subsystem = map (λ e. record { name = e.0.now; text = e.1.now }) SUBSYSTEMS
entries_of kind.Substitution = map (λ e. record { name = e.0.now; text = e.1.now }) SUBSTITUTIONS
entries_of kind.Letter = map (λ e. record { name = e.0.now; text = e.1.now }) LETTERS
entries_of kind.Match = map (λ e. record { name = e.0.now; text = e.1.now }) MATCHES
entries_of kind.DatabaseProperty =
    map (λ e. record { name = e.0.now; text = e.1.now }) INPUT_DATABASE ++ map (λ e. record { name = e.0.now; text = e.1.now }) DATABASE
