-- What a token is about, besides its key: what is in its braces, and what its value names.
use Rattle.std.specs.Prelude.{ℤ, pos, negsuc, [], Option, Some, None, option_map, codes}
use Rattle.std.specs.Option.{option_and_then, unwrap_or}
use Rattle.text_bytes.specs.Text.{Text}
use Rattle.text_bytes.specs.declared.profile.Profile.TheVariants.{Udev}
use Rattle.rule_types.specs.Names.{import_name, import_type_of, run_name, run_type_of}
use Rattle.rule_types.specs.Topics.{mode_of}
use Rattle.rule_types.specs.declared.keys.Key.{Key}
use Rattle.rule_types.specs.declared.keys.Key.TheVariants as key
use Rattle.rule_types.specs.declared.rule_option.RuleOption.{RuleOption}
use Rattle.rule_types.specs.declared.rule_option.RuleOption.TheVariants as option
use Rattle.rule_types.specs.declared.types.ImportType.{ImportType}
use Rattle.rule_types.specs.declared.types.ImportType.TheVariants as import_of
use Rattle.rule_types.specs.declared.types.RunType.{RunType}
use Rattle.rule_types.specs.declared.types.RunType.TheVariants as run_of
use Rattle.rule_types.specs.Builtins.{builtin_name, builtin_of}
use Rattle.text_bytes.specs.Texts.{following}
use Rattle.rule_parts.specs.Options.{level_of, option_of}
use Rattle.rule_types.specs.declared.builtins.Builtin.{Builtin}
use Rattle.rule_remarks.specs.Accounts.{Accounts, given_in}
use Rattle.rule_remarks.specs.declared.accounts.AccountKind.TheVariants.{User, Group}
use Rattle.rule_remarks.specs.declared.accounts.Given.{Given}
use Rattle.rule_remarks.specs.declared.accounts.Given.TheVariants as given

-- what a token is about: which kind of its key, a name, a number, and the text that it compares with or assigns
pub record Matter : Type 0 where
  pub kind : Text  -- the type of IMPORT or RUN, or the option; empty if the key has only one kind
  pub name : Text  -- the attribute or the builtin; empty if there is none
  pub number : Option ℤ  -- the number of the value or of the mode of TEST, if it has one
  pub text : Option Text  -- none if the number or the kind is all that the value says

-- a kind, if it is not empty, with a text
abbrev pub with_text : Text → Text → Matter
with_text kind text = record { kind = kind; name = []; number = None; text = Some text }

-- a kind, if it is not empty, with a number, if there is one
abbrev pub with_number : Text → Option ℤ → Matter
with_number kind number = record { kind = kind; name = []; number = number; text = None }

-- what a user or group is: an unknown one is -1
abbrev pub of_account : Text → Given → Matter
of_account text (given.Number n) = with_number [] (Some (pos n))
of_account text given.Unknown = with_number [] (Some (negsuc 0))
of_account text given.Text = with_text [] text

-- the mode that a text gives, if there is one and it does
abbrev pub mode_in : Option Text → Option ℤ
mode_in text = option_map pos (option_and_then mode_of text)

-- a mode, or the text that gives none
abbrev pub of_mode : Text → Option ℤ → Matter
of_mode text (Some mode) = with_number [] (Some mode)
of_mode text None = with_text [] text

-- a text that is taken as a builtin if it is one, and otherwise is of a kind
abbrev pub of_builtin : Text → Text → Option Builtin → Matter
of_builtin kind text (Some known) = record { kind = run_name run_of.Builtin; name = builtin_name known; number = None; text = Some text }
of_builtin kind text None = with_text kind text

-- what IMPORT takes; a program that is a builtin is of that type
abbrev pub of_import : Option ImportType → Text → Matter
of_import (Some import_of.Program) text = of_builtin (import_name import_of.Program) text (builtin_of text)
of_import (Some import_of.Builtin) text = of_builtin (import_name import_of.Builtin) text (builtin_of text)
of_import (Some type) text = with_text (import_name type) text
of_import None text = with_text [] text

-- what RUN runs: a program unless its braces say otherwise
abbrev pub of_run : Option RunType → Text → Matter
of_run (Some run_of.Builtin) text = of_builtin (run_name run_of.Builtin) text (builtin_of text)
of_run _ text = with_text (run_name run_of.Program) text

-- a static node, or else a level of the log, by what is in a text after `static_node=`
abbrev pub node_or_level : Text → Option Text → Option Matter
node_or_level text (Some node) = Some (with_text (codes "static_node") node)
node_or_level text None = option_map (λ level. with_number (codes "log_level") (Some level)) (option_and_then level_of (following (codes "log_level=") text))

-- an option that changes nothing here; none if it is not an option
abbrev pub other_option : Text → Option Matter
other_option text = node_or_level text (following (codes "static_node=") text)

-- an option as it was read; watch and nowatch are one kind
abbrev pub of_option : Text → Option RuleOption → Option Matter
of_option text None = None
of_option text (Some (option.LinkPriority n)) = Some (with_number (codes "link_priority") (Some n))
of_option text (Some option.KeepEscapes) = Some (with_number (codes "string_escape=none") None)
of_option text (Some option.ReplaceEscapes) = Some (with_number (codes "string_escape=replace") None)
of_option text (Some option.Watch) = Some (with_number (codes "watch") (Some (pos 1)))
of_option text (Some option.NoWatch) = Some (with_number (codes "watch") (Some (pos 0)))
of_option text (Some option.DbPersist) = Some (with_number (codes "db_persist") None)
of_option text (Some option.LogLevel) = other_option text
of_option text (Some option.Ignored) = other_option text

-- a name, if it is not empty, with a number, if there is one, and a text
abbrev pub named : Text → Option ℤ → Text → Matter
named name number text = record { kind = []; name = name; number = number; text = Some text }

-- what a token of a key with an attribute and a value is about; none for LABEL, GOTO and what is not an option, which
-- are not compared with others
unfoldable pub matter_of : Accounts → Key → Option Text → Text → Option Matter
matter_of accounts key.Owner attribute text = Some (of_account text (given_in accounts User text))
matter_of accounts key.Group attribute text = Some (of_account text (given_in accounts Group text))
matter_of accounts key.Mode attribute text = Some (of_mode text (mode_in (Some text)))
matter_of accounts key.Test attribute text = Some (named [] (mode_in attribute) text)
matter_of accounts key.Import attribute text = Some (of_import (option_and_then import_type_of attribute) text)
matter_of accounts key.Run attribute text = Some (of_run (option_and_then run_type_of attribute) text)
matter_of accounts key.Options attribute text = of_option text (option_of Udev text)
matter_of accounts key.Env attribute text = Some (named (unwrap_or attribute []) None text)
matter_of accounts key.Const attribute text = Some (named (unwrap_or attribute []) None text)
matter_of accounts key.Attr attribute text = Some (named (unwrap_or attribute []) None text)
matter_of accounts key.Attrs attribute text = Some (named (unwrap_or attribute []) None text)
matter_of accounts key.Sysctl attribute text = Some (named (unwrap_or attribute []) None text)
matter_of accounts key.Seclabel attribute text = Some (named (unwrap_or attribute []) None text)
matter_of accounts key.Label attribute text = None
matter_of accounts key.Goto attribute text = None
matter_of accounts _ attribute text = Some (with_text [] text)
