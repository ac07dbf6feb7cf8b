-- How the lines of `--why` name keys and rules.
use Rattle.std.specs.Prelude.{◌∷◌, ◌++◌, Option, option_map, codes, decimal}
use Rattle.text_bytes.specs.Escapes.{escape_text}
use Rattle.text_bytes.specs.Names.{colon}
use Rattle.text_bytes.specs.Text.{Text}
use Rattle.rule_types.specs.WrittenParts.{attribute_of_change, key_of_change}
use Rattle.rule_types.specs.Rules.{Rule}
use Rattle.rule_types.specs.declared.keys.Key.{Key}
use Rattle.rule_types.specs.declared.part.Change.{Change}
use Rattle.eval_state.specs.Notes.{word_of_key}
use Rattle.eval_state.specs.declared.finals.FinalKey.{FinalKey}
use Rattle.eval_state.specs.declared.finals.FinalKey.TheVariants.{Owner, Group, Mode, Name, Symlink, Run, Priority, Watch}

-- a key, with its attribute escaped in braces, if it has one
abbrev pub key_text : Key → Option Text → Text
key_text key attribute = word_of_key key (option_map escape_text attribute)

-- the key of an assignment
abbrev pub change_key : Change → Text
change_key c = key_text (key_of_change c) (attribute_of_change c)

-- a key that no longer changes: options are distinguished by their words
abbrev pub final_name : FinalKey → Text
final_name Owner = codes "OWNER"
final_name Group = codes "GROUP"
final_name Mode = codes "MODE"
final_name Name = codes "NAME"
final_name Symlink = codes "SYMLINK"
final_name Run = codes "RUN"
final_name Priority = codes "link_priority"
final_name Watch = codes "watch"

-- the place of a rule, `FILE:LINE`, with the file's name escaped
abbrev pub rule_place : Rule → Text
rule_place r = escape_text r.file ++ colon ∷ decimal r.line
