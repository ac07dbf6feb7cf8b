-- How a key of a rule is written: `KEY{attribute}==i"value"`.
use Rattle.std.specs.Prelude.{Bool, true, false, [], ◌∷◌, ◌++◌, None, codes}
use Rattle.text_bytes.specs.Names.{double_quote}
use Rattle.text_bytes.specs.Text.{Text}
use Rattle.rule_types.specs.Written.{attribute_of_plain, attribute_of_up, key_of_plain, key_of_up}
use Rattle.rule_types.specs.WrittenParts.{attribute_of_act_kind, key_of_act_kind}
use Rattle.rule_types.specs.declared.keys.Key.TheVariants as key
use Rattle.rule_types.specs.declared.roles.MatchOperator.{MatchOperator}
use Rattle.rule_types.specs.declared.roles.MatchOperator.TheVariants.{Equal, NotEqual}
use Rattle.rule_types.specs.declared.part.Act.{Act}
use Rattle.rule_types.specs.declared.part.Comparison.{Comparison}
use Rattle.rule_types.specs.declared.part.ActKind.{ActKind}
use Rattle.rule_types.specs.declared.part.ActKind.TheVariants as act_kind
use Rattle.rule_types.specs.declared.part.Import.TheVariants as import
use Rattle.rule_types.specs.declared.part.PlainMatch.{PlainMatch}
use Rattle.rule_types.specs.declared.part.UpMatch.{UpMatch}
use Rattle.eval_effects.specs.Named.{key_text}
use Rattle.eval_effects.specs.Shown.{shortened}

-- the operator of a match
abbrev pub operator_text : MatchOperator → Text
operator_text Equal = codes "=="
operator_text NotEqual = codes "!="

-- the letter before a value whose case is ignored
abbrev pub case_mark : Bool → Text
case_mark true = codes "i"
case_mark false = []

-- what a key is compared with: the operator, whether case is ignored, and the value between quotes
unfoldable pub wanted_text : MatchOperator → Bool → Text → Text
wanted_text operator blind value = operator_text operator ++ case_mark blind ++ double_quote ∷ shortened value ++ double_quote ∷ []

-- the same for a comparison
abbrev pub comparison_text : Comparison → Text
comparison_text wanted = wanted_text wanted.operator wanted.blind wanted.written

-- a match of the event
abbrev pub plain_key : PlainMatch → Text
plain_key part = key_text (key_of_plain part.key) (attribute_of_plain part.key) ++ comparison_text part.wanted

-- a match of one device
abbrev pub up_key : UpMatch → Text
up_key part = key_text (key_of_up part.key) (attribute_of_up part.key) ++ comparison_text part.wanted

-- a match of the result of the last program
abbrev pub result_key : Comparison → Text
result_key part = key_text key.Result None ++ comparison_text part

-- the value of an act as it was given
abbrev pub value_of_act_kind : ActKind → Text
value_of_act_kind (act_kind.Test mask template) = template.written
value_of_act_kind (act_kind.Program template) = template.written
value_of_act_kind (act_kind.Import (import.Program template)) = template.written
value_of_act_kind (act_kind.Import (import.Builtin template)) = template.written
value_of_act_kind (act_kind.Import (import.File template)) = template.written
value_of_act_kind (act_kind.Import (import.Parent names value)) = value
value_of_act_kind (act_kind.Import (import.Cmdline name)) = name
value_of_act_kind (act_kind.Import (import.Db name)) = name

-- an act
abbrev pub act_key : Act → Text
act_key act = key_text (key_of_act_kind act.kind) (attribute_of_act_kind act.kind) ++ wanted_text act.operator false (value_of_act_kind act.kind)
