-- What is kept for each RUN until all rules have run.
use Rattle.std.specs.Prelude.{ℕ, Bool, true, false, ◌&&◌, ◌||◌, if◌then◌else◌, List, [], ◌∷◌, ◌++◌, Option, Some, None}
use Rattle.std.specs.List.{list_any}
use Rattle.text_bytes.specs.Texts.{is_empty}
use Rattle.text_tables.specs.Texts.{same_text}
use Rattle.rule_types.specs.declared.roles.AssignOperator.{AssignOperator}
use Rattle.rule_types.specs.declared.roles.AssignOperator.TheVariants.{Add}
use Rattle.rule_types.specs.declared.types.RunType.{RunType}
use Rattle.rule_types.specs.declared.types.RunType.TheVariants.{Program, Builtin}
use Rattle.rule_tokens.specs.Template.{Parts as Template}
use Rattle.rule_types.specs.Rules.{Rule}

-- a RUN as it is written: its rule, the type in its braces, if it has any, its command, and the place of the device that
-- was selected, if one was
pub record RunValue : Type 0 where
  pub rule : Rule
  pub braces : Option RunType
  pub template : Template
  pub selected : Option ℕ

-- the type of a RUN: a program unless another one is in its braces
abbrev pub run_kind : Option RunType → RunType
run_kind None = Program
run_kind (Some kind) = kind

-- whether two types are the same
abbrev pub same_kind : RunType → RunType → Bool
same_kind Program Program = true
same_kind Program Builtin = false
same_kind Builtin Program = false
same_kind Builtin Builtin = true

-- whether two RUNs have the same type and the same written text
abbrev pub same_run : RunValue → RunValue → Bool
same_run a b = same_kind (run_kind a.braces) (run_kind b.braces) && same_text a.template.written b.template.written

-- a RUN at the end, unless it is there or its written text is empty
abbrev pub with_run : List RunValue → RunValue → List RunValue
with_run runs run = if is_empty run.template.written || list_any (same_run run) runs then runs else runs ++ run ∷ []

-- what is to be run, as an operator changes it: `+=` adds, any other starts anew
abbrev pub runs_after : AssignOperator → List RunValue → RunValue → List RunValue
runs_after Add runs run = with_run runs run
runs_after _ runs run = with_run [] run
