-- When a PROGRAM is done, in terms of the event's block.
use Rattle.std.specs.Prelude.{◌≡◌, Some}
use Rattle.text_bytes.specs.Text.{Text}
use Rattle.text_tables.specs.Pairs.{value_of}
use Rattle.rule_tokens.specs.Template.{Parts as Template}
use Rattle.rule_types.specs.declared.roles.MatchOperator.TheVariants.{Equal}
use Rattle.rule_types.specs.declared.part.Act.{Act}
use Rattle.rule_types.specs.declared.part.ActKind.TheVariants as act_kind
use Rattle.eval_state.specs.declared.scene.Scene.{Scene}
use Rattle.eval_acts.specs.ActTexts.{program_text}
use Rattle.eval_rendering.specs.declared.rendered.Rendered.TheVariants as outcome

-- `PROGRAM==` with a command
abbrev pub program : Template → Act
program template = record { operator = Equal; kind = act_kind.Program template }

-- The command is not too long, and the event's block answers it with status 0 and this text.
pub record IsAnswered (template : Template) (s : Scene) (text : Text) : Type 0 where
  pub command : Text
  pub rendered : program_text template s.state ≡ outcome.Text command
  pub answered : value_of s.state.event.programs command ≡ Some (record { status = 0; text = text })
