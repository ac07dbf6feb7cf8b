-- How a program writes a property for IMPORT{program}, and when such an import is done: said without a reader.
use Rattle.std.specs.Prelude.{◌≡◌, ◌⊎◌, ℕ, true, false, ◌==◌, [], ◌∷◌, ◌++◌, All, Some, take}
use Rattle.std.specs.List.{list_any}
use Rattle.text_bytes.specs.Names.{equals, hash, is_blank}
use Rattle.text_bytes.specs.Texts.{begins_with}
use Rattle.text_bytes.specs.Text.{Text}
use Rattle.text_tables.specs.Pairs.{Pair, value_of}
use Rattle.rule_tokens.specs.Template.{Parts as Template}
use Rattle.rule_types.specs.declared.roles.MatchOperator.{MatchOperator}
use Rattle.rule_types.specs.declared.part.Act.{Act}
use Rattle.rule_types.specs.declared.part.ActKind.TheVariants as act_kind
use Rattle.rule_types.specs.declared.part.Import.TheVariants as import
use Rattle.eval_state.specs.declared.scene.Scene.{Scene}
use Rattle.eval_acts.specs.ActTexts.{import_text}
use Rattle.eval_commands.specs.Words.{is_quote}
use Rattle.eval_rendering.specs.Bounds.{most_command_bytes}
use Rattle.eval_rendering.specs.declared.rendered.Rendered.TheVariants as outcome

-- Between blanks there is a text that neither begins nor ends with one, and is not empty.
pub record IsPadded (whole text : Text) : Type 0 where
  pub before : Text
  pub following : Text
  pub cut : whole ≡ before ++ (text ++ following)
  pub blank_before : All (λ b. is_blank b ≡ true) before
  pub blank_after : All (λ b. is_blank b ≡ true) following
  pub first : ℕ
  pub rest : Text
  pub starts : text ≡ first ∷ rest
  pub dark_first : is_blank first ≡ false
  pub beginning : Text
  pub last : ℕ
  pub ends : text ≡ beginning ++ last ∷ []
  pub dark_last : is_blank last ≡ false

-- a value is written as it is, if it does not begin with a quote, or between two quotes of one kind, and may then be anything
abbrev pub IsWritten : (written value : Text) → Type 0
IsWritten written value =
    ((written ≡ value) × (list_any is_quote (take 1 written) ≡ false))
    ⊎ ((quote : ℕ) × (is_quote quote ≡ true) × (written ≡ quote ∷ value ++ quote ∷ []))

-- A line gives a property: it is not a comment, the name is before its first `=`, and the value is written after that.
pub record IsGiven (line : Text) (property : Pair) : Type 0 where
  pub beginning : Text
  pub following : Text
  pub cut : line ≡ beginning ++ equals ∷ following
  pub first : list_any (λ b. b == equals) beginning ≡ false
  pub name : IsPadded beginning property.0
  pub no_comment : begins_with hash property.0 ≡ false
  pub written : Text
  pub value : IsPadded following written
  pub meant : IsWritten written property.1

-- an IMPORT{program} with an operator and a command
abbrev pub program_import : MatchOperator → Template → Act
program_import operator template = record { operator = operator; kind = act_kind.Import (import.Program template) }

-- The command of an IMPORT{program} is not too long, and the event's block answers it with status 0 and this text.
pub record IsPrinted (template : Template) (s : Scene) (text : Text) : Type 0 where
  pub command : Text
  pub rendered : import_text most_command_bytes template s.state ≡ outcome.Text command
  pub answered : value_of s.state.event.programs command ≡ Some (record { status = 0; text = text })
