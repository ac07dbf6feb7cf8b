-- One more argument of a command, and one more subcommand.
use Rattle.std.proofs.Common.{◌≡◌, ◌∙◌, ◌||◌, ◌++◌, ◌∷◌, [], ap, ap₂, false}
use Rattle.clap.specs.Words.{AddsArg, App, Rule, Shape, app_of, rule_of, with_subcommand}
use Rattle.clap.specs.Built.{AddsSubcommand}
use Rattle.clap.specs.declared.builder.arg.Arg.{Arg}
use Rattle.clap.specs.declared.builder.command.Command.{Command}
use Rattle.devdry_words.specs.Built.{IsCommand}

pub one_more : (old new : Command) (a : Arg) (s : Shape) (r : Rule) → IsCommand s old → (rule_of a ≡ r) × (a.global ≡ false) → AddsArg old a new
    → IsCommand (record s { rules = s.rules ++ r ∷ [] }) new
one_more old new a s r is rule adds = record {
  shape_is = ap (λ (x : App). x.top) (adds.shape rule.1) ∙ ap₂ (λ (t : Shape) (q : Rule). record t { rules = t.rules ++ q ∷ [] }) is.shape_is rule.0;
  is_local = adds.globals ∙ ap₂ (λ x y. x || y) is.is_local rule.1;
}

pub one_more_command : (old sub new : Command) (a : App) (s : Shape) → app_of old ≡ a → IsCommand s sub → AddsSubcommand old sub new
    → app_of new ≡ with_subcommand a s
one_more_command old sub new a s is sub_is adds = adds.shape sub_is.is_local ∙ ap₂ with_subcommand is sub_is.shape_is
