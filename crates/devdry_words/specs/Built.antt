-- A command that is built step by step. It serves proofs alone.
use Rattle.std.specs.Prelude.{◌≡◌, false}
use Rattle.clap.specs.Words.{Shape, shape_of}
use Rattle.clap.specs.declared.builder.command.Command.{Command}
use Rattle.clap.specs.declared.builder.command.Command.TheViews.{out-Command}

-- the command has this shape, and none of its arguments is global
pub record IsCommand (shape : Shape) (c : Command) : Type 0 where
  pub shape_is : shape_of c ≡ shape
  pub is_local : (out-Command c).has_globals ≡ false
