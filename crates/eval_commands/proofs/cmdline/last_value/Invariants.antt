use Rattle.std.proofs.Common.{◌≡◌, drop, option_map}
use Rattle.std.specs.Option.{option_or}
use Rattle.eval_commands.specs.Cmdline.{last_value}
use Rattle.eval_commands.proofs.cmdline.last_value.Given as goal

abbrev pub invariant-loop-word : goal.invariant-loop-word
invariant-loop-word l = option_or (last_value l.name (drop l.word-index l.words)) (option_map (λ v. v.now) l.last) ≡ last_value l.fn.name l.fn.words
