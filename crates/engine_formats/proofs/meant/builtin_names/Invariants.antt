use Rattle.std.proofs.Common.{◌≡◌, ◌++◌, drop, map}
use Rattle.rule_types.specs.Builtins.{builtin_name}
use Rattle.engine_formats.proofs.meant.builtin_names.Given as goal

abbrev pub invariant-loop-builtin : goal.invariant-loop-builtin
invariant-loop-builtin l = map (λ name. name.now) l.names.items ++ map builtin_name (drop l.builtin-index l.builtins) ≡ map builtin_name l.builtins
