use Rattle.std.proofs.Common.{◌≡◌, ◌++◌, drop, map}
use Rattle.rule_types.specs.Names.{key_name}
use Rattle.engine_formats.proofs.meant.key_names.Given as goal

abbrev pub invariant-loop-key : goal.invariant-loop-key
invariant-loop-key l = map (λ name. name.now) l.names.items ++ map key_name (drop l.key-index l.keys) ≡ map key_name l.keys
