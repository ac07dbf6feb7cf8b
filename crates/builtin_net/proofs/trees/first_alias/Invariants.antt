use Rattle.std.proofs.Common.{◌≡◌, map}
use Rattle.builtin_net.specs.Trees.{alias_of, first_alias}
use Rattle.builtin_net.specs.Words.{first_given}
use Rattle.builtin_net.proofs.trees.first_alias.Given as goal

abbrev pub invariant-loop-file : goal.invariant-loop-file
invariant-loop-file l =
    first_given (alias_of l.node) (map (λ file. (file.0.now, file.1.now)) l.file-iterator.rest.items) ≡ first_alias l.fn.event l.fn.node
