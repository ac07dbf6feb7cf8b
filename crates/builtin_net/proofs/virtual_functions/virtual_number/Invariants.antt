use Rattle.std.proofs.Common.{◌≡◌, map}
use Rattle.builtin_net.specs.Virtual.{number_leading, virtual_number}
use Rattle.builtin_net.specs.Words.{first_given}
use Rattle.builtin_net.proofs.virtual_functions.virtual_number.Given as goal

abbrev pub invariant-loop-file : goal.invariant-loop-file
invariant-loop-file l =
    first_given (number_leading l.path) (map (λ file. (file.0.now, file.1.now)) l.file-iterator.rest.items)
    ≡ virtual_number l.fn.event l.fn.physical l.fn.path
