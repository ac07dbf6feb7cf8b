use Rattle.std.proofs.Common.{◌≡◌, drop}
use Rattle.std.specs.Prelude.{is_some}
use Rattle.std.specs.List.{list_all}
use Rattle.builtin_link.specs.Addresses.{hardware_digits}
use Rattle.builtin_link.proofs.addresses.are_addresses.Given as goal

abbrev pub invariant-loop-word : goal.invariant-loop-word
invariant-loop-word l =
    list_all (λ word. is_some (hardware_digits word)) (drop l.word-index l.words) ≡ list_all (λ word. is_some (hardware_digits word)) l.words
