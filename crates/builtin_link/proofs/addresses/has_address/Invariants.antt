use Rattle.std.proofs.Common.{◌≡◌, drop}
use Rattle.std.specs.Prelude.{option_map}
use Rattle.std.specs.List.{list_any}
use Rattle.builtin_link.specs.Addresses.{is_address}
use Rattle.builtin_link.proofs.addresses.has_address.Given as goal

abbrev pub invariant-loop-word : goal.invariant-loop-word
invariant-loop-word l =
    list_any (is_address (option_map (λ d. d.now) l.own)) (drop l.word-index l.words) ≡ list_any (is_address (option_map (λ d. d.now) l.own)) l.words
