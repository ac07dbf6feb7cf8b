use Rattle.std.proofs.Common.{◌≡◌, map}
use Rattle.std.specs.List.{range_with_len}
use Rattle.text_bytes.specs.Characters.{value_byte}
use Rattle.text_bytes.proofs.link_characters.value_safe.Given as goal

abbrev pub invariant-loop-place : goal.invariant-loop-place
invariant-loop-place l = l.made.items ≡ map (value_byte l.text) (range_with_len 0 l.place)
