use Rattle.std.proofs.Common.{◌≡◌, flat_map}
use Rattle.std.specs.List.{range_with_len}
use Rattle.text_bytes.specs.Encoded.{encoded_byte}
use Rattle.text_bytes.proofs.encodings.encoded.Given as goal

abbrev pub invariant-loop-place : goal.invariant-loop-place
invariant-loop-place l = l.made.items ≡ flat_map (encoded_byte l.text) (range_with_len 0 l.place)
