use Rattle.std.proofs.Common.{◌≡◌, ◌++◌, map, take}
use Rattle.text_core.specs.declared.item.Item.TheVariants.{Byte}
use Rattle.text_core.proofs.pattern.push_bytes.Given as goal

abbrev pub invariant-loop-byte : goal.invariant-loop-byte
invariant-loop-byte l = l.items.items ≡ l.fn.items.items ++ map Byte (take l.byte-index l.bytes)
