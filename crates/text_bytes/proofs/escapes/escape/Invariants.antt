use Rattle.std.proofs.Common.{◌≡◌, All, false, take}
use Rattle.text_bytes.specs.Escapes.{escape_text, is_control}
use Rattle.text_bytes.proofs.escapes.escape.Given as goal

abbrev pub invariant-loop-byte : goal.invariant-loop-byte
invariant-loop-byte l = record {
  value : l.shown.items ≡ escape_text (take l.byte-index l.text);
  plain : All (λ b. is_control b ≡ false) l.shown.items;
}
