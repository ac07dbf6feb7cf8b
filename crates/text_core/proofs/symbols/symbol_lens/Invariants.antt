use Rattle.std.proofs.Common.{◌≡◌, ◌-◌, suc, length, drop}
use Rattle.text_core.specs.Elements.{symbol_len}
use Rattle.text_core.proofs.Tables.{Reports}
use Rattle.text_core.proofs.symbols.symbol_lens.Given as goal

abbrev pub invariant-loop-left : goal.invariant-loop-left
invariant-loop-left l = record {
  reported : Reports symbol_len l.lens.items (drop (length l.text - l.left) l.text);
  len : length l.lens.items ≡ suc l.left;
}
