use Rattle.std.proofs.Common.{◌≡◌, ◌<◌, ◌≤◌, drop}
use Rattle.std.specs.List.{list_all}
use Rattle.text_bytes.specs.Numbers.{decimal, decimal_after, is_digit}
use Rattle.text_bytes.proofs.numbers.decimal_below.Given as goal

abbrev pub invariant-loop-byte : goal.invariant-loop-byte
invariant-loop-byte l = record {
  under : l.number ≤ l.bound;
  below : 0 < l.byte-index → l.number < l.bound;
  number : decimal_after l.number (drop l.byte-index l.text) ≡ decimal l.text;
  digits : list_all is_digit (drop l.byte-index l.text) ≡ list_all is_digit l.text;
}
