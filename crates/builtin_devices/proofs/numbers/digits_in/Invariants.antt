use Rattle.std.proofs.Common.{◌≡◌, ◌≤◌, drop}
use Rattle.std.specs.List.{list_all}
use Rattle.builtin_devices.specs.Numbers.{is_digit_in, number_after}
use Rattle.builtin_devices.proofs.numbers.digits_in.Given as goal

abbrev pub invariant-loop-byte : goal.invariant-loop-byte
invariant-loop-byte l = record {
  within : l.number ≤ l.most;
  number : number_after l.base l.number (drop l.byte-index l.text) ≡ number_after l.base 0 l.text;
  digits : list_all (is_digit_in l.base) (drop l.byte-index l.text) ≡ list_all (is_digit_in l.base) l.text;
}
