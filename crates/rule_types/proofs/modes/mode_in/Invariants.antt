use Rattle.std.proofs.Common.{◌≡◌, ◌<◌, ◌^◌, drop}
use Rattle.std.specs.List.{list_all}
use Rattle.rule_types.specs.Topics.{octal, octal_after, is_octal}
use Rattle.rule_types.proofs.modes.mode_in.Given as goal

abbrev pub invariant-loop-byte : goal.invariant-loop-byte
invariant-loop-byte l = record {
  below : l.mode < 8 ^ 4;
  number : octal_after l.mode (drop l.byte-index l.digits) ≡ octal l.digits;
  digits : list_all is_octal (drop l.byte-index l.digits) ≡ list_all is_octal l.digits;
}
