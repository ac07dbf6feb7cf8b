use Rattle.std.proofs.Common.{◌≡◌, ◌<◌, ◌^◌, drop, nat_lt}
use Rattle.std.specs.Char.{digit_value}
use Rattle.std.specs.List.{list_all}
use Rattle.std.specs.Str.Parse.{digits_value, digits_value_after}
use Rattle.rule_tokens.proofs.integers.size_in.Given as goal

abbrev pub invariant-loop-byte : goal.invariant-loop-byte
invariant-loop-byte l = record {
  under : l.number < 2 ^ 32;
  number : digits_value_after l.base l.number (drop l.byte-index l.digits) ≡ digits_value l.base l.digits;
  all : list_all (λ d. nat_lt (digit_value d) l.base) (drop l.byte-index l.digits) ≡ list_all (λ d. nat_lt (digit_value d) l.base) l.digits;
}
