use Rattle.std.proofs.Common.{refl}
use Rattle.rule_remarks.specs.Pairs.{pair_findings}
use Rattle.rule_remarks.specs.Said.{said_of}
use Rattle.rule_remarks.specs.Matters.{matter_of}
use Rattle.rule_remarks.specs.Forms.{form_of}
use Rattle.rule_remarks.specs.Words.{words_of}
use Rattle.rule_remarks.specs.Relations.{is_same, is_against, beginning, part_ways, parts_from_all}
use Rattle.rule_remarks.specs.Accounts.{given_in}
use Rattle.rule_types.specs.Names.{key_of, import_type_of, run_type_of}
use Rattle.rule_types.specs.Operators.{is_read_as_assign}
use Rattle.rule_types.specs.Topics.{mode_of}
use Rattle.rule_types.specs.Builtins.{builtin_of}
use Rattle.rule_parts.specs.Options.{option_of, priority_of}
use Rattle.rule_tokens.specs.Integers.{integer_of, size_in, marked, signed, signed_size}
use Rattle.text_bytes.specs.Numbers.{decimal_below}
use Rattle.text_bytes.specs.Texts.{split_once}
use Rattle.rule_tokens.specs.Reading.{pieces_of, piece_at}
use Rattle.rule_remarks.proofs.examples.some_act_kinds.Goals as goal

pub returns : goal.returns
unfolding pair_findings said_of matter_of form_of words_of is_same is_against beginning part_ways parts_from_all given_in key_of import_type_of
    run_type_of is_read_as_assign mode_of builtin_of option_of priority_of integer_of size_in marked signed signed_size decimal_below split_once
    pieces_of piece_at
returns c = record {
  modes = refl;
  owners = refl;
  names = refl;
  tests = refl;
  runs = refl;
  programs = refl;
  imports = refl;
  options = refl;
  numbers = refl;
  labels = refl;
}
