use Rattle.std.proofs.Common.{refl}
use Rattle.rule_remarks.specs.Pairs.{pair_findings}
use Rattle.rule_remarks.specs.Said.{said_of}
use Rattle.rule_remarks.specs.Matters.{matter_of}
use Rattle.rule_remarks.specs.Forms.{form_of}
use Rattle.rule_remarks.specs.Words.{words_of}
use Rattle.rule_remarks.specs.Relations.{is_same, is_against, beginning, part_ways, parts_from_all}
use Rattle.rule_types.specs.Names.{key_of}
use Rattle.rule_types.specs.Operators.{is_read_as_assign}
use Rattle.rule_tokens.specs.Reading.{pieces_of, piece_at}
use Rattle.text_bytes.specs.Texts.{split_once}
use Rattle.rule_remarks.proofs.examples.some_matches.Goals as goal

pub returns : goal.returns
unfolding pair_findings said_of matter_of form_of words_of is_same is_against beginning part_ways parts_from_all key_of is_read_as_assign pieces_of
    piece_at split_once
returns c = record {
  tags = refl;
  trimmed = refl;
  blank = refl;
  blank_first = refl;
  blank_last = refl;
  bar_first = refl;
  bars_first = refl;
  unequal = refl;
  opposite = refl;
  order = refl;
  empty = refl;
  patterns = refl;
  apart = refl;
  mixed = refl;
  far = refl;
  three = refl;
}
