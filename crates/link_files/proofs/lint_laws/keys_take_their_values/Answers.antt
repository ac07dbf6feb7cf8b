use Rattle.std.proofs.Common.{refl}
use Rattle.link_files.specs.Booleans.{is_yes, is_no}
use Rattle.link_files.specs.Lists.{is_list}
use Rattle.link_files.specs.Names.{is_interface_name}
use Rattle.link_files.specs.Words.{words_of, split, is_whole, split_byte}
use Rattle.link_files.proofs.lint_laws.keys_take_their_values.Goals as goal

pub returns : goal.returns
unfolding is_yes is_no is_list is_interface_name words_of split is_whole split_byte
returns c = record {
  yes = refl;
  number = refl;
  pattern = refl;
  long = refl;
  digits = refl;
  policies = refl;
  policy = refl;
}
