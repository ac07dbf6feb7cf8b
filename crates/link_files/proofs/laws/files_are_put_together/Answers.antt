use Rattle.std.proofs.Common.{refl}
use Rattle.link_files.specs.Files.{link_files, link_file, is_drop_in, listed_path}
use Rattle.link_files.specs.Settings.{with_file, with_line, section_of}
use Rattle.link_files.specs.Lines.{joined_from, is_comment, stripped}
use Rattle.text_bytes.specs.Texts.{split_once}
use Rattle.link_files.proofs.laws.files_are_put_together.Goals as goal

pub returns : goal.returns
unfolding link_files link_file is_drop_in listed_path with_file with_line section_of joined_from is_comment stripped split_once
returns c = record {
  first = λ kind. refl;
  other = λ kind. refl;
  masked = λ kind. refl;
}
