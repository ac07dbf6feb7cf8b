use Rattle.std.proofs.Common.{refl}
use Rattle.link_files.specs.Matching.{link_faults, asks_something}
use Rattle.link_files.specs.Faults.{file_faults}
use Rattle.link_files.specs.Joined.{joined_lines, joined_after}
use Rattle.link_files.specs.Files.{is_drop_in}
use Rattle.link_files.specs.Settings.{with_file, with_line}
use Rattle.link_files.specs.Lines.{joined_from, is_comment, stripped}
use Rattle.link_files.specs.Lists.{list_of, last_of}
use Rattle.link_files.proofs.lint_laws.files_ask_for_an_interface.Goals as goal

pub returns : goal.returns
unfolding link_faults asks_something file_faults joined_lines joined_after is_drop_in with_file with_line joined_from
    is_comment stripped list_of last_of
returns c = record {
  none = λ kind. refl;
  drop_in = λ kind. refl;
  masked = λ kind. refl;
}
