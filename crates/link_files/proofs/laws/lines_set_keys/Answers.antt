use Rattle.std.proofs.Common.{codes, refl}
use Rattle.link_files.specs.Settings.{with_line, section_of}
use Rattle.link_files.specs.Lines.{stripped}
use Rattle.text_bytes.specs.Texts.{split_once}
use Rattle.link_files.proofs.Ascii.{ascii_is_utf8}
use Rattle.link_files.proofs.laws.lines_set_keys.Goals as goal

pub returns : goal.returns
unfolding with_line section_of stripped split_once
returns c = record {
  setting = λ r. rw (ascii_is_utf8 (codes "Name = e=f") refl) refl;
  section = λ r. rw (ascii_is_utf8 (codes "[Link]") refl) refl;
  broken = λ r. rw (ascii_is_utf8 (codes "[Link] a") refl) refl;
  bare = λ r. rw (ascii_is_utf8 (codes "Name") refl) refl;
}
