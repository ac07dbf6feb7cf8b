use Rattle.std.proofs.Common.{codes, refl}
use Rattle.link_files.specs.Faults.{line_faults}
use Rattle.link_files.specs.Keys.{form_of}
use Rattle.link_files.specs.Booleans.{is_yes, is_no}
use Rattle.link_files.specs.Settings.{section_of}
use Rattle.link_files.specs.Lines.{stripped}
use Rattle.text_bytes.specs.Texts.{split_once}
use Rattle.link_files.proofs.Ascii.{ascii_is_utf8}
use Rattle.link_files.proofs.lint_laws.faults_have_their_places.Goals as goal

pub returns : goal.returns
unfolding line_faults form_of is_yes is_no section_of stripped split_once
returns c = record {
  section = rw (ascii_is_utf8 (codes "[Matsch]") refl) refl;
  extension = rw (ascii_is_utf8 (codes "[X-Own]") refl) refl;
  key = rw (ascii_is_utf8 (codes "Nmae=a") refl) refl;
  other = rw (ascii_is_utf8 (codes "Name=a") refl) refl;
  value = rw (ascii_is_utf8 (codes "NTupleFilter = maybe") refl) refl;
  empty = rw (ascii_is_utf8 (codes "NTupleFilter=") refl) refl;
  bare = rw (ascii_is_utf8 (codes "Name") refl) refl;
  before = rw (ascii_is_utf8 (codes "Name=a") refl) refl;
  skipped = rw (ascii_is_utf8 (codes "Name") refl) refl;
  unread = rw (ascii_is_utf8 (codes "[Link") refl) refl;
}
