use Rattle.std.proofs.Common.{codes, refl}
use Rattle.engine_sessions.specs.Files.{bad_line}
use Rattle.engine_sessions.specs.Words.{is_word}
use Rattle.engine_sessions.specs.Names.{flag_names, valued_names, repeated_names}
use Rattle.text_bytes.specs.Texts.{split_once}
use Rattle.link_files.proofs.Ascii.{ascii_is_utf8}
use Rattle.engine_sessions.proofs.option_laws.lines_that_are_bad.Goals as goal

pub returns : goal.returns
unfolding bad_line is_word flag_names valued_names repeated_names split_once
returns c = record {
  one = rw (ascii_is_utf8 (codes "--lint") refl) refl;
  none = rw (ascii_is_utf8 (codes "--lint") refl) refl;
}
