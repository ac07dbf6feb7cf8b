use Rattle.std.proofs.Common.{codes, refl}
use Rattle.engine_sessions.specs.Files.{words_of}
use Rattle.engine_sessions.specs.Words.{is_word}
use Rattle.engine_sessions.specs.Names.{flag_names, valued_names, repeated_names}
use Rattle.text_bytes.specs.Texts.{split_once}
use Rattle.link_files.proofs.Ascii.{ascii_is_utf8}
use Rattle.engine_sessions.proofs.option_laws.lines_are_words.Goals as goal

pub returns : goal.returns
unfolding words_of is_word flag_names valued_names repeated_names split_once
returns c = record {
  words = rw (ascii_is_utf8 (codes "--lint") refl) (rw (ascii_is_utf8 (codes "--ignore=S2") refl) refl);
  control = rw (ascii_is_utf8 (codes "--root=/a\tb") refl) refl;
}
