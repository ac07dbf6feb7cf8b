use Rattle.std.proofs.Common.{codes, refl}
use Rattle.text_bytes.specs.Texts.{split_once}
use Rattle.file_catalogue.specs.Catalogue.{all_codes, lints, messages, remark_of}
use Rattle.file_catalogue.specs.Ignored.{class_codes, is_class}
use Rattle.engine_sessions.specs.Names.{flag_names, repeated_names, valued_names}
use Rattle.engine_sessions.specs.Words.{is_word}
use Rattle.link_files.proofs.Ascii.{ascii_is_utf8}
use Rattle.lsp_answers.specs.Options.{settings_of}
use Rattle.lsp_answers.proofs.settings_laws.options_ask_for_settings.Goals as goal

pub returns-clause-none : goal.returns-clause-none
unfolding settings_of is_word flag_names valued_names repeated_names split_once remark_of is_class class_codes all_codes messages lints
returns-clause-none c = refl

pub returns-clause-strict : goal.returns-clause-strict
unfolding settings_of is_word flag_names valued_names repeated_names split_once remark_of is_class class_codes all_codes messages lints
returns-clause-strict c = rw (ascii_is_utf8 (codes "--strict") refl) refl

pub returns-clause-flags : goal.returns-clause-flags
unfolding settings_of is_word flag_names valued_names repeated_names split_once remark_of is_class class_codes all_codes messages lints
returns-clause-flags c = rw (ascii_is_utf8 (codes "--lint") refl, ascii_is_utf8 (codes "--no-style") refl, ascii_is_utf8 (codes "--format=json") refl) refl

pub returns-clause-ignored : goal.returns-clause-ignored
unfolding settings_of is_word flag_names valued_names repeated_names split_once remark_of is_class class_codes all_codes messages lints
returns-clause-ignored c = rw (ascii_is_utf8 (codes "--udev") refl, ascii_is_utf8 (codes "--ignore=V6,I") refl, ascii_is_utf8 (codes "--ignore=comments") refl) refl

pub returns-clause-option : goal.returns-clause-option
unfolding settings_of is_word flag_names valued_names repeated_names split_once remark_of is_class class_codes all_codes messages lints
returns-clause-option c = rw (ascii_is_utf8 (codes "--lint") refl) refl

pub returns-clause-code : goal.returns-clause-code
unfolding settings_of is_word flag_names valued_names repeated_names split_once remark_of is_class class_codes all_codes messages lints
returns-clause-code c = rw (ascii_is_utf8 (codes "--ignore=V6,X1") refl) refl
