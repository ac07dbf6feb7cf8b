use Rattle.std.proofs.Common.{◌∙◌, ap}
use Rattle.std.specs.List.{list_any}
use Rattle.clap.specs.Words.{found_of, rows_of}
use Rattle.devdry_words.specs.Options.{has_flag, has_option}
use Rattle.devdry_words.proofs.Taken.{either_first, either_second}
use Rattle.devdry_words.proofs.options.has_given.Goals as goal

pub returns-then-has_one_flag : goal.returns-then-has_one_flag
returns-then-has_one_flag c =
    either_first _ _ _ c.if-has_one_flag.true
    (c.has_one_flag.ensures ∙ ap (list_any (has_flag (rows_of (found_of c.args.matches.now)) c.args.word.now)) c.flag_names.ensures)

pub returns-else-has_one_flag : goal.returns-else-has_one_flag
returns-else-has_one_flag c =
    either_second _ _ _ _ c.if-has_one_flag.false
    (c.has_one_flag.ensures ∙ ap (list_any (has_flag (rows_of (found_of c.args.matches.now)) c.args.word.now)) c.flag_names.ensures)
    (c.has_one_option.ensures ∙ ap (list_any (has_option (rows_of (found_of c.args.matches.now)) c.args.word.now)) c.valued_names.ensures)
