use Rattle.std.proofs.Common.{◌∙◌}
use Rattle.clap.specs.Words.{found_of, rows_of}
use Rattle.devdry_words.specs.Options.{has_option}
use Rattle.text_bytes.proofs.Seen.{any_seen}
use Rattle.devdry_words.proofs.options.has_one_option.Goals as goal

pub returns : goal.returns
returns c = c.has_option_of.ensures ∙ any_seen (has_option (rows_of (found_of c.args.matches.now)) c.args.word.now) (λ n. n.now) c.args.names.now
