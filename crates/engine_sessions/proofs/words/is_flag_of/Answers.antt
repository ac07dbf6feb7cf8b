use Rattle.std.proofs.Common.{◌∙◌}
use Rattle.engine_sessions.specs.Words.{is_flag}
use Rattle.text_bytes.proofs.Seen.{any_seen}
use Rattle.engine_sessions.proofs.words.is_flag_of.Goals as goal

pub returns : goal.returns
returns c = c.is_one_of.ensures ∙ any_seen (is_flag c.args.word.now) (λ n. n.now) c.args.names.now
