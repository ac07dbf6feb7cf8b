use Rattle.std.proofs.Common.{◌∙◌}
use Rattle.engine_sessions.specs.Words.{has_value_of}
use Rattle.text_bytes.proofs.Seen.{any_seen}
use Rattle.engine_sessions.proofs.words.has_value_of_one.Goals as goal

pub returns : goal.returns
returns c = c.gives_value.ensures ∙ any_seen (has_value_of c.args.word.now) (λ n. n.now) c.args.names.now
