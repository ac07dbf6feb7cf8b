use Rattle.std.proofs.Common.{◌∙◌}
use Rattle.devdry_words.specs.Lines.{is_input}
use Rattle.text_bytes.proofs.Seen.{any_seen}
use Rattle.devdry_words.proofs.piped.has_input_among.Goals as goal

pub returns : goal.returns
returns c = c.has_input.ensures ∙ any_seen is_input (λ f. f.now) c.args.files.now
