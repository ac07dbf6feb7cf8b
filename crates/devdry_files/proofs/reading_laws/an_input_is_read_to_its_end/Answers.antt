use Rattle.std.proofs.Common.{ap, sym, ◌∙◌, ◌++◌}
use Rattle.std.proofs.lemmas.List.{append-nil}
use Rattle.engine_sessions.proofs.Serving.{none_is, rest_reported}
use Rattle.devdry_files.proofs.reading_laws.an_input_is_read_to_its_end.Goals as goal

pub returns : goal.returns
returns c before now text all whole e =
    let r = rest_reported all text now.left (sym e ∙ whole.reads.left) in
    sym (r.2 ∙ ap (λ rest. text ++ rest) (none_is now.left r.0 whole.none_left r.1) ∙ append-nil text)
