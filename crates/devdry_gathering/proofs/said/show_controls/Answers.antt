use Rattle.std.proofs.Common.{◌<◌, length, get_or, set, ap, ◌∙◌, rules}
use Rattle.std.proofs.lemmas.List.Edits.{map_over_more}
use Rattle.devdry_gathering.specs.Said.{said_byte}
use Rattle.devdry_gathering.proofs.said.show_controls.Goals as goal

pub loop-byte-preserved : goal.loop-byte-preserved
loop-byte-preserved c =
    let text = c.loop-byte.text in
    let at = c.loop-byte.byte-index in
    let within : at < length c.args.text.now = search rules in
    ap (set text at) c.said_byte.ensures.value ∙ map_over_more said_byte c.args.text.now text at (get_or text at 0) within c.loop-byte.invariant (search rules)
