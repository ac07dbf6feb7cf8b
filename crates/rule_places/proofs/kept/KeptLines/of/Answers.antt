use Rattle.text_bytes.specs.Lines.{numbered_lines}
use Rattle.rule_places.proofs.Rising.{rises}
use Rattle.rule_places.proofs.kept.KeptLines.of.Goals as goal

pub invariant_of-result : goal.invariant_of-result
invariant_of-result c = rw c.in_ok-lines.ensures (rises 0 (numbered_lines c.args.bytes.now))
