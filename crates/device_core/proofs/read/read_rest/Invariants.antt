use Rattle.std.proofs.Common.{◌≡◌, false, ◌+◌, ◌<◌, ◌≤◌, length}
use Rattle.text_bytes.specs.Lines.{lines}
use Rattle.device_core.specs.Values.{most_devices}
use Rattle.device_core.specs.Steps.{HaveNoNul, sofar, nothing_read, steps}
use Rattle.device_core.proofs.read.read_rest.Given as goal

abbrev pub invariant-loop-rest : goal.invariant-loop-rest
invariant-loop-rest l = record {
  counted : l.above + length l.rest ≤ length l.fn.text + 1;
  few : length l.draft.closed.items < most_devices;
  plain : l.fn.may_have_nul ≡ false → HaveNoNul (lines l.rest);
  same : steps (sofar l.draft) l.above (lines l.rest) ≡ steps nothing_read 1 (lines l.fn.text);
}

abbrev pub decreases-loop-rest : goal.decreases-loop-rest
decreases-loop-rest l = length l.rest
