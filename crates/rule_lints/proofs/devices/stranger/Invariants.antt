use Rattle.std.proofs.Common.{◌≡◌, drop}
use Rattle.rule_lints.specs.Devices.{stranger, stranger_by}
use Rattle.rule_lints.proofs.devices.stranger.Given as goal

abbrev pub invariant-loop-written : goal.invariant-loop-written
invariant-loop-written l = stranger_by l.side l.first (drop l.written-index l.tokens) ≡ stranger l.side l.tokens
