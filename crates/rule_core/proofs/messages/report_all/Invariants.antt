use Rattle.std.proofs.Common.{◌≡◌, ◌++◌, map}
use Rattle.rule_core.specs.Rules.{message_at}
use Rattle.rule_core.proofs.messages.report_all.Given as goal

abbrev pub invariant-loop-found : goal.invariant-loop-found
invariant-loop-found l = l.messages.items ≡ l.initial.messages.items ++ map (message_at l.place.file.now l.place.line) l.yielded
