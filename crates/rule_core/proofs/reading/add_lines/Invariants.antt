use Rattle.std.proofs.Common.{◌≡◌, ◌++◌}
use Rattle.std.specs.List.{flat_map}
use Rattle.rule_core.specs.Rules.{line_messages, line_rules}
use Rattle.rule_core.proofs.reading.add_lines.Given as goal

abbrev pub invariant-loop-line : goal.invariant-loop-line
invariant-loop-line l = record {
  rules : l.rules ≡ l.initial.rules ++ flat_map (λ x. line_rules l.profile l.name x.0.line x.0.read x.1) l.yielded;
  messages : l.messages.items ≡ l.initial.messages.items ++ flat_map (λ x. line_messages l.name x.0.line x.0.read x.1) l.yielded;
}
