use Rattle.std.proofs.Common.{◌≡◌, ◌++◌, take, flat_map}
use Rattle.engine_formats.specs.Tokens.{rule_tokens}
use Rattle.engine_formats.proofs.sarif.write_each_rule.Given as goal

abbrev pub invariant-loop-remark : goal.invariant-loop-remark
invariant-loop-remark l = record {
  tokens : l.writer.tokens ≡ l.initial.writer.tokens ++ flat_map rule_tokens (take l.remark-index l.remarks);
  before : l.writer.before ≡ l.initial.writer.before;
}
