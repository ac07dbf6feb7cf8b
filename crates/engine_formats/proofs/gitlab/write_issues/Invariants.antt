use Rattle.std.proofs.Common.{◌≡◌, ◌++◌, take, map, flat_map}
use Rattle.engine_formats.specs.Fingerprints.{shown_given}
use Rattle.engine_formats.specs.Tokens.{issue_tokens}
use Rattle.engine_formats.proofs.gitlab.write_issues.Given as goal

abbrev pub invariant-loop-one : goal.invariant-loop-one
invariant-loop-one l = record {
  tokens : l.writer.tokens ≡ l.initial.writer.tokens ++ flat_map issue_tokens (map shown_given (take l.one-index l.given));
  before : l.writer.before ≡ l.initial.writer.before;
}
