use Rattle.std.proofs.Common.{◌≡◌, map, take}
use Rattle.std.specs.List.{flat_map}
use Rattle.engine_formats.specs.Diagnostics.{shown}
use Rattle.engine_checks.specs.Tables.{rules_reported_by}
use Rattle.engine_checks.proofs.TokensLeft.{tokens_left}
use Rattle.engine_checks.proofs.rules_reported.rules_reported.Given as goal

abbrev pub invariant-loop-read : goal.invariant-loop-read
invariant-loop-read l = record {
  reported : map shown l.reported.items ≡ flat_map (rules_reported_by l.asked) (take l.read-index l.reads);
  tokens : l.tokens ≡ tokens_left l.asked.profile (take l.read-index l.reads);
}
