use Rattle.std.proofs.Common.{◌≡◌, ◌++◌, filter_map}
use Rattle.rule_remarks.specs.AccountLines.{account_in, accounts_of, bare}
use Rattle.rule_remarks.proofs.account_lines.read_accounts.Given as goal

abbrev pub invariant-loop-line : goal.invariant-loop-line
invariant-loop-line l = l.accounts.items ++ filter_map (λ line. account_in l.kind (bare line.text)) l.line-iterator ≡ accounts_of l.kind l.bytes
