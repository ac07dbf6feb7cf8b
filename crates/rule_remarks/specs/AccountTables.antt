-- Serves inner proofs only: the numbers of users or groups by their names.
use Rattle.std.specs.Prelude.{ℕ, List, [], map, reverse}
use Rattle.text_bytes.specs.Text.{Text}
use Rattle.text_tables.specs.Pairs.{with_values}
use Rattle.rule_remarks.specs.declared.accounts.Account.{Account}

-- the name of an account with its number
abbrev pub named_number : Account → Text × ℕ
named_number account = (account.name, account.number)

-- the numbers of accounts, of which the first of a name counts: they are put into a table from the last on
abbrev pub number_table : List Account → List (Text × ℕ)
number_table accounts = with_values [] (map named_number (reverse accounts))
