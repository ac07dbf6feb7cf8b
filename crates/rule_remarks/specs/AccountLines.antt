-- The users and groups that files like /etc/passwd and /etc/group list.
use Rattle.std.specs.Prelude.{ℕ, ◌^◌, ◌||◌, codes, if◌then◌else◌, List, filter_map, Option, None, is_some, option_map}
use Rattle.std.specs.Option.{option_and_then, unwrap_or}
use Rattle.text_bytes.specs.Text.{Text}
use Rattle.text_bytes.specs.Lines.{numbered_lines}
use Rattle.text_bytes.specs.Names.{colon, hash, is_whitespace, minus, plus}
use Rattle.text_bytes.specs.Numbers.{decimal_below}
use Rattle.text_bytes.specs.Texts.{begins_with, following, skip_while, split_once, up_to}
use Rattle.rule_remarks.specs.declared.accounts.AccountKind.{AccountKind}
use Rattle.rule_remarks.specs.declared.accounts.AccountKind.TheVariants.{User, Group}
use Rattle.rule_remarks.specs.declared.accounts.Account.{Account}

-- a text without the white space at its start
abbrev pub bare : Text → Text
bare text = skip_while is_whitespace text

-- the number that a field gives: perhaps white space and a `+`, and after it decimal digits of a number within 32 bits
abbrev pub field_number : Text → Option ℕ
field_number text = decimal_below (2 ^ 32) (unwrap_or (following (codes "+") (bare text)) (bare text))

-- the number of an account, by the fields after its password: that of a user only if a field with the number of its group follows
abbrev pub number_in : AccountKind → Text → Option ℕ
number_in User fields = option_and_then (λ x. if is_some (field_number (up_to colon x.1)) then field_number x.0 else None) (split_once colon fields)
number_in Group fields = field_number (up_to colon fields)

-- an account with a name and a number
abbrev pub account : Text → ℕ → Account
account name n = record { name = name; number = n }

-- an account with a name, by what follows its colon: a password and the other fields
abbrev pub account_after : AccountKind → Text → Text → Option Account
account_after kind name fields = option_and_then (λ x. option_map (account name) (number_in kind x.1)) (split_once colon fields)

-- the account of a line without the white space at its start; none if it is a comment, or one in which no name is looked up
abbrev pub account_in : AccountKind → Text → Option Account
account_in kind line =
    if begins_with hash line || (begins_with plus line || begins_with minus line) then None
    else option_and_then (λ x. account_after kind x.0 x.1) (split_once colon line)

-- the accounts that a file with these bytes lists, in the order of its lines
abbrev pub accounts_of : AccountKind → Text → List Account
accounts_of kind bytes = filter_map (λ line. account_in kind (bare line.text)) (numbered_lines bytes)
