-- The users and groups that are known, and what a value of OWNER or GROUP gives by them.
use Rattle.std.specs.Prelude.{ℕ, ◌-◌, ◌^◌, Bool, not, ◌&&◌, ◌==◌, nat_lt, if◌then◌else◌, List, length, Option, Some, None, option_map, unwrap_or, codes}
use Rattle.std.specs.List.{find}
use Rattle.text_bytes.specs.Names.{digit_zero}
use Rattle.text_bytes.specs.Numbers.{decimal_below}
use Rattle.text_bytes.specs.Texts.{begins_with}
use Rattle.text_tables.specs.Texts.{same_text}
use Rattle.rule_tokens.specs.Substituted.{is_substituted}
use Rattle.rule_remarks.specs.declared.accounts.Account.{Account}
use Rattle.rule_remarks.specs.declared.accounts.AccountKind.{AccountKind}
use Rattle.rule_remarks.specs.declared.accounts.AccountKind.TheVariants.{User, Group}
use Rattle.rule_remarks.specs.declared.accounts.Given.{Given}
use Rattle.rule_remarks.specs.declared.accounts.Given.TheVariants.{Number, Unknown, Text}

-- what is known about users and groups; none if there is no list
pub record Accounts : Type 0 where
  pub users : Option (List Account)
  pub groups : Option (List Account)

-- there is no list of either
abbrev pub nobody : Accounts
nobody = record { users = None; groups = None }

-- whether a number may be that of a user or a group: it has 32 bits, and is not -1 in 16 or 32 bits
abbrev pub is_identity : ℕ → Bool
is_identity n = nat_lt n (2 ^ 32 - 1) && not (n == 2 ^ 16 - 1)

-- a number, if it may be that of a user or a group
abbrev pub identity_in : Option ℕ → Option ℕ
identity_in None = None
identity_in (Some n) = if is_identity n then Some n else None

-- the number of a user or a group that a text writes in decimal digits, without a zero before its other digits
abbrev pub written_identity : List ℕ → Option ℕ
written_identity text = if begins_with digit_zero text && nat_lt 1 (length text) then None else identity_in (decimal_below (2 ^ 32) text)

-- the number of the first account of a name
abbrev pub first_number : List Account → List ℕ → Option ℕ
first_number accounts name = option_map (λ account. account.number) (find (λ account. same_text account.name name) accounts)

-- what a name other than `root` gives, by a list and the name that stands for the number 65534; without a list it stays a text
abbrev pub given_among : Option (List Account) → List ℕ → List ℕ → Given
given_among None nobody_name name = Text
given_among (Some accounts) nobody_name name =
    if same_text name nobody_name then Number (2 ^ 16 - 2)
    else unwrap_or (option_map Number (identity_in (first_number accounts name))) Unknown

-- what a name other than `root` gives, by the list of its kind
abbrev pub given_named : Accounts → AccountKind → List ℕ → Given
given_named accounts User name = given_among accounts.users (codes "nobody") name
given_named accounts Group name = given_among accounts.groups (codes "nogroup") name

-- what a value of OWNER or GROUP gives: the number that it writes, a text with substitutions, or the number of the name that it is, if that is known
unfoldable pub given_in : Accounts → AccountKind → List ℕ → Given
given_in accounts kind text =
    unwrap_or (option_map Number (written_identity text))
    (if is_substituted text then Text
    else (if same_text text (codes "root") then Number 0
    else given_named accounts kind text))
