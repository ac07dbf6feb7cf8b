-- The table of accounts gives each name the number of the first account that has it.
use Rattle.std.proofs.Common.{◌≡◌, Bool, true, false, cond, List, [], ◌∷◌, map, reverse, Option, Some, option_map, refl, ap, sym, ◌∙◌}
use Rattle.std.specs.Cmp.Lexicographic.{bytes_decides}
use Rattle.std.specs.List.{find}
use Rattle.std.proofs.lemmas.Grind.{reverse_onto}
use Rattle.std.proofs.lemmas.List.{map-append}
use Rattle.std.proofs.lemmas.List.Sums.{fold-append}
use Rattle.text_bytes.specs.Text.{Text}
use Rattle.text_tables.specs.Texts.{same_text}
use Rattle.text_tables.specs.Pairs.{value_of, with_value, with_values}
use Rattle.text_tables.proofs.Found.{value_set}
use Rattle.rule_remarks.specs.Accounts.{first_number}
use Rattle.rule_remarks.specs.AccountTables.{named_number, number_table}
use Rattle.rule_remarks.specs.declared.accounts.Account.{Account}

same_tests : (p q : Bool) → (p ≡ true → q ≡ true) → (q ≡ true → p ≡ true) → p ≡ q
same_tests true q f g = sym (f refl)
same_tests false true f g = g refl
same_tests false false f g = refl

same_both : (a b : Text) → same_text a b ≡ same_text b a
same_both a b = same_tests (same_text a b) (same_text b a) (λ e. (bytes_decides b a).1 (sym ((bytes_decides a b).0 e))) (λ e. (bytes_decides a b).1 (sym ((bytes_decides b a).0 e)))

one_found : (b : Bool) (account : Account) (more : Option Account) → cond b (Some account.number) (option_map (λ (a : Account). a.number) more) ≡ option_map (λ (a : Account). a.number) (cond b (Some account) more)
one_found true account more = refl
one_found false account more = refl

-- the number that a name has in the table
pub number_found : (accounts : List Account) (name : Text) → value_of (number_table accounts) name ≡ first_number accounts name
number_found [] name = refl
number_found (account ∷ accounts) name =
    ap (λ all. value_of (with_values [] (map named_number all)) name) (reverse_onto accounts account [])
    ∙ ap (λ all. value_of (with_values [] all) name) (map-append named_number (reverse accounts) (account ∷ []))
    ∙ ap (λ held. value_of held name) (fold-append (λ held pair. with_value held pair.0 pair.1) [] (map named_number (reverse accounts)) (named_number account ∷ []))
    ∙ value_set (number_table accounts) account.name account.number name
    ∙ ap (λ b. cond b (Some account.number) (value_of (number_table accounts) name)) (same_both name account.name)
    ∙ ap (cond (same_text account.name name) (Some account.number)) (number_found accounts name)
    ∙ one_found (same_text account.name name) account (find (λ a. same_text a.name name) accounts)
