-- Where the first token of a line is for udev.
use Rattle.std.proofs.Common.{◌≡◌, ℕ, suc, ◌+◌, Bool, true, false, cond, List, [], ◌∷◌, drop, refl, subst, sym, arith}
use Rattle.std.specs.List.{prefix_len}
use Rattle.text_bytes.specs.declared.profile.Profile.TheVariants.{Udev}
use Rattle.rule_tokens.specs.Grammar.{BeginsOther, is_gap_byte}
use Rattle.rule_tokens.proofs.RunLemmas.{run_all}
use Rattle.rule_core.specs.Drafts.{first_place}
use Rattle.rule_laws.specs.Udev.{IsFirstPlace}

-- what follows a run of a class begins with another byte
run_ends : (class : ℕ → Bool) (text : List ℕ) → BeginsOther class (drop (prefix_len class text) text)
run_ends class [] = tt
run_ends class (b ∷ rest) = by (class b) refl (run_ends class rest)
  where
    by : (t : Bool) → class b ≡ t → BeginsOther class (drop (prefix_len class rest) rest) → BeginsOther class (drop (cond t (1 + prefix_len class rest) 0) (b ∷ rest))
    by true e h = let next : 1 + prefix_len class rest ≡ suc (prefix_len class rest) = omega arith in subst (λ (n : ℕ). BeginsOther class (drop n (b ∷ rest))) (sym next) h
    by false e h = e

pub is_first_place : (line : List ℕ) → IsFirstPlace line (first_place Udev line)
is_first_place line = record { before = run_all is_gap_byte line; there = run_ends is_gap_byte line }
