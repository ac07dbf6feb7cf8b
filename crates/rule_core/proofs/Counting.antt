-- The number of the last line of a file is how many lines it has.
use Rattle.std.proofs.Common.{◌≡◌, ℕ, ◌+◌, List, [], ◌∷◌, length, ap, sym, ◌∙◌, arith}
use Rattle.rule_core.specs.Lines.{NumberedLine, lines, numbered_from}

-- the number of the last of these lines, or this one if there is none
abbrev pub number_after : ℕ → List NumberedLine → ℕ
number_after number [] = number
number_after number (l ∷ ls) = number_after l.number ls

last_numbered : (n : ℕ) (ts : List (List ℕ)) → number_after n (numbered_from (n + 1) ts) ≡ n + length ts
last_numbered n [] = omega arith
last_numbered n (t ∷ ts) = last_numbered (n + 1) ts ∙ more
  where
    more : n + 1 + length ts ≡ n + length (t ∷ ts)
    more = omega arith

-- no line is left
pub all_counted : (count : ℕ) (left : List NumberedLine) (bytes : List ℕ) → number_after count left ≡ number_after 0 (numbered_from 1 (lines bytes)) → left ≡ [] → count ≡ length (lines bytes)
all_counted count left bytes h e =
    let all : number_after 0 (numbered_from 1 (lines bytes)) ≡ 0 + length (lines bytes) = last_numbered 0 (lines bytes) in
    let same : 0 + length (lines bytes) ≡ length (lines bytes) = omega arith in
    ap (number_after count) (sym e) ∙ h ∙ all ∙ same
