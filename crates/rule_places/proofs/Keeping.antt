-- Lines kept one by one.
use Rattle.std.proofs.Common.{◌≡◌, ℕ, ◌+◌, List, [], ◌∷◌, ◌++◌, Option, Some, None, sym, ◌∙◌, ap, append_assoc}
use Rattle.text_bytes.specs.Lines.{NumberedLine}
use Rattle.rule_places.specs.Kept.{kept_before, kept_from, kept_line}
use Rattle.rule_places.specs.declared.kept.KeptLine.{KeptLine}

-- a comment is passed
pub line_passed : (before : List KeptLine) (start : ℕ) (l : NumberedLine) (left ls : List NumberedLine) (all : List KeptLine)
    → before ++ kept_from start left ≡ all → left ≡ l ∷ ls → kept_line start l ≡ None → before ++ kept_from start ls ≡ all
line_passed before start l left ls all h e f =
    ap (λ (o : Option KeptLine). before ++ kept_before start o (λ n. kept_from n ls)) (sym f)
    ∙ ap (λ (x : List NumberedLine). before ++ kept_from start x) (sym e)
    ∙ h

-- a line is kept
pub line_kept : (before now : List KeptLine) (start next : ℕ) (l : NumberedLine) (k : KeptLine) (left ls : List NumberedLine) (all : List KeptLine)
    → before ++ kept_from start left ≡ all → left ≡ l ∷ ls → kept_line start l ≡ Some k → next ≡ start + k.size → now ≡ before ++ k ∷ [] → now ++ kept_from next ls ≡ all
line_kept before now start next l k left ls all h e f g n =
    ap (λ (x : List KeptLine). x ++ kept_from next ls) n
    ∙ append_assoc before (k ∷ []) (kept_from next ls)
    ∙ ap (λ (m : ℕ). before ++ k ∷ kept_from m ls) g
    ∙ ap (λ (o : Option KeptLine). before ++ kept_before start o (λ n. kept_from n ls)) (sym f)
    ∙ ap (λ (x : List NumberedLine). before ++ kept_from start x) (sym e)
    ∙ h
