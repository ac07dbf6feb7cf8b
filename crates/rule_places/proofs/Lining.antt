-- Findings of lines, one line after another.
use Rattle.std.proofs.Common.{◌≡◌, ℕ, ◌+◌, List, [], ◌∷◌, ◌++◌, length, ap, sym, ◌∙◌, append_assoc}
use Rattle.file_messages.specs.declared.message.MessageKind.{MessageKind}
use Rattle.rule_types.specs.declared.jumps.Landing.{Landing}
use Rattle.rule_core.specs.Rules.{Reading}
use Rattle.rule_places.specs.Files.{placed_from, placed_line}
use Rattle.rule_places.specs.declared.kept.KeptLine.{KeptLine}
use Rattle.rule_places.specs.declared.placed_finding.PlacedFinding.{PlacedFinding}

-- a line more
pub one_more_line : (kept : List KeptLine) (start next : ℕ) (found more : List (PlacedFinding MessageKind)) (done : List (Reading × Landing)) (line : Reading × Landing)
    → ((left : List (Reading × Landing)) → found ++ placed_from kept start left ≡ placed_from kept 0 (done ++ left))
    → more ≡ found ++ placed_line kept start line → next ≡ start + length line.0.text
    → (left : List (Reading × Landing)) → more ++ placed_from kept next left ≡ placed_from kept 0 ((done ++ line ∷ []) ++ left)
one_more_line kept start next found more done line so_far m n left =
    ap (λ (ps : List (PlacedFinding MessageKind)). ps ++ placed_from kept next left) m
    ∙ ap (λ (k : ℕ). (found ++ placed_line kept start line) ++ placed_from kept k left) n
    ∙ append_assoc found (placed_line kept start line) (placed_from kept (start + length line.0.text) left)
    ∙ so_far (line ∷ left)
    ∙ ap (placed_from kept 0) (sym (append_assoc done (line ∷ []) left))
