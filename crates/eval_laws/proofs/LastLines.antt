-- The lines of a text whose last one has no newline.
use Rattle.std.proofs.Common.{◌≡◌, ℕ, ◌==◌, false, cond, [], ◌∷◌, ◌++◌, ap, sym, ◌∙◌}
use Rattle.std.specs.List.{onto_first}
use Rattle.text_bytes.specs.Lines.{lines}
use Rattle.text_bytes.specs.Names.{newline}
use Rattle.text_bytes.specs.Text.{Text}
use Rattle.engine_reports.specs.LookupOutcomes.{after_messages, answered_from, lines_outcome}
use Rattle.engine_reports.proofs.LineLemmas.{onto}

same_lines : (text : Text) (byte : ℕ) → (byte == newline) ≡ false → lines (text ++ byte ∷ []) ≡ lines (text ++ byte ∷ newline ∷ [])
same_lines [] byte e = onto byte [] e ∙ sym (onto byte (newline ∷ []) e)
same_lines (first ∷ text) byte e = ap (λ ls. cond (first == newline) ([] ∷ ls) (onto_first first ls)) (same_lines text byte e)

pub same_outcome : (messages : Text) (answer : Text → Text) (text : Text) (byte : ℕ) → (byte == newline) ≡ false
    → lines_outcome messages answer (text ++ byte ∷ []) ≡ lines_outcome messages answer (text ++ byte ∷ newline ∷ [])
same_outcome messages answer text byte e = ap (λ ls. after_messages messages (answered_from answer 1 ls)) (same_lines text byte e)
