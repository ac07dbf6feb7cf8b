-- The line that a byte is in, counted by the lines up to it.
use Rattle.std.proofs.Common.{◌≡◌, ℕ, ◌+◌, ◌<◌, ◌==◌, Bool, true, false, cond, List, [], ◌∷◌, ◌++◌, length, take, get_or, refl, ap, sym, ◌∙◌, arith}
use Rattle.std.specs.List.{onto_first}
use Rattle.std.proofs.lemmas.List.{take_more}
use Rattle.std.proofs.lemmas.List.Sums.{sum_by-cons}
use Rattle.device_core.specs.Runs.{lines_inclusive}
use Rattle.device_core.specs.RunBlocks.{most_bytes, newline_count, line_of_excess}

-- a byte of a line that goes on makes no further line
length-onto_first : (byte : ℕ) (lines : List (List ℕ)) → 0 < length lines → length (onto_first byte lines) ≡ length lines
length-onto_first byte [] h = absurd (omega arith)
length-onto_first byte (line ∷ lines) h = refl

one_line : (byte : ℕ) (ends : Bool) → length (cond ends ((byte ∷ []) ∷ []) (onto_first byte [])) ≡ 1
one_line byte true = refl
one_line byte false = refl

line_step : (byte count : ℕ) (lines : List (List ℕ)) (ends : Bool) → length lines ≡ count + 1
    → length (cond ends ((byte ∷ []) ∷ lines) (onto_first byte lines)) ≡ cond ends 1 0 + count + 1
line_step byte count lines true h = omega (arith, h)
line_step byte count lines false h = length-onto_first byte lines (omega (arith, h)) ∙ omega (arith, h)

lines-push : (text : List ℕ) (byte : ℕ) → length (lines_inclusive (text ++ byte ∷ [])) ≡ newline_count text + 1
lines-push [] byte = one_line byte (byte == 10)
lines-push (first ∷ text) byte =
    line_step first (newline_count text) (lines_inclusive (text ++ byte ∷ [])) (first == 10) (lines-push text byte)
    ∙ ap (λ n. n + 1) (sym (sum_by-cons (λ b. cond (b == 10) 1 0) first text))

line_of : (run : List ℕ) (at : ℕ) → at < length run → newline_count (take at run) + 1 ≡ length (lines_inclusive (take (at + 1) run))
line_of run at h = sym (ap (λ l. length (lines_inclusive l)) (take_more run at 0 h) ∙ lines-push (take at run) (get_or run at 0))

pub line_of_excess-lines : (run : List ℕ) → most_bytes < length run → line_of_excess run ≡ length (lines_inclusive (take (most_bytes + 1) run))
unfolding line_of_excess
line_of_excess-lines run h = line_of run most_bytes h
