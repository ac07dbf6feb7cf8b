-- A run that has more bytes than the room.
use Rattle.std.proofs.Common.{◌≡◌, ℕ, ◌+◌, ◌<◌, List, [], ◌∷◌, ◌++◌, length, take, drop, append_assoc, length-append, ap, sym, ◌∙◌, arith}
use Rattle.std.proofs.lemmas.List.{take-append-drop}
use Rattle.std.proofs.Math.Seq.{take-append_seam}
use Rattle.device_core.specs.Runs.{complete_runs, rest_of, runs}
use Rattle.device_core.specs.RunBlocks.{most_bytes, newline_count, line_of_excess}
use Rattle.device_core.specs.Splits.{BeginsTooLong}
use Rattle.device_core.proofs.Law.{runs-append, runs-rest}

-- the line of the first byte too many is known as soon as that byte is
line_of_excess-is : (held later : List ℕ) → length held ≡ most_bytes → line_of_excess (held ++ later) ≡ newline_count held + 1
unfolding line_of_excess
line_of_excess-is held later size = ap (λ n. newline_count (take n (held ++ later)) + 1) (sym size) ∙ ap (λ l. newline_count l + 1) (take-append_seam held later)

some_byte : (text : List ℕ) → 0 < length text → text ≡ [] → ⊥
some_byte [] h e = absurd (omega arith)
some_byte (byte ∷ text) h e = absurd cc

-- a run that goes on after a full room is too long, whatever comes later
pub begins_too_long : (before piece later held : List ℕ) (used byte line : ℕ)
    → complete_runs (before ++ take (used + 1) piece) ≡ [] → rest_of (before ++ take (used + 1) piece) ≡ held ++ byte ∷ []
    → length held ≡ most_bytes → line ≡ newline_count held + 1 → BeginsTooLong (before ++ piece ++ later) line
begins_too_long before piece later held used byte line none rest size counted =
    let s : List ℕ = before ++ take (used + 1) piece in
    let t : List ℕ = drop (used + 1) piece ++ later in
    let some : rest_of s ≡ [] → ⊥ = λ e. some_byte (held ++ byte ∷ []) (omega (arith, length-append held (byte ∷ []))) (sym rest ∙ e) in
    let first = runs-rest s t some in
    let run_is : rest_of s ++ first.more ≡ held ++ byte ∷ first.more = ap (λ l. l ++ first.more) rest ∙ append_assoc held (byte ∷ []) first.more in
    let whole : before ++ piece ++ later ≡ s ++ t =
    ap (λ l. before ++ l ++ later) (sym (take-append-drop (used + 1) piece))
    ∙ ap (λ l. l ++ later) (sym (append_assoc before (take (used + 1) piece) (drop (used + 1) piece)))
    ∙ append_assoc s (drop (used + 1) piece) later in
    record {
      run = held ++ byte ∷ first.more;
      others = first.others;
      found = ap runs whole ∙ runs-append s t ∙ ap (λ l. l ++ runs (rest_of s ++ t)) none ∙ first.is ∙ ap (λ r. r ∷ first.others) run_is;
      too_long = omega (arith, size, length-append held (byte ∷ first.more));
      counted = counted ∙ sym (line_of_excess-is held (byte ∷ first.more) size);
    }
