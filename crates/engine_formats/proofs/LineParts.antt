-- What fingerprints have of lines.
use Rattle.std.proofs.Common.{◌≡◌, ℕ, ◌+◌, ◌-◌, ◌^◌, ◌<◌, ◌≤◌, Bool, true, false, cond, leb, List, ◌∷◌, ◌++◌, decimal, drop, length, take, refl, ap, sym, ◌∙◌, arith, append_assoc, length-append}
use Rattle.std.proofs.Math.Seq.{drop-append_seam, take-append_seam}
use Rattle.std.proofs.lemmas.Bool.{le-leb, leb-false, leb-true, lt-leb}
use Rattle.std.proofs.lemmas.Fmt.{decimal_injective, length-decimal-le}
use Rattle.std.proofs.lemmas.List.{length-drop, length-take-le}
use Rattle.text_bytes.specs.Names.{colon}
use Rattle.engine_formats.specs.Fingerprints.{line_part}
use Rattle.engine_formats.proofs.Counts.{in_two, number_lacks}

-- what comes after the first bytes of a long line
abbrev rest_of : List ℕ → List ℕ
rest_of source = colon ∷ (decimal (length source) ++ colon ∷ drop (length source - 100) source)

short_part : (source : List ℕ) → length source ≤ 200 → line_part source ≡ source
short_part source short = ap (λ (w : Bool). cond w source ((take 100 source ++ colon ∷ decimal (length source)) ++ colon ∷ drop (length source - 100) source)) (le-leb (length source) 200 short)

long_part : (source : List ℕ) → 200 < length source → line_part source ≡ take 100 source ++ rest_of source
long_part source long =
    ap (λ (w : Bool). cond w source ((take 100 source ++ colon ∷ decimal (length source)) ++ colon ∷ drop (length source - 100) source)) (lt-leb (length source) 200 long)
    ∙ append_assoc (take 100 source) (colon ∷ decimal (length source)) (colon ∷ drop (length source - 100) source)

long_length : (source : List ℕ) → 200 < length source → length (line_part source) ≡ 202 + length (decimal (length source))
long_length source long =
    let first : length (take 100 source) ≡ 100 = length-take-le 100 source (omega (arith, long)) in
    let last : length (drop (length source - 100) source) ≡ 100 = length-drop (length source - 100) source ∙ omega (arith, long) in
    let number : List ℕ = decimal (length source) in
    let end : List ℕ = drop (length source - 100) source in
    ap length (long_part source long) ∙ length-append (take 100 source) (rest_of source) ∙ omega (arith, first, last, length-append number (colon ∷ end))

-- a short line is told from every other
pub short_apart : (one other : List ℕ) → length one ≤ 200 → line_part one ≡ line_part other → one ≡ other
short_apart one other short same = by (leb (length other) 200) refl where
  by : (w : Bool) → leb (length other) 200 ≡ w → one ≡ other
  by true e = sym (short_part one short) ∙ same ∙ ap (λ (w : Bool). cond w other ((take 100 other ++ colon ∷ decimal (length other)) ++ colon ∷ drop (length other - 100) other)) e
  by false e = absurd (omega (arith, short, ap length (sym (short_part one short) ∙ same), long_length other (leb-false (length other) 200 e)))

first_of : (source : List ℕ) → 200 < length source → take 100 (line_part source) ≡ take 100 source
first_of source long =
    ap (take 100) (long_part source long)
    ∙ ap (λ (n : ℕ). take n (take 100 source ++ rest_of source)) (sym (length-take-le 100 source (omega (arith, long))))
    ∙ take-append_seam (take 100 source) (rest_of source)

later_of : (source : List ℕ) → 200 < length source → drop 100 (line_part source) ≡ rest_of source
later_of source long =
    ap (drop 100) (long_part source long)
    ∙ ap (λ (n : ℕ). drop n (take 100 source ++ rest_of source)) (sym (length-take-le 100 source (omega (arith, long))))
    ∙ drop-append_seam (take 100 source) (rest_of source)

-- long lines that are told alike begin alike, are as long, and end alike
pub long_alike : (one other : List ℕ) → 200 < length one → 200 < length other → length one < 2 ^ 64 → length other < 2 ^ 64 → line_part one ≡ line_part other
    → (take 100 one ≡ take 100 other) × (length one ≡ length other) × (drop (length one - 100) one ≡ drop (length other - 100) other)
long_alike one other long longer few fewer same =
    let rests : rest_of one ≡ rest_of other = sym (later_of one long) ∙ ap (drop 100) same ∙ later_of other longer in
    let tails : decimal (length one) ++ colon ∷ drop (length one - 100) one ≡ decimal (length other) ++ colon ∷ drop (length other - 100) other = ap (drop 1) rests in
    let parts = in_two (decimal (length one)) (decimal (length other)) (drop (length one - 100) one) (drop (length other - 100) other) (number_lacks (length one) few) (number_lacks (length other) fewer) tails in (
      sym (first_of one long) ∙ ap (take 100) same ∙ first_of other longer,
      decimal_injective (length one) (length other) few fewer parts.0,
      parts.1,
    )

pub part_bounded : (source : List ℕ) → length source < 2 ^ 64 → length (line_part source) ≤ 222
part_bounded source few = by (leb (length source) 200) refl where
  by : (w : Bool) → leb (length source) 200 ≡ w → length (line_part source) ≤ 222
  by true e = omega (arith, ap length (ap (λ (w : Bool). cond w source ((take 100 source ++ colon ∷ decimal (length source)) ++ colon ∷ drop (length source - 100) source)) e), leb-true (length source) 200 e)
  by false e = omega (arith, long_length source (leb-false (length source) 200 e), length-decimal-le 20 (length source) (omega arith) (omega (arith, few)) few)
