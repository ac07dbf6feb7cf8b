-- Which blocks are known, as a text grows.
use Rattle.std.proofs.Common.{◌≡◌, ℕ, ◌<◌, ◌≤◌, Bool, true, false, cond, List, [], ◌∷◌, ◌++◌, length, take, drop, Err, refl, append_assoc, ap, sym, ◌∙◌, subst, arith}
use Rattle.std.proofs.lemmas.Bool.Decides.{nat_tests}
use Rattle.std.proofs.lemmas.List.{append-nil, take-append-drop}
use Rattle.text_bytes.specs.Text.{Text}
use Rattle.device_core.specs.Runs.{complete_runs, rest_of, not_empty}
use Rattle.device_core.specs.RunBlocks.{is_too_long, most_bytes, line_of_excess}
use Rattle.device_core.specs.Splits.{BeginsTooLong}
use Rattle.device_core.proofs.Law.{complete_runs-append, rest_of-append, runs-append}
use Rattle.device_core.proofs.BlockLemmas.{fits_is_good}
use Rattle.device_core.specs.Faults.{block_gives}
use Rattle.device_core.specs.declared.faults.BlockFaultKind.TheVariants.{TooLong}
use Rattle.engine_sessions.specs.Known.{overlong, known_blocks}
use Rattle.engine_sessions.specs.Holding.{IsRest}

-- a rest that fits is not yet a block
pub overlong-fits : (rest : Text) → length rest ≤ most_bytes → overlong rest ≡ []
overlong-fits rest h = ap (λ b. cond b (rest ∷ []) []) (fits_is_good rest h)

pub known-fits : (text : Text) → length (rest_of text) ≤ most_bytes → known_blocks true text ≡ complete_runs text
known-fits text h = ap (λ l. complete_runs text ++ l) (overlong-fits (rest_of text) h) ∙ append-nil (complete_runs text)

-- the blocks known of a longer text
pub known-append : (more : Bool) (s t : Text) → known_blocks more (s ++ t) ≡ complete_runs s ++ known_blocks more (rest_of s ++ t)
known-append true s t =
    ap (λ r. complete_runs (s ++ t) ++ overlong r) (rest_of-append s t)
    ∙ ap (λ l. l ++ overlong (rest_of (rest_of s ++ t))) (complete_runs-append s t)
    ∙ append_assoc (complete_runs s) (complete_runs (rest_of s ++ t)) (overlong (rest_of (rest_of s ++ t)))
known-append false s t = runs-append s t

-- what follows nothing but itself
nothing_after : (first second : List Text) → first ≡ first ++ second → second ≡ []
nothing_after [] second e = sym e
nothing_after (text ∷ first) second e = nothing_after first second (ap (λ l. drop 1 l) e)

-- a rest has no run and is its own rest
pub rest_is_rest : (text : Text) → length (rest_of text) ≤ most_bytes → IsRest (rest_of text)
rest_is_rest text h = record {
  none = nothing_after (complete_runs text) (complete_runs (rest_of text))
      (ap complete_runs (sym (append-nil text)) ∙ complete_runs-append text [] ∙ ap (λ r. complete_runs text ++ complete_runs r) (append-nil (rest_of text)));
  rest = sym (ap rest_of (sym (append-nil text)) ∙ rest_of-append text [] ∙ ap rest_of (append-nil (rest_of text)));
  fits = h;
}

-- the first block is known of the whole piece as soon as it is complete
pub known_first : (before piece block : Text) (used : ℕ) → complete_runs (before ++ take used piece) ≡ block ∷ [] → (others : List Text) × (known_blocks true (before ++ piece) ≡ block ∷ others)
known_first before piece block used e =
    let s : Text = before ++ take used piece in
    let following : List Text = known_blocks true (rest_of s ++ drop used piece) in
    let whole : before ++ piece ≡ s ++ drop used piece = ap (λ l. before ++ l) (sym (take-append-drop used piece)) ∙ sym (append_assoc before (take used piece) (drop used piece)) in
    (following, ap (known_blocks true) whole ∙ known-append true s (drop used piece) ∙ ap (λ l. l ++ following) e)

-- a run that is too long is a faulty block
too_long_is : (run : Text) → most_bytes < length run → is_too_long run ≡ true
too_long_is run h = grind (arith, nat_tests)

pub too_long_gives : (run : Text) → most_bytes < length run → block_gives run ≡ Err (record { line = line_of_excess run; kind = TooLong })
unfolding block_gives
too_long_gives run h = rw (too_long_is run h) refl

not_empty-is : (rest run : Text) (others : List Text) → not_empty (rest ∷ []) ≡ run ∷ others → rest ≡ run
not_empty-is [] run others e = absurd cc
not_empty-is (byte ∷ rest) run others e = ap (first_or []) e
  where
    first_or : Text → List Text → Text
    first_or text [] = text
    first_or text (first ∷ texts) = first

-- the first of all runs is known if it is too long
long_first : (complete : List Text) (rest run : Text) (others : List Text) → complete ++ not_empty (rest ∷ []) ≡ run ∷ others → is_too_long run ≡ true → (known : List Text) × (complete ++ overlong rest ≡ run ∷ known)
long_first [] rest run others e long =
    let is : rest ≡ run = not_empty-is rest run others e in
    ([], ap overlong is ∙ ap (λ b. cond b (run ∷ []) []) long)
long_first (first ∷ complete) rest run others e long = (complete ++ overlong rest, ap (λ t. t ∷ (complete ++ overlong rest)) (head_is first (complete ++ not_empty (rest ∷ [])) run others e))
  where
    head_is : (a : Text) (following : List Text) (b : Text) (others : List Text) → a ∷ following ≡ b ∷ others → a ≡ b
    head_is a following b others e = cc

pub known_too_long : (text : Text) (line : ℕ) → BeginsTooLong text line → (block : Text) × (others : List Text) × (known_blocks true text ≡ block ∷ others) × (block_gives block ≡ Err (record { line = line; kind = TooLong }))
known_too_long text line b =
    let first = long_first (complete_runs text) (rest_of text) b.run b.others b.found (too_long_is b.run b.too_long) in
    (b.run, first.0, first.1, too_long_gives b.run b.too_long ∙ ap (λ n. Err (record { line = n; kind = TooLong })) (sym b.counted))

pub rest_after : (text pending : Text) → rest_of text ≡ pending → length pending ≤ most_bytes → IsRest pending
rest_after text pending e h = subst IsRest e (rest_is_rest text (subst (λ rest. length rest ≤ most_bytes) (sym e) h))
