-- Where the first run of a text ends, looked for in chunks.
use Rattle.std.proofs.Common.{◌≡◌, ℕ, zero, suc, ◌+◌, ◌<◌, ◌≤◌, ◌==◌, ◌&&◌, ◌||◌, Bool, true, false, cond, List, [], ◌∷◌, length, take, drop, refl, ap, arith}
use Rattle.device_core.specs.Filling.{ends_run, first_run, has_empty_line}

no_next : (b : Bool) → (b && false) ≡ false
no_next true = refl
no_next false = refl

pub or_false : (b : Bool) → (b || false) ≡ b
or_false true = refl
or_false false = refl

-- a text of one byte or none
pub none_in_rest : (text : List ℕ) → length text ≤ 1 → (has_empty_line text ≡ false) × (length (first_run text) ≡ length text)
none_in_rest [] l = (refl, refl)
none_in_rest (byte ∷ []) l = (
  ap (λ b. b || false) (no_next (byte == 10)),
  ap (λ b. length (cond b (byte ∷ []) (byte ∷ []))) (no_next (byte == 10)),
)
none_in_rest (byte ∷ next ∷ text) l = absurd (omega arith)

one_on : (ends rest : Bool) (byte : ℕ) (text : List ℕ) (n : ℕ) → (ends || rest) ≡ false → (rest ≡ false → length (first_run text) ≡ n) → length (cond ends (byte ∷ []) (byte ∷ first_run text)) ≡ 1 + n
one_on true rest byte text n e h = absurd (cc e)
one_on false rest byte text n e h = omega (arith, h e)

-- a chunk without an empty line, together with the byte after it
pub chunk_goes_on : (n : ℕ) (text : List ℕ) → n < length text → has_empty_line (take (suc n) text) ≡ false → length (first_run text) ≡ n + length (first_run (drop n text))
chunk_goes_on zero text l e = omega arith
chunk_goes_on (suc n) [] l e = absurd (omega arith)
chunk_goes_on (suc n) (byte ∷ []) l e = absurd (omega arith)
chunk_goes_on (suc n) (byte ∷ next ∷ text) l e =
    let here : n < length (next ∷ text) = omega arith in
    let on = one_on (ends_run byte (next ∷ text)) (has_empty_line (next ∷ take n text)) byte (next ∷ text) (n + length (first_run (drop n (next ∷ text)))) e
    (λ none. chunk_goes_on n (next ∷ text) here none) in
    omega (arith, on)
