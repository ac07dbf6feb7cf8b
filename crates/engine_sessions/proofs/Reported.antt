-- Laws of what is reported.
use Rattle.std.specs.Prelude.{◌≡◌, ℕ, ◌+◌, ◌-◌, ◌≤◌, Option, Some, None, List, [], ◌∷◌, ◌++◌, length, take, drop, refl, sum}
use Rattle.std.proofs.Common.{append_assoc, ap, sym, ◌∙◌, arith}
use Rattle.std.proofs.lemmas.List.{append-nil, take-append-drop, drop-drop}
use Rattle.std.proofs.lemmas.Grind.{common_steps}
use Rattle.std.proofs.Math.Seq.{take-add}
use Rattle.engine_sessions.specs.Reported.{followed_by}
use Rattle.engine_sessions.specs.Cuts.{cuts}

pub followed_by-append : {A : Type 0} (reported : Option (List A)) (first second : List A) → followed_by (followed_by reported first) second ≡ followed_by reported (first ++ second)
followed_by-append None first second = refl
followed_by-append (Some items) first second = ap Some (append_assoc items first second)

pub followed_by-nil : {A : Type 0} (reported : Option (List A)) → followed_by reported [] ≡ reported
followed_by-nil None = refl
followed_by-nil (Some items) = ap Some (append-nil items)

-- the slice from a place on
rest-is : (text : List ℕ) (done : ℕ) → take (length text - done) (drop done text) ≡ drop done text
rest-is text done = grind (arith, common_steps)

-- one more part of a text went out
pub followed_by-part : (first now later : Option (List ℕ)) (text : List ℕ) (done n : ℕ) → now ≡ followed_by first (take done text) → later ≡ followed_by now (take n (take (length text - done) (drop done text))) → later ≡ followed_by first (take (done + n) text)
followed_by-part first now later text done n p q =
    rw (rest-is text done) at q ∙ ap (λ reported. followed_by reported (take n (drop done text))) p ∙ followed_by-append first (take done text) (take n (drop done text)) ∙ ap (followed_by first) (sym (take-add done n text))

sum-is : (size : ℕ) (sizes : List ℕ) → sum (size ∷ sizes) ≡ size + sum sizes
sum-is size sizes = grind (arith, common_steps)

-- a piece of one more size
pub cuts-append : (text sizes : List ℕ) (n : ℕ) → cuts text (sizes ++ n ∷ []) ≡ cuts text sizes ++ take n (drop (sum sizes) text) ∷ []
cuts-append text [] n = refl
cuts-append text (size ∷ sizes) n = ap (λ pieces. take size text ∷ pieces) (cuts-append (drop size text) sizes n ∙ ap (λ p. cuts (drop size text) sizes ++ take n p ∷ []) (drop-drop (sum sizes) size text ∙ ap (λ k. drop k text) (sym (sum-is size sizes))))

-- the piece given and the bytes left are those that were left before
pub given-is : (bytes piece rest : List ℕ) (at n : ℕ) → n + at ≤ length bytes → piece ≡ take n (drop at bytes) → take n (piece ++ rest) ++ drop (at + n) bytes ≡ drop at bytes
given-is bytes piece rest at n within is =
    let size : length piece ≡ n = grind (arith, common_steps) in
    let first : take n (piece ++ rest) ≡ piece = grind (arith, common_steps) in
    rw (first, is, ← drop-drop n at bytes) (take-append-drop n (drop at bytes))
