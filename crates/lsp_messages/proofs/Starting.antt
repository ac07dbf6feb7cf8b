-- Where rows begin: the places rise, and are within the text.
use Rattle.std.proofs.Common.{◌≡◌, ℕ, zero, suc, ◌+◌, ◌<◌, ◌≤◌, Bool, true, false, cond, List, [], ◌∷◌, length, get_or, ap, arith}
use Rattle.std.proofs.lemmas.List.Sums.{sum_by-cons}
use Rattle.std.specs.List.{AllWithin, count_by}
use Rattle.std.specs.List.Sorted.{IsNonDecreasing}
use Rattle.text_bytes.specs.Text.{Text}
use Rattle.lsp_messages.specs.Starts.{ends_row, starts, starts_from}

-- as many pass a test as stand before the place up to which they do
pub point_counts : {X : Type 0} (p : X → Bool) (xs : List X) (i : ℕ) → i ≤ length xs → AllWithin (λ y. p y ≡ true) xs 0 i → AllWithin (λ y. p y ≡ false) xs i (length xs) → i ≡ count_by p xs
point_counts p [] i within passes fails = omega arith
point_counts p (x ∷ xs) zero within passes fails =
    let here : p x ≡ false = fails 0 x (omega arith) (omega arith) in
    let more = point_counts p xs zero (omega arith) (λ k d a b. absurd (omega arith)) (λ k d a b. fails (suc k) d (omega arith) (omega arith)) in
    rw (sum_by-cons (λ y. cond (p y) 1 0) x xs, here) (omega (arith, more))
point_counts p (x ∷ xs) (suc i) within passes fails =
    let here : p x ≡ true = passes 0 x (omega arith) (omega arith) in
    let more = point_counts p xs i (omega arith) (λ k d a b. passes (suc k) d (omega arith) (omega arith)) (λ k d a b. fails (suc k) d (omega arith) (omega arith)) in
    rw (sum_by-cons (λ y. cond (p y) 1 0) x xs, here) (omega (arith, more))

-- each place is within these bounds
abbrev pub AreWithin : ℕ → ℕ → List ℕ → Type 0
AreWithin low high places = (k d : ℕ) → k < length places → (low < get_or places k d) × (get_or places k d ≤ high)

one_more : (at high : ℕ) (b : Bool) (places : List ℕ) → at < high → AreWithin (suc at) high places → AreWithin at high (cond b (suc at ∷ places) places)
one_more at high true places room h zero d l = (omega arith, omega arith)
one_more at high true places room h (suc k) d l = let there = h k d (omega arith) in (omega (arith, there.0), there.1)
one_more at high false places room h k d l = let there = h k d l in (omega (arith, there.0), there.1)

-- rows begin after the place where their text begins, and not after its end
pub starts_within : (at : ℕ) (text : Text) → AreWithin at (at + length text) (starts_from at text)
starts_within at [] k d l = absurd (omega arith)
starts_within at (b ∷ text) k d l =
    one_more at (at + length (b ∷ text)) (ends_row b text) (starts_from (suc at) text) (omega arith)
    (λ k d l. let there = starts_within (suc at) text k d l in (there.0, omega (arith, there.1))) k d l

rise_more : (at high : ℕ) (b : Bool) (places : List ℕ) → AreWithin (suc at) high places → IsNonDecreasing places → IsNonDecreasing (cond b (suc at ∷ places) places)
rise_more at high false places within h i j d a l = h i j d a l
rise_more at high true places within h zero zero d a l = omega arith
rise_more at high true places within h zero (suc j) d a l = let there = within j d (omega arith) in omega (arith, there.0)
rise_more at high true places within h (suc i) zero d a l = absurd (omega arith)
rise_more at high true places within h (suc i) (suc j) d a l = h i j d (omega arith) (omega arith)

-- the places rise
pub starts_rise : (at : ℕ) (text : Text) → IsNonDecreasing (starts_from at text)
starts_rise at [] i j d a l = absurd (omega arith)
starts_rise at (b ∷ text) i j d a l = rise_more at (suc at + length text) (ends_row b text) (starts_from (suc at) text) (starts_within (suc at) text) (starts_rise (suc at) text) i j d a l

-- a place that was found is not after the end of the text
pub start_found : (text : Text) (places : List ℕ) (k x : ℕ) → places ≡ starts text → k < length places → x ≡ get_or places k 0 → x ≤ length text
start_found text places k x is here value =
    let there = starts_within 0 text k 0 (omega (arith, ap length is)) in
    omega (arith, there.1, value, ap (λ (ps : List ℕ). get_or ps k 0) is)
