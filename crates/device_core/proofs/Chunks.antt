-- Bytes of a run's lines, put after a run.
use Rattle.std.proofs.Common.{◌≡◌, ℕ, zero, suc, ◌+◌, ◌-◌, ◌<◌, ◌≤◌, ◌==◌, ◌&&◌, Bool, true, false, cond, List, [], ◌∷◌, ◌++◌, length, take, drop, get_or, refl, append_assoc, ap, sym, ◌∙◌, arith}
use Rattle.std.proofs.lemmas.List.{append-nil, take_more, take_all, get_or-drop}
use Rattle.std.proofs.Math.Seq.{take-add}
use Rattle.std.proofs.lemmas.Grind.{common_steps}
use Rattle.device_core.specs.Runs.{complete_runs, rest_of}
use Rattle.device_core.specs.Filling.{ends_run, first_run}
use Rattle.device_core.specs.Holding.{begins_after}
use Rattle.device_core.proofs.Law.{byte_stays, begins_after-push, complete_runs-append}

-- none of the bytes is the newline of an empty line
abbrev pub Proceeds : Bool → List ℕ → Type 0
Proceeds start [] = Unit {0}
Proceeds start (byte ∷ chunk) = ((start && (byte == 10)) ≡ false) × Proceeds (byte == 10) chunk

-- such bytes go onto the run
pub chunk_stays : (text held chunk : List ℕ) (start : Bool) → rest_of text ≡ held → start ≡ begins_after true held → Proceeds start chunk
    → (complete_runs (text ++ chunk) ≡ complete_runs text) × (rest_of (text ++ chunk) ≡ held ++ chunk)
chunk_stays text held [] start e b h = (ap complete_runs (append-nil text), ap rest_of (append-nil text) ∙ e ∙ sym (append-nil held))
chunk_stays text held (byte ∷ chunk) start e b h =
    let p = byte_stays text held start byte e b h.0 in
    let r = chunk_stays (text ++ byte ∷ []) (held ++ byte ∷ []) chunk (byte == 10) p.1 (sym (begins_after-push true held byte)) h.1 in
    (ap complete_runs (sym (append_assoc text (byte ∷ []) chunk)) ∙ r.0 ∙ p.0, ap rest_of (sym (append_assoc text (byte ∷ []) chunk)) ∙ r.1 ∙ append_assoc held (byte ∷ []) chunk)

after_byte : (start ends : Bool) (byte : ℕ) (text : List ℕ) (n : ℕ) → suc n ≤ length (cond ends (byte ∷ []) (byte ∷ first_run text))
    → (ends ≡ false → n ≤ length (first_run text) → Proceeds start (take n text)) → Proceeds start (take n text)
after_byte start true byte text zero l h = tt
after_byte start true byte text (suc n) l h = absurd (omega arith)
after_byte start false byte text n l h = h refl (omega arith)

-- the bytes of a run go on, unless it begins with an empty line
pub run_proceeds : (start : Bool) (text : List ℕ) (n : ℕ) → n ≤ length (first_run text) → (start && (get_or text 0 0 == 10)) ≡ false → Proceeds start (take n text)
run_proceeds start text zero l e = tt
run_proceeds start [] (suc n) l e = absurd (omega arith)
run_proceeds start (byte ∷ text) (suc n) l e = (e, after_byte (byte == 10) (ends_run byte text) byte text n l (λ goes m. run_proceeds (byte == 10) text n m goes))

no_more : (xs ys : List (List ℕ)) → xs ++ ys ≡ [] → xs ≡ []
no_more [] ys e = refl
no_more (x ∷ xs) ys e = absurd cc

-- a further chunk of the piece
pub take_chunk : (before piece : List ℕ) (i n : ℕ) → before ++ take (i + n) piece ≡ (before ++ take i piece) ++ take n (drop i piece)
take_chunk before piece i n = ap (λ l. before ++ l) (take-add i n piece) ∙ sym (append_assoc before (take i piece) (take n (drop i piece)))

-- if no run is complete, none was before
pub none_before : (before piece : List ℕ) (i n : ℕ) → n ≤ i → complete_runs (before ++ take i piece) ≡ [] → complete_runs (before ++ take n piece) ≡ []
none_before before piece i n l none =
    let s : List ℕ = before ++ take n piece in
    let t : List ℕ = take (i - n) (drop n piece) in
    let is : n + (i - n) ≡ i = omega arith in
    let both : s ++ t ≡ before ++ take i piece = sym (take_chunk before piece n (i - n)) ∙ ap (λ k. before ++ take k piece) is in
    no_more (complete_runs s) (complete_runs (rest_of s ++ t)) (sym (complete_runs-append s t) ∙ ap complete_runs both ∙ none)

-- whether a line begins after a chunk
pub begins_after-chunk : (held piece : List ℕ) (i n : ℕ) → 0 < n → i + n ≤ length piece → begins_after true (held ++ take n (drop i piece)) ≡ (get_or piece (i + n - 1) 0 == 10)
begins_after-chunk held piece i n some l =
    let m : ℕ = n - 1 in
    let is : n ≡ m + 1 = omega arith in
    let place : i + m ≡ i + n - 1 = omega arith in
    let here : m < length (drop i piece) = grind (arith, common_steps) in
    let last : take n (drop i piece) ≡ take m (drop i piece) ++ get_or piece (i + n - 1) 0 ∷ [] =
    ap (λ k. take k (drop i piece)) is ∙ take_more (drop i piece) m 0 here
    ∙ ap (λ b. take m (drop i piece) ++ b ∷ []) (get_or-drop i piece m 0 ∙ ap (λ k. get_or piece k 0) place) in
    ap (λ l. begins_after true (held ++ l)) last
    ∙ ap (begins_after true) (sym (append_assoc held (take m (drop i piece)) (get_or piece (i + n - 1) 0 ∷ [])))
    ∙ begins_after-push true (held ++ take m (drop i piece)) (get_or piece (i + n - 1) 0)

-- what is left of a piece
left_is : (piece : List ℕ) (i : ℕ) → take (length piece - i) (drop i piece) ≡ drop i piece
left_is piece i = let size : length (drop i piece) ≤ length piece - i = grind (arith, common_steps) in take_all (length piece - i) (drop i piece) size

-- the run that begins at a place of the piece
pub run_size : (piece : List ℕ) (i n : ℕ) → i < length piece → n ≡ length (first_run (take (length piece - i) (drop i piece))) → n ≤ length (take (length piece - i) (drop i piece))
    → (n ≡ length (first_run (drop i piece))) × (i + n ≤ length piece)
run_size piece i n h value within =
    let size : n ≤ length (drop i piece) = rw (left_is piece i) at within in
    (rw (left_is piece i) at value, grind (arith, common_steps, size))

first_run_is_some : (text : List ℕ) → 0 < length text → 0 < length (first_run text)
first_run_is_some [] h = absurd (omega arith)
first_run_is_some (byte ∷ text) h = elim (ends_run byte text) as (λ ends. 0 < length (cond ends (byte ∷ []) (byte ∷ first_run text))) [ true ↦ omega arith | false ↦ omega arith ]

-- a run has a byte
pub first_run_some : (piece : List ℕ) (i : ℕ) → i < length piece → 0 < length (first_run (drop i piece))
first_run_some piece i h = first_run_is_some (drop i piece) (grind (arith, common_steps))
