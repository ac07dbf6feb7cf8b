-- The row in which a place is reaches it.
use Rattle.std.proofs.Common.{◌≡◌, ℕ, zero, suc, ◌+◌, ◌-◌, ◌<◌, ◌≤◌, Bool, true, false, cond, not, ◌==◌, ◌&&◌, ◌||◌, List, [], ◌∷◌, length, drop, get_or, nat_le, nat_lt, refl, ap, sym, subst, ◌∙◌, arith}
use Rattle.std.proofs.lemmas.List.Sums.{sum_by-cons}
use Rattle.std.specs.List.{count_by}
use Rattle.text_bytes.specs.Texts.{begins_with}
use Rattle.text_bytes.specs.Text.{Text}
use Rattle.lsp_messages.specs.Rows.{is_inside}
use Rattle.lsp_messages.specs.Starts.{ends_row, starts_from}
use Rattle.lsp_messages.proofs.Starting.{AreWithin, starts_within}

-- whether a row ends after the byte at a place
abbrev pub ends_at : Text → ℕ → Bool
ends_at text k = ends_row (get_or text k 0) (drop (suc k) text)

-- the last of some places that is not after another one
abbrev pub last_of : ℕ → ℕ → List ℕ → ℕ → ℕ
last_of first offset places d = get_or (first ∷ places) (count_by (λ s. nat_le s offset) places) d

-- a row of a text that begins at a place begins here, and no row ends after it and before another place
pub record Reaches (first at offset : ℕ) (text : Text) (start : ℕ) : Type 0 where
  pub before : start ≤ offset
  pub after : first ≤ start
  pub none : (k : ℕ) → start ≤ k → at ≤ k → k < offset → ends_at text (k - at) ≡ false

count_none : (offset : ℕ) (places : List ℕ) → ((k d : ℕ) → k < length places → offset < get_or places k d) → count_by (λ s. nat_le s offset) places ≡ 0
count_none offset [] h = refl
count_none offset (p ∷ ps) h =
    let above = h 0 0 (omega arith) in
    let over : nat_le p offset ≡ false = grind (arith, above) in
    let more = count_none offset ps (λ k d l. h (suc k) d (omega arith)) in
    rw (sum_by-cons (λ s. cond (nat_le s offset) 1 0) p ps, over) (omega (arith, more))

count_one : (offset p : ℕ) (ps : List ℕ) → p ≤ offset → count_by (λ s. nat_le s offset) (p ∷ ps) ≡ suc (count_by (λ s. nat_le s offset) ps)
count_one offset p ps le =
    let under : nat_le p offset ≡ true = grind arith in
    rw (sum_by-cons (λ s. cond (nat_le s offset) 1 0) p ps, under) (omega arith)

reach_next : (first at offset b : ℕ) (text : Text) (start : ℕ) → first ≤ at → Reaches (suc at) (suc at) offset text start → Reaches first at offset (b ∷ text) start
reach_next first at offset b text start le r = record {
  before = r.before;
  after = let there = r.after in omega (arith, there);
  none = λ k s a l.
      let there = r.after in
      let same : k - at ≡ suc (k - suc at) = omega (arith, there) in
      ap (ends_at (b ∷ text)) same ∙ r.none k s (omega (arith, there)) l;
}

reach_same : (first at offset b : ℕ) (text : Text) (start : ℕ) → ends_row b text ≡ false → Reaches first (suc at) offset text start → Reaches first at offset (b ∷ text) start
reach_same first at offset b text start goes_on r = record {
  before = r.before;
  after = r.after;
  none = λ k s a l. by (nat_le k at) k refl s a l;
}
  where
    by : (v : Bool) (k : ℕ) → nat_le k at ≡ v → start ≤ k → at ≤ k → k < offset → ends_at (b ∷ text) (k - at) ≡ false
    by true k is s a l = let none : k - at ≡ 0 = grind arith in ap (ends_at (b ∷ text)) none ∙ goes_on
    by false k is s a l =
        let next : suc at ≤ k = grind arith in
        let same : k - at ≡ suc (k - suc at) = omega arith in
        ap (ends_at (b ∷ text)) same ∙ r.none k s next l

-- the last row that begins at a place or before it reaches it
pub reaches : (text : Text) (first at offset d : ℕ) → first ≤ at → at ≤ offset → offset ≤ at + length text → Reaches first at offset text (last_of first offset (starts_from at text) d)
reaches [] first at offset d le low high = record { before = omega arith; after = omega arith; none = λ k s a l. absurd (omega arith) }
reaches (b ∷ text) first at offset d le low high = by (nat_lt at offset) refl (ends_row b text) refl (λ f r. reaches text f (suc at) offset d r)
  where
    Next : Type 0
    Next = (f : ℕ) → f ≤ suc at → suc at ≤ offset → offset ≤ suc at + length text → Reaches f (suc at) offset text (last_of f offset (starts_from (suc at) text) d)

    by : (u : Bool) → nat_lt at offset ≡ u → (v : Bool) → ends_row b text ≡ v → Next
        → Reaches first at offset (b ∷ text) (last_of first offset (cond v (suc at ∷ starts_from (suc at) text) (starts_from (suc at) text)) d)
    by false on v is next =
        let here : offset ≡ at = grind arith in
        let places : List ℕ = cond v (suc at ∷ starts_from (suc at) text) (starts_from (suc at) text) in
        let all : AreWithin at (at + length (b ∷ text)) places = subst (λ w. AreWithin at (at + length (b ∷ text)) (cond w (suc at ∷ starts_from (suc at) text) (starts_from (suc at) text))) is (starts_within at (b ∷ text)) in
        let none : count_by (λ s. nat_le s offset) places ≡ 0 = count_none offset places (λ k e l. let there = all k e l in omega (arith, there.0, here)) in
        let start : last_of first offset places d ≡ first = ap (λ n. get_or (first ∷ places) n d) none in
        subst (Reaches first at offset (b ∷ text)) (sym start) (record { before = omega arith; after = omega arith; none = λ k s a l. absurd (omega (arith, here)) })
    by true on true is next =
        let later : suc at ≤ offset = grind arith in
        let one = count_one offset (suc at) (starts_from (suc at) text) later in
        let start : last_of first offset (suc at ∷ starts_from (suc at) text) d ≡ last_of (suc at) offset (starts_from (suc at) text) d = ap (λ n. get_or (first ∷ suc at ∷ starts_from (suc at) text) n d) one in
        subst (Reaches first at offset (b ∷ text)) (sym start) (reach_next first at offset b text _ le (next (suc at) (omega arith) later (omega arith)))
    by true on false is next =
        let later : suc at ≤ offset = grind arith in
        reach_same first at offset b text _ is (next first (omega arith) later (omega arith))

-- where a row begins after the first one, the one before it ends
pub start_ends : (text : Text) (at k d : ℕ) → k < length (starts_from at text) → (at < get_or (starts_from at text) k d) × (ends_at text (get_or (starts_from at text) k d - suc at) ≡ true)
start_ends [] at k d l = absurd (omega arith)
start_ends (b ∷ text) at k d l = by (λ k l. start_ends text (suc at) k d l) (ends_row b text) refl k l
  where
    Later : Type 0
    Later = (k : ℕ) → k < length (starts_from (suc at) text) → (suc at < get_or (starts_from (suc at) text) k d) × (ends_at text (get_or (starts_from (suc at) text) k d - suc (suc at)) ≡ true)

    later : Later → (k : ℕ) → k < length (starts_from (suc at) text) → (at < get_or (starts_from (suc at) text) k d) × (ends_at (b ∷ text) (get_or (starts_from (suc at) text) k d - suc at) ≡ true)
    later more k l =
        let there = more k l in
        let same : get_or (starts_from (suc at) text) k d - suc at ≡ suc (get_or (starts_from (suc at) text) k d - suc (suc at)) = omega (arith, there.0) in
        (omega (arith, there.0), ap (ends_at (b ∷ text)) same ∙ there.1)

    by : Later → (v : Bool) → ends_row b text ≡ v → (k : ℕ) → k < length (cond v (suc at ∷ starts_from (suc at) text) (starts_from (suc at) text))
        → (at < get_or (cond v (suc at ∷ starts_from (suc at) text) (starts_from (suc at) text)) k d)
        × (ends_at (b ∷ text) (get_or (cond v (suc at ∷ starts_from (suc at) text) (starts_from (suc at) text)) k d - suc at) ≡ true)
    by more true is zero l = let none : suc at - suc at ≡ 0 = omega arith in (omega arith, ap (ends_at (b ∷ text)) none ∙ is)
    by more true is (suc k) l = later more k (omega arith)
    by more false is k l = later more k l

-- the byte at a place, and none past the end
pub begins_at : (byte : ℕ) (text : Text) (k : ℕ) → 0 < byte → begins_with byte (drop k text) ≡ (get_or text k 0 == byte)
begins_at byte [] zero h = grind arith
begins_at byte [] (suc k) h = grind arith
begins_at byte (b ∷ text) zero h = refl
begins_at byte (b ∷ text) (suc k) h = begins_at byte text k h

-- a byte after which no row ends is inside its row, unless a carriage return and its newline are cut apart
pub inside_by : (x y : ℕ) (b : Bool) → b ≡ (y == 10) → (x == 10 || (x == 13 && not b)) ≡ false → (x ≡ 13 → y ≡ 10 → ⊥) → is_inside x ≡ true
inside_by x y b is goes_on apart = grind (arith, apart)
