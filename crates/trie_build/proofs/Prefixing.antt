-- What the bytes of first labels say about the order of patterns.
use Rattle.std.proofs.Common.{All, ◌≡◌, ℕ, zero, suc, ◌+◌, ◌<◌, ◌≤◌, Bool, true, false, cond, List, [], ◌∷◌, min, ◌++◌, ◌-◌, length, take, drop, append_assoc, append-nil, eqb, get_or, refl, sym, ◌∙◌, ap, arith, inl, inr, ◌⊎◌}
use Rattle.std.proofs.Math.Logic.{⊎_elim}
use Rattle.std.proofs.lemmas.Bool.{cases_order}
use Rattle.std.proofs.lemmas.Bool.Decides.{eqb_tells}
use Rattle.std.proofs.lemmas.List.{get_or-map, length-map, take_all, take_more_set}
use Rattle.std.specs.Prelude.{slice_set}
use Rattle.std.specs.Cmp.{nat_cmp_is}
use Rattle.std.specs.Cmp.Lexicographic.{slice_cmp}
use Rattle.std.specs.Ordering.{nat_cmp, ordering_then}
use Rattle.std.specs.declared.cmp.Ordering.{Ordering}
use Rattle.std.specs.declared.cmp.Ordering.TheVariants.{Less, Equal, Greater}
use Rattle.text_core.specs.declared.item.Item.{Item}
use Rattle.text_core.specs.declared.item.Item.TheVariants.{Byte, One, Many, Among}
use Rattle.trie_build.specs.Order.{label_cmp, pattern_cmp}
use Rattle.trie_build.proofs.Orders.{labels_order, texts_order}
use Rattle.trie_build.specs.Prefixes.{code, codes, first_code, following, is_exact}
use Rattle.trie_build.specs.Rows.{HasPrefix, IsCommon, pattern_at, patterns, undetermined}
use Rattle.trie_build.specs.declared.rows.Row.{Row}

pub less : (a b : ℕ) → a < b → nat_cmp a b ≡ Less
less a b h = sym (nat_cmp_is a b Less h)

pub more : (a b : ℕ) → b < a → nat_cmp a b ≡ Greater
more a b h = sym (nat_cmp_is a b Greater h)

pub tied : (a b : ℕ) → a ≡ b → nat_cmp a b ≡ Equal
tied a b e = sym (nat_cmp_is a b Equal e)

-- labels are ordered as their bytes
code_less : (x y : Item) → code x < code y → label_cmp x y ≡ Less
code_less (Byte b) (Byte c) h = ap (λ o. ordering_then o Equal) (less b c (omega arith))
code_less (Byte b) One h = refl
code_less (Byte b) Many h = refl
code_less (Byte b) (Among t) h = refl
code_less One (Byte c) h = absurd (omega arith)
code_less One One h = absurd (omega arith)
code_less One Many h = refl
code_less One (Among t) h = refl
code_less Many (Byte c) h = absurd (omega arith)
code_less Many One h = absurd (omega arith)
code_less Many Many h = absurd (omega arith)
code_less Many (Among t) h = refl
code_less (Among s) (Byte c) h = absurd (omega arith)
code_less (Among s) One h = absurd (omega arith)
code_less (Among s) Many h = absurd (omega arith)
code_less (Among s) (Among t) h = absurd (omega arith)

code_more : (x y : Item) → code y < code x → label_cmp x y ≡ Greater
code_more x y h = turn (label_cmp x y) refl where
  turn : (o : Ordering) → label_cmp x y ≡ o → label_cmp x y ≡ Greater
  turn Less e = let back : label_cmp y x ≡ Less = code_less y x h in let self : label_cmp x x ≡ Less = labels_order.trans x y x e back in let tie : label_cmp x x ≡ Equal = labels_order.itself x in cc
  turn Equal e = let same : x ≡ y = labels_order.same x y e in let one : code x ≡ code y = ap code same in absurd (omega arith)
  turn Greater e = e

-- if a byte is that of one label only, both labels are that one
code_same : (x y : Item) → code x ≡ code y → is_exact (code x) ≡ true → label_cmp x y ≡ Equal
code_same (Byte b) (Byte c) e h = ap (λ o. ordering_then o Equal) (tied b c (⊎_elim (λ (low : b < 250). omega arith) (λ (high : 250 ≤ b). absurd (let top : min b 250 + 1 ≡ 251 = omega arith in let not : is_exact 251 ≡ true = (ap is_exact (sym top) ∙ h) in cc)) (below_or b))) where
  below_or : (k : ℕ) → (k < 250) ⊎ (250 ≤ k)
  below_or k = ⊎_elim (λ (same : k ≡ 250). inr (omega arith)) (λ rest. ⊎_elim (λ l. inl l) (λ g. inr (omega arith)) rest) (cases_order k 250)
code_same (Byte b) One e h = absurd (omega arith)
code_same (Byte b) Many e h = absurd (omega arith)
code_same (Byte b) (Among t) e h = absurd (omega arith)
code_same One (Byte c) e h = absurd (omega arith)
code_same One One e h = refl
code_same One Many e h = absurd (omega arith)
code_same One (Among t) e h = absurd (omega arith)
code_same Many (Byte c) e h = absurd (omega arith)
code_same Many One e h = absurd (omega arith)
code_same Many Many e h = refl
code_same Many (Among t) e h = absurd (omega arith)
code_same (Among s) (Byte c) e h = absurd (omega arith)
code_same (Among s) One e h = absurd (omega arith)
code_same (Among s) Many e h = absurd (omega arith)
code_same (Among s) (Among t) e h = cc

-- the byte of a label is not that of an empty pattern
some_code : (x : Item) → 0 < code x
some_code (Byte b) = omega arith
some_code One = omega arith
some_code Many = omega arith
some_code (Among s) = omega arith

-- an empty pattern has no label's byte
no_codes : (n k : ℕ) → get_or (codes n []) k 0 ≡ 0
unfolding codes
no_codes zero k = refl
no_codes (suc n) zero = refl
no_codes (suc n) (suc k) = no_codes n k

-- a byte of a front that is not 0 is that of the label at its place
pub prefix_reports : (n k : ℕ) (p : List Item) → k < n → 0 < get_or (codes n p) k 0 → code (get_or p k One) ≡ get_or (codes n p) k 0
unfolding codes
prefix_reports zero k p h some = absurd (omega arith)
prefix_reports (suc n) zero [] h some = absurd (omega arith)
prefix_reports (suc n) zero (x ∷ p) h some = refl
prefix_reports (suc n) (suc k) [] h some = absurd (omega (arith, some, no_codes n k))
prefix_reports (suc n) (suc k) (x ∷ p) h some = by (is_exact (code x)) refl (prefix_reports n k p (omega arith)) where
  by : (v : Bool) → is_exact (code x) ≡ v → (0 < get_or (codes n p) k 0 → code (get_or p k One) ≡ get_or (codes n p) k 0) → code (get_or p k One) ≡ get_or (codes n (following (x ∷ p))) k 0
  by true e rest =
      let left : following (x ∷ p) ≡ p = ap (λ v. cond v p []) e in
      let own : get_or (codes n (following (x ∷ p))) k 0 ≡ get_or (codes n p) k 0 = ap (λ l. get_or (codes n l) k 0) left in
      rest (omega (arith, some, own)) ∙ sym own
  by false e rest =
      let left : following (x ∷ p) ≡ [] = ap (λ v. cond v p []) e in
      let own : get_or (codes n (following (x ∷ p))) k 0 ≡ get_or (codes n []) k 0 = ap (λ l. get_or (codes n l) k 0) left in
      absurd (omega (arith, some, own, no_codes n k))

-- patterns whose bytes are the same up to a place, and differ there, have so many labels in common
pub common_by_codes : (n at : ℕ) (p q : List Item) → at < n → ((d : ℕ) → d < at → get_or (codes n p) d 0 ≡ get_or (codes n q) d 0)
    → (get_or (codes n p) at 0 ≡ get_or (codes n q) at 0 → ⊥) → IsCommon p q at
unfolding codes
common_by_codes zero at p q h same next = absurd (omega arith)
common_by_codes (suc n) zero [] q h same next = record { same = λ d k. absurd (omega arith); next = λ i j tie. omega arith }
common_by_codes (suc n) zero (x ∷ p) [] h same next = record { same = λ d k. absurd (omega arith); next = λ i j tie. omega arith }
common_by_codes (suc n) zero (x ∷ p) (y ∷ q) h same next = record { same = λ d k. absurd (omega arith); next = λ i j tie. next (ap code (labels_order.same x y tie)) }
common_by_codes (suc n) (suc at) [] [] h same next = absurd (next refl)
common_by_codes (suc n) (suc at) [] (y ∷ q) h same next = absurd (omega (arith, same 0 (omega arith), some_code y))
common_by_codes (suc n) (suc at) (x ∷ p) [] h same next = absurd (omega (arith, same 0 (omega arith), some_code x))
common_by_codes (suc n) (suc at) (x ∷ p) (y ∷ q) h same next = by (is_exact (code x)) refl (common_by_codes n at p q (omega arith)) where
  tie : code x ≡ code y
  tie = same 0 (omega arith)

  more : x ≡ y → IsCommon p q at → (d : ℕ) → d < suc at → get_or (x ∷ p) d One ≡ get_or (y ∷ q) d One
  more one rest zero k = one
  more one rest (suc d) k = rest.same d (omega arith)

  by : (v : Bool) → is_exact (code x) ≡ v → (((d : ℕ) → d < at → get_or (codes n p) d 0 ≡ get_or (codes n q) d 0) → (get_or (codes n p) at 0 ≡ get_or (codes n q) at 0 → ⊥) → IsCommon p q at)
      → IsCommon (x ∷ p) (y ∷ q) (suc at)
  by true e below =
      let left : following (x ∷ p) ≡ p = ap (λ v. cond v p []) e in
      let right : following (y ∷ q) ≡ q = ap (λ c. cond (is_exact c) q []) (sym tie) ∙ ap (λ v. cond v q []) e in
      let one : x ≡ y = labels_order.same x y (code_same x y tie e) in
      let rest : IsCommon p q at = below
      (λ d k. sym (ap (λ l. get_or (codes n l) d 0) left) ∙ same (suc d) (omega arith) ∙ ap (λ l. get_or (codes n l) d 0) right)
      (λ t. next (ap (λ l. get_or (codes n l) at 0) left ∙ t ∙ sym (ap (λ l. get_or (codes n l) at 0) right))) in
      record { same = more one rest; next = λ i j t. rest.next (omega arith) (omega arith) t }
  by false e below =
      let left : following (x ∷ p) ≡ [] = ap (λ v. cond v p []) e in
      let right : following (y ∷ q) ≡ [] = ap (λ c. cond (is_exact c) q []) (sym tie) ∙ ap (λ v. cond v q []) e in
      absurd (next (ap (λ l. get_or (codes n l) at 0) left ∙ sym (ap (λ l. get_or (codes n l) at 0) right)))

-- the bytes of a row's front are those of the pattern at its place
pub first_at : (rows : List Row) (d : Row) (at : ℕ) → All HasPrefix rows → at < length (patterns rows) → (get_or rows at d).prefix ≡ codes 24 (pattern_at (patterns rows) at)
first_at rows d at first_labels h =
    let inside : at < length rows = omega (arith, h, length-map rows (λ (r : Row). r.items.now)) in
    let own : pattern_at (patterns rows) at ≡ (get_or rows at d).items.now = get_or-map (λ (r : Row). r.items.now) rows at d [] inside in
    first_labels at d inside ∙ ap (codes 24) (sym own)

-- patterns whose first bytes are not the same compare as these
abbrev pub Agrees : ℕ → List Item → List Item → Type 0
Agrees n p q = (slice_cmp nat_cmp (codes n p) (codes n q) ≡ Equal) ⊎ (slice_cmp nat_cmp (codes n p) (codes n q) ≡ pattern_cmp p q)

pub prefixes_agree : (n : ℕ) (p q : List Item) → Agrees n p q
unfolding codes
prefixes_agree zero p q = inl refl
prefixes_agree (suc n) [] [] = inl (texts_order.itself (codes (suc n) []))
prefixes_agree (suc n) [] (y ∷ q) = inr (ap (λ o. ordering_then o (slice_cmp nat_cmp (codes n []) (codes n (following (y ∷ q))))) (less 0 (code y) (some_code y)))
prefixes_agree (suc n) (x ∷ p) [] = inr (ap (λ o. ordering_then o (slice_cmp nat_cmp (codes n (following (x ∷ p))) (codes n []))) (more (code x) 0 (some_code x)))
prefixes_agree (suc n) (x ∷ p) (y ∷ q) = ⊎_elim (same (prefixes_agree n p q)) (λ rest. ⊎_elim below above rest) (cases_order (code x) (code y)) where
  below : code x < code y → Agrees (suc n) (x ∷ p) (y ∷ q)
  below h = inr (ap (λ o. ordering_then o (slice_cmp nat_cmp (codes n (following (x ∷ p))) (codes n (following (y ∷ q))))) (less (code x) (code y) h) ∙ sym (ap (λ o. ordering_then o (pattern_cmp p q)) (code_less x y h)))

  above : code y < code x → Agrees (suc n) (x ∷ p) (y ∷ q)
  above h = inr (ap (λ o. ordering_then o (slice_cmp nat_cmp (codes n (following (x ∷ p))) (codes n (following (y ∷ q))))) (more (code x) (code y) h) ∙ sym (ap (λ o. ordering_then o (pattern_cmp p q)) (code_more x y h)))

  same : Agrees n p q → code x ≡ code y → Agrees (suc n) (x ∷ p) (y ∷ q)
  same rest e = by (is_exact (code x)) refl where
    first : slice_cmp nat_cmp (codes (suc n) (x ∷ p)) (codes (suc n) (y ∷ q)) ≡ (slice_cmp nat_cmp (codes n (following (x ∷ p))) (codes n (following (y ∷ q))))
    first = ap (λ o. ordering_then o (slice_cmp nat_cmp (codes n (following (x ∷ p))) (codes n (following (y ∷ q))))) (tied (code x) (code y) e)

    by : (v : Bool) → is_exact (code x) ≡ v → Agrees (suc n) (x ∷ p) (y ∷ q)
    by true h =
        let left : following (x ∷ p) ≡ p = ap (λ v. cond v p []) h in
        let right : following (y ∷ q) ≡ q = ap (λ c. cond (is_exact c) q []) (sym e) ∙ ap (λ v. cond v q []) h in
        let both : (slice_cmp nat_cmp (codes n (following (x ∷ p))) (codes n (following (y ∷ q)))) ≡ slice_cmp nat_cmp (codes n p) (codes n q) = ap (λ l. slice_cmp nat_cmp (codes n l) (codes n (following (y ∷ q)))) left ∙ ap (λ l. slice_cmp nat_cmp (codes n p) (codes n l)) right in
        ⊎_elim (λ tie. inl (first ∙ both ∙ tie)) (λ is. inr (first ∙ both ∙ is ∙ sym (ap (λ o. ordering_then o (pattern_cmp p q)) (code_same x y e h)))) rest
    by false h =
        let left : following (x ∷ p) ≡ [] = ap (λ v. cond v p []) h in
        let right : following (y ∷ q) ≡ [] = ap (λ c. cond (is_exact c) q []) (sym e) ∙ ap (λ v. cond v q []) h in
        inl (first ∙ ap (λ l. slice_cmp nat_cmp (codes n l) (codes n (following (y ∷ q)))) left ∙ ap (λ l. slice_cmp nat_cmp (codes n []) (codes n l)) right ∙ texts_order.itself (codes n []))

-- one byte more is written
pub prefix_more : (prefix : List ℕ) (at : ℕ) (rest : List Item) (all : List ℕ) → length prefix ≡ 24 → at < 24 → take at prefix ++ codes (24 - at) rest ≡ all
    → take (at + 1) (slice_set prefix at (first_code rest)) ++ codes (24 - (at + 1)) (following rest) ≡ all
unfolding codes
prefix_more prefix at rest all len h so_far =
    let left : List ℕ = codes (24 - (at + 1)) (following rest) in
    let n : 24 - at ≡ suc (24 - (at + 1)) = omega arith in
    ap (λ l. l ++ left) (take_more_set prefix at (first_code rest) (omega (arith, len)))
    ∙ append_assoc (take at prefix) (first_code rest ∷ []) left
    ∙ ap (λ k. take at prefix ++ codes k rest) (sym n)
    ∙ so_far

pub prefix_whole : (prefix : List ℕ) (at : ℕ) (rest : List Item) (all : List ℕ) → length prefix ≡ 24 → at ≡ 24 → take at prefix ++ codes (24 - at) rest ≡ all → prefix ≡ all
unfolding codes
prefix_whole prefix at rest all len end so_far =
    sym (take_all at prefix (omega (arith, len, end))) ∙ sym (append-nil (take at prefix)) ∙ ap (λ k. take at prefix ++ codes k rest) (let n : 0 ≡ 24 - at = omega (arith, end) in n) ∙ so_far

-- a byte of a front that is not 0 is within the pattern
prefix_within : (n k : ℕ) (p : List Item) → k < n → 0 < get_or (codes n p) k 0 → k < length p
unfolding codes
prefix_within zero k p h some = absurd (omega arith)
prefix_within (suc n) zero [] h some = absurd (omega arith)
prefix_within (suc n) zero (x ∷ p) h some = omega arith
prefix_within (suc n) (suc k) [] h some = absurd (omega (arith, some, no_codes n k))
prefix_within (suc n) (suc k) (x ∷ p) h some = by (is_exact (code x)) refl (prefix_within n k p (omega arith)) where
  by : (v : Bool) → is_exact (code x) ≡ v → (0 < get_or (codes n p) k 0 → k < length p) → suc k < length (x ∷ p)
  by true e rest =
      let left : following (x ∷ p) ≡ p = ap (λ v. cond v p []) e in
      let own : get_or (codes n (following (x ∷ p))) k 0 ≡ get_or (codes n p) k 0 = ap (λ l. get_or (codes n l) k 0) left in
      omega (arith, rest (omega (arith, some, own)))
  by false e rest =
      let left : following (x ∷ p) ≡ [] = ap (λ v. cond v p []) e in
      let own : get_or (codes n (following (x ∷ p))) k 0 ≡ get_or (codes n []) k 0 = ap (λ l. get_or (codes n l) k 0) left in
      absurd (omega (arith, some, own, no_codes n k))

-- patterns with the same bytes, the last of which is not 0, compare as their parts from that label on
rest_agrees : (n : ℕ) (p q : List Item) → codes (suc n) p ≡ codes (suc n) q → 0 < get_or (codes (suc n) p) n 0 → pattern_cmp p q ≡ pattern_cmp (drop n p) (drop n q)
unfolding codes
rest_agrees zero p q same some = refl
rest_agrees (suc n) [] q same some = absurd (omega (arith, some, no_codes (suc n) n))
rest_agrees (suc n) (x ∷ p) [] same some = absurd (let first : code x ≡ 0 = ap (λ l. get_or l 0 0) same in omega (arith, first, some_code x))
rest_agrees (suc n) (x ∷ p) (y ∷ q) same some = by (is_exact (code x)) refl (rest_agrees n p q) where
  tie : code x ≡ code y
  tie = ap (λ l. get_or l 0 0) same

  tails : codes (suc n) (following (x ∷ p)) ≡ codes (suc n) (following (y ∷ q))
  tails = ap (drop 1) same

  by : (v : Bool) → is_exact (code x) ≡ v → (codes (suc n) p ≡ codes (suc n) q → 0 < get_or (codes (suc n) p) n 0 → pattern_cmp p q ≡ pattern_cmp (drop n p) (drop n q))
      → pattern_cmp (x ∷ p) (y ∷ q) ≡ pattern_cmp (drop n p) (drop n q)
  by true e rest =
      let left : following (x ∷ p) ≡ p = ap (λ v. cond v p []) e in
      let right : following (y ∷ q) ≡ q = ap (λ c. cond (is_exact c) q []) (sym tie) ∙ ap (λ v. cond v q []) e in
      let own : get_or (codes (suc n) (following (x ∷ p))) n 0 ≡ get_or (codes (suc n) p) n 0 = ap (λ l. get_or (codes (suc n) l) n 0) left in
      ap (λ o. ordering_then o (pattern_cmp p q)) (code_same x y tie e)
      ∙ rest (sym (ap (codes (suc n)) left) ∙ tails ∙ ap (codes (suc n)) right) (omega (arith, some, own))
  by false e rest =
      let left : following (x ∷ p) ≡ [] = ap (λ v. cond v p []) e in
      let own : get_or (codes (suc n) (following (x ∷ p))) n 0 ≡ get_or (codes (suc n) []) n 0 = ap (λ l. get_or (codes (suc n) l) n 0) left in
      absurd (omega (arith, some, own, no_codes (suc n) n))

positive : (n : ℕ) → (n ≡ 0 → ⊥) → 0 < n
positive zero h = absurd (h refl)
positive (suc n) h = omega arith

-- and as what their fronts leave open
pub undetermined_agrees : (p q : List Item) → codes 24 p ≡ codes 24 q → pattern_cmp p q ≡ pattern_cmp (undetermined (codes 24 p) p) (undetermined (codes 24 q) q)
undetermined_agrees p q same = elim (eqb_tells (get_or (codes 24 p) 23 0) 0) [
  | inl none ↦
      let left : undetermined (codes 24 p) p ≡ p = ap (λ v. cond v p (drop (min (length p) 23) p)) none.0 in
      let right : undetermined (codes 24 q) q ≡ q = ap (λ v. cond v q (drop (min (length q) 23) q)) (ap (λ n. eqb n 0) (sym ends) ∙ none.0) in
      sym (ap (λ l. pattern_cmp l (undetermined (codes 24 q) q)) left ∙ ap (pattern_cmp p) right)
  | inr some ↦
      let last : 0 < get_or (codes 24 p) 23 0 = positive (get_or (codes 24 p) 23 0) some.1 in
      let in_p : 23 < length p = prefix_within 24 23 p (omega arith) last in
      let in_q : 23 < length q = prefix_within 24 23 q (omega arith) (omega (arith, last, ends)) in
      let left : undetermined (codes 24 p) p ≡ drop 23 p =
      ap (λ v. cond v p (drop (min (length p) 23) p)) some.0 ∙ ap (λ n. drop n p) (let m : min (length p) 23 ≡ 23 = omega (arith, in_p) in m) in
      let right : undetermined (codes 24 q) q ≡ drop 23 q =
      ap (λ v. cond v q (drop (min (length q) 23) q)) (ap (λ n. eqb n 0) (sym ends) ∙ some.0) ∙ ap (λ n. drop n q) (let m : min (length q) 23 ≡ 23 = omega (arith, in_q) in m) in
      rest_agrees 23 p q same last ∙ sym (ap (λ l. pattern_cmp l (undetermined (codes 24 q) q)) left ∙ ap (pattern_cmp (drop 23 p)) right)
] where
  ends : get_or (codes 24 p) 23 0 ≡ get_or (codes 24 q) 23 0
  ends = ap (λ l. get_or l 23 0) same
