-- Names with their places, and the pairs that are found there.
use Rattle.std.proofs.Common.{◌≡◌, ℕ, suc, List, [], ◌∷◌, ◌++◌, length, map, Result, Ok, Err, IfOk, refl, ap, sym, subst, ◌∙◌, arith, append_assoc}
use Rattle.std.proofs.lemmas.List.{append-nil, length-append}
use Rattle.std.proofs.lemmas.List.Elements.{All-cons, All-nil}
use Rattle.std.proofs.lemmas.List.Sorted.{All-permutation}
use Rattle.std.proofs.Math.Seq.{get_or-append_seam}
use Rattle.std.specs.List.{All, IsDistinct}
use Rattle.std.specs.List.Sorted.{IsPermutation, IsSorted}
use Rattle.std.specs.Map.{keys_of}
use Rattle.text_bytes.specs.Insertion.{text_order}
use Rattle.text_bytes.specs.Text.{Text}
use Rattle.text_tables.specs.Texts.{AreOnce, same_text}
use Rattle.text_tables.specs.Pairs.{Pair, names}
use Rattle.text_tables.specs.Heads.{named_places, pair_at}
use Rattle.text_tables.specs.Sorted.{by_name}
use Rattle.text_tables.proofs.ByName.{sorted_is}
use Rattle.text_tables.proofs.Held.{seen}

-- the names of a map's entries
pub names_of_keys : {K V : Type 0} (text : K → Text) (value : V → Text) (es : List (K × V)) → map text (keys_of es) ≡ names (map (λ e. (text e.0, value e.1)) es)
names_of_keys text value [] = refl
names_of_keys text value (e ∷ es) = ap (λ ns. text e.0 ∷ ns) (names_of_keys text value es)

-- one more name at its place
pub one_more : (held new : List (Text × ℕ)) (name : Text) (rest left : List Text) (all : List (Text × ℕ)) → held ++ named_places (length held) left ≡ all → left ≡ name ∷ rest → new ≡ held ++ (name, length held) ∷ []
    → new ++ named_places (length new) rest ≡ all
one_more held new name rest left all h is now =
    let next : length (held ++ (name, length held) ∷ []) ≡ suc (length held) = length-append held ((name, length held) ∷ []) ∙ omega arith in
    ap (λ l. l ++ named_places (length l) rest) now
    ∙ ap (λ n. (held ++ (name, length held) ∷ []) ++ named_places n rest) next
    ∙ append_assoc held ((name, length held) ∷ []) (named_places (suc (length held)) rest)
    ∙ sym (ap (λ l. held ++ named_places (length held) l) is) ∙ h

-- no name is left
pub none_left : (held : List (Text × ℕ)) (left : List Text) (all : List (Text × ℕ)) → held ++ named_places (length held) left ≡ all → left ≡ [] → held ≡ all
none_left held left all h is = sym (append-nil held) ∙ sym (ap (λ l. held ++ named_places (length held) l) is) ∙ h

module _ (pairs : List Pair) where
  -- the value at a place
  abbrev pub value_at : ℕ → Text
  value_at place = (pair_at pairs place).1

  -- a name's place is that of the name
  abbrev pub IsPlaced : Text × ℕ → Type 0
  IsPlaced x = pair_at pairs x.1 ≡ (x.0, value_at x.1)

  all_placed : (past rest : List Pair) → past ++ rest ≡ pairs → All IsPlaced (named_places (length past) (names rest))
  all_placed past [] cut = All-nil IsPlaced
  all_placed past (p ∷ rest) cut =
      let here : pair_at pairs (length past) ≡ p = ap (λ ps. pair_at ps (length past)) (sym cut) ∙ get_or-append_seam past p rest ([], []) in
      let next : length (past ++ p ∷ []) ≡ suc (length past) = length-append past (p ∷ []) ∙ omega arith in
      All-cons IsPlaced (p.0, length past) (named_places (suc (length past)) (names rest))
      (here ∙ sym (ap (λ (q : Pair). (p.0, q.1)) here))
      (subst (λ n. All IsPlaced (named_places n (names rest))) next (all_placed (past ++ p ∷ []) rest (append_assoc past (p ∷ []) rest ∙ cut)))

  shown_at : (past rest : List Pair) → past ++ rest ≡ pairs → map (seen (λ (name : Text). name) value_at) (named_places (length past) (names rest)) ≡ rest
  shown_at past [] cut = refl
  shown_at past (p ∷ rest) cut =
      let here : pair_at pairs (length past) ≡ p = ap (λ ps. pair_at ps (length past)) (sym cut) ∙ get_or-append_seam past p rest ([], []) in
      let next : length (past ++ p ∷ []) ≡ suc (length past) = length-append past (p ∷ []) ∙ omega arith in
      ap (λ (q : Pair). (p.0, q.1) ∷ map (seen (λ (name : Text). name) value_at) (named_places (suc (length past)) (names rest))) here
      ∙ ap (λ ps. p ∷ ps) (subst (λ n. map (seen (λ (name : Text). name) value_at) (named_places n (names rest)) ≡ rest) next (shown_at (past ++ p ∷ []) rest (append_assoc past (p ∷ []) rest ∙ cut)))

  looked_up : (xs : List (Text × ℕ)) → All IsPlaced xs → map (pair_at pairs) (map (λ x. x.1) xs) ≡ map (seen (λ (name : Text). name) value_at) xs
  looked_up [] h = refl
  looked_up (x ∷ xs) h =
      ap (λ (p : Pair). p ∷ map (pair_at pairs) (map (λ y. y.1) xs)) (h 0 x (omega arith))
      ∙ ap (λ ps. (x.0, value_at x.1) ∷ ps) (looked_up xs (λ k d l. h (suc k) d (omega (arith, l))))

  keys_are : (n : ℕ) (ns : List Text) → keys_of (named_places n ns) ≡ ns
  keys_are n [] = refl
  keys_are n (name ∷ ns) = ap (λ l. name ∷ l) (keys_are (suc n) ns)

  -- the pairs at places that were sorted by name are sorted by name
  pub sorted_places : AreOnce (names pairs) → (xs : List (Text × ℕ)) → IsPermutation (named_places 0 (names pairs)) xs → IsSorted (λ a b. text_order a.0 b.0) xs
      → map (pair_at pairs) (map (λ x. x.1) xs) ≡ by_name pairs
  sorted_places once xs moved sorted =
      looked_up xs (All-permutation IsPlaced (named_places 0 (names pairs)) xs moved (all_placed [] pairs refl))
      ∙ sorted_is (λ (name : Text). name) value_at (named_places 0 (names pairs)) xs moved (subst (IsDistinct same_text) (sym (keys_are 0 (names pairs))) once) sorted
      ∙ ap by_name (shown_at [] pairs refl)

-- what is true of what there is, if what is said of it is
pub if_there : {T E : Type 0} (P Q : T → Type 0) (r : Result T E) → ((x : T) → P x → Q x) → IfOk r P → IfOk r Q
if_there P Q (Ok x) f h = f x h
if_there P Q (Err e) f h = tt
