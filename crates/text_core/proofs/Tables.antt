-- Tables that have a value for each end of a text, by how many bytes that end has.
use Rattle.std.proofs.Common.{◌≡◌, ℕ, zero, suc, ◌+◌, ◌-◌, ◌<◌, ◌≤◌, List, ◌∷◌, [], ◌++◌, length, drop, get_or, Some, refl, sym, ◌∙◌, ap, arith, length-drop, drop-cons}
use Rattle.std.proofs.Math.Seq.{drop-length}
use Rattle.std.specs.List.{slice_get}
use Rattle.std.proofs.lemmas.List.{drop-drop}
use Rattle.std.proofs.lemmas.Option.{slice_get_within, get_or_from_slice_get}

-- the table has the value of each end
abbrev pub Reports : {X : Type 0} → (List ℕ → X) → List X → List ℕ → Type 0
Reports f table t = (k : ℕ) → slice_get table (length (drop k t)) ≡ Some (f (drop k t))

-- an end of an end is an end
pub reports_drop : {X : Type 0} (f : List ℕ → X) (table : List X) (t u : List ℕ) (m : ℕ) → Reports f table t → u ≡ drop m t → Reports f table u
reports_drop f table t u m reported e k =
    let same : drop k u ≡ drop (m + k) t = ap (drop k) e ∙ drop-drop k m t in
    ap (λ (v : List ℕ). slice_get table (length v)) same ∙ reported (m + k) ∙ sym (ap (λ (v : List ℕ). Some (f v)) same)

-- what follows the first byte is an end
pub reports_tail : {X : Type 0} (f : List ℕ → X) (table : List X) (t : List ℕ) (b : ℕ) (after : List ℕ) → Reports f table t → t ≡ b ∷ after → Reports f table after
reports_tail f table t b after reported e = reports_drop f table t after 1 reported (sym (ap (drop 1) e))

slice_get-append : {X : Type 0} (xs ys : List X) (i : ℕ) → i < length xs → slice_get (xs ++ ys) i ≡ slice_get xs i
slice_get-append [] ys i h = absurd (omega arith)
slice_get-append (x ∷ xs) ys zero h = refl
slice_get-append (x ∷ xs) ys (suc i) h = let within : i < length xs = omega arith in slice_get-append xs ys i within

slice_get-push : {X : Type 0} (xs : List X) (x : X) → slice_get (xs ++ x ∷ []) (length xs) ≡ Some x
slice_get-push [] x = refl
slice_get-push (y ∷ xs) x = slice_get-push xs x

-- nothing has one end
pub reports_none : {X : Type 0} (f : List ℕ → X) (x : X) → x ≡ f [] → Reports f (x ∷ []) []
reports_none f x e zero = ap Some e
reports_none f x e (suc k) = ap Some e

pub reports_start : {X : Type 0} (f : List ℕ → X) (x : X) (table : List X) (t : List ℕ) → table ≡ x ∷ [] → x ≡ f [] → Reports f table (drop (length t - 0) t)
reports_start {X} f x table t pushed e k =
    let all : length t - 0 ≡ length t = omega arith in
    let end : drop (length t - 0) t ≡ [] = ap (λ (n : ℕ). drop n t) all ∙ drop-length t in
    ap (λ (ts : List X). slice_get ts (length (drop k (drop (length t - 0) t)))) pushed
    ∙ reports_drop f (x ∷ []) [] (drop (length t - 0) t) 0 (reports_none f x e) end k

-- one byte more in front
pub reports_more : {X : Type 0} (f : List ℕ → X) (table : List X) (x : X) (b : ℕ) (t : List ℕ) → Reports f table t → length table ≡ suc (length t) → x ≡ f (b ∷ t) → Reports f (table ++ x ∷ []) (b ∷ t)
reports_more f table x b t reported n e zero = ap (slice_get (table ++ x ∷ [])) (sym n) ∙ slice_get-push table x ∙ ap Some e
reports_more f table x b t reported n e (suc k) =
    slice_get-append table (x ∷ []) (length (drop k t)) (slice_get_within table (length (drop k t)) (f (drop k t)) (reported k)) ∙ reported k

-- an end that is one byte longer
pub end_before : (t rest : List ℕ) (left : ℕ) → left < length t → rest ≡ drop (length t - left) t
    → drop (length t - (left + 1)) t ≡ get_or t (length t - left - 1) 0 ∷ rest
end_before t rest left h back =
    let within : length t - (left + 1) < length t = omega arith in
    let place : length t - (left + 1) ≡ length t - left - 1 = omega arith in
    let next : suc (length t - (left + 1)) ≡ length t - left = omega arith in
    drop-cons t (length t - (left + 1)) 0 within
    ∙ ap (λ (j : ℕ). get_or t j 0 ∷ drop (suc (length t - (left + 1))) t) place
    ∙ ap (λ (j : ℕ). get_or t (length t - left - 1) 0 ∷ drop j t) next
    ∙ ap (λ (r : List ℕ). get_or t (length t - left - 1) 0 ∷ r) (sym back)

-- the value for an end that is one byte longer is added to the table
pub reports_longer : {X : Type 0} (f : List ℕ → X) (table more : List X) (x : X) (t : List ℕ) (left : ℕ)
    → Reports f table (drop (length t - left) t) → length table ≡ suc left → left < length t
    → x ≡ f (drop (length t - (left + 1)) t) → more ≡ table ++ x ∷ [] → Reports f more (drop (length t - (left + 1)) t)
reports_longer {X} f table more x t left reported len h e pushed k =
    let b : ℕ = get_or t (length t - left - 1) 0 in
    let end : List ℕ = drop (length t - left) t in
    let n : length table ≡ suc (length end) = omega (arith, length-drop (length t - left) t) in
    let cut : drop (length t - (left + 1)) t ≡ b ∷ end = end_before t end left h refl in
    let value : x ≡ f (b ∷ end) = e ∙ ap f cut in
    ap (λ (ts : List X). slice_get ts (length (drop k (drop (length t - (left + 1)) t)))) pushed
    ∙ reports_drop f (table ++ x ∷ []) (b ∷ end) (drop (length t - (left + 1)) t) 0 (reports_more f table x b end reported n value) cut k

-- the end that comes next
pub end_next : (t rest : List ℕ) (left : ℕ) → rest ≡ drop (length t - left - 1) t → rest ≡ drop (length t - (left + 1)) t
end_next t rest left back =
    let place : length t - left - 1 ≡ length t - (left + 1) = omega arith in
    back ∙ ap (λ (n : ℕ). drop n t) place

pub reports_after : {X : Type 0} (f : List ℕ → X) (table : List X) (t rest : List ℕ) (left : ℕ) → Reports f table (drop (length t - left) t) → left < length t
    → rest ≡ drop (length t - left - 1) t → Reports f table (drop 1 rest)
reports_after f table t rest left reported h back =
    let place : length t - left - 1 + 1 ≡ length t - left = omega arith in
    reports_drop f table (drop (length t - left) t) (drop 1 rest) 0 reported (ap (drop 1) back ∙ drop-drop 1 (length t - left - 1) t ∙ ap (λ (n : ℕ). drop n t) place)

-- the longest end is the text
pub reports_all : {X : Type 0} (f : List ℕ → X) (table : List X) (t : List ℕ) (left : ℕ) → Reports f table (drop (length t - left) t) → length t ≤ left → Reports f table t
reports_all f table t left reported h =
    let whole : length t - left ≡ 0 = omega arith in
    reports_drop f table (drop (length t - left) t) t 0 reported (sym (ap (λ (n : ℕ). drop n t) whole))

-- what is at the place of an end is that end's value
module _ {X : Type 0} (f : List ℕ → X) (table : List X) (t : List ℕ) (reported : Reports f table t) (n : ℕ) where
  at_end : slice_get table (length t - n) ≡ Some (f (drop n t))
  at_end = ap (slice_get table) (sym (length-drop n t)) ∙ reported n

  pub reports_within : length t - n < length table
  reports_within = slice_get_within table (length t - n) (f (drop n t)) at_end

  pub reports_value : (d : X) → get_or table (length t - n) d ≡ f (drop n t)
  reports_value d = get_or_from_slice_get table (length t - n) (f (drop n t)) d at_end
