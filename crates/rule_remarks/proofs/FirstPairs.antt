-- Of each kind the first pair is reported, and no other.
use Rattle.std.proofs.Common.{◌≡◌, ℕ, ◌+◌, ◌≤◌, Bool, true, false, cond, not, ◌&&◌, ◌||◌, List, [], ◌∷◌, ◌++◌, length, filter, Option, Some, None, is_some, option_map, refl, ap, sym, ◌∙◌, true≢false, arith}
use Rattle.std.specs.List.{find}
use Rattle.rule_remarks.specs.Pairs.{Pair, finding, is_of_kind, is_reported, reported_for, same_kind, with_kind, with_pair}
use Rattle.rule_remarks.specs.declared.pair_finding.PairFinding.{PairFinding}
use Rattle.rule_remarks.specs.declared.pair_finding.PairKind.{PairKind}
use Rattle.rule_remarks.specs.declared.pair_finding.PairKind.TheVariants.{Same, Against}

-- the first finding of a kind
abbrev pub first_of : PairKind → List PairFinding → Option PairFinding
first_of kind reported = find (λ (f : PairFinding). same_kind kind f.kind) reported

-- the first of two that is there
abbrev pub or_else : Option PairFinding → Option PairFinding → Option PairFinding
or_else None b = b
or_else (Some a) b = Some a

-- what a pair adds of a kind
abbrev pub added_by : PairKind → Pair → Option PairFinding
added_by kind p = cond (is_of_kind kind p) (Some (finding kind p)) None

or_none : (a : Option PairFinding) → or_else a None ≡ a
or_none None = refl
or_none (Some x) = refl

or_more : (a b c : Option PairFinding) → or_else (or_else a b) c ≡ or_else a (or_else b c)
or_more None b c = refl
or_more (Some x) b c = refl

reported_first : (kind : PairKind) (reported : List PairFinding) → is_reported kind reported ≡ is_some (first_of kind reported)
reported_first kind [] = refl
reported_first kind (f ∷ reported) = by (same_kind kind f.kind) (reported_first kind reported)
  where
    by : (b : Bool) → is_reported kind reported ≡ is_some (first_of kind reported) → (b || is_reported kind reported) ≡ is_some (cond b (Some f) (first_of kind reported))
    by true rest = refl
    by false rest = rest

first_after : (kind : PairKind) (reported more : List PairFinding) → first_of kind (reported ++ more) ≡ or_else (first_of kind reported) (first_of kind more)
first_after kind [] more = refl
first_after kind (f ∷ reported) more = by (same_kind kind f.kind) (first_after kind reported more)
  where
    by : (b : Bool) → first_of kind (reported ++ more) ≡ or_else (first_of kind reported) (first_of kind more) → cond b (Some f) (first_of kind (reported ++ more)) ≡ or_else (cond b (Some f) (first_of kind reported)) (first_of kind more)
    by true rest = refl
    by false rest = rest

-- a kind that is added is found after what was reported
same_added : (kind : PairKind) (reported : List PairFinding) (p : Pair) → same_kind kind kind ≡ true → first_of kind (with_kind kind reported p) ≡ or_else (first_of kind reported) (added_by kind p)
same_added kind reported p e = by (first_of kind reported) refl (is_of_kind kind p)
  where
    added : first_of kind (finding kind p ∷ []) ≡ Some (finding kind p)
    added = ap (λ (b : Bool). cond b (Some (finding kind p)) None) e

    by : (found : Option PairFinding) → first_of kind reported ≡ found → (b : Bool)
        → first_of kind (cond (not (is_reported kind reported) && b) (reported ++ finding kind p ∷ []) reported) ≡ or_else found (cond b (Some (finding kind p)) None)
    by None h true =
        ap (λ (t : Bool). first_of kind (cond (not t && true) (reported ++ finding kind p ∷ []) reported)) (reported_first kind reported ∙ ap is_some h)
        ∙ first_after kind reported (finding kind p ∷ []) ∙ ap (λ (x : Option PairFinding). or_else x (first_of kind (finding kind p ∷ []))) h ∙ added
    by None h false =
        ap (λ (t : Bool). first_of kind (cond (not t && false) (reported ++ finding kind p ∷ []) reported)) (reported_first kind reported ∙ ap is_some h) ∙ h
    by (Some f) h b =
        ap (λ (t : Bool). first_of kind (cond (not t && b) (reported ++ finding kind p ∷ []) reported)) (reported_first kind reported ∙ ap is_some h) ∙ h

-- another kind that is added changes nothing
other_added : (kind other : PairKind) (reported : List PairFinding) (p : Pair) → same_kind kind other ≡ false → first_of kind (with_kind other reported p) ≡ first_of kind reported
other_added kind other reported p e = by (not (is_reported other reported) && is_of_kind other p)
  where
    none : first_of kind (finding other p ∷ []) ≡ None
    none = ap (λ (b : Bool). cond b (Some (finding other p)) None) e

    by : (b : Bool) → first_of kind (cond b (reported ++ finding other p ∷ []) reported) ≡ first_of kind reported
    by true = first_after kind reported (finding other p ∷ []) ∙ ap (or_else (first_of kind reported)) none ∙ or_none (first_of kind reported)
    by false = refl

-- what a pair adds of a kind is found after what was reported
pair_added : (kind : PairKind) (reported : List PairFinding) (p : Pair) → first_of kind (with_pair reported p) ≡ or_else (first_of kind reported) (added_by kind p)
pair_added Same reported p = other_added Same Against (with_kind Same reported p) p refl ∙ same_added Same reported p refl
pair_added Against reported p =
    same_added Against (with_kind Same reported p) p refl ∙ ap (λ (x : Option PairFinding). or_else x (added_by Against p)) (other_added Against Same reported p refl)

pair_more : (kind : PairKind) (p : Pair) (pairs : List Pair) → or_else (added_by kind p) (option_map (finding kind) (find (is_of_kind kind) pairs)) ≡ option_map (finding kind) (find (is_of_kind kind) (p ∷ pairs))
pair_more kind p pairs = by (is_of_kind kind p)
  where
    by : (b : Bool) → or_else (cond b (Some (finding kind p)) None) (option_map (finding kind) (find (is_of_kind kind) pairs)) ≡ option_map (finding kind) (cond b (Some p) (find (is_of_kind kind) pairs))
    by true = refl
    by false = refl

report_after : (kind : PairKind) (reported : List PairFinding) (pairs : List Pair) → first_of kind (reported_for reported pairs) ≡ or_else (first_of kind reported) (option_map (finding kind) (find (is_of_kind kind) pairs))
report_after kind reported [] = sym (or_none (first_of kind reported))
report_after kind reported (p ∷ pairs) =
    report_after kind (with_pair reported p) pairs
    ∙ ap (λ (x : Option PairFinding). or_else x (option_map (finding kind) (find (is_of_kind kind) pairs))) (pair_added kind reported p)
    ∙ or_more (first_of kind reported) (added_by kind p) (option_map (finding kind) (find (is_of_kind kind) pairs))
    ∙ ap (or_else (first_of kind reported)) (pair_more kind p pairs)

-- of each kind the first pair is reported
pub first_reported : (kind : PairKind) (pairs : List Pair) → first_of kind (reported_for [] pairs) ≡ option_map (finding kind) (find (is_of_kind kind) pairs)
first_reported kind pairs = report_after kind [] pairs

-- how often a kind is reported
abbrev count_of : PairKind → List PairFinding → ℕ
count_of kind reported = length (filter (λ (f : PairFinding). same_kind kind f.kind) reported)

count_after : (kind : PairKind) (reported more : List PairFinding) → count_of kind (reported ++ more) ≡ count_of kind reported + count_of kind more
count_after kind [] more = omega arith
count_after kind (f ∷ reported) more = by (same_kind kind f.kind) (count_after kind reported more)
  where
    by : (b : Bool) → count_of kind (reported ++ more) ≡ count_of kind reported + count_of kind more
        → length (cond b (f ∷ filter (λ (g : PairFinding). same_kind kind g.kind) (reported ++ more)) (filter (λ (g : PairFinding). same_kind kind g.kind) (reported ++ more)))
        ≡ length (cond b (f ∷ filter (λ (g : PairFinding). same_kind kind g.kind) reported) (filter (λ (g : PairFinding). same_kind kind g.kind) reported)) + count_of kind more
    by true rest = omega (arith, rest)
    by false rest = rest

count_none : (kind : PairKind) (reported : List PairFinding) → is_reported kind reported ≡ false → count_of kind reported ≡ 0
count_none kind [] h = refl
count_none kind (f ∷ reported) h = by (same_kind kind f.kind) (count_none kind reported) h
  where
    by : (b : Bool) → (is_reported kind reported ≡ false → count_of kind reported ≡ 0) → (b || is_reported kind reported) ≡ false → length (cond b (f ∷ filter (λ (g : PairFinding). same_kind kind g.kind) reported) (filter (λ (g : PairFinding). same_kind kind g.kind) reported)) ≡ 0
    by true rest e = absurd (true≢false e)
    by false rest e = rest e

once_same : (kind : PairKind) (reported : List PairFinding) (p : Pair) → same_kind kind kind ≡ true → count_of kind reported ≤ 1 → count_of kind (with_kind kind reported p) ≤ 1
once_same kind reported p e h = by (is_reported kind reported) refl (is_of_kind kind p)
  where
    one : count_of kind (finding kind p ∷ []) ≡ 1
    one = ap (λ (b : Bool). length (cond b (finding kind p ∷ []) [])) e

    by : (t : Bool) → is_reported kind reported ≡ t → (b : Bool) → count_of kind (cond (not t && b) (reported ++ finding kind p ∷ []) reported) ≤ 1
    by true q b = h
    by false q true =
        let prefix = count_none kind reported q in
        let whole = count_after kind reported (finding kind p ∷ []) in
        omega (arith, prefix, whole, one)
    by false q false = h

once_other : (kind other : PairKind) (reported : List PairFinding) (p : Pair) → same_kind kind other ≡ false → count_of kind reported ≤ 1 → count_of kind (with_kind other reported p) ≤ 1
once_other kind other reported p e h = by (not (is_reported other reported) && is_of_kind other p)
  where
    none : count_of kind (finding other p ∷ []) ≡ 0
    none = ap (λ (b : Bool). length (cond b (finding other p ∷ []) [])) e

    by : (b : Bool) → count_of kind (cond b (reported ++ finding other p ∷ []) reported) ≤ 1
    by true = let whole = count_after kind reported (finding other p ∷ []) in omega (arith, h, whole, none)
    by false = h

once_more : (kind : PairKind) (reported : List PairFinding) (p : Pair) → count_of kind reported ≤ 1 → count_of kind (with_pair reported p) ≤ 1
once_more Same reported p h = once_other Same Against (with_kind Same reported p) p refl (once_same Same reported p refl h)
once_more Against reported p h = once_same Against (with_kind Same reported p) p refl (once_other Against Same reported p refl h)

once_after : (kind : PairKind) (reported : List PairFinding) (pairs : List Pair) → count_of kind reported ≤ 1 → count_of kind (reported_for reported pairs) ≤ 1
once_after kind reported [] h = h
once_after kind reported (p ∷ pairs) h = once_after kind (with_pair reported p) pairs (once_more kind reported p h)

-- each kind is reported once at most
pub reported_once : (kind : PairKind) (pairs : List Pair) → count_of kind (reported_for [] pairs) ≤ 1
reported_once kind pairs = once_after kind [] pairs (omega arith)
