-- Fingerprints differ, and stay.
use Rattle.std.proofs.Common.{◌≡◌, ℕ, zero, suc, ◌+◌, ◌^◌, ◌<◌, ◌≤◌, Bool, true, false, eqb, cond, List, [], ◌∷◌, ◌++◌, decimal, length, map, refl, ap, ap₂, sym, ◌∙◌, arith, append_assoc, append-nil, length-append, zero-add, take, get_or, subst}
use Rattle.std.specs.List.{AllByRecursion, IsDistinct, list_any}
use Rattle.std.proofs.lemmas.Bool.{eq-eqb, lt-ltb, ne_eqb}
use Rattle.std.proofs.lemmas.Fmt.{decimal_injective}
use Rattle.std.proofs.lemmas.List.{get_or-map, length-map, map-append, take-map, take_more}
use Rattle.std.proofs.lemmas.List.Sums.{count_by-le-length}
use Rattle.text_bytes.specs.Names.{colon}
use Rattle.text_bytes.specs.Text.{Text}
use Rattle.text_tables.specs.Texts.{AreOnce, is_among, same_text}
use Rattle.text_tables.specs.Pairs.{with_value}
use Rattle.text_tables.specs.Surplus.{times}
use Rattle.text_tables.specs.Tallies.{Tallies, left_of}
use Rattle.text_tables.proofs.Counting.{among_some, are_same, is_same, one_if, times-append, times-cons, times-push}
use Rattle.text_tables.proofs.Tallying.{tally_item}
use Rattle.engine_formats.specs.Diagnostics.{DiagnosticValue}
use Rattle.engine_formats.specs.Fingerprints.{FingerprintedValue, fingerprint_after, fingerprinted, fingerprinted_after, fingerprints, mark_of}
use Rattle.engine_formats.proofs.OneLine.{Lacks, decimal_lacks, or_parts}

not_colon : (b : ℕ) (text : List ℕ) → Lacks colon (b ∷ text) → b ≡ colon → ⊥
not_colon b text h e =
    let parts = or_parts (eqb b colon) (list_any (λ x. eqb x colon) text) h in
    let same : eqb b colon ≡ true = eq-eqb b colon e in
    cc

-- two texts without a colon, each with a colon after it
pub in_two : (a c r s : List ℕ) → Lacks colon a → Lacks colon c → a ++ colon ∷ r ≡ c ++ colon ∷ s → (a ≡ c) × (r ≡ s)
in_two [] [] r s p q e = (refl, cc)
in_two [] (b ∷ c) r s p q e = let same : b ≡ colon = cc in absurd (not_colon b c q same)
in_two (b ∷ a) [] r s p q e = let same : b ≡ colon = cc in absurd (not_colon b a p same)
in_two (b ∷ a) (x ∷ c) r s p q e =
    let first : b ≡ x = cc in
    let others : a ++ colon ∷ r ≡ c ++ colon ∷ s = cc in
    let rest = in_two a c r s (or_parts (eqb b colon) (list_any (λ y. eqb y colon) a) p).1 (or_parts (eqb x colon) (list_any (λ y. eqb y colon) c) q).1 others in
    ((λ i. first i ∷ rest.0 i), rest.1)

pub number_lacks : (n : ℕ) → n < 2 ^ 64 → Lacks colon (decimal n)
number_lacks n h = decimal_lacks colon (λ d small. ne_eqb (48 + d) colon (λ e. omega arith)) n (omega arith)

-- the count and the mark of a fingerprint are known from it
parted : (m n : ℕ) (one other : Text) → m < 2 ^ 64 → n < 2 ^ 64 → decimal m ++ colon ∷ one ≡ decimal n ++ colon ∷ other → (m ≡ n) × (one ≡ other)
parted m n one other h k e =
    let parts = in_two (decimal m) (decimal n) one other (number_lacks m h) (number_lacks n k) e in
    (decimal_injective m n h k parts.0, parts.1)

-- which of the equal marks a diagnostic has
abbrev count_after : List Text → Text → ℕ
count_after before mark = suc (times mark before)

-- a later fingerprint is another one: of the same mark more come before it
later : (before seen : List Text) (one other : Text) → times one before < times one seen → count_after before one < 2 ^ 64 → count_after seen other < 2 ^ 64
    → same_text (fingerprint_after before one) (fingerprint_after seen other) ≡ false
later before seen one other more h k = by (same_text (fingerprint_after before one) (fingerprint_after seen other)) refl
  where
    by : (b : Bool) → same_text (fingerprint_after before one) (fingerprint_after seen other) ≡ b → b ≡ false
    by true e =
        let parts = parted (count_after before one) (count_after seen other) one other h k (is_same _ _ e) in
        let same : times other seen ≡ times one seen = ap (λ (t : Text). times t seen) (sym parts.1) in
        absurd (omega (arith, parts.0, same, more))
    by false e = refl

-- no later one of these is the same
apart : (before seen : List Text) (one : Text) (ds : List DiagnosticValue) → times one before < times one seen → length seen + length ds < 2 ^ 64 → count_after before one < 2 ^ 64
    → AllByRecursion (λ (text : Text). same_text (fingerprint_after before one) text ≡ false) (map (λ f. f.fingerprint) (fingerprinted_after seen ds))
apart before seen one [] more few h = tt
apart before seen one (d ∷ ds) more few h = (
  later before seen one (mark_of d) more h (omega (arith, few, count_by-le-length (same_text (mark_of d)) seen)),
  apart before (seen ++ mark_of d ∷ []) one ds (omega (arith, more, times-push one (mark_of d) seen)) (omega (arith, few, length-append seen (mark_of d ∷ []))) h,
)

pub once_after : (before : List Text) (ds : List DiagnosticValue) → length before + length ds < 2 ^ 64 → AreOnce (map (λ f. f.fingerprint) (fingerprinted_after before ds))
unfolding IsDistinct
once_after before [] few = tt
once_after before (d ∷ ds) few =
    let own : times (mark_of d) (mark_of d ∷ []) ≡ 1 = times-cons (mark_of d) (mark_of d) [] ∙ ap (λ b. one_if b + 0) (are_same (mark_of d)) in
    let more : times (mark_of d) before < times (mark_of d) (before ++ mark_of d ∷ []) = omega (arith, own, times-append (mark_of d) before (mark_of d ∷ [])) in
    let room : count_after before (mark_of d) < 2 ^ 64 = omega (arith, few, count_by-le-length (same_text (mark_of d)) before) in
    let size : length (before ++ mark_of d ∷ []) + length ds < 2 ^ 64 = omega (arith, few, length-append before (mark_of d ∷ [])) in
    (apart before (before ++ mark_of d ∷ []) (mark_of d) ds more size room, once_after (before ++ mark_of d ∷ []) ds size)

-- fingerprints come from the marks alone
pub by_marks : (before : List Text) (old new : List DiagnosticValue) → map mark_of old ≡ map mark_of new
    → map (λ f. f.fingerprint) (fingerprinted_after before old) ≡ map (λ f. f.fingerprint) (fingerprinted_after before new)
by_marks before [] [] e = refl
by_marks before [] (n ∷ new) e = absurd (cc)
by_marks before (o ∷ old) [] e = absurd (cc)
by_marks before (o ∷ old) (n ∷ new) e =
    let first : mark_of o ≡ mark_of n = cc in
    let others : map mark_of old ≡ map mark_of new = cc in
    ap (λ (m : Text). fingerprint_after before m ∷ map (λ f. f.fingerprint) (fingerprinted_after (before ++ m ∷ []) old)) first
    ∙ ap (λ (fs : List Text). fingerprint_after before (mark_of n) ∷ fs) (by_marks (before ++ mark_of n ∷ []) old new others)

-- none of these marks is there
none_there : (marks : List Text) (mark : Text) → is_among marks mark ≡ false → times mark marks ≡ 0
none_there marks mark h = by (times mark marks) refl
  where
    by : (n : ℕ) → times mark marks ≡ n → n ≡ 0
    by zero e = refl
    by (suc n) e =
        let some : is_among marks mark ≡ true = among_some marks mark ∙ lt-ltb 0 (times mark marks) (omega (arith, e)) in
        absurd (cc)

-- what comes before and has none of the marks changes no fingerprint
pub unmoved : (others past : List Text) (ds : List DiagnosticValue) → AllByRecursion (λ (d : DiagnosticValue). is_among others (mark_of d) ≡ false) ds
    → map (λ f. f.fingerprint) (fingerprinted_after (others ++ past) ds) ≡ map (λ f. f.fingerprint) (fingerprinted_after past ds)
unmoved others past [] h = refl
unmoved others past (d ∷ ds) h =
    let none : times (mark_of d) (others ++ past) ≡ times (mark_of d) past = times-append (mark_of d) others past ∙ ap (λ n. n + times (mark_of d) past) (none_there others (mark_of d) h.0) ∙ zero-add (times (mark_of d) past) in
    ap (λ (n : ℕ). (decimal (suc n) ++ colon ∷ mark_of d) ∷ map (λ f. f.fingerprint) (fingerprinted_after ((others ++ past) ++ mark_of d ∷ []) ds)) none
    ∙ ap (λ (marks : List Text). fingerprint_after past (mark_of d) ∷ map (λ f. f.fingerprint) (fingerprinted_after marks ds)) (append_assoc others past (mark_of d ∷ []))
    ∙ ap (λ (fs : List Text). fingerprint_after past (mark_of d) ∷ fs) (unmoved others (past ++ mark_of d ∷ []) ds h.1)

-- diagnostics one after another
pub fingerprinted-append : (before : List Text) (first second : List DiagnosticValue)
    → fingerprinted_after before (first ++ second) ≡ fingerprinted_after before first ++ fingerprinted_after (before ++ map mark_of first) second
fingerprinted-append before [] second = ap (λ (marks : List Text). fingerprinted_after marks second) (sym (append-nil before))
fingerprinted-append before (d ∷ first) second =
    ap (λ (fs : List FingerprintedValue). record { diagnostic = d; fingerprint = fingerprint_after before (mark_of d) } ∷ fs)
    (fingerprinted-append (before ++ mark_of d ∷ []) first second
    ∙ ap (λ (marks : List Text). fingerprinted_after (before ++ mark_of d ∷ []) first ++ fingerprinted_after marks second) (append_assoc before (mark_of d ∷ []) (map mark_of first)))

pub stay : (before ds : List DiagnosticValue) → AllByRecursion (λ (d : DiagnosticValue). is_among (map mark_of before) (mark_of d) ≡ false) ds
    → fingerprints (before ++ ds) ≡ fingerprints before ++ fingerprints ds
stay before ds h =
    ap (map (λ f. f.fingerprint)) (fingerprinted-append [] before ds) ∙ map-append (λ f. f.fingerprint) (fingerprinted_after [] before) (fingerprinted_after (map mark_of before) ds)
    ∙ ap (λ (fs : List Text). fingerprints before ++ fs)
    (ap (λ (marks : List Text). map (λ f. f.fingerprint) (fingerprinted_after marks ds)) (sym (append-nil (map mark_of before))) ∙ unmoved (map mark_of before) [] ds h)

-- one mark more is counted
pub counted_item : {S : Type 0} (f : S → Text) (tally next : List (Text × ℕ)) (marks : List S) (at : ℕ) (item : S) (text : Text) → Tallies tally (map f (take at marks)) → at < length marks
    → text ≡ f (get_or marks at item) → next ≡ with_value tally text (left_of tally text + 1) → Tallies next (map f (take (at + 1) marks))
counted_item f tally next marks at item text t h e n =
    tally_item f tally next marks at item (left_of tally (f (get_or marks at item))) t h refl (n ∙ ap (λ (m : Text). with_value tally m (left_of tally m + 1)) e)

pub same_length : {S D : Type 0} (f : S → Text) (g : D → DiagnosticValue) (marks : List S) (ds : List D) → map f marks ≡ map mark_of (map g ds) → length marks ≡ length ds
same_length f g marks ds e = sym (length-map marks f) ∙ ap length e ∙ length-map (map g ds) mark_of ∙ length-map ds g

-- a mark is that of the diagnostic at its place
mark_at : {S D : Type 0} (f : S → Text) (g : D → DiagnosticValue) (marks : List S) (ds : List D) (at : ℕ) (item : S) (d : D) → map f marks ≡ map mark_of (map g ds) → at < length ds
    → f (get_or marks at item) ≡ mark_of (g (get_or ds at d))
mark_at f g marks ds at item d e h =
    let within : at < length marks = omega (arith, h, same_length f g marks ds e) in
    let inside : at < length (map g ds) = omega (arith, h, length-map ds g) in
    sym (get_or-map f marks at item [] within) ∙ ap (λ (texts : List Text). get_or texts at []) e
    ∙ get_or-map mark_of (map g ds) at (g d) [] inside ∙ ap mark_of (get_or-map g ds at d (g d) h)

-- as many marks are counted as there are among the diagnostics so far
counted_so_far : {S D : Type 0} (f : S → Text) (g : D → DiagnosticValue) (tally : List (Text × ℕ)) (marks : List S) (ds : List D) (at : ℕ) (text : Text)
    → Tallies tally (map f (take at marks)) → map f marks ≡ map mark_of (map g ds) → left_of tally text ≡ times text (map mark_of (map g (take at ds)))
counted_so_far f g tally marks ds at text t e =
    t text ∙ ap (times text)
    (sym (take-map f at marks) ∙ ap (take at) e ∙ take-map mark_of at (map g ds) ∙ ap (map mark_of) (take-map g at ds))

-- one diagnostic more has its fingerprint
pub given_item : {S D : Type 0} (f : S → Text) (g : D → DiagnosticValue) (tally : List (Text × ℕ)) (marks : List S) (ds : List D) (given more : List FingerprintedValue) (at : ℕ) (item : S) (d : D) (text : Text)
    → Tallies tally (map f (take at marks)) → map f marks ≡ map mark_of (map g ds) → at < length ds → text ≡ f (get_or marks at item)
    → given ≡ fingerprinted (map g (take at ds))
    → more ≡ given ++ record { diagnostic = g (get_or ds at d); fingerprint = decimal (left_of tally text + 1) ++ colon ∷ text } ∷ []
    → more ≡ fingerprinted (map g (take (at + 1) ds))
given_item {D = D} f g tally marks ds given more at item d text t e h is so_far pushed =
    let last : D = get_or ds at d in
    let mark : text ≡ mark_of (g last) = is ∙ mark_at f g marks ds at item d e h in
    let count : left_of tally text + 1 ≡ suc (times text (map mark_of (map g (take at ds)))) = omega (arith, counted_so_far f g tally marks ds at text t e) in
    let own : decimal (left_of tally text + 1) ++ colon ∷ text ≡ fingerprint_after (map mark_of (map g (take at ds))) (mark_of (g last)) =
    ap (λ (n : ℕ). decimal n ++ colon ∷ text) count ∙ ap (λ (m : Text). fingerprint_after (map mark_of (map g (take at ds))) m) mark in
    pushed
    ∙ ap (λ (fs : List FingerprintedValue). fs ++ record { diagnostic = g last; fingerprint = decimal (left_of tally text + 1) ++ colon ∷ text } ∷ []) so_far
    ∙ ap (λ (print : Text). fingerprinted (map g (take at ds)) ++ record { diagnostic = g last; fingerprint = print } ∷ []) own
    ∙ sym (fingerprinted-append [] (map g (take at ds)) (g last ∷ []))
    ∙ ap fingerprinted (sym (map-append g (take at ds) (last ∷ [])) ∙ ap (map g) (sym (take_more ds at d h)))
