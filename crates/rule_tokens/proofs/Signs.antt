-- Names at the front of a text: the first row that fits is the longest name that does.
use Rattle.std.proofs.Common.{◌≡◌, ◌≢◌, ℕ, ◌≤◌, ◌⊎◌, inl, inr, Bool, true, false, cond, not, ◌&&◌, List, [], ◌∷◌, ◌++◌, length, drop, get_or, Option, Some, None, MatchOption, nat_eq, nat_le, refl, sym, ◌∙◌, ap, subst, arith}
use Rattle.std.specs.List.{list_all, starts_with}
use Rattle.std.proofs.lemmas.Bool.{true≢false, and_parts}
use Rattle.std.proofs.lemmas.Bool.Decides.{Decides-eqb, nat_tests}
use Rattle.std.proofs.lemmas.List.{drop_at}
use Rattle.std.proofs.lemmas.Slice.Eq.{starts_is}
use Rattle.rule_tokens.specs.TemplateGrammar.{HasName, IsName}
use Rattle.rule_tokens.specs.Names.{named}
use Rattle.rule_tokens.specs.declared.names.Substitution.{Substitution}

abbrev pub Rows : Type 0
Rows = List (List ℕ × Substitution)

-- a name at the front of a text
pub begins : (text n : List ℕ) → starts_with nat_eq text n ≡ true → text ≡ n ++ drop (length n) text
begins text n h = (starts_is Decides-eqb text n _ refl).0 h

begins_true : (text n rest : List ℕ) → text ≡ n ++ rest → starts_with nat_eq text n ≡ true
begins_true text n rest e = (starts_is Decides-eqb text n _ refl).1 rest e

begins_not : (text n rest : List ℕ) → starts_with nat_eq text n ≡ false → text ≢ n ++ rest
begins_not text n rest h e = true≢false (sym (begins_true text n rest e) ∙ h)

-- of two names at the front of a text the shorter one begins the other
shorter_begins : (n m rest following : List ℕ) → n ++ rest ≡ m ++ following → length m ≤ length n → n ≡ m ++ drop (length m) n
shorter_begins n [] rest following e h = refl
shorter_begins [] (c ∷ m) rest following e h = absurd (omega arith)
shorter_begins (b ∷ n) (c ∷ m) rest following e h =
    let first : b ≡ c = ap (λ (l : List ℕ). get_or l 0 0) e in
    let others : n ++ rest ≡ m ++ following = ap (λ (l : List ℕ). drop 1 l) e in
    ap (λ (d : ℕ). d ∷ n) first ∙ ap (λ (l : List ℕ). c ∷ l) (shorter_begins n m rest following others (omega arith))

-- a table in which no name begins a name below it
abbrev pub is_ordered : Rows → Bool
is_ordered [] = true
is_ordered (row ∷ rows) = list_all (λ (below : List ℕ × Substitution). not (starts_with nat_eq below.0 row.0)) rows && is_ordered rows

not_true : (b : Bool) → not b ≡ true → b ≡ false
not_true true h = sym h
not_true false h = refl

below_apart : (row : List ℕ × Substitution) (rows : Rows) (n : List ℕ) (s : Substitution) → list_all (λ (below : List ℕ × Substitution). not (starts_with nat_eq below.0 row.0)) rows ≡ true
    → HasName rows n s → starts_with nat_eq n row.0 ≡ false
below_apart row [] n s h has = absurd has
below_apart row (other ∷ rows) n s h has = by_place has (and_parts (not (starts_with nat_eq other.0 row.0)) _ h) (λ rest there. below_apart row rows n s rest there) where
  by_place : ((other.0 ≡ n) × (other.1 ≡ s)) ⊎ HasName rows n s
      → (not (starts_with nat_eq other.0 row.0) ≡ true) × (list_all (λ (below : List ℕ × Substitution). not (starts_with nat_eq below.0 row.0)) rows ≡ true)
      → (list_all (λ (below : List ℕ × Substitution). not (starts_with nat_eq below.0 row.0)) rows ≡ true → HasName rows n s → starts_with nat_eq n row.0 ≡ false) → starts_with nat_eq n row.0 ≡ false
  by_place (inl here) parts later = subst (λ (m : List ℕ). starts_with nat_eq m row.0 ≡ false) here.0 (not_true (starts_with nat_eq other.0 row.0) parts.0)
  by_place (inr there) parts later = later parts.1 there

-- so a name below that fits too is no longer
below_no_longer : (row : List ℕ × Substitution) (n rest following : List ℕ) → starts_with nat_eq n row.0 ≡ false → row.0 ++ following ≡ n ++ rest → length n ≤ length row.0
below_no_longer row n rest following apart e = by_size (nat_le (length row.0) (length n)) refl where
  by_size : (b : Bool) → nat_le (length row.0) (length n) ≡ b → length n ≤ length row.0
  by_size true h =
      let fits : length row.0 ≤ length n = grind (arith, nat_tests) in
      absurd (begins_not n row.0 (drop (length row.0) n) apart (shorter_begins n row.0 rest following (sym e) fits))
  by_size false h = grind (arith, nat_tests)

-- what is found: the longest name that fits, or that none does
abbrev pub NameWell : Rows → List ℕ → Option (Substitution × List ℕ) → Type 0
NameWell rows t o = MatchOption o
    ((n : List ℕ) (s : Substitution) (rest : List ℕ) → HasName rows n s → t ≢ n ++ rest)
    (λ x. (n : List ℕ) × (t ≡ n ++ x.1) × IsName rows n x.0 x.1)

well_by : (row : List ℕ × Substitution) (rows : Rows) (t : List ℕ) → is_ordered (row ∷ rows) ≡ true → (o : Option (Substitution × List ℕ)) → NameWell rows t o
    → (b : Bool) → starts_with nat_eq t row.0 ≡ b → NameWell (row ∷ rows) t (cond b (Some (row.1, drop (length row.0) t)) o)
well_by row rows t order o h true e =
    let parts = begins t row.0 e in (
      row.0,
      parts,
      record {
        in_table = inl (refl, refl);
        longest = λ m following other has is. by_place m following other has is;
      },
    )
  where
    by_place : (m following : List ℕ) (other : Substitution) → ((row.0 ≡ m) × (row.1 ≡ other)) ⊎ HasName rows m other → row.0 ++ drop (length row.0) t ≡ m ++ following → length m ≤ length row.0
    by_place m following other (inl here) is = let same : length row.0 ≡ length m = ap (λ (l : List ℕ). length l) here.0 in omega arith
    by_place m following other (inr there) is = below_no_longer row m following (drop (length row.0) t) (below_apart row rows m other (and_parts _ (is_ordered rows) order).0 there) is
well_by row rows t order None h false e = λ n s rest has. by_place n s rest has where
  by_place : (n : List ℕ) (s : Substitution) (rest : List ℕ) → ((row.0 ≡ n) × (row.1 ≡ s)) ⊎ HasName rows n s → t ≢ n ++ rest
  by_place n s rest (inl here) = subst (λ (m : List ℕ). t ≢ m ++ rest) here.0 (begins_not t row.0 rest e)
  by_place n s rest (inr there) = h n s rest there
well_by row rows t order (Some x) h false e = (h.0, h.1, record { in_table = inr h.2.in_table; longest = λ m following other has is. by_place m following other has is }) where
  by_place : (m following : List ℕ) (other : Substitution) → ((row.0 ≡ m) × (row.1 ≡ other)) ⊎ HasName rows m other → h.0 ++ x.1 ≡ m ++ following → length m ≤ length h.0
  by_place m following other (inl here) is = absurd (subst (λ (k : List ℕ). t ≢ k ++ following) here.0 (begins_not t row.0 following e) (h.1 ∙ is))
  by_place m following other (inr there) is = h.2.longest m following other there is

pub named_well : (rows : Rows) (t : List ℕ) → is_ordered rows ≡ true → NameWell rows t (named rows t)
named_well [] t order = λ n s rest has. absurd has
named_well (row ∷ rows) t order =
    well_by row rows t order (named rows t) (named_well rows t (and_parts _ (is_ordered rows) order).1) (starts_with nat_eq t row.0) refl

-- the longest name that fits is found again
again_by : (row : List ℕ × Substitution) (rows : Rows) (n : List ℕ) (s : Substitution) (rest : List ℕ) → is_ordered (row ∷ rows) ≡ true → IsName (row ∷ rows) n s rest
    → (IsName rows n s rest → named rows (n ++ rest) ≡ Some (s, rest)) → (b : Bool) → starts_with nat_eq (n ++ rest) row.0 ≡ b
    → ((row.0 ≡ n) × (row.1 ≡ s)) ⊎ HasName rows n s → cond b (Some (row.1, drop (length row.0) (n ++ rest))) (named rows (n ++ rest)) ≡ Some (s, rest)
again_by row rows n s rest order is later true e (inl here) =
    let left : drop (length row.0) (n ++ rest) ≡ rest = drop_at n rest (length row.0) (sym (ap (λ (l : List ℕ). length l) here.0)) in
    rw left (ap (λ (k : Substitution). Some (k, rest)) here.1)
again_by row rows n s rest order is later true e (inr there) =
    let parts = begins (n ++ rest) row.0 e in
    let less : length row.0 ≤ length n = is.longest row.0 (drop (length row.0) (n ++ rest)) row.1 (inl (refl, refl)) parts in
    let whole : n ≡ row.0 ++ drop (length row.0) n = shorter_begins n row.0 rest (drop (length row.0) (n ++ rest)) parts less in
    absurd (begins_not n row.0 (drop (length row.0) n) (below_apart row rows n s (and_parts _ (is_ordered rows) order).0 there) whole)
again_by row rows n s rest order is later false e (inl here) =
    absurd (subst (λ (k : List ℕ). n ++ rest ≢ k ++ rest) here.0 (begins_not (n ++ rest) row.0 rest e) refl)
again_by row rows n s rest order is later false e (inr there) =
    later (record { in_table = there; longest = λ m following other has same. is.longest m following other (inr has) same })

pub named_again : (rows : Rows) (n : List ℕ) (s : Substitution) (rest : List ℕ) → is_ordered rows ≡ true → IsName rows n s rest → named rows (n ++ rest) ≡ Some (s, rest)
named_again [] n s rest order is = absurd is.in_table
named_again (row ∷ rows) n s rest order is =
    again_by row rows n s rest order is (named_again rows n s rest (and_parts _ (is_ordered rows) order).1) (starts_with nat_eq (n ++ rest) row.0) refl is.in_table
