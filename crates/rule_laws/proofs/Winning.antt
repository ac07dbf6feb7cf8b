-- The files kept are the first of least rank of their names, and each name is kept.
use Rattle.std.proofs.Common.{◌≡◌, ℕ, suc, ◌<◌, ◌≤◌, ◌⊎◌, inl, inr, Bool, true, false, List, [], ◌∷◌, ◌++◌, All, fold, cond, ltb, get_or, refl, ap, sym, subst, ◌∙◌, arith, append_assoc}
use Rattle.std.specs.List.{AllByRecursion, Any}
use Rattle.std.specs.Ordering.{ordering_reverse}
use Rattle.std.specs.declared.cmp.Ordering.{Ordering}
use Rattle.std.specs.declared.cmp.Ordering.TheVariants.{Less, Equal, Greater}
use Rattle.std.proofs.lemmas.Cmp.{nat_list_cmp_total}
use Rattle.std.proofs.lemmas.Grind.{common_steps}
use Rattle.std.proofs.lemmas.List.{append-nil}
use Rattle.std.proofs.lemmas.List.Elements.{All-nil, All-cons, All-append}
use Rattle.std.proofs.lemmas.Map.Lookups.{exact_bytes}
use Rattle.text_bytes.specs.FileOrder.{put}
use Rattle.text_bytes.specs.OrderLaws.{IsFirstOfLeastRank, NamesRise}
use Rattle.text_bytes.specs.declared.source_file.SourceFile.{SourceFile}
use Rattle.text_bytes.proofs.Placing.{order, placed, Above, rises_after, put-rises, winner-name, above_further}

-- a file of this name is there
abbrev pub HasName : List ℕ → List SourceFile → Type 0
HasName name [] = ⊥
HasName name (x ∷ xs) = (x.name ≡ name) ⊎ HasName name xs

differ : (a b : List ℕ) → order a b ≡ Less → a ≡ b → ⊥
differ a b l e =
    let same : order a a ≡ Less = ap (order a) e ∙ l in
    let both : Less ≡ Greater = sym same ∙ nat_list_cmp_total.antisymm a a ∙ ap ordering_reverse same in
    cc both

not_above : (name : List ℕ) (xs : List SourceFile) → Above name xs → HasName name xs → ⊥
not_above name [] a h = h
not_above name (x ∷ xs) a (inl e) = differ name x.name a.0 (sym e)
not_above name (x ∷ xs) a (inr h) = not_above name xs a.1 h

-- a further file that does not win over y
still : (files : List SourceFile) (e y : SourceFile) → IsFirstOfLeastRank files y → (e.name ≡ y.name → y.rank ≤ e.rank) → IsFirstOfLeastRank (files ++ e ∷ []) y
still files e y f h =
    let P : SourceFile → Type 0 = λ g. g.name ≡ y.name → y.rank ≤ g.rank in
    record {
      before = f.before;
      following = f.following ++ e ∷ [];
      is_present = ap (λ (l : List SourceFile). l ++ e ∷ []) f.is_present ∙ append_assoc f.before (y ∷ f.following) (e ∷ []);
      greater = f.greater;
      no_less = All-append P f.following (e ∷ []) f.no_less (All-cons P e [] h (All-nil P));
    }

-- a further file that wins over all of its name
wins : (files : List SourceFile) (e : SourceFile) → All (λ g. g.name ≡ e.name → e.rank < g.rank) files → IsFirstOfLeastRank (files ++ e ∷ []) e
wins files e h = record { before = files; following = []; is_present = refl; greater = h; no_less = All-nil (λ g. g.name ≡ e.name → e.rank ≤ g.rank) }

least_of_all : (files : List SourceFile) (x : SourceFile) → IsFirstOfLeastRank files x → All (λ g. g.name ≡ x.name → x.rank ≤ g.rank) files
least_of_all files x f =
    let P : SourceFile → Type 0 = λ g. g.name ≡ x.name → x.rank ≤ g.rank in
    let here : P x = λ s. omega arith in
    let prefix : All P f.before = λ k d l s. let less : x.rank < (get_or f.before k d).rank = f.greater k d l s in omega arith in
    subst (λ l. All P l) (sym f.is_present) (All-append P f.before (x ∷ f.following) prefix (All-cons P x f.following here f.no_less))

stay_above : (files : List SourceFile) (e : SourceFile) (xs : List SourceFile) → Above e.name xs → AllByRecursion (IsFirstOfLeastRank files) xs → AllByRecursion (IsFirstOfLeastRank (files ++ e ∷ [])) xs
stay_above files e [] a h = tt
stay_above files e (x ∷ xs) a h = (still files e x h.0 (λ s. absurd (differ e.name x.name a.0 s)), stay_above files e xs a.1 h.1)

by_rank : (files : List SourceFile) (x e : SourceFile) (less : Bool) → ltb e.rank x.rank ≡ less → x.name ≡ e.name → IsFirstOfLeastRank files x → IsFirstOfLeastRank (files ++ e ∷ []) (cond less e x)
by_rank files x e true is same f =
    let less : e.rank < x.rank = grind (arith, common_steps, is) in
    wins files e (λ k d l s. let up : x.rank ≤ (get_or files k d).rank = least_of_all files x f k d l (s ∙ sym same) in omega arith)
by_rank files x e false is same f = let up : x.rank ≤ e.rank = grind (arith, common_steps, is) in still files e x f (λ s. up)

by_order : (files : List SourceFile) (x : SourceFile) (xs : List SourceFile) (e : SourceFile) (o : Ordering) → order x.name e.name ≡ o
    → AllByRecursion (IsFirstOfLeastRank files) (x ∷ xs) → NamesRise (x ∷ xs) → All (λ g. g.name ≡ e.name → HasName e.name (x ∷ xs)) files
    → (All (λ g. g.name ≡ e.name → HasName e.name xs) files → AllByRecursion (IsFirstOfLeastRank (files ++ e ∷ [])) (put xs e))
    → AllByRecursion (IsFirstOfLeastRank (files ++ e ∷ [])) (placed o e x xs (put xs e))
by_order files x xs e Less is h r has following =
    let other : (x.name ≡ e.name) ⊎ HasName e.name xs → HasName e.name xs = λ a. elim a [ inl s ↦ absurd (differ x.name e.name is s) | inr later ↦ later ] in
    (still files e x h.0 (λ s. absurd (differ x.name e.name is (sym s))), following (λ k d l s. other (has k d l s)))
by_order files x xs e Equal is h r has following =
    let same : x.name ≡ e.name = exact_bytes x.name e.name is in
    let above : Above e.name xs = subst (λ n. Above n xs) same (rises_after x xs r).0 in
    (by_rank files x e (ltb e.rank x.rank) refl same h.0, stay_above files e xs above h.1)
by_order files x xs e Greater is h r has following =
    let less : order e.name x.name ≡ Less = nat_list_cmp_total.antisymm e.name x.name ∙ ap ordering_reverse is in
    let above : Above e.name (x ∷ xs) = (less, above_further e.name x.name xs less (rises_after x xs r).0) in
    (wins files e (λ k d l s. absurd (not_above e.name (x ∷ xs) above (has k d l s))), stay_above files e (x ∷ xs) above h)

put_wins_all : (files : List SourceFile) (xs : List SourceFile) (e : SourceFile) → AllByRecursion (IsFirstOfLeastRank files) xs → NamesRise xs → All (λ g. g.name ≡ e.name → HasName e.name xs) files
    → AllByRecursion (IsFirstOfLeastRank (files ++ e ∷ [])) (put xs e)
put_wins_all files [] e h r has = (wins files e (λ k d l s. absurd (has k d l s)), tt)
put_wins_all files (x ∷ xs) e h r has = by_order files x xs e (order x.name e.name) refl h r has (put_wins_all files xs e h.1 (rises_after x xs r).1)

names_by_order : (name : List ℕ) (x : SourceFile) (xs : List SourceFile) (e : SourceFile) (o : Ordering) → order x.name e.name ≡ o → HasName name (x ∷ xs) → (HasName name xs → HasName name (put xs e)) → HasName name (placed o e x xs (put xs e))
names_by_order name x xs e Less is (inl s) later = inl s
names_by_order name x xs e Less is (inr h) later = inr (later h)
names_by_order name x xs e Equal is (inl s) later = inl (winner-name x e (ltb e.rank x.rank) (exact_bytes x.name e.name is) ∙ s)
names_by_order name x xs e Equal is (inr h) later = inr h
names_by_order name x xs e Greater is h later = inr h

-- no name is lost
put_names : (name : List ℕ) (xs : List SourceFile) (e : SourceFile) → HasName name xs → HasName name (put xs e)
put_names name [] e h = absurd h
put_names name (x ∷ xs) e h = names_by_order name x xs e (order x.name e.name) refl h (put_names name xs e)

own_by_order : (x : SourceFile) (xs : List SourceFile) (e : SourceFile) (o : Ordering) → order x.name e.name ≡ o → HasName e.name (put xs e) → HasName e.name (placed o e x xs (put xs e))
own_by_order x xs e Less is later = inr later
own_by_order x xs e Equal is later = inl (winner-name x e (ltb e.rank x.rank) (exact_bytes x.name e.name is) ∙ exact_bytes x.name e.name is)
own_by_order x xs e Greater is later = inl refl

-- the file's name is there
put_own : (xs : List SourceFile) (e : SourceFile) → HasName e.name (put xs e)
put_own [] e = inl refl
put_own (x ∷ xs) e = own_by_order x xs e (order x.name e.name) refl (put_own xs e)

-- of these files those are kept
pub record Keeps (files kept : List SourceFile) : Type 0 where
  pub rise : NamesRise kept
  pub first : AllByRecursion (IsFirstOfLeastRank files) kept
  pub there : All (λ g. HasName g.name kept) files

keeps_more : (files kept : List SourceFile) (e : SourceFile) → Keeps files kept → Keeps (files ++ e ∷ []) (put kept e)
keeps_more files kept e h =
    let P : SourceFile → Type 0 = λ g. HasName g.name (put kept e) in
    let old : All P files = λ k d l. put_names (get_or files k d).name kept e (h.there k d l) in
    record {
      rise = put-rises kept e h.rise;
      first = put_wins_all files kept e h.first h.rise (λ k d l s. subst (λ n. HasName n kept) s (h.there k d l));
      there = All-append P files (e ∷ []) old (All-cons P e [] (put_own kept e) (All-nil P));
    }

pub keeps_all : (files later kept : List SourceFile) → Keeps files kept → Keeps (files ++ later) (fold put kept later)
keeps_all files [] kept h = subst (λ l. Keeps l kept) (sym (append-nil files)) h
keeps_all files (e ∷ later) kept h = subst (λ l. Keeps l (fold put (put kept e) later)) (append_assoc files (e ∷ []) later) (keeps_all (files ++ e ∷ []) later (put kept e) (keeps_more files kept e h))

pub all_of : (P : SourceFile → Type 0) (xs : List SourceFile) → AllByRecursion P xs → All P xs
all_of P [] h = All-nil P
all_of P (x ∷ xs) h = All-cons P x xs h.0 (all_of P xs h.1)

pub any_of : (name : List ℕ) (xs : List SourceFile) → HasName name xs → Any (λ f. f.name ≡ name) xs
any_of name [] h = absurd h
any_of name (x ∷ xs) (inl s) = (0, x, omega arith, refl, s)
any_of name (x ∷ xs) (inr h) = let r = any_of name xs h in (suc r.0, r.1, omega (arith, r.2), r.3, r.4)
