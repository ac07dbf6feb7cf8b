-- What is kept of items says where they come from.
use Rattle.std.proofs.Common.{◌≡◌, Bool, true, false, ◌||◌, List, [], ◌∷◌, ◌++◌, Option, Some, None, option_map, is_some, unwrap_or, cond, fold, refl, ap, sym, ◌∙◌}
use Rattle.std.specs.Option.{option_or}
use Rattle.std.specs.Cmp.Lexicographic.{bytes_decides}
use Rattle.text_bytes.specs.Text.{Text}
use Rattle.text_tables.specs.Texts.{is_among, same_text}
use Rattle.text_tables.specs.Pairs.{Pair, value_of, with_value}
use Rattle.text_tables.proofs.Found.{value_set}
use Rattle.eval_sources.specs.Inner.{Keeps, Proceeds, kept_after, kept_of, updated, updated_one, with_first}
use Rattle.eval_sources.specs.Sources.{Held, Kept, Reports, Source, Stage, kept_in, source_by, source_in, source_of}
use Rattle.eval_sources.specs.Touched.{found}
use Rattle.eval_effects.specs.Items.{is_present, is_value}
use Rattle.eval_sources.proofs.Placement.{source_more, source_none}

is_same : (a b : Text) → same_text a b ≡ true → a ≡ b
is_same a b h = (bytes_decides a b).0 h

same_self : (a : Text) → same_text a a ≡ true
same_self a = (bytes_decides a a).1 refl

or_none : {A : Type 0} (o : Option A) → o ≡ option_or o None
or_none None = refl
or_none (Some x) = refl

-- what is kept of a name, once it is set
kept_set : (held : Held) (name : Text) (kept : Option Kept) (other : Text) → kept_in (with_value held name kept) other ≡ cond (same_text other name) kept (kept_in held other)
kept_set held name kept other = ap (λ o. unwrap_or o None) (value_set held name kept other) ∙ by (same_text other name)
  where
    by : (b : Bool) → unwrap_or (cond b (Some kept) (value_of held other)) None ≡ cond b kept (kept_in held other)
    by true = refl
    by false = refl

-- what is kept of a name, with one more beside it
kept_more : (held : Held) (name : Text) (kept : Kept) (other : Text) → kept_in (with_first held name kept) other ≡ option_or (kept_in held other) (cond (same_text other name) (Some kept) None)
kept_more held name kept other = by (is_some (kept_in held name)) (same_text other name) refl refl
  where
    there : (o : Option Kept) → is_some o ≡ true → o ≡ option_or o (Some kept)
    there None h = cc
    there (Some x) h = refl

    absent : (o : Option Kept) → is_some o ≡ false → Some kept ≡ option_or o (Some kept)
    absent None h = refl
    absent (Some x) h = cc

    found_there : (n : Bool) → is_some (kept_in held name) ≡ n → same_text other name ≡ true → is_some (kept_in held other) ≡ n
    found_there n e s = ap (λ t. is_some (kept_in held t)) (is_same other name s) ∙ e

    by : (n s : Bool) → is_some (kept_in held name) ≡ n → same_text other name ≡ s
        → kept_in (cond n held (with_value held name (Some kept))) other ≡ option_or (kept_in held other) (cond s (Some kept) None)
    by true true e s = there (kept_in held other) (found_there true e s)
    by true false e s = or_none (kept_in held other)
    by false true e s = kept_set held name (Some kept) other ∙ ap (λ b. cond b (Some kept) (kept_in held other)) s ∙ absent (kept_in held other) (found_there false e s)
    by false false e s = kept_set held name (Some kept) other ∙ ap (λ b. cond b (Some kept) (kept_in held other)) s ∙ or_none (kept_in held other)

module _ (before : Held) (source : Source) where
  abbrev reported : Text → Text → Kept
  reported name value = (value, source_in before source (name, value))

  kept_all : (items : List Pair) (held : Held) (name : Text)
      → kept_in (fold (λ held item. with_first held item.0 (kept_of before source item)) held items) name ≡ option_or (kept_in held name) (option_map (reported name) (value_of items name))
  kept_all [] held name = or_none (kept_in held name)
  kept_all (item ∷ items) held name =
      kept_all items (with_first held item.0 (kept_of before source item)) name
      ∙ ap (λ o. option_or o (option_map (reported name) (value_of items name))) (kept_more held item.0 (kept_of before source item) name)
      ∙ by (same_text name item.0) refl (kept_in held name)
    where
      by : (s : Bool) → same_text name item.0 ≡ s → (o : Option Kept)
          → option_or (option_or o (cond s (Some (kept_of before source item)) None)) (option_map (reported name) (value_of items name)) ≡ option_or o (option_map (reported name) (cond s (Some item.1) (value_of items name)))
      by true e None = ap (λ n. Some (reported n item.1)) (sym (is_same name item.0 e))
      by true e (Some x) = refl
      by false e None = refl
      by false e (Some x) = refl

  -- what is kept after a stage
  pub kept_is : (items : List Pair) (name : Text) → kept_in (kept_after before source items) name ≡ option_map (reported name) (value_of items name)
  unfolding kept_after
  kept_is items name = kept_all items [] name

  -- what is kept of a name that was looked at, by what was kept of it
  abbrev looked : Text → Option Text → Option Kept → Option Kept
  looked name value o = option_map (λ v. (v, source_by o source v)) value

  looked_twice : (name : Text) (value : Option Text) (o : Option Kept) → looked name value (looked name value o) ≡ looked name value o
  looked_twice name None o = refl
  looked_twice name (Some v) o = ap (λ (b : Bool). Some (v, cond b (source_by o source v) source)) (same_self v)

  module _ (items : List Pair) (name : Text) where
    abbrev looked_at : Option Kept → Text → Option Kept
    looked_at o other = cond (same_text name other) (looked name (value_of items other) o) o

    one_looked : (held : Held) (other : Text) → kept_in (updated_one held source (other, value_of items other)) name ≡ looked_at (kept_in held name) other
    one_looked held other = kept_set held other (looked other (value_of items other) (kept_in held other)) name ∙ by (same_text name other) refl
      where
        by : (b : Bool) → same_text name other ≡ b
            → cond b (looked other (value_of items other) (kept_in held other)) (kept_in held name) ≡ cond b (looked name (value_of items other) (kept_in held name)) (kept_in held name)
        by true e = ap (λ t. looked name (value_of items other) (kept_in held t)) (sym (is_same name other e))
        by false e = refl

    one_by_one : (names : List Text) (held : Held) → kept_in (fold (λ h one. updated_one h source one) held (found items names)) name ≡ fold looked_at (kept_in held name) names
    one_by_one [] held = refl
    one_by_one (other ∷ names) held = one_by_one names (updated_one held source (other, value_of items other)) ∙ ap (λ o. fold looked_at o names) (one_looked held other)

    all_looked : (names : List Text) (o : Option Kept) → fold looked_at o names ≡ cond (is_among names name) (looked name (value_of items name) o) o
    all_looked [] o = refl
    all_looked (other ∷ names) o = by (same_text name other) refl (all_looked names)
      where
        again : (b : Bool) → cond b (looked name (value_of items name) (looked name (value_of items name) o)) (looked name (value_of items name) o) ≡ looked name (value_of items name) o
        again true = looked_twice name (value_of items name) o
        again false = refl

        by : (b : Bool) → same_text name other ≡ b → ((p : Option Kept) → fold looked_at p names ≡ cond (is_among names name) (looked name (value_of items name) p) p)
            → fold looked_at (cond b (looked name (value_of items other) o) o) names ≡ cond (b || is_among names name) (looked name (value_of items name) o) o
        by true e rest =
            ap (λ n. fold looked_at (looked name (value_of items n) o) names) (sym (is_same name other e))
            ∙ rest (looked name (value_of items name) o)
            ∙ again (is_among names name)
        by false e rest = rest o

-- what is kept at the start
pub keeps_start : (items : List Pair) (held : Held) → held ≡ kept_after [] None items → Keeps ((None, items) ∷ []) items held
unfolding Keeps source_of
keeps_start items held is name = ap (λ (h : Held). kept_in h name) is ∙ kept_is [] None items name ∙ by (value_of items name)
  where
    none : (b : Bool) → None ≡ (let n : Source = None in cond b n None)
    none true = refl
    none false = refl

    by : (o : Option Text) → option_map (reported [] None name) o ≡ option_map (λ value. (value, source_of ((None, items) ∷ []) (name, value))) o
    by None = refl
    by (Some value) = ap (λ (s : Source). Some (value, s)) (none _)

module _ (was : List Pair) (source : Source) where
  -- an item that is there comes from where it came from, if it was there before, and otherwise from the new stage
  pub from_where : (now : List Pair) (before : List Stage) (last : Source) (held : Held) → Keeps (before ++ (last, was) ∷ []) was held
      → (name value : Text) → value_of now name ≡ Some value → source_in held source (name, value) ≡ source_of (before ++ (last, was) ∷ (source, now) ∷ []) (name, value)
  unfolding Keeps
  from_where now before last held keeps name value is =
      ap (λ o. source_by o source value) (keeps name)
      ∙ by (value_of was name)
      ∙ sym (source_more (name, value) before (last, was) (source, now) (ap (λ o. is_value o value) is ∙ same_self value))
    where
      old : Text → Source
      old v = source_of (before ++ (last, was) ∷ []) (name, v)

      same : (v : Text) (s : Bool) → same_text v value ≡ s → cond s (old v) source ≡ cond s (old value) source
      same v true e = ap old (is_same v value e)
      same v false e = refl

      by : (o : Option Text) → source_by (option_map (λ v. (v, source_of (before ++ (last, was) ∷ []) (name, v))) o) source value ≡ cond (is_value o value) (source_of (before ++ (last, was) ∷ []) (name, value)) source
      by None = refl
      by (Some v) = same v (same_text v value) refl

  -- what is kept after one stage more
  pub keeps_on : (now : List Pair) (held held_now : Held) → held_now ≡ kept_after held source now → Proceeds was source now held held_now
  unfolding Proceeds Keeps
  keeps_on now held held_now is before last keeps name = ap (λ (h : Held). kept_in h name) is ∙ kept_is held source now name ∙ by (value_of now name) refl
    where
      by : (o : Option Text) → value_of now name ≡ o → option_map (reported held source name) o ≡ option_map (λ value. (value, source_of (before ++ (last, was) ∷ (source, now) ∷ []) (name, value))) o
      by None e = refl
      by (Some value) e = ap (λ (s : Source). Some (value, s)) (from_where now before last held keeps name value e)

  -- what is kept after one stage more, if all other items are as they were
  pub keeps_touched : (now : List Pair) (names : List Text) (held held_now : Held) → ((name : Text) → is_among names name ≡ false → value_of now name ≡ value_of was name)
      → held_now ≡ updated held source (found now names) → Proceeds was source now held held_now
  unfolding Proceeds Keeps updated
  keeps_touched now names held held_now stay is before last keeps name =
      ap (λ (h : Held). kept_in h name) is
      ∙ one_by_one held source now name names held
      ∙ all_looked held source now name names (kept_in held name)
      ∙ by (is_among names name) refl
      ∙ sym (kept_is held source now name)
      ∙ keeps_on now held (kept_after held source now) refl before last keeps name
    where
      kept : (value : Option Text) → kept_in held name ≡ option_map (λ v. (v, source_of (before ++ (last, was) ∷ []) (name, v))) value → kept_in held name ≡ looked held source name value (kept_in held name)
      kept None e = e
      kept (Some v) e =
          let came = source_of (before ++ (last, was) ∷ []) (name, v) in
          e ∙ sym (ap (λ o. Some (v, source_by o source v)) e ∙ ap (λ (b : Bool). Some (v, cond b came source)) (same_self v))

      by : (b : Bool) → is_among names name ≡ b → cond b (looked held source name (value_of now name) (kept_in held name)) (kept_in held name) ≡ looked held source name (value_of now name) (kept_in held name)
      by true e = refl
      by false e = kept (value_of now name) (keeps name ∙ ap (option_map (λ v. (v, source_of (before ++ (last, was) ∷ []) (name, v)))) (sym (stay name e)))

  -- if nothing has changed, what is kept stays
  pub keeps_same : (now : List Pair) (held : Held) → now ≡ was → Proceeds was source now held held
  unfolding Proceeds Keeps
  keeps_same now held is before last keeps name = keeps name ∙ ap (option_map (old name)) (ap (λ items. value_of items name) (sym is)) ∙ by (value_of now name) refl
    where
      old : Text → Text → Kept
      old name value = (value, source_of (before ++ (last, was) ∷ []) (name, value))

      was_present : (value : Text) → value_of now name ≡ Some value → is_present (name, value) was ≡ true
      was_present value e = ap (λ o. is_value o value) (ap (λ items. value_of items name) (sym is) ∙ e) ∙ same_self value

      by : (o : Option Text) → value_of now name ≡ o → option_map (old name) o ≡ option_map (λ value. (value, source_of (before ++ (last, was) ∷ (source, now) ∷ []) (name, value))) o
      by None e = refl
      by (Some value) e =
          ap (λ (s : Source). Some (value, s))
          (sym
          (source_more (name, value) before (last, was) (source, now) (ap (λ o. is_value o value) e ∙ same_self value)
          ∙ ap (λ b. cond b (source_of (before ++ (last, was) ∷ []) (name, value)) source) (was_present value e)))

-- what is kept in the end says about each item
pub reports : (before : List Stage) (last : Source) (items : List Pair) (held : Held) → Keeps (before ++ (last, items) ∷ []) items held → Reports (before ++ (last, items) ∷ []) held
unfolding Keeps Reports
reports before last items held keeps item = ap (λ o. source_by o None item.1) (keeps item.0) ∙ by (value_of items item.0) refl
  where
    old : Text → Source
    old v = source_of (before ++ (last, items) ∷ []) (item.0, v)

    same : (v : Text) (s : Bool) → value_of items item.0 ≡ Some v → same_text v item.1 ≡ s → cond s (old v) None ≡ source_of (before ++ (last, items) ∷ []) item
    same v true is e = ap old (is_same v item.1 e)
    same v false is e = sym (source_none item before (last, items) (ap (λ o. is_value o item.1) is ∙ e))

    by : (o : Option Text) → value_of items item.0 ≡ o → source_by (option_map (λ v. (v, source_of (before ++ (last, items) ∷ []) (item.0, v))) o) None item.1 ≡ source_of (before ++ (last, items) ∷ []) item
    by None is = sym (source_none item before (last, items) (ap (λ o. is_value o item.1) is))
    by (Some v) is = same v (same_text v item.1) is refl
