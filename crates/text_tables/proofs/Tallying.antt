-- What is left of each line while lines are counted and removed.
use Rattle.std.proofs.Common.{◌≡◌, ℕ, ◌+◌, ◌-◌, ◌^◌, ◌<◌, ◌≤◌, ◌⊎◌, inl, inr, Bool, true, false, cond, nat_lt, List, [], ◌∷◌, ◌++◌, Option, Some, unwrap_or, refl, ap, sym, ◌∙◌, arith, append_assoc, append-nil, subst, map, take, drop, get_or, length, min, length-take, drop_of_length-le}
use Rattle.std.proofs.lemmas.List.{map-append, length-map, take_more}
use Rattle.std.proofs.lemmas.List.Sums.{count_by-le-length}
use Rattle.std.proofs.lemmas.Bool.{cases_lt, lt-ltb, le-ltb}
use Rattle.text_bytes.specs.Text.{Text}
use Rattle.text_tables.specs.Texts.{same_text}
use Rattle.text_tables.specs.Pairs.{value_of, with_value}
use Rattle.text_tables.proofs.Found.{value_set}
use Rattle.text_tables.proofs.Partway.{left_at}
use Rattle.text_tables.specs.Surplus.{times, surplus_after, surplus_by}
use Rattle.text_tables.specs.Tallies.{left_of, Tallies}
use Rattle.text_tables.proofs.Counting.{is_same, one_if, times-push}

-- what is left of a text once another has its number set
left_set : (tally : List (Text × ℕ)) (line : Text) (value : ℕ) (text : Text) → left_of (with_value tally line value) text ≡ cond (same_text text line) value (left_of tally text)
left_set tally line value text = ap (λ (o : Option ℕ). unwrap_or o 0) (value_set tally line value text) ∙ by (same_text text line)
  where
    by : (b : Bool) → unwrap_or (cond b (Some value) (value_of tally text)) 0 ≡ cond b value (left_of tally text)
    by true = refl
    by false = refl

pub tally_start : (tally : List (Text × ℕ)) → tally ≡ [] → Tallies tally []
tally_start tally e line = ap (λ (t : List (Text × ℕ)). left_of t line) e

pub tally_more : (tally next : List (Text × ℕ)) (past : List Text) (line : Text) (before : ℕ) → Tallies tally past → before ≡ left_of tally line → next ≡ with_value tally line (before + 1) → Tallies next (past ++ line ∷ [])
tally_more tally next past line before t b e text =
    ap (λ (n : List (Text × ℕ)). left_of n text) e ∙ left_set tally line (before + 1) text ∙ by (same_text text line) refl ∙ sym (times-push text line past)
  where
    by : (b : Bool) → same_text text line ≡ b → cond b (before + 1) (left_of tally text) ≡ times text past + one_if b
    by true h = ap (λ n. n + 1) (b ∙ t line ∙ ap (λ l. times l past) (sym (is_same text line h)))
    by false h = t text ∙ plus_none (times text past)
      where
        plus_none : (n : ℕ) → n ≡ n + 0
        plus_none n = omega arith

-- no line is left to take
pub taken_none : (tally : List (Text × ℕ)) (line : Text) → left_of tally line ≡ 0 → (text : Text) → left_of tally text ≡ left_of tally text - cond (same_text text line) 1 0
taken_none tally line e text = by (same_text text line) refl
  where
    less_none : (n : ℕ) → n ≡ n - 0
    less_none n = omega arith

    none_less : (n : ℕ) → n ≡ 0 → n ≡ n - 1
    none_less n h = omega (arith, h)

    by : (b : Bool) → same_text text line ≡ b → left_of tally text ≡ left_of tally text - cond b 1 0
    by true h = none_less (left_of tally text) (ap (left_of tally) (is_same text line h) ∙ e)
    by false h = less_none (left_of tally text)

-- one is taken
pub taken_one : (tally next : List (Text × ℕ)) (line : Text) (left : ℕ) → left ≡ left_of tally line → next ≡ with_value tally line (left - 1) → (text : Text) → left_of next text ≡ left_of tally text - cond (same_text text line) 1 0
taken_one tally next line left l e text = ap (λ (n : List (Text × ℕ)). left_of n text) e ∙ left_set tally line (left - 1) text ∙ by (same_text text line) refl
  where
    less_none : (n : ℕ) → n ≡ n - 0
    less_none n = omega arith

    by : (b : Bool) → same_text text line ≡ b → cond b (left - 1) (left_of tally text) ≡ left_of tally text - cond b 1 0
    by true h = ap (λ n. n - 1) (l ∙ ap (left_of tally) (sym (is_same text line h)))
    by false h = less_none (left_of tally text)

-- Some items are gone past: of each text so many are left as the other list has more, and what is reported so far and what is still to
-- come is all that is to be reported.
pub record Proceeds {A : Type 0} (key : A → Text) (tally : List (Text × ℕ)) (reported : List A) (past : List Text) (rest whole : List A) (others : List Text) : Type 0 where
  pub left : (text : Text) → left_of tally text ≡ times text others - times text past
  pub so_far : reported ++ surplus_after key past rest others ≡ whole

pub advance_start : {A : Type 0} (key : A → Text) (tally : List (Text × ℕ)) (reported lines : List A) (others : List Text) → reported ≡ [] → Tallies tally others → Proceeds key tally reported [] lines (surplus_by key lines others) others
advance_start key tally reported lines others e t = record {
  left = λ text. t text ∙ less_none (times text others);
  so_far = ap (λ reported. reported ++ surplus_by key lines others) e;
}
  where
    less_none : (n : ℕ) → n ≡ n - 0
    less_none n = omega arith

left_is : (others past : ℕ) → nat_lt 0 (others - past) ≡ nat_lt past others
left_is others past = by (cases_lt past others)
  where
    by : (past < others) ⊎ (others ≤ past) → nat_lt 0 (others - past) ≡ nat_lt past others
    by (inl h) = lt-ltb 0 (others - past) (omega (arith, h)) ∙ sym (lt-ltb past others h)
    by (inr h) = le-ltb 0 (others - past) (omega (arith, h)) ∙ sym (le-ltb past others h)

less_more : (others past one : ℕ) → (others - past) - one ≡ others - (past + one)
less_more others past one = omega arith

pub advance_more : {A : Type 0} (key : A → Text) (tally next : List (Text × ℕ)) (reported more : List A) (past : List Text) (rest whole : List A) (others : List Text) (line : A) (there : Bool)
    → Proceeds key tally reported past (line ∷ rest) whole others
    → there ≡ nat_lt 0 (left_of tally (key line)) → ((text : Text) → left_of next text ≡ left_of tally text - cond (same_text text (key line)) 1 0) → more ≡ reported ++ cond there [] (line ∷ [])
    → Proceeds key next more (past ++ key line ∷ []) rest whole others
advance_more {A = A} key tally next reported more past rest whole others line there g t l e = record {
  left = λ text.
      l text ∙ ap (λ n. n - one_if (same_text text (key line))) (g.left text) ∙ less_more (times text others) (times text past) (one_if (same_text text (key line)))
      ∙ ap (λ n. times text others - n) (sym (times-push text (key line) past));
  so_far =
      ap (λ reported. reported ++ following) e ∙ append_assoc reported (cond there [] (line ∷ [])) following
      ∙ ap (λ b. reported ++ (cond b [] (line ∷ []) ++ following)) (t ∙ ap (λ n. nat_lt 0 n) (g.left (key line)) ∙ left_is (times (key line) others) (times (key line) past))
      ∙ g.so_far;
}
  where
    following : List A
    following = surplus_after key (past ++ key line ∷ []) rest others

pub advance_end : {A : Type 0} (key : A → Text) (tally : List (Text × ℕ)) (reported : List A) (past : List Text) (whole : List A) (others : List Text) → Proceeds key tally reported past [] whole others → reported ≡ whole
advance_end key tally reported past whole others g = sym (append-nil reported) ∙ g.so_far

-- the lines gone past with the next one, and those before it
pub past_more : {A : Type 0} (f : A → Text) (lines : List A) (at : ℕ) (next : A) → at < length lines → map f (take (at + 1) lines) ≡ map f (take at lines) ++ f (get_or lines at next) ∷ []
past_more f lines at next h = ap (map f) (take_more lines at next h) ∙ map-append f (take at lines) (get_or lines at next ∷ [])

pub tally_item : {A : Type 0} (f : A → Text) (tally next : List (Text × ℕ)) (lines : List A) (at : ℕ) (item : A) (before : ℕ) → Tallies tally (map f (take at lines)) → at < length lines
    → before ≡ left_of tally (f (get_or lines at item)) → next ≡ with_value tally (f (get_or lines at item)) (before + 1) → Tallies next (map f (take (at + 1) lines))
tally_item f tally next lines at item before t h b e =
    subst (Tallies next) (sym (past_more f lines at item h)) (tally_more tally next (map f (take at lines)) (f (get_or lines at item)) before t b e)

-- a text of which there are fewer than lines can be counted once more
pub counts_more : {A : Type 0} (f : A → Text) (tally : List (Text × ℕ)) (lines : List A) (at : ℕ) (line : Text) → Tallies tally (map f (take at lines)) → at < length lines → length lines < 2 ^ 64
    → left_of tally line + 1 < 2 ^ 64
counts_more f tally lines at line t h room = by (count_by-le-length (same_text line) (map f (take at lines))) (length-map (take at lines) f) (length-take at lines)
  where
    by : times line (map f (take at lines)) ≤ length (map f (take at lines)) → length (map f (take at lines)) ≡ length (take at lines) → length (take at lines) ≡ min at (length lines) → left_of tally line + 1 < 2 ^ 64
    by k l m = omega (arith, t line, k, l, m)

pub advance_item : {I A : Type 0} (f : I → A) (key : A → Text) (tally next : List (Text × ℕ)) (reported more whole : List A) (others : List Text) (lines : List I) (at : ℕ) (item : I) (there : Bool)
    → Proceeds key tally reported (map (λ i. key (f i)) (take at lines)) (map f (drop at lines)) whole others → at < length lines
    → there ≡ nat_lt 0 (left_of tally (key (f (get_or lines at item)))) → ((text : Text) → left_of next text ≡ left_of tally text - cond (same_text text (key (f (get_or lines at item)))) 1 0)
    → more ≡ reported ++ cond there [] (f (get_or lines at item) ∷ []) → Proceeds key next more (map (λ i. key (f i)) (take (at + 1) lines)) (map f (drop (at + 1) lines)) whole others
advance_item f key tally next reported more whole others lines at item there g h t l e =
    subst (λ past. Proceeds key next more past (map f (drop (at + 1) lines)) whole others) (sym (past_more (λ i. key (f i)) lines at item h))
    (advance_more key tally next reported more (map (λ i. key (f i)) (take at lines)) (map f (drop (at + 1) lines)) whole others (f (get_or lines at item)) there
    (subst (λ rest. Proceeds key tally reported (map (λ i. key (f i)) (take at lines)) rest whole others) (left_at f lines at item h) g) t l e)

pub advance_out : {I A : Type 0} (f : I → A) (key : A → Text) (tally : List (Text × ℕ)) (reported whole : List A) (others : List Text) (lines : List I) (at : ℕ) → length lines ≤ at
    → Proceeds key tally reported (map (λ i. key (f i)) (take at lines)) (map f (drop at lines)) whole others → reported ≡ whole
advance_out f key tally reported whole others lines at h g =
    advance_end key tally reported (map (λ i. key (f i)) (take at lines)) whole others
    (subst (λ rest. Proceeds key tally reported (map (λ i. key (f i)) (take at lines)) rest whole others) (ap (map f) (drop_of_length-le lines h)) g)

-- a line that is not one of those left is reported
pub reported_line : {I A : Type 0} (f : I → A) (reported more : List I) (line : I) (there : Bool) → there ≡ false → more ≡ reported ++ line ∷ [] → map f more ≡ map f reported ++ cond there [] (f line ∷ [])
reported_line f reported more line there n e = ap (map f) e ∙ map-append f reported (line ∷ []) ∙ ap (λ b. map f reported ++ cond b [] (f line ∷ [])) (sym n)

pub passed_line : {I A : Type 0} (f : I → A) (reported more : List I) (line : A) (there : Bool) → there ≡ true → more ≡ reported → map f more ≡ map f reported ++ cond there [] (line ∷ [])
passed_line f reported more line there n e = ap (map f) e ∙ sym (append-nil (map f reported)) ∙ ap (λ b. map f reported ++ cond b [] (line ∷ [])) (sym n)
