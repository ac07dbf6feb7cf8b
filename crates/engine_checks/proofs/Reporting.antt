-- What is reported for a file, step by step.
use Rattle.std.proofs.Common.{◌≡◌, ℕ, ◌+◌, ◌<◌, Bool, true, false, not, ◌&&◌, cond, List, [], ◌∷◌, ◌++◌, length, take, get_or, map, filter, Option, Some, None, option_map, option_to_list, refl, ap, sym, ◌∙◌}
use Rattle.std.specs.List.{cons_option, filter_map, list_any}
use Rattle.std.proofs.lemmas.List.{take_more}
use Rattle.std.proofs.lemmas.List.Elements.{filter_map-append}
use Rattle.text_bytes.specs.Text.{Text}
use Rattle.engine_formats.specs.Diagnostics.{DiagnosticValue}
use Rattle.file_catalogue.specs.declared.remark.Remark.TheVariants.{IdleIgnore, UnknownCode}
use Rattle.engine_checks.specs.Ignores.{Ignore}
use Rattle.engine_checks.specs.Tables.{are_silencing, is_met, is_reported_by, remark_by}
use Rattle.engine_checks.specs.Reported.{Asked, FileText, merged, comment_diagnostic, comment_diagnostics, file_reported, is_asked, is_reported, is_silenced, is_unknown, remark_on, silences}

-- one element more that may give something
pub filter_map_more : {X Y : Type 0} (f : X → Option Y) (xs : List X) (i : ℕ) (x : X) → i < length xs → x ≡ get_or xs i x → filter_map f (take (i + 1) xs) ≡ filter_map f (take i xs) ++ option_to_list (f x)
filter_map_more {X} {Y} f xs i x within is =
    ap (filter_map f) (take_more xs i x within)
    ∙ filter_map-append f (take i xs) (get_or xs i x ∷ [])
    ∙ ap (λ y. filter_map f (take i xs) ++ filter_map f (y ∷ [])) (sym is)
    ∙ ap (λ ys. filter_map f (take i xs) ++ ys) (by (f x))
  where
    by : (o : Option Y) → cons_option o [] ≡ option_to_list o
    by None = refl
    by (Some y) = refl

same_filter_map : {X Y : Type 0} (f g : X → Option Y) (xs : List X) → ((x : X) → f x ≡ g x) → filter_map f xs ≡ filter_map g xs
same_filter_map f g [] e = refl
same_filter_map f g (x ∷ xs) e = ap (λ o. cons_option o (filter_map f xs)) (e x) ∙ ap (cons_option (g x)) (same_filter_map f g xs e)

-- tables of what was found give the remarks on comments
pub remarks_by : (file : FileText) (in_file : List Text) (at_lines : List (ℕ × Text)) (found : List DiagnosticValue) (ignores : List Ignore)
    → ((i : Ignore) → is_met in_file at_lines i.scope i.code ≡ list_any (silences i) found)
    → filter_map (λ i. option_map (comment_diagnostic file i) (remark_by in_file at_lines i)) ignores ≡ comment_diagnostics file found ignores
remarks_by file in_file at_lines found ignores met =
    same_filter_map (λ i. option_map (comment_diagnostic file i) (remark_by in_file at_lines i)) (λ i. option_map (comment_diagnostic file i) (remark_on found i)) ignores
    (λ i. ap (λ b. option_map (comment_diagnostic file i) (cond (is_unknown i.scope i.code) (Some UnknownCode) (cond b None (Some IdleIgnore)))) (met i))

-- those that pass, of what elements are made into
filter_made : {X Y : Type 0} (p : X → Bool) (q : Y → Bool) (f : X → Y) (xs : List X) → ((x : X) → p x ≡ q (f x)) → map f (filter p xs) ≡ filter q (map f xs)
filter_made p q f [] e = refl
filter_made p q f (x ∷ xs) e = ap (λ b. map f (cond b (x ∷ filter p xs) (filter p xs))) (e x) ∙ by (q (f x)) (filter_made p q f xs e)
  where
    by : (b : Bool) → map f (filter p xs) ≡ filter q (map f xs) → map f (cond b (x ∷ filter p xs) (filter p xs)) ≡ cond b (f x ∷ filter q (map f xs)) (filter q (map f xs))
    by true more = ap (λ ys. f x ∷ ys) more
    by false more = more

-- tables of what comments silence determine which diagnostics are reported
pub reported_by : {X : Type 0} (f : X → DiagnosticValue) (asked : Asked) (in_file : List Text) (at_lines : List (ℕ × Text)) (ignores : List Ignore) (found : List X)
    → ((d : DiagnosticValue) → are_silencing in_file at_lines d ≡ is_silenced ignores d)
    → map f (filter (λ x. is_reported_by asked in_file at_lines (f x)) found) ≡ filter (is_reported asked ignores) (map f found)
reported_by f asked in_file at_lines ignores found silencing =
    filter_made (λ x. is_reported_by asked in_file at_lines (f x)) (is_reported asked ignores) f found
    (λ x. ap (λ b. is_asked asked (f x).remark && not b) (silencing (f x)))

-- all that is reported for a file
pub all_reported : {X : Type 0} (f : X → DiagnosticValue) (asked : Asked) (file : FileText) (ignores : List Ignore) (found seen kept remarks wanted : List X) (reported : List DiagnosticValue)
    (met_file : List Text) (met_lines : List (ℕ × Text)) (in_file : List Text) (at_lines : List (ℕ × Text))
    → seen ≡ found
    → ((i : Ignore) → is_met met_file met_lines i.scope i.code ≡ list_any (silences i) (map f seen))
    → ((d : DiagnosticValue) → are_silencing in_file at_lines d ≡ is_silenced ignores d)
    → map f remarks ≡ filter_map (λ i. option_map (comment_diagnostic file i) (remark_by met_file met_lines i)) ignores
    → wanted ≡ filter (λ x. is_asked asked (f x).remark) remarks
    → kept ≡ filter (λ x. is_reported_by asked in_file at_lines (f x)) found
    → reported ≡ merged (map f kept) (map f wanted)
    → reported ≡ file_reported asked file ignores (map f found)
unfolding file_reported
all_reported f asked file ignores found seen kept remarks wanted reported met_file met_lines in_file at_lines s met silencing r l k t =
    t
    ∙ ap (λ ds. merged ds (map f wanted)) (ap (map f) k ∙ reported_by f asked in_file at_lines ignores found silencing)
    ∙ ap (merged (filter (is_reported asked ignores) (map f found)))
    (ap (map f) l
    ∙ filter_made (λ x. is_asked asked (f x).remark) (λ d. is_asked asked d.remark) f remarks (λ x. refl)
    ∙ ap (filter (λ d. is_asked asked d.remark)) (r ∙ remarks_by file met_file met_lines (map f found) ignores (λ i. met i ∙ ap (λ xs. list_any (silences i) (map f xs)) s)))
