-- What is left out of what was found, and what is said of codes in comments.
use Rattle.std.proofs.Common.{◌≡◌, ◌⊎◌, inl, inr, ℕ, Bool, true, false, not, ◌&&◌, ◌||◌, cond, List, [], ◌∷◌, Contains, Some, None, refl, ap, sym, ◌∙◌, subst, arith}
use Rattle.std.specs.Cmp.Lexicographic.{bytes_decides}
use Rattle.std.specs.List.{list_any}
use Rattle.std.proofs.lemmas.Bool.{and_parts, eq-eqb, eqb-true}
use Rattle.std.proofs.lemmas.List.Elements.{Contains-append_right}
use Rattle.std.proofs.lemmas.List.Folds.{list_any_at}
use Rattle.text_bytes.specs.Text.{Text}
use Rattle.text_tables.specs.Texts.{is_among, same_text}
use Rattle.engine_formats.specs.Diagnostics.{DiagnosticValue}
use Rattle.file_catalogue.specs.Catalogue.{code_of}
use Rattle.file_catalogue.specs.declared.remark.Remark.{Remark}
use Rattle.file_catalogue.specs.declared.remark.Remark.TheVariants.{IdleIgnore, UnknownCode}
use Rattle.engine_checks.specs.Codes.{is_code, is_found}
use Rattle.engine_checks.specs.Ignores.{Ignore}
use Rattle.engine_checks.specs.Laws.{IsInUse, IsLeftOut, IsSaidOf, IsSilencing, IsUnknown}
use Rattle.engine_checks.specs.Reported.{Asked, covers, is_about_style, is_lint, is_reported, is_silenced, is_unknown, remark_on, silences}
use Rattle.engine_checks.specs.declared.ignores.Scope.{Scope}
use Rattle.engine_checks.specs.declared.ignores.Scope.TheVariants.{File, Next, Unread}
use Rattle.engine_checks.proofs.EachCode.{found_code, is_named}

-- an element that passes
one_passes : {X : Type 0} (p : X → Bool) (xs : List X) → list_any p xs ≡ true → (x : X) × (Contains xs x × (p x ≡ true))
one_passes p [] e = cc
one_passes {X} p (x ∷ xs) e = by (p x) refl e (λ (k : list_any p xs ≡ true). one_passes p xs k)
  where
    by : (b : Bool) → p x ≡ b → (b || list_any p xs) ≡ true → (list_any p xs ≡ true → (y : X) × (Contains xs y × (p y ≡ true))) → (y : X) × (Contains (x ∷ xs) y × (p y ≡ true))
    by true h e more = (x, ((0, omega arith, refl), h))
    by false h e more = let found = more e in (found.0, (Contains-append_right (x ∷ []) xs found.0 found.1.0, found.1.1))

passes : {X : Type 0} (p : X → Bool) (xs : List X) (x : X) → Contains xs x → p x ≡ true → list_any p xs ≡ true
passes p xs x there e = list_any_at p xs there.0 x there.1 (ap p there.2 ∙ e)

among : (texts : List Text) (text : Text) → is_among texts text ≡ true → Contains texts text
among texts text e =
    let found = one_passes (same_text text) texts e in
    subst (λ t. Contains texts t) (sym ((bytes_decides text found.0).0 found.1.1)) found.1.0

is_there : (texts : List Text) (text : Text) → Contains texts text → is_among texts text ≡ true
is_there texts text there = passes (same_text text) texts text there ((bytes_decides text text).1 refl)

covered : (scope : Scope) (line : ℕ) → covers scope line ≡ true → (scope ≡ File) ⊎ (scope ≡ Next (Some line))
covered File line e = inl refl
covered (Next None) line e = cc
covered (Next (Some next)) line e = inr (ap (λ n. Next (Some n)) (sym (eqb-true line next e)))
covered Unread line e = cc

covering : (scope : Scope) (line : ℕ) → (scope ≡ File) ⊎ (scope ≡ Next (Some line)) → covers scope line ≡ true
covering scope line (inl e) = ap (λ s. covers s line) e
covering scope line (inr e) = ap (λ s. covers s line) e ∙ eq-eqb line line refl

is_silencing : (i : Ignore) (d : DiagnosticValue) → silences i d ≡ true → IsSilencing i d
is_silencing i d e =
    let both = and_parts (covers i.scope d.begins) (same_text (code_of d.remark) i.code) e in
    record { code = (bytes_decides (code_of d.remark) i.code).0 both.1; about = covered i.scope d.begins both.0 }

silencing : (i : Ignore) (d : DiagnosticValue) → IsSilencing i d → silences i d ≡ true
silencing i d h = ap (λ b. b && same_text (code_of d.remark) i.code) (covering i.scope d.begins h.about) ∙ (bytes_decides (code_of d.remark) i.code).1 h.code

one_fails : (a b : Bool) → (a && b) ≡ false → (a ≡ false) ⊎ (b ≡ false)
one_fails false b e = inl refl
one_fails true b e = inr e

reversed : (b : Bool) → not b ≡ false → b ≡ true
reversed true e = refl
reversed false e = cc

no_lints : (linted lint : Bool) → (not linted || lint) ≡ false → (lint ≡ false) × (linted ≡ true)
no_lints true false e = (refl, refl)
no_lints true true e = cc
no_lints false lint e = cc

no_style : (style about : Bool) → (style || not about) ≡ false → (style ≡ false) × (about ≡ true)
no_style false true e = (refl, refl)
no_style false false e = cc
no_style true about e = cc

-- what is not reported is left out
pub left_out : (asked : Asked) (ignores : List Ignore) (d : DiagnosticValue) → is_reported asked ignores d ≡ false → IsLeftOut asked ignores d
left_out asked ignores d e = silent (one_fails (wanted && not known) (not (is_silenced ignores d)) e)
  where
    known : Bool
    known = is_among asked.ignored (code_of d.remark)

    linted : Bool
    linted = not (is_lint d.remark) || asked.lint

    styled : Bool
    styled = asked.style || not (is_about_style d.remark)

    wanted : Bool
    wanted = linted && styled

    unwanted : (linted ≡ false) ⊎ (styled ≡ false) → IsLeftOut asked ignores d
    unwanted (inl h) = inl (no_lints (is_lint d.remark) asked.lint h)
    unwanted (inr h) = inr (inl (no_style asked.style (is_about_style d.remark) h))

    named : (wanted ≡ false) ⊎ (not known ≡ false) → IsLeftOut asked ignores d
    named (inl h) = unwanted (one_fails linted styled h)
    named (inr h) = inr (inr (inl (among asked.ignored (code_of d.remark) (reversed known h))))

    silent : ((wanted && not known) ≡ false) ⊎ (not (is_silenced ignores d) ≡ false) → IsLeftOut asked ignores d
    silent (inl h) = named (one_fails wanted (not known) h)
    silent (inr h) =
        let one = one_passes (λ i. silences i d) ignores (reversed (is_silenced ignores d) h) in
        inr (inr (inr (one.0, (one.1.0, is_silencing one.0 d one.1.1))))

lint_kept : (linted lint : Bool) → lint ≡ false → linted ≡ true → (not linted || lint) ≡ true → ⊥
lint_kept true false e f k = cc
lint_kept true true e f k = cc
lint_kept false lint e f k = cc

style_kept : (style about : Bool) → style ≡ false → about ≡ true → (style || not about) ≡ true → ⊥
style_kept true about e f k = cc
style_kept false true e f k = cc
style_kept false false e f k = cc

not_kept : (b : Bool) → b ≡ true → not b ≡ true → ⊥
not_kept true e k = cc
not_kept false e k = cc

-- what is reported is not left out
pub reported_is_kept : (asked : Asked) (ignores : List Ignore) (d : DiagnosticValue) → is_reported asked ignores d ≡ true → IsLeftOut asked ignores d → ⊥
reported_is_kept asked ignores d e = by
  where
    linted : Bool
    linted = not (is_lint d.remark) || asked.lint

    styled : Bool
    styled = asked.style || not (is_about_style d.remark)

    known : Bool
    known = is_among asked.ignored (code_of d.remark)

    wished : ((linted && styled) && not known) ≡ true
    wished = (and_parts ((linted && styled) && not known) (not (is_silenced ignores d)) e).0

    wanted : (linted && styled) ≡ true
    wanted = (and_parts (linted && styled) (not known) wished).0

    by : IsLeftOut asked ignores d → ⊥
    by (inl x) = lint_kept (is_lint d.remark) asked.lint x.0 x.1 (and_parts linted styled wanted).0
    by (inr (inl x)) = style_kept asked.style (is_about_style d.remark) x.0 x.1 (and_parts linted styled wanted).1
    by (inr (inr (inl x))) = not_kept known (is_there asked.ignored (code_of d.remark) x) (and_parts (linted && styled) (not known) wished).1
    by (inr (inr (inr x))) =
        not_kept (is_silenced ignores d) (passes (λ i. silences i d) ignores x.0 x.1.0 (silencing x.0 d x.1.1)) (and_parts ((linted && styled) && not known) (not (is_silenced ignores d)) e).1

no_remark : (code : Text) → not (is_code code) ≡ true → (remark : Remark) → is_found remark ≡ true → code_of remark ≡ code → ⊥
no_remark code e remark found same =
    let there : is_code code ≡ true = ap is_code (sym same) ∙ found_code remark found in
    not_kept (is_code code) there e

unknown : (i : Ignore) → is_unknown i.scope i.code ≡ true → IsUnknown i
unknown i e = by i.scope refl e
  where
    by : (scope : Scope) → i.scope ≡ scope → is_unknown scope i.code ≡ true → IsUnknown i
    by File h k = inr (no_remark i.code k)
    by (Next next) h k = inr (no_remark i.code k)
    by Unread h k = inl h

known : (i : Ignore) → is_unknown i.scope i.code ≡ false → IsUnknown i → ⊥
known i e = by i.scope refl e
  where
    some_remark : not (is_code i.code) ≡ false → ((remark : Remark) → is_found remark ≡ true → code_of remark ≡ i.code → ⊥) → ⊥
    some_remark k none = let named = is_named i.code (reversed (is_code i.code) k) in none named.0 named.1.0 named.1.1

    by : (scope : Scope) → i.scope ≡ scope → is_unknown scope i.code ≡ false → IsUnknown i → ⊥
    by File h k (inl x) = cc
    by File h k (inr x) = some_remark k x
    by (Next next) h k (inl x) = cc
    by (Next next) h k (inr x) = some_remark k x
    by Unread h k x = cc

-- what is said of a code in a comment
pub said_of : (found : List DiagnosticValue) (i : Ignore) → IsSaidOf found i (remark_on found i)
said_of found i = by (is_unknown i.scope i.code) (list_any (silences i) found) refl refl
  where
    by : (none silent : Bool) → is_unknown i.scope i.code ≡ none → list_any (silences i) found ≡ silent → IsSaidOf found i (cond none (Some UnknownCode) (cond silent None (Some IdleIgnore)))
    by true silent e f = unknown i e
    by false true e f = let one = one_passes (silences i) found f in (one.0, (one.1.0, is_silencing i one.0 one.1.1))
    by false false e f =
        let idle : IsInUse found i → ⊥ = λ (x : IsInUse found i). let wrong : true ≡ false = sym (passes (silences i) found x.0 x.1.0 (silencing i x.0 x.1.1)) ∙ f in cc in
        (idle, known i e)
