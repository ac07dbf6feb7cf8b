-- What the tables of codes have is what silences, and what is silenced.
use Rattle.std.proofs.Common.{◌≡◌, ℕ, Bool, true, false, ◌==◌, ◌||◌, ◌&&◌, List, [], ◌∷◌, Some, None, refl, ap, sym, ◌∙◌}
use Rattle.std.specs.Cmp.Lexicographic.{bytes_decides}
use Rattle.std.specs.List.{list_any}
use Rattle.std.specs.Option.{option_map_or}
use Rattle.std.proofs.lemmas.Bool.{eq-eqb, eqb-true}
use Rattle.text_bytes.specs.Text.{Text}
use Rattle.text_tables.specs.Texts.{is_among, same_text}
use Rattle.engine_formats.specs.Diagnostics.{DiagnosticValue}
use Rattle.file_catalogue.specs.Catalogue.{code_of}
use Rattle.engine_checks.specs.Ignores.{Ignore}
use Rattle.engine_checks.specs.Tables.{are_silencing, has_code, has_code_at, has_code_in, is_code_at, is_file, is_in_file, is_met, is_next_at, next_line}
use Rattle.engine_checks.specs.Reported.{covers, is_silenced, silences}
use Rattle.engine_checks.specs.declared.ignores.Scope.{Scope}
use Rattle.engine_checks.specs.declared.ignores.Scope.TheVariants.{File, Next, Unread}

or_false : (a : Bool) → (a || false) ≡ a
or_false true = refl
or_false false = refl

-- two tests that each give the other
same_tests : (a b : Bool) → (a ≡ true → b ≡ true) → (b ≡ true → a ≡ true) → a ≡ b
same_tests true b f g = sym (f refl)
same_tests false true f g = g refl
same_tests false false f g = refl

same_sym : (a b : Text) → same_text a b ≡ same_text b a
same_sym a b = same_tests (same_text a b) (same_text b a) (λ e. (bytes_decides b a).1 (sym ((bytes_decides a b).0 e))) (λ e. (bytes_decides a b).1 (sym ((bytes_decides b a).0 e)))

equal_sym : (a b : ℕ) → (a == b) ≡ (b == a)
equal_sym a b = same_tests (a == b) (b == a) (λ e. eq-eqb b a (sym (eqb-true a b e))) (λ e. eq-eqb a b (sym (eqb-true b a e)))

shuffle : (a b x y : Bool) → ((a || x) || (b || y)) ≡ ((a || b) || (x || y))
shuffle true b x y = refl
shuffle false true true y = refl
shuffle false true false y = refl
shuffle false false x y = refl

-- a code is ignored in the file or at a line
by_scope : (line : ℕ) (code own : Text) (scope : Scope) → ((is_file scope && same_text code own) || option_map_or (λ next. is_code_at line code (next, own)) (next_line scope) false) ≡ (covers scope line && same_text code own)
by_scope line code own File = or_false (same_text code own)
by_scope line code own (Next None) = refl
by_scope line code own (Next (Some next)) = refl
by_scope line code own Unread = refl

both_tables : (d : DiagnosticValue) (ignores : List Ignore) → (list_any (is_in_file (code_of d.remark)) ignores || list_any (is_next_at d.begins (code_of d.remark)) ignores) ≡ is_silenced ignores d
both_tables d [] = refl
both_tables d (i ∷ ignores) =
    shuffle (is_in_file (code_of d.remark) i) (is_next_at d.begins (code_of d.remark) i) (list_any (is_in_file (code_of d.remark)) ignores) (list_any (is_next_at d.begins (code_of d.remark)) ignores)
    ∙ ap (λ b. b || (list_any (is_in_file (code_of d.remark)) ignores || list_any (is_next_at d.begins (code_of d.remark)) ignores)) (by_scope d.begins (code_of d.remark) i.code i.scope)
    ∙ ap (λ b. silences i d || b) (both_tables d ignores)

-- tables of what comments ask to ignore determine what the comments silence
pub silencing : (in_file : List Text) (at_lines : List (ℕ × Text)) (ignores : List Ignore)
    → ((code : Text) → is_among in_file code ≡ list_any (is_in_file code) ignores)
    → ((line : ℕ) (code : Text) → has_code_at at_lines line code ≡ list_any (is_next_at line code) ignores)
    → (d : DiagnosticValue) → are_silencing in_file at_lines d ≡ is_silenced ignores d
silencing in_file at_lines ignores f g d =
    ap (λ b. b || has_code_at at_lines d.begins (code_of d.remark)) (f (code_of d.remark))
    ∙ ap (λ b. list_any (is_in_file (code_of d.remark)) ignores || b) (g d.begins (code_of d.remark))
    ∙ both_tables d ignores

same_any : {X : Type 0} (p q : X → Bool) (xs : List X) → ((x : X) → p x ≡ q x) → list_any p xs ≡ list_any q xs
same_any p q [] e = refl
same_any p q (x ∷ xs) e = ap (λ b. b || list_any p xs) (e x) ∙ ap (λ b. q x || b) (same_any p q xs e)

none_any : {X : Type 0} (xs : List X) → list_any (λ x. false) xs ≡ false
none_any [] = refl
none_any (x ∷ xs) = none_any xs

-- tables of what was found determine whether a code silences any of it
pub met : (in_file : List Text) (at_lines : List (ℕ × Text)) (found : List DiagnosticValue)
    → ((code : Text) → is_among in_file code ≡ list_any (has_code code) found)
    → ((line : ℕ) (code : Text) → has_code_at at_lines line code ≡ list_any (has_code_in line code) found)
    → (i : Ignore) → is_met in_file at_lines i.scope i.code ≡ list_any (silences i) found
met in_file at_lines found f g i = by i.scope
  where
    by : (scope : Scope) → is_met in_file at_lines scope i.code ≡ list_any (λ d. covers scope d.begins && same_text (code_of d.remark) i.code) found
    by File = or_false (is_among in_file i.code) ∙ f i.code ∙ same_any (has_code i.code) (λ d. same_text (code_of d.remark) i.code) found (λ d. same_sym i.code (code_of d.remark))
    by (Next None) = sym (none_any found)
    by (Next (Some next)) =
        g next i.code
        ∙ same_any (has_code_in next i.code) (λ d. d.begins == next && same_text (code_of d.remark) i.code) found
        (λ d. ap (λ b. b && same_text i.code (code_of d.remark)) (equal_sym next d.begins) ∙ ap (λ b. d.begins == next && b) (same_sym i.code (code_of d.remark)))
    by Unread = sym (none_any found)
