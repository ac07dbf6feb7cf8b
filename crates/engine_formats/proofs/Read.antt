-- The formats for programs, as these read them.
use Rattle.std.proofs.Common.{◌≡◌, ℕ, ◌+◌, ◌^◌, ◌<◌, ◌≤◌, false, List, [], ◌∷◌, ◌++◌, map, flat_map, decimal, Some, refl, ap, ◌∙◌, arith, append_assoc}
use Rattle.std.specs.List.{AllByRecursion}
use Rattle.std.proofs.lemmas.Bool.{ne_eqb}
use Rattle.text_bytes.specs.Lines.{lines}
use Rattle.text_bytes.specs.Names.{newline}
use Rattle.json.specs.Json.{document}
use Rattle.json.specs.Print.{print}
use Rattle.json.specs.Tree.{HasNumbers, ItemsHaveNumbers, items_depth, items_tokens, json_tokens}
use Rattle.json.proofs.Printed.Decimals.{IsNumber-decimal}
use Rattle.json.proofs.Printed.Trees.{document-print}
use Rattle.engine_formats.specs.Diagnostics.{DiagnosticValue}
use Rattle.text_bytes.specs.Text.{Text}
use Rattle.engine_formats.specs.Fingerprints.{FingerprintedValue, fingerprinted, fingerprinted_after, mark_of}
use Rattle.text_json.specs.Values.{array_of, items_of}
use Rattle.engine_formats.specs.Json.{gitlab_issue, gitlab_report, json_line, json_object}
use Rattle.engine_formats.specs.Readers.{HasPlace}
use Rattle.engine_formats.proofs.OneLine.{AreClean, Lacks, clean-append, decimal_lacks, first_line_is, print_lacks}

pub number_clean : (n : ℕ) → n < 2 ^ 32 → Lacks newline (decimal n)
number_clean n h = decimal_lacks newline (λ d small. ne_eqb (48 + d) newline (λ e. omega arith)) n (omega arith)

object_clean : (d : DiagnosticValue) → HasPlace d → AreClean (json_tokens (json_object d))
object_clean d h =
    (tt, (tt, (tt, (tt, (number_clean d.line h.line, (tt, (number_clean d.column h.column, (tt, (number_clean d.end h.end, (tt, (tt, (tt, (tt, (tt, (tt, (tt, (tt, (tt, tt))))))))))))))))))

object_numbers : (d : DiagnosticValue) → HasPlace d → HasNumbers (json_object d)
object_numbers d h =
    (tt, (IsNumber-decimal d.line (omega arith), (IsNumber-decimal d.column (omega arith), (IsNumber-decimal d.end (omega arith), (tt, (tt, (tt, (tt, tt))))))))

object_read : (d : DiagnosticValue) → HasPlace d → document (print (json_tokens (json_object d))) ≡ Some (json_object d)
object_read d h = document-print (json_object d) (object_numbers d h) (omega arith)

pub lines_read : (ds : List DiagnosticValue) → AllByRecursion HasPlace ds → map document (lines (flat_map json_line ds)) ≡ map (λ d. Some (json_object d)) ds
unfolding json_line
lines_read [] h = refl
lines_read (d ∷ ds) h =
    let text : List ℕ = print (json_tokens (json_object d)) in
    let rest : List ℕ = flat_map json_line ds in
    ap (λ (whole : List ℕ). map document (lines whole)) (append_assoc text (newline ∷ []) rest)
    ∙ ap (map document) (first_line_is text rest (print_lacks false (json_tokens (json_object d)) (object_clean d h.0)))
    ∙ (λ i. object_read d h.0 i ∷ lines_read ds h.1 i)

issue_clean : (f : FingerprintedValue) → HasPlace f.diagnostic → AreClean (json_tokens (gitlab_issue f))
issue_clean f h =
    (tt, (tt, (tt, (tt, (tt, (tt, (tt, (tt, (tt, (tt, (tt, (tt, (tt, (tt, (tt, (tt, (number_clean f.diagnostic.line h.line, (tt, (tt, (tt, tt))))))))))))))))))))

-- the diagnostics with their fingerprints have their places
abbrev pub AllPlaced : List FingerprintedValue → Type 0
AllPlaced fs = AllByRecursion (λ (f : FingerprintedValue). HasPlace f.diagnostic) fs

items_clean : (fs : List FingerprintedValue) → AllPlaced fs → AreClean (items_tokens (items_of (map gitlab_issue fs)))
items_clean [] h = (tt, tt)
items_clean (f ∷ fs) h =
    clean-append (json_tokens (gitlab_issue f)) (items_tokens (items_of (map gitlab_issue fs))) (issue_clean f h.0) (items_clean fs h.1)

issues_numbers : (fs : List FingerprintedValue) → AllPlaced fs → ItemsHaveNumbers (items_of (map gitlab_issue fs))
issues_numbers [] h = tt
issues_numbers (f ∷ fs) h = ((tt, (tt, (tt, (tt, ((tt, ((IsNumber-decimal f.diagnostic.line (omega arith), tt), tt)), tt))))), issues_numbers fs h.1)

issues_depth : (fs : List FingerprintedValue) → items_depth (items_of (map gitlab_issue fs)) ≤ 3
issues_depth [] = omega arith
issues_depth (f ∷ fs) = omega (arith, issues_depth fs)

report_read : (fs : List FingerprintedValue) → AllPlaced fs → document (print (json_tokens (array_of (map gitlab_issue fs)))) ≡ Some (array_of (map gitlab_issue fs))
report_read fs h = document-print (array_of (map gitlab_issue fs)) (issues_numbers fs h) (omega (arith, issues_depth fs))

pub placed_after : (before : List Text) (ds : List DiagnosticValue) → AllByRecursion HasPlace ds → AllPlaced (fingerprinted_after before ds)
placed_after before [] h = tt
placed_after before (d ∷ ds) h = (h.0, placed_after (before ++ mark_of d ∷ []) ds h.1)

pub report_line_read : (ds : List DiagnosticValue) → AllByRecursion HasPlace ds → map document (lines (gitlab_report ds)) ≡ Some (array_of (map gitlab_issue (fingerprinted ds))) ∷ []
unfolding gitlab_report
report_line_read ds h =
    let fs : List FingerprintedValue = fingerprinted ds in
    let placed : AllPlaced fs = placed_after [] ds h in
    let text : List ℕ = print (json_tokens (array_of (map gitlab_issue fs))) in
    ap (map document) (first_line_is text [] (print_lacks false (json_tokens (array_of (map gitlab_issue fs))) (tt, items_clean fs placed)))
    ∙ ap (λ o. o ∷ []) (report_read fs placed)
