-- A log of SARIF as a reader reads it.
use Rattle.std.proofs.Common.{◌≡◌, ℕ, ◌+◌, ◌*◌, ◌/◌, ◌%◌, ◌^◌, ◌<◌, ◌≤◌, ◌||◌, Bool, true, false, cond, eqb, not, List, [], ◌∷◌, ◌++◌, map, decimal, take, Some, refl, ap, sym, ◌∙◌, arith, append_assoc}
use Rattle.std.specs.Prelude.{count_by}
use Rattle.std.specs.List.{AllByRecursion, list_any}
use Rattle.std.proofs.lemmas.Bool.{agree_below_at, eqb-true, ne_eqb}
use Rattle.std.proofs.lemmas.List.Folds.{list_any-append}
use Rattle.text_bytes.specs.Escapes.{digit_value, hex_digit}
use Rattle.text_bytes.specs.Lines.{lines}
use Rattle.text_bytes.specs.Names.{close_brace, colon, newline, open_brace, percent}
use Rattle.json.specs.Json.{Json, document, string}
use Rattle.json.specs.Print.{print}
use Rattle.json.specs.Token as token
use Rattle.json.specs.Tree.{HasNumbers, ItemsHaveNumbers, depth, items_depth, items_tokens, json_tokens}
use Rattle.json.proofs.Printed.Decimals.{IsNumber-decimal}
use Rattle.json.proofs.Printed.Trees.{document-print}
use Rattle.engine_formats.specs.Diagnostics.{DiagnosticValue}
use Rattle.engine_formats.specs.Fingerprints.{FingerprintedValue, fingerprinted}
use Rattle.text_json.specs.Values.{array_of, items_of}
use Rattle.engine_formats.specs.Readers.{HasPlace, github_read, message_read}
use Rattle.engine_formats.specs.Sarif.{character_column, is_brace, log_object, message_byte, message_text, region_object, result_object, rule_object, driver_object, run_object, sarif_log, tool_object}
use Rattle.engine_formats.specs.Uris.{is_kept, uri_byte, uri_path}
use Rattle.file_catalogue.specs.declared.remark.Remark.{Remark}
use Rattle.engine_formats.proofs.Commands.{plain}
use Rattle.engine_formats.proofs.OneLine.{AreClean, Lacks, clean-append, first_line_is, lacks-append, print_lacks}
use Rattle.engine_formats.proofs.Read.{AllPlaced, number_clean, placed_after}

column_small : (source : List ℕ) (column : ℕ) → character_column source column < 2 ^ 32
column_small source column = omega arith

-- rules
rule_clean : (remark : Remark) → AreClean (json_tokens (rule_object remark))
rule_clean remark = (tt, (tt, (tt, (tt, (tt, (tt, (tt, (tt, (tt, (tt, (tt, (tt, (tt, (tt, (tt, (tt, (tt, (tt, (tt, (tt, (tt, (tt, (tt, (tt, tt))))))))))))))))))))))))

rules_clean : (remarks : List Remark) → AreClean (items_tokens (items_of (map rule_object remarks)))
rules_clean [] = (tt, tt)
rules_clean (r ∷ rs) = clean-append (json_tokens (rule_object r)) (items_tokens (items_of (map rule_object rs))) (rule_clean r) (rules_clean rs)

rules_numbers : (remarks : List Remark) → ItemsHaveNumbers (items_of (map rule_object remarks))
rules_numbers [] = tt
rules_numbers (r ∷ rs) = ((tt, ((tt, tt), ((tt, tt), ((tt, tt), ((tt, tt), tt))))), rules_numbers rs)

rules_depth : (remarks : List Remark) → items_depth (items_of (map rule_object remarks)) ≤ 2
rules_depth [] = omega arith
rules_depth (r ∷ rs) = omega (arith, rules_depth rs)

-- results
result_clean : (f : FingerprintedValue) → HasPlace f.diagnostic → AreClean (json_tokens (result_object f))
result_clean f h =
    let d : DiagnosticValue = f.diagnostic in
    (tt, (tt, (tt, (tt, (tt, (tt, (tt, (tt, (tt, (tt, (tt, (tt, (tt, (tt, (tt, (tt, (tt, (tt, (tt, (tt, (tt, (tt, (tt, (number_clean d.line h.line, (tt, (number_clean (character_column d.source d.column) (column_small d.source d.column), (tt, (number_clean (character_column d.source d.end) (column_small d.source d.end), (tt, (tt, (tt, (tt, (tt, (tt, (tt, (tt, (tt, (tt, tt))))))))))))))))))))))))))))))))))))))

results_clean : (fs : List FingerprintedValue) → AllPlaced fs → AreClean (items_tokens (items_of (map result_object fs)))
results_clean [] h = (tt, tt)
results_clean (f ∷ fs) h = clean-append (json_tokens (result_object f)) (items_tokens (items_of (map result_object fs))) (result_clean f h.0) (results_clean fs h.1)

region_numbers : (d : DiagnosticValue) → HasPlace d → HasNumbers (region_object d)
region_numbers d h =
    let begins = column_small d.source d.column in
    let ends = column_small d.source d.end in
    (IsNumber-decimal d.line (omega arith), (IsNumber-decimal (character_column d.source d.column) (omega (arith, begins)), (IsNumber-decimal (character_column d.source d.end) (omega (arith, ends)), tt)))

results_numbers : (fs : List FingerprintedValue) → AllPlaced fs → ItemsHaveNumbers (items_of (map result_object fs))
results_numbers [] h = tt
results_numbers (f ∷ fs) h =
    ((tt, (tt, ((tt, tt), (((((tt, tt), (region_numbers f.diagnostic h.0, tt)), tt), tt), ((tt, tt), tt))))), results_numbers fs h.1)

results_depth : (fs : List FingerprintedValue) → items_depth (items_of (map result_object fs)) ≤ 5
results_depth [] = omega arith
results_depth (f ∷ fs) = omega (arith, results_depth fs)

-- the whole log
driver_clean : (rs : List Remark) → AreClean (json_tokens (driver_object rs))
driver_clean rs = (tt, (tt, (tt, (tt, clean-append (json_tokens (array_of (map rule_object rs))) (token.end_object ∷ []) (tt, rules_clean rs) (tt, tt)))))

tool_clean : (rs : List Remark) → AreClean (json_tokens (tool_object rs))
tool_clean rs = (tt, (tt, clean-append (json_tokens (driver_object rs)) (token.end_object ∷ []) (driver_clean rs) (tt, tt)))

run_clean : (rs : List Remark) (fs : List FingerprintedValue) → AllPlaced fs → AreClean (json_tokens (run_object rs fs))
run_clean rs fs h =
    let results : AreClean (json_tokens (array_of (map result_object fs)) ++ token.end_object ∷ []) =
    clean-append (json_tokens (array_of (map result_object fs))) (token.end_object ∷ []) (tt, results_clean fs h) (tt, tt) in
    (tt, (tt, clean-append (json_tokens (tool_object rs)) _ (tool_clean rs) (tt, (tt, (tt, results)))))

log_clean : (rs : List Remark) (fs : List FingerprintedValue) → AllPlaced fs → AreClean (json_tokens (log_object rs fs))
log_clean rs fs h =
    let run : AreClean (json_tokens (array_of (run_object rs fs ∷ []))) = (tt, clean-append (json_tokens (run_object rs fs)) (token.end_array ∷ []) (run_clean rs fs h) (tt, tt)) in
    (tt, (tt, (tt, (tt, (tt, (tt, clean-append (json_tokens (array_of (run_object rs fs ∷ []))) (token.end_object ∷ []) run (tt, tt)))))))

log_numbers : (rs : List Remark) (fs : List FingerprintedValue) → AllPlaced fs → HasNumbers (log_object rs fs)
log_numbers rs fs h = (tt, (tt, (((((tt, (rules_numbers rs, tt)), tt), (tt, (results_numbers fs h, tt))), tt), tt)))

pub log_line_read : (rs : List Remark) (ds : List DiagnosticValue) → AllByRecursion HasPlace ds → map document (lines (sarif_log rs ds)) ≡ Some (log_object rs (fingerprinted ds)) ∷ []
unfolding sarif_log
log_line_read rs ds h =
    let fs : List FingerprintedValue = fingerprinted ds in
    let placed : AllPlaced fs = placed_after [] ds h in
    let whole : Json = log_object rs fs in
    ap (map document) (first_line_is (print (json_tokens whole)) [] (print_lacks false (json_tokens whole) (log_clean rs fs placed)))
    ∙ ap (λ o. o ∷ []) (document-print whole (log_numbers rs fs placed) (omega (arith, rules_depth rs, results_depth fs)))

-- messages
message_back : (b : ℕ) (rest : List ℕ) (brace : Bool) → is_brace b ≡ brace → message_read (cond brace (b ∷ b ∷ []) (b ∷ []) ++ rest) ≡ b ∷ message_read rest
message_back b rest true e = ap (λ v. cond v (b ∷ message_read rest) (b ∷ message_read (b ∷ rest))) e
message_back b [] false e = refl
message_back b (c ∷ rest) false e = ap (λ v. cond v (b ∷ message_read rest) (b ∷ message_read (c ∷ rest))) e

pub message_read_back : (text : List ℕ) → message_read (message_text text) ≡ text
message_read_back [] = refl
message_read_back (b ∷ text) = message_back b (message_text text) (is_brace b) refl ∙ ap (λ (t : List ℕ). b ∷ t) (message_read_back text)

-- paths
digit_back : (n : ℕ) → n < 16 → digit_value (hex_digit n) ≡ n
digit_back n h = eqb-true (digit_value (hex_digit n)) n (agree_below_at (λ n. eqb (digit_value (hex_digit n)) n) (λ _. true) 16 n refl h)

digit_is_no_colon : (n : ℕ) → n < 16 → eqb (hex_digit n) colon ≡ false
digit_is_no_colon n h = agree_below_at (λ n. eqb (hex_digit n) colon) (λ _. false) 16 n refl h

-- a byte that stands for itself is neither `%` nor a colon
kept_is_other : (b other : ℕ) → is_kept other ≡ false → is_kept b ≡ true → eqb b other ≡ false
kept_is_other b other none e = ne_eqb b other (λ same. let kept : is_kept b ≡ is_kept other = ap is_kept same in cc)

byte_back : (b : ℕ) (rest : List ℕ) (kept : Bool) → is_kept b ≡ kept → b < 256
    → github_read (cond kept (b ∷ []) (percent ∷ hex_digit (b / 16) ∷ hex_digit (b % 16) ∷ []) ++ rest) ≡ b ∷ github_read rest
byte_back b rest true e h = plain b rest (kept_is_other b percent refl e)
byte_back b rest false e h =
    let high = digit_back (b / 16) (omega arith) in
    let low = digit_back (b % 16) (omega arith) in
    let whole : 16 * digit_value (hex_digit (b / 16)) + digit_value (hex_digit (b % 16)) ≡ b = omega (arith, high, low) in
    ap (λ (n : ℕ). n ∷ github_read rest) whole

pub path_back : (path : List ℕ) → AllByRecursion (λ (b : ℕ). b < 256) path → github_read (uri_path path) ≡ path
path_back [] h = refl
path_back (b ∷ path) h = byte_back b (uri_path path) (is_kept b) refl h.0 ∙ ap (λ (t : List ℕ). b ∷ t) (path_back path h.1)

byte_lacks : (b : ℕ) (kept : Bool) → is_kept b ≡ kept → b < 256 → Lacks colon (cond kept (b ∷ []) (percent ∷ hex_digit (b / 16) ∷ hex_digit (b % 16) ∷ []))
byte_lacks b true e h = rw (kept_is_other b colon refl e) refl
byte_lacks b false e h = rw (digit_is_no_colon (b / 16) (omega arith), digit_is_no_colon (b % 16) (omega arith)) refl

pub path_lacks : (path : List ℕ) → AllByRecursion (λ (b : ℕ). b < 256) path → Lacks colon (uri_path path)
path_lacks [] h = refl
path_lacks (b ∷ path) h = lacks-append colon (uri_byte b) (uri_path path) (byte_lacks b (is_kept b) refl h.0) (path_lacks path h.1)
