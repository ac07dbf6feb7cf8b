-- The outcome of lines one of which is too long.
use Rattle.std.proofs.Common.{◌≡◌, ℕ, ◌+◌, ◌<◌, true, false, List, [], ◌∷◌, ◌++◌, length, flat_map, refl, ap, ◌∙◌, append_assoc, length-append, arith}
use Rattle.std.specs.List.{AllByRecursion}
use Rattle.std.proofs.lemmas.Bool.Decides.{nat_tests}
use Rattle.std.proofs.lemmas.List.{append-nil}
use Rattle.text_bytes.specs.Lines.{lines}
use Rattle.text_bytes.specs.Names.{newline}
use Rattle.text_bytes.specs.Text.{Text}
use Rattle.device_core.specs.RunBlocks.{newline_count}
use Rattle.engine_reports.specs.LookupOutcomes.{after_answer, after_messages, answered_from, is_too_long, lines_outcome, most_bytes, too_long_line}
use Rattle.engine_reports.specs.Taking.{Leads}
use Rattle.engine_reports.proofs.LineLemmas.{first_ended, first_longer}
use Rattle.engine_reports.proofs.AnswerLemmas.{answered_long, leads-after, leads-none, leads-one, long_is}

-- a line that newlines don't cut, and that is not too long
abbrev IsShort : Text → Type 0
IsShort line = (newline_count line ≡ 0) × (is_too_long line ≡ false)

abbrev ended : Text → Text
ended line = line ++ newline ∷ []

lines_first : (before : List Text) (rest : Text) → AllByRecursion IsShort before → lines (flat_map ended before ++ rest) ≡ before ++ lines rest
lines_first [] rest h = refl
lines_first (line ∷ before) rest h =
    ap lines (append_assoc (ended line) (flat_map ended before) rest ∙ append_assoc line (newline ∷ []) (flat_map ended before ++ rest))
    ∙ first_ended line (flat_map ended before ++ rest) h.0.0
    ∙ ap (λ ls. line ∷ ls) (lines_first before rest h.1)

leads_short : (answer : Text → Text) (before : List Text) → AllByRecursion IsShort before → Leads answer before
leads_short answer [] h = leads-none answer
leads_short answer (line ∷ before) h = leads-after answer (line ∷ []) before (leads-one answer line h.0.1) (leads_short answer before h.1)

over : (line : Text) → is_too_long line ≡ true → most_bytes < length line
over line h = grind (arith, nat_tests)

long_reported : (answer : Text → Text) (number : ℕ) (long later : Text) → newline_count long ≡ 0 → is_too_long long ≡ true
    → answered_from answer number (lines (long ++ later)) ≡ record { output = []; messages = too_long_line number; status = 1 }
long_reported answer number long later none h =
    let o = over long h in
    let first = first_longer long later none (omega (arith, o)) in
    ap (answered_from answer number) first.2
    ∙ answered_long answer number (long ++ first.0) first.1 (long_is (long ++ first.0) (omega (arith, o, length-append long first.0)))

-- it is reported by its number, after the answers to those before it
pub reported_by_number : (messages : Text) (answer : Text → Text) (before : List Text) (long later : Text) → AllByRecursion (λ line. (newline_count line ≡ 0) × (is_too_long line ≡ false)) before → newline_count long ≡ 0 → is_too_long long ≡ true
    → lines_outcome messages answer (flat_map (λ line. line ++ newline ∷ []) before ++ (long ++ later)) ≡ record { output = flat_map answer before; messages = messages ++ too_long_line (length before + 1); status = 1 }
reported_by_number messages answer before long later short none h =
    ap (λ ls. after_messages messages (answered_from answer 1 ls)) (lines_first before (long ++ later) short)
    ∙ ap (after_messages messages) (leads_short answer before short 1 (lines (long ++ later)))
    ∙ ap (λ o. after_messages messages (after_answer (flat_map answer before) o)) (long_reported answer (1 + length before) long later none h)
    ∙ ap (λ n. record { output = flat_map answer before ++ []; messages = messages ++ too_long_line n; status = 1 }) (sums (length before))
    ∙ ap (λ text. record { output = text; messages = messages ++ too_long_line (length before + 1); status = 1 }) (append-nil (flat_map answer before))
  where
    sums : (n : ℕ) → 1 + n ≡ n + 1
    sums n = omega arith
