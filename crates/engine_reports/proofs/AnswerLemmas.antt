-- The outcomes of lines, one list of them after another.
use Rattle.std.proofs.Common.{◌≡◌, ℕ, ◌+◌, ◌<◌, ◌≤◌, true, false, cond, List, [], ◌∷◌, ◌++◌, length, flat_map, ap, sym, ◌∙◌, append_assoc, length-append, add-zero, codes, decimal, arith}
use Rattle.std.proofs.lemmas.Bool.Decides.{nat_tests}
use Rattle.std.proofs.lemmas.List.{append-nil}
use Rattle.std.proofs.lemmas.Grind.{flat_map-append}
use Rattle.text_bytes.specs.Names.{newline}
use Rattle.text_bytes.specs.Text.{Text}
use Rattle.engine_sessions.specs.Delivery.{RunOutcome}
use Rattle.engine_reports.specs.LookupOutcomes.{after_answer, answered_from, is_too_long, most_bytes, too_long_line}
use Rattle.engine_reports.specs.Taking.{Leads}

pub long_is : (line : Text) → most_bytes < length line → is_too_long line ≡ true
long_is line h = grind (arith, nat_tests)

pub short_is : (line : Text) → length line ≤ most_bytes → is_too_long line ≡ false
short_is line h = grind (arith, nat_tests)

-- what is said if the first line is too long
abbrev pub stopped : ℕ → RunOutcome
stopped number = record { output = []; messages = too_long_line number; status = 1 }

pub answered_short : (answer : Text → Text) (number : ℕ) (line : Text) (others : List Text) → is_too_long line ≡ false → answered_from answer number (line ∷ others) ≡ after_answer (answer line) (answered_from answer (number + 1) others)
answered_short answer number line others e = ap (λ v. cond v (stopped number) (after_answer (answer line) (answered_from answer (number + 1) others))) e

pub answered_long : (answer : Text → Text) (number : ℕ) (line : Text) (others : List Text) → is_too_long line ≡ true → answered_from answer number (line ∷ others) ≡ stopped number
answered_long answer number line others e = ap (λ v. cond v (stopped number) (after_answer (answer line) (answered_from answer (number + 1) others))) e

after_both : (first second : Text) (outcome : RunOutcome) → after_answer first (after_answer second outcome) ≡ after_answer (first ++ second) outcome
after_both first second outcome = ap (λ text. record { output = text; messages = outcome.messages; status = outcome.status }) (sym (append_assoc first second outcome.output))

pub leads-none : (answer : Text → Text) → Leads answer []
leads-none answer number others = ap (λ n. answered_from answer n others) (sym (add-zero number))

pub leads-one : (answer : Text → Text) (line : Text) → is_too_long line ≡ false → Leads answer (line ∷ [])
leads-one answer line e number others =
    answered_short answer number line others e ∙ ap (λ text. after_answer text (answered_from answer (number + 1) others)) (sym (append-nil (answer line)))

pub leads-after : (answer : Text → Text) (first second : List Text) → Leads answer first → Leads answer second → Leads answer (first ++ second)
leads-after answer first second f s number others =
    ap (answered_from answer number) (append_assoc first second others) ∙ f number (second ++ others)
    ∙ ap (after_answer (flat_map answer first)) (s (number + length first) others)
    ∙ after_both (flat_map answer first) (flat_map answer second) (answered_from answer (number + length first + length second) others)
    ∙ ap (λ text. after_answer text (answered_from answer (number + length first + length second) others)) (sym (flat_map-append answer first second))
    ∙ ap (λ n. after_answer (flat_map answer (first ++ second)) (answered_from answer n others)) (sum_is number)
  where
    sum_is : (n : ℕ) → n + length first + length second ≡ n + length (first ++ second)
    sum_is n = omega (arith, length-append first second)

-- the outcome of lines that are all answered
pub answered_all : (answer : Text → Text) (number : ℕ) (ls : List Text) → Leads answer ls → answered_from answer number ls ≡ record { output = flat_map answer ls; messages = []; status = 0 }
answered_all answer number ls l =
    ap (answered_from answer number) (sym (append-nil ls)) ∙ l number []
    ∙ ap (λ text. record { output = text; messages = []; status = 0 }) (append-nil (flat_map answer ls))

-- the line on a line that is too long, piece by piece
pub too_long_pieces : (number : ℕ) → too_long_line number ≡ codes "devdry: line " ++ (decimal number ++ (codes ": too long" ++ (newline ∷ [] ++ [])))
unfolding too_long_line
too_long_pieces number = four (codes "devdry: line ") (decimal number) (codes ": too long") (newline ∷ [])
  where
    four : (a b c d : Text) → ((a ++ b) ++ c) ++ d ≡ a ++ (b ++ (c ++ (d ++ [])))
    four a b c d = append_assoc (a ++ b) c d ∙ append_assoc a b (c ++ d) ∙ ap (λ t. a ++ (b ++ (c ++ t))) (sym (append-nil d))
