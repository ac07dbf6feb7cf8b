-- Laws of the outcome of lines.
use Rattle.std.proofs.Common.{◌≡◌, ℕ, ◌+◌, ◌==◌, Bool, true, false, cond, List, [], ◌∷◌, ◌++◌, length, flat_map, refl, ap, sym, ◌∙◌, arith}
use Rattle.std.specs.List.{onto_first}
use Rattle.std.proofs.lemmas.List.{append-nil}
use Rattle.text_bytes.specs.Names.{newline}
use Rattle.text_bytes.specs.Lines.{lines}
use Rattle.text_bytes.specs.Text.{Text}
use Rattle.device_core.specs.RunBlocks.{newline_count}
use Rattle.engine_reports.specs.LookupOutcomes.{after_messages, answered_from, is_too_long, lines_outcome}
use Rattle.engine_reports.specs.Taking.{Leads}
use Rattle.engine_reports.proofs.LineLemmas.{first_ended, onto, onto_some}
use Rattle.engine_reports.proofs.AnswerLemmas.{answered_all, answered_long, answered_short, leads-after, leads-none, leads-one}

pub alone : (messages : Text) (answer : Text → Text) (line : Text) → newline_count line ≡ 0 → is_too_long line ≡ false → lines_outcome messages answer (line ++ newline ∷ []) ≡ record { output = answer line; messages = messages; status = 0 }
alone messages answer line h e =
    ap (after_messages messages) (ap (answered_from answer 1) (first_ended line [] h) ∙ answered_short answer 1 line [] e)
    ∙ ap (λ text. record { output = text; messages = messages ++ []; status = 0 }) (append-nil (answer line))
    ∙ ap (λ text. record { output = answer line; messages = text; status = 0 }) (append-nil messages)

-- a text that ends in a newline has a line
some_line : (a : Text) → (first : Text) × (others : List Text) × (lines (a ++ newline ∷ []) ≡ first ∷ others)
some_line [] = ([], [], refl)
some_line (byte ∷ a) = by_test (byte == newline) refl
  where
    by_test : (v : Bool) → (byte == newline) ≡ v → (first : Text) × (others : List Text) × (lines ((byte ∷ a) ++ newline ∷ []) ≡ first ∷ others)
    by_test true e = ([], lines (a ++ newline ∷ []), ap (λ v. cond v ([] ∷ lines (a ++ newline ∷ [])) (onto_first byte (lines (a ++ newline ∷ [])))) e)
    by_test false e = let some = onto_some byte (lines (a ++ newline ∷ [])) in (byte ∷ some.0, some.1, onto byte (a ++ newline ∷ []) e ∙ some.2)

onto-append : (byte : ℕ) (ls rest others : List Text) (first : Text) → ls ≡ first ∷ others → onto_first byte (ls ++ rest) ≡ onto_first byte ls ++ rest
onto-append byte ls rest others first e = ap (λ l. onto_first byte (l ++ rest)) e ∙ sym (ap (λ l. onto_first byte l ++ rest) e)

-- the lines of two texts, one after the other's newline
lines-append : (a b : Text) → lines (a ++ newline ∷ b) ≡ lines (a ++ newline ∷ []) ++ lines b
lines-append [] b = refl
lines-append (byte ∷ a) b = by_test (byte == newline) refl (lines-append a b)
  where
    by_test : (v : Bool) → (byte == newline) ≡ v → lines (a ++ newline ∷ b) ≡ lines (a ++ newline ∷ []) ++ lines b → lines ((byte ∷ a) ++ newline ∷ b) ≡ lines ((byte ∷ a) ++ newline ∷ []) ++ lines b
    by_test true e rest =
        ap (λ v. cond v ([] ∷ lines (a ++ newline ∷ b)) (onto_first byte (lines (a ++ newline ∷ b)))) e
        ∙ ap (λ ls. [] ∷ ls) rest
        ∙ sym (ap (λ v. cond v ([] ∷ lines (a ++ newline ∷ [])) (onto_first byte (lines (a ++ newline ∷ []))) ++ lines b) e)
    by_test false e rest =
        let some = some_line a in
        onto byte (a ++ newline ∷ b) e ∙ ap (onto_first byte) rest
        ∙ onto-append byte (lines (a ++ newline ∷ [])) (lines b) some.1 some.0 some.2
        ∙ ap (λ ls. ls ++ lines b) (sym (onto byte (a ++ newline ∷ []) e))

-- lines of which none is too long
leads_well : (answer : Text → Text) (ls : List Text) (number : ℕ) → (answered_from answer number ls).status ≡ 0 → Leads answer ls
leads_well answer [] number h = leads-none answer
leads_well answer (line ∷ ls) number h = by_test (is_too_long line) refl (leads_well answer ls (number + 1))
  where
    by_test : (v : Bool) → is_too_long line ≡ v → ((answered_from answer (number + 1) ls).status ≡ 0 → Leads answer ls) → Leads answer (line ∷ ls)
    by_test true e rest = let one : 1 ≡ 0 = sym (ap (λ o. o.status) (answered_long answer number line ls e)) ∙ h in absurd (omega (arith, one))
    by_test false e rest = leads-after answer (line ∷ []) ls (leads-one answer line e) (rest (sym (ap (λ o. o.status) (answered_short answer number line ls e)) ∙ h))

-- what is written does not depend on the number of the first line, nor does the status
same_output : (answer : Text → Text) (ls : List Text) (n m : ℕ) → (answered_from answer n ls).output ≡ (answered_from answer m ls).output
same_output answer [] n m = refl
same_output answer (line ∷ ls) n m = by_test (is_too_long line) refl (same_output answer ls (n + 1) (m + 1))
  where
    by_test : (v : Bool) → is_too_long line ≡ v → (answered_from answer (n + 1) ls).output ≡ (answered_from answer (m + 1) ls).output → (answered_from answer n (line ∷ ls)).output ≡ (answered_from answer m (line ∷ ls)).output
    by_test true e rest = ap (λ o. o.output) (answered_long answer n line ls e) ∙ sym (ap (λ o. o.output) (answered_long answer m line ls e))
    by_test false e rest =
        ap (λ o. o.output) (answered_short answer n line ls e) ∙ ap (λ text. answer line ++ text) rest
        ∙ sym (ap (λ o. o.output) (answered_short answer m line ls e))

same_status : (answer : Text → Text) (ls : List Text) (n m : ℕ) → (answered_from answer n ls).status ≡ (answered_from answer m ls).status
same_status answer [] n m = refl
same_status answer (line ∷ ls) n m = by_test (is_too_long line) refl (same_status answer ls (n + 1) (m + 1))
  where
    by_test : (v : Bool) → is_too_long line ≡ v → (answered_from answer (n + 1) ls).status ≡ (answered_from answer (m + 1) ls).status → (answered_from answer n (line ∷ ls)).status ≡ (answered_from answer m (line ∷ ls)).status
    by_test true e rest = ap (λ o. o.status) (answered_long answer n line ls e) ∙ sym (ap (λ o. o.status) (answered_long answer m line ls e))
    by_test false e rest =
        ap (λ o. o.status) (answered_short answer n line ls e) ∙ rest
        ∙ sym (ap (λ o. o.status) (answered_short answer m line ls e))

module _ (messages : Text) (answer : Text → Text) (first second : Text) (well : (lines_outcome messages answer (first ++ newline ∷ [])).status ≡ 0) where
  leads : Leads answer (lines (first ++ newline ∷ []))
  leads = leads_well answer (lines (first ++ newline ∷ [])) 1 well

  pub both_outputs : (lines_outcome messages answer (first ++ newline ∷ second)).output ≡ (lines_outcome messages answer (first ++ newline ∷ [])).output ++ (lines_outcome messages answer second).output
  both_outputs =
      ap (λ ls. (answered_from answer 1 ls).output) (lines-append first second)
      ∙ ap (λ o. o.output) (leads 1 (lines second))
      ∙ ap (λ text. flat_map answer (lines (first ++ newline ∷ [])) ++ text) (same_output answer (lines second) (1 + length (lines (first ++ newline ∷ []))) 1)
      ∙ ap (λ text. text ++ (answered_from answer 1 (lines second)).output) (sym (ap (λ o. o.output) (answered_all answer 1 (lines (first ++ newline ∷ [])) leads)))

  pub last_status : (lines_outcome messages answer (first ++ newline ∷ second)).status ≡ (lines_outcome messages answer second).status
  last_status =
      ap (λ ls. (answered_from answer 1 ls).status) (lines-append first second)
      ∙ ap (λ o. o.status) (leads 1 (lines second))
      ∙ same_status answer (lines second) (1 + length (lines (first ++ newline ∷ []))) 1
