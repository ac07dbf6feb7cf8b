-- A text is cut one way into its complete runs and its rest.
use Rattle.std.specs.Prelude.{◌≡◌, ◌≢◌, ◌↔◌, ◌==◌, ◌&&◌, ◌+◌, ℕ, zero, suc, Bool, true, false, List, [], ◌∷◌, ◌++◌, replicate, refl}
use Rattle.std.proofs.Common.{append_assoc, ap, sym, ◌∙◌, subst}
use Rattle.std.proofs.lemmas.List.{append-nil, replicate-append-replicate}
use Rattle.std.proofs.lemmas.Bool.{eqb-true}
use Rattle.device_core.specs.Runs.{complete_runs, rest_of, not_empty}
use Rattle.eval_laws.specs.Cuts.{HasNoEmptyLine, IsCompleteRun, IsCutInto}
use Rattle.device_core.specs.Holding.{begins_after}
use Rattle.device_core.proofs.Law.{complete_runs-append, rest_of-append, byte_stays, byte_ends, begins_after-push}
use Rattle.device_core.proofs.Chunks.{Proceeds, chunk_stays}

-- if no byte is the newline of an empty line, no two newlines are in a row
proceeds-in_a_row : (start : Bool) (before following : List ℕ) → Proceeds start (before ++ 10 ∷ 10 ∷ following) → ⊥
proceeds-in_a_row start [] following g = let both : true ≡ false = g.1.0 in absurd cc
proceeds-in_a_row start (byte ∷ before) following g = proceeds-in_a_row (byte == 10) before following g.1

no_empty_line : (text : List ℕ) → Proceeds true text → HasNoEmptyLine text
no_empty_line text g = record {
  begins = λ following e. let first : true ≡ false = (subst (Proceeds true) e g).0 in absurd cc;
  in_a_row = λ before following e. proceeds-in_a_row true before following (subst (Proceeds true) e g);
}

-- and the other way round
stays_by : (start newline : Bool) (byte : ℕ) (text : List ℕ) → (byte == 10) ≡ newline → (start ≡ true → (following : List ℕ) → byte ∷ text ≢ 10 ∷ following) → (start && newline) ≡ false
stays_by true true byte text e first = absurd (first refl text (ap (λ b. b ∷ text) (eqb-true byte 10 e)))
stays_by true false byte text e first = refl
stays_by false newline byte text e first = refl

proceeds : (start : Bool) (text : List ℕ) → (start ≡ true → (following : List ℕ) → text ≢ 10 ∷ following) → ((before following : List ℕ) → text ≢ before ++ 10 ∷ 10 ∷ following) → Proceeds start text
proceeds start [] first row = tt
proceeds start (byte ∷ text) first row = (
  stays_by start (byte == 10) byte text refl first,
  proceeds (byte == 10) text
      (λ e following is. row [] following (ap (λ b. b ∷ text) (eqb-true byte 10 e) ∙ ap (λ l. 10 ∷ l) is))
      (λ before following is. row (byte ∷ before) following (ap (λ l. byte ∷ l) is)),
)

pub proceeds-is : (text : List ℕ) → HasNoEmptyLine text → Proceeds true text
proceeds-is text h = proceeds true text (λ _. h.begins) h.in_a_row

-- newlines in front change nothing
newlines_before : (count : ℕ) (text : List ℕ) → (complete_runs (replicate count 10 ++ text) ≡ complete_runs text) × (rest_of (replicate count 10 ++ text) ≡ rest_of text)
newlines_before zero text = (refl, refl)
newlines_before (suc count) text = newlines_before count text

-- nor does a text without an empty line have a run
rest_alone : (rest : List ℕ) → HasNoEmptyLine rest → (complete_runs rest ≡ []) × (rest_of rest ≡ rest)
rest_alone rest h = chunk_stays [] [] rest true refl refl (proceeds-is rest h)

begins_after-ends : (run before : List ℕ) → run ≡ before ++ 10 ∷ [] → true ≡ begins_after true run
begins_after-ends run before e = sym (ap (begins_after true) e ∙ begins_after-push true before 10)

not_empty-ends : (run before : List ℕ) → run ≡ before ++ 10 ∷ [] → not_empty (run ∷ []) ≡ run ∷ []
not_empty-ends [] [] e = absurd cc
not_empty-ends [] (byte ∷ before) e = absurd cc
not_empty-ends (byte ∷ run) before e = refl

-- a run in front is the first
run_before : (run later : List ℕ) → IsCompleteRun run → (complete_runs (run ++ 10 ∷ later) ≡ run ∷ complete_runs later) × (rest_of (run ++ 10 ∷ later) ≡ rest_of later)
run_before run later h =
    let alone = rest_alone run h.no_empty_line in
    let p = byte_ends run run true 10 alone.1 (begins_after-ends run h.before h.ends) refl in
    let whole : run ++ 10 ∷ later ≡ (run ++ 10 ∷ []) ++ later = sym (append_assoc run (10 ∷ []) later) in (
      ap complete_runs whole ∙ complete_runs-append (run ++ 10 ∷ []) later
          ∙ ap (λ l. l ++ complete_runs (rest_of (run ++ 10 ∷ []) ++ later)) (p.0 ∙ ap (λ l. l ++ not_empty (run ∷ [])) alone.0 ∙ not_empty-ends run h.before h.ends)
          ∙ ap (λ r. run ∷ complete_runs (r ++ later)) p.1,
      ap rest_of whole ∙ rest_of-append (run ++ 10 ∷ []) later ∙ ap (λ r. rest_of (r ++ later)) p.1,
    )

-- what a text is cut into are its complete runs and its rest
pub cut-is : (text : List ℕ) (runs : List (List ℕ)) (rest : List ℕ) → IsCutInto text runs rest → (complete_runs text ≡ runs) × (rest_of text ≡ rest)
cut-is text [] rest cut =
    let n = newlines_before cut.0 rest in
    let alone = rest_alone rest cut.2 in
    (ap complete_runs cut.1 ∙ n.0 ∙ alone.0, ap rest_of cut.1 ∙ n.1 ∙ alone.1)
cut-is text (run ∷ runs) rest cut =
    let n = newlines_before cut.0 (run ++ 10 ∷ cut.1) in
    let first = run_before run cut.1 cut.3 in
    let others = cut-is cut.1 runs rest cut.4 in
    (ap complete_runs cut.2 ∙ n.0 ∙ first.0 ∙ ap (λ l. run ∷ l) others.0, ap rest_of cut.2 ∙ n.1 ∙ first.1 ∙ others.1)

-- nothing has no empty line
nothing_open : HasNoEmptyLine []
nothing_open = no_empty_line [] tt

-- a text after which a line begins ends in a newline
ends_in_newline : (start : Bool) (byte : ℕ) (text : List ℕ) → begins_after start (byte ∷ text) ≡ true → (before : List ℕ) × (byte ∷ text ≡ before ++ 10 ∷ [])
ends_in_newline start byte [] e = ([], ap (λ b. b ∷ []) (eqb-true byte 10 e))
ends_in_newline start byte (next ∷ text) e = let later = ends_in_newline (byte == 10) next text e in (byte ∷ later.0, ap (λ l. byte ∷ l) later.1)

-- one more byte that goes onto the rest
cut_byte_stays : (text : List ℕ) (runs : List (List ℕ)) (rest : List ℕ) (byte : ℕ) → IsCutInto text runs rest → HasNoEmptyLine (rest ++ byte ∷ []) → IsCutInto (text ++ byte ∷ []) runs (rest ++ byte ∷ [])
cut_byte_stays text [] rest byte cut unbroken = (cut.0, ap (λ l. l ++ byte ∷ []) cut.1 ∙ append_assoc (replicate cut.0 10) rest (byte ∷ []), unbroken)
cut_byte_stays text (run ∷ runs) rest byte cut unbroken = (
  cut.0,
  cut.1 ++ byte ∷ [],
  ap (λ l. l ++ byte ∷ []) cut.2 ∙ append_assoc (replicate cut.0 10) (run ++ 10 ∷ cut.1) (byte ∷ []) ∙ ap (λ l. replicate cut.0 10 ++ l) (append_assoc run (10 ∷ cut.1) (byte ∷ [])),
  cut.3,
  cut_byte_stays cut.1 runs rest byte cut.4 unbroken,
)

-- the newline of an empty line, after newlines and a rest
last_ends : (count : ℕ) (rest : List ℕ) → HasNoEmptyLine rest → true ≡ begins_after true rest → IsCutInto ((replicate count 10 ++ rest) ++ 10 ∷ []) (not_empty (rest ∷ [])) []
last_ends count [] unbroken ends = (
  count + 1,
  ap (λ l. l ++ 10 ∷ []) (append-nil (replicate count 10)) ∙ replicate-append-replicate count 1 10 ∙ sym (append-nil (replicate (count + 1) 10)),
  nothing_open,
)
last_ends count (byte ∷ rest) unbroken ends =
    let last = ends_in_newline true byte rest (sym ends) in (
      count,
      [],
      append_assoc (replicate count 10) (byte ∷ rest) (10 ∷ []),
      record { no_empty_line = unbroken; before = last.0; ends = last.1 },
      (0, refl, nothing_open),
    )

-- one more newline, that of an empty line
cut_byte_ends : (text : List ℕ) (runs : List (List ℕ)) (rest : List ℕ) → IsCutInto text runs rest → true ≡ begins_after true rest → IsCutInto (text ++ 10 ∷ []) (runs ++ not_empty (rest ∷ [])) []
cut_byte_ends text [] rest cut ends = subst (λ t. IsCutInto (t ++ 10 ∷ []) (not_empty (rest ∷ [])) []) (sym cut.1) (last_ends cut.0 rest cut.2 ends)
cut_byte_ends text (run ∷ runs) rest cut ends = (
  cut.0,
  cut.1 ++ 10 ∷ [],
  ap (λ l. l ++ 10 ∷ []) cut.2 ∙ append_assoc (replicate cut.0 10) (run ++ 10 ∷ cut.1) (10 ∷ []) ∙ ap (λ l. replicate cut.0 10 ++ l) (append_assoc run (10 ∷ cut.1) (10 ∷ [])),
  cut.3,
  cut_byte_ends cut.1 runs rest cut.4 ends,
)

-- the rest of a cut has no empty line
rest-open : (text : List ℕ) (runs : List (List ℕ)) (rest : List ℕ) → IsCutInto text runs rest → HasNoEmptyLine rest
rest-open text [] rest cut = cut.2
rest-open text (run ∷ runs) rest cut = rest-open cut.1 runs rest cut.4

proceeds-push : (start : Bool) (text : List ℕ) (byte : ℕ) → Proceeds start text → (begins_after start text && (byte == 10)) ≡ false → Proceeds start (text ++ byte ∷ [])
proceeds-push start [] byte g e = (e, tt)
proceeds-push start (first ∷ text) byte g e = (g.0, proceeds-push (first == 10) text byte g.1 e)

-- the text is cut into its complete runs and its rest
abbrev pub IsCut : List ℕ → Type 0
IsCut text = IsCutInto text (complete_runs text) (rest_of text)

and_true : (start newline : Bool) → (start && newline) ≡ true → (true ≡ start) × (newline ≡ true)
and_true true true e = (refl, refl)
and_true true false e = absurd cc
and_true false newline e = absurd cc

cut_one_more_by : (text : List ℕ) (byte : ℕ) (ends : Bool) → (begins_after true (rest_of text) && (byte == 10)) ≡ ends → IsCut text → IsCut (text ++ byte ∷ [])
cut_one_more_by text byte false e cut =
    let p = byte_stays text (rest_of text) (begins_after true (rest_of text)) byte refl refl e in
    let unbroken = no_empty_line (rest_of text ++ byte ∷ []) (proceeds-push true (rest_of text) byte (proceeds-is (rest_of text) (rest-open text (complete_runs text) (rest_of text) cut)) e) in
    rw (p.0, p.1) (cut_byte_stays text (complete_runs text) (rest_of text) byte cut unbroken)
cut_one_more_by text byte true e cut =
    let p = byte_ends text (rest_of text) (begins_after true (rest_of text)) byte refl refl e in
    let both = and_true (begins_after true (rest_of text)) (byte == 10) e in
    let done = cut_byte_ends text (complete_runs text) (rest_of text) cut both.0 in
    rw (p.0, p.1) (subst (λ b. IsCutInto (text ++ b ∷ []) (complete_runs text ++ not_empty (rest_of text ∷ [])) []) (sym (eqb-true byte 10 both.1)) done)

cut_more : (text later : List ℕ) → IsCut text → IsCut (text ++ later)
cut_more text [] cut = subst IsCut (sym (append-nil text)) cut
cut_more text (byte ∷ later) cut =
    subst IsCut (append_assoc text (byte ∷ []) later) (cut_more (text ++ byte ∷ []) later (cut_one_more_by text byte (begins_after true (rest_of text) && (byte == 10)) refl cut))

-- each text is cut into its complete runs and its rest
pub is_cut : (text : List ℕ) → IsCut text
is_cut text = cut_more [] text (0, refl, nothing_open)

-- and into nothing else
pub cut_one_way : (text : List ℕ) (runs : List (List ℕ)) (rest : List ℕ) → IsCutInto text runs rest ↔ ((complete_runs text ≡ runs) × (rest_of text ≡ rest))
cut_one_way text runs rest = (
  cut-is text runs rest,
  λ e. subst (λ r. IsCutInto text runs r) e.1 (subst (λ l. IsCutInto text l (rest_of text)) e.0 (is_cut text)),
)
