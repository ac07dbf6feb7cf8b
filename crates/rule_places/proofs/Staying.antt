-- A file in which nothing is to mend stays as it is.
use Rattle.std.proofs.Common.{◌≡◌, ℕ, ◌+◌, Bool, true, false, cond, ◌==◌, List, ◌∷◌, [], ◌++◌, drop, refl, sym, ◌∙◌, ap, append_assoc, append-nil}
use Rattle.std.specs.List.{AllByRecursion, onto_first}
use Rattle.rule_places.specs.Alike.{is_mended}
use Rattle.rule_places.specs.FormatLaws.{IsMended}
use Rattle.rule_places.specs.Mended.{mended}
use Rattle.rule_places.specs.Proposed.{Landed, landed_in, lines_left, mended_run, proposed, proposed_from, run_written}
use Rattle.rule_places.specs.WholeLines.{ends_joined, given_size, whole_lines}

-- the bytes of lines, one after another
abbrev pub glued : List (List ℕ) → List ℕ
glued [] = []
glued (l ∷ ls) = l ++ glued ls

glued_onto : (b : ℕ) (ls : List (List ℕ)) → glued (onto_first b ls) ≡ b ∷ glued ls
glued_onto b [] = refl
glued_onto b (l ∷ ls) = refl

-- the lines of a text are the text
pub whole_again : (text : List ℕ) → glued (whole_lines text) ≡ text
whole_again [] = refl
whole_again (b ∷ text) =
    elim (b == 10) as (λ v. glued (cond v ((b ∷ []) ∷ whole_lines text) (onto_first b (whole_lines text))) ≡ b ∷ text) [
      | true ↦ ap (λ (t : List ℕ). b ∷ t) (whole_again text)
      | false ↦ glued_onto b (whole_lines text) ∙ ap (λ (t : List ℕ). b ∷ t) (whole_again text)
    ]

run_stays : (x : Landed) (run : List ℕ) → IsMended x → mended_run x run ≡ run
run_stays x run h = rw h refl

written_stays : (xs : List Landed) (run : List ℕ) (size : ℕ) → AllByRecursion IsMended xs → run_written xs run size ≡ run
written_stays [] run size h = refl
written_stays (x ∷ xs) run size h =
    elim (size == 0) as (λ v. cond v run (mended_run x run) ≡ run) [
      | true ↦ refl
      | false ↦ run_stays x run h.0
    ]

left_stay : (xs : List Landed) (size : ℕ) → AllByRecursion IsMended xs → AllByRecursion IsMended (lines_left xs size)
left_stay [] size h =
    elim (size == 0) as (λ v. AllByRecursion IsMended (cond v [] (drop 1 []))) [
      | true ↦ h
      | false ↦ h
    ]
left_stay (x ∷ xs) size h =
    elim (size == 0) as (λ v. AllByRecursion IsMended (cond v (x ∷ xs) (drop 1 (x ∷ xs)))) [
      | true ↦ h
      | false ↦ h.1
    ]

lines_stay : (xs : List Landed) (run : List ℕ) (size : ℕ) (ls : List (List ℕ)) → AllByRecursion IsMended xs → proposed_from xs run size ls ≡ run ++ glued ls
lines_stay xs run size [] h = sym (append-nil run)
lines_stay xs run size (l ∷ ls) h =
    let more : ℕ = size + given_size l in
    elim (ends_joined l) as (λ v. cond v (run_written xs (run ++ l) more ++ proposed_from (lines_left xs more) [] 0 ls) (proposed_from xs (run ++ l) more ls) ≡ run ++ (l ++ glued ls)) [
      | true ↦
          ap (λ (t : List ℕ). t ++ proposed_from (lines_left xs more) [] 0 ls) (written_stays xs (run ++ l) more h)
          ∙ ap (λ (t : List ℕ). (run ++ l) ++ t) (lines_stay (lines_left xs more) [] 0 ls (left_stay xs more h))
          ∙ append_assoc run l (glued ls)
      | false ↦ lines_stay xs (run ++ l) more ls h ∙ append_assoc run l (glued ls)
    ]

-- nothing else is proposed for such a file
pub proposed_stays : (bytes : List ℕ) → AllByRecursion IsMended (landed_in bytes) → proposed bytes ≡ bytes
proposed_stays bytes h = lines_stay (landed_in bytes) [] 0 (whole_lines bytes) h ∙ whole_again bytes

either : (v : Bool) (a b : List ℕ) → a ≡ b → cond v a b ≡ b
either true a b e = e
either false a b e = refl

pub files_stay : (bytes : List ℕ) → AllByRecursion IsMended (landed_in bytes) → mended bytes ≡ bytes
unfolding mended
files_stay bytes h = either (is_mended bytes (proposed bytes)) (proposed bytes) bytes (proposed_stays bytes h)
