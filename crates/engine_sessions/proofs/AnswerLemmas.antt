-- The answers to blocks, one list after another.
use Rattle.std.proofs.Common.{◌≡◌, ℕ, ◌+◌, ◌<◌, ◌≤◌, ◌-◌, ◌^◌, ◌⊎◌, inl, inr, min, List, [], ◌∷◌, ◌++◌, Some, None, Result, Ok, Err, ap, sym, ◌∙◌, arith, add-zero}
use Rattle.std.proofs.Math.Nat.{min-eq_left, min-eq_right}
use Rattle.std.proofs.lemmas.Bool.{cases_lt}
use Rattle.text_bytes.specs.Text.{Text}
use Rattle.device_core.specs.Values.{EventValue}
use Rattle.device_core.specs.Faults.{block_gives}
use Rattle.device_core.specs.declared.faults.BlockFault.{BlockFault}
use Rattle.engine_sessions.specs.Answers.{Answers, well, with_block, answers_to, counted}

-- answers in front of others
abbrev pub with_texts : List Text → Answers → Answers
with_texts texts following = record { texts = texts ++ following.texts; fault = following.fault }

pub well_texts : (given : Answers) → given.fault ≡ None → given ≡ well given.texts
well_texts given e = ap (λ fault. record { texts = given.texts; fault = fault }) e

after_block : (answer : EventValue → Text) (given : Result EventValue BlockFault) (first all following : Answers) (texts : List Text)
    → ((some : List Text) → first ≡ well some → all ≡ with_texts some following) → with_block answer given first ≡ well texts → with_block answer given all ≡ with_texts texts following
after_block answer (Ok event) first all following texts more e =
    let same : texts ≡ answer event ∷ first.texts = sym (ap (λ a. a.texts) e) in
    let rest : all ≡ with_texts first.texts following = more first.texts (well_texts first (ap (λ a. a.fault) e)) in
    ap (λ a. with_block answer (Ok event) a) rest ∙ ap (λ l. with_texts l following) (sym same)
after_block answer (Err fault) first all following texts more e = let both : Some fault ≡ None = ap (λ a. a.fault) e in absurd cc

-- the answers to blocks after others of which none is faulty
pub answers_to-append : (answer : EventValue → Text) (first second : List Text) (texts : List Text) → answers_to answer first ≡ well texts → answers_to answer (first ++ second) ≡ with_texts texts (answers_to answer second)
answers_to-append answer [] second texts e = ap (λ l. with_texts l (answers_to answer second)) (ap (λ a. a.texts) e)
answers_to-append answer (block ∷ first) second texts e =
    after_block answer (block_gives block) (answers_to answer first) (answers_to answer (first ++ second)) (answers_to answer second) texts (answers_to-append answer first second) e

-- the answers end at a faulty block
pub answers_to-faulty : (answer : EventValue → Text) (block : Text) (others : List Text) (fault : BlockFault) → block_gives block ≡ Err fault → answers_to answer (block ∷ others) ≡ record { texts = []; fault = Some fault }
answers_to-faulty answer block others fault e = ap (λ given. with_block answer given (answers_to answer others)) e

-- counts that stay at the greatest number
capped : (a b top : ℕ) → min (min a top + b) top ≡ min (a + b) top
capped a b top = by_case (cases_lt a top)
  where
    by_case : (a < top) ⊎ (top ≤ a) → min (min a top + b) top ≡ min (a + b) top
    by_case (inl h) =
        let under : a ≤ top = omega arith in
        ap (λ (n : ℕ). min (n + b) top) (min-eq_left under)
    by_case (inr h) =
        let over : top ≤ a + b = omega arith in
        let same : top ≤ top + b = omega arith in
        ap (λ (n : ℕ). min (n + b) top) (min-eq_right h) ∙ min-eq_right same ∙ sym (min-eq_right over)

pub counted-add : (a b : ℕ) → counted (counted a + b) ≡ counted (a + b)
counted-add a b = capped a b (2 ^ 64 - 1)

pub counted_counted : (n : ℕ) → counted (counted n) ≡ counted n
counted_counted n = ap counted (sym (add-zero (counted n))) ∙ counted-add n 0 ∙ ap counted (add-zero n)
