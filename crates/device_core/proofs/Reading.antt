-- A block as it is read, a line after another.
use Rattle.std.proofs.Common.{◌≡◌, ◌≢◌, ℕ, ◌+◌, ◌<◌, ◌≤◌, true, false, List, [], ◌∷◌, length, nat_lt, ◌==◌, Result, Ok, Err, IfOk, IfErr, refl, ap, sym, ◌∙◌, arith}
use Rattle.device_core.specs.Lines.{begins_answer}
use Rattle.text_bytes.specs.Lines.{lines}
use Rattle.device_core.specs.RunBlocks.{line_of_excess, most_bytes}
use Rattle.device_core.specs.Faults.{block_gives}
use Rattle.device_core.specs.Steps.{Fails, unless_memory, GivesAt, Sofar, steps, line_step, read_lines, then_steps}
use Rattle.device_core.specs.declared.events.Event.{Event}
use Rattle.device_core.specs.declared.faults.BlockFault.{BlockFault}
use Rattle.device_core.specs.declared.faults.BlockFaultKind.{BlockFaultKind}
use Rattle.device_core.specs.declared.faults.BlockFaultKind.TheVariants.{NoAction, NoDevice, Letter, Twice, Path, Number, Pair, Nul, TooLong, TooDeep, Memory}
use Rattle.device_core.proofs.Judged.{read_is}

-- an empty text has no lines
pub no_lines : (text : List ℕ) → (length text == 0) ≡ true → read_lines (lines text) ≡ Err (record { line = 1; kind = NoAction })
unfolding read_lines
no_lines [] h = refl
no_lines (b ∷ text) h = let some : (length (b ∷ text) == 0) ≡ false = grind arith in cc

module _ (s : Sofar) (above : ℕ) (text line below : List ℕ) (all : Result (Sofar × ℕ) BlockFault) (is : lines text ≡ line ∷ lines below) where
  steps_are : steps s above (lines text) ≡ then_steps (above + 1) (λ t. steps t (above + 1) (lines below)) (line_step s line (begins_answer (lines below)))
  unfolding steps
  steps_are = rw is refl

  pub steps_on : (t : Sofar) → line_step s line (begins_answer (lines below)) ≡ Ok t → steps s above (lines text) ≡ all → steps t (above + 1) (lines below) ≡ all
  steps_on t e inv = sym (steps_are ∙ ap (then_steps (above + 1) (λ u. steps u (above + 1) (lines below))) e) ∙ inv

  fails_at : (kind : BlockFaultKind) → line_step s line (begins_answer (lines below)) ≡ Err kind → steps s above (lines text) ≡ all → all ≡ Err (record { line = above + 1; kind = kind })
  fails_at kind e inv = sym inv ∙ steps_are ∙ ap (then_steps (above + 1) (λ u. steps u (above + 1) (lines below))) e

  pub steps_fail : (kind : BlockFaultKind) → Fails kind (line_step s line (begins_answer (lines below))) → steps s above (lines text) ≡ all → unless_memory kind (all ≡ Err (record { line = above + 1; kind = kind }))
  steps_fail NoAction e inv = fails_at NoAction e inv
  steps_fail NoDevice e inv = fails_at NoDevice e inv
  steps_fail Letter e inv = fails_at Letter e inv
  steps_fail Twice e inv = fails_at Twice e inv
  steps_fail Path e inv = fails_at Path e inv
  steps_fail Number e inv = fails_at Number e inv
  steps_fail Pair e inv = fails_at Pair e inv
  steps_fail Nul e inv = fails_at Nul e inv
  steps_fail TooLong e inv = fails_at TooLong e inv
  steps_fail TooDeep e inv = fails_at TooDeep e inv
  steps_fail Memory e inv = tt

pub steps_end : (s : Sofar) (above : ℕ) (text : List ℕ) (all : Result (Sofar × ℕ) BlockFault) → (length text == 0) ≡ true → steps s above (lines text) ≡ all → all ≡ Ok (s, above)
unfolding steps
steps_end s above [] all h inv = sym inv
steps_end s above (b ∷ text) all h inv = let some : (length (b ∷ text) == 0) ≡ false = grind arith in cc

-- ---- the whole block

pub too_long : (block : List ℕ) (line : ℕ) → most_bytes < length block → line ≡ line_of_excess block → block_gives block ≡ Err (record { line = line; kind = TooLong })
unfolding block_gives
too_long block line over is =
    let test : nat_lt most_bytes (length block) ≡ true = grind arith in
    rw (test, is) refl

short : (block : List ℕ) → length block ≤ most_bytes → block_gives block ≡ read_lines (lines block)
unfolding block_gives
short block within =
    let test : nat_lt most_bytes (length block) ≡ false = grind arith in
    rw test (sym (read_is (lines block)))

pub event_from : (block : List ℕ) → length block ≤ most_bytes → (r : Result Event BlockFault) → GivesAt (λ e. e) r (read_lines (lines block)) → IfOk r (λ e. block_gives block ≡ Ok e)
event_from block within (Ok e) gives = short block within ∙ gives
event_from block within (Err fault) gives = tt

no_memory : (kind : BlockFaultKind) (P : Type 0) → unless_memory kind P → kind ≢ Memory → P
no_memory NoAction P h other = h
no_memory NoDevice P h other = h
no_memory Letter P h other = h
no_memory Twice P h other = h
no_memory Path P h other = h
no_memory Number P h other = h
no_memory Pair P h other = h
no_memory Nul P h other = h
no_memory TooLong P h other = h
no_memory TooDeep P h other = h
no_memory Memory P h other = absurd (other refl)

pub fault_from : (block : List ℕ) → length block ≤ most_bytes → (r : Result Event BlockFault) → GivesAt (λ e. e) r (read_lines (lines block)) → IfErr r (λ f. f.kind ≢ Memory → block_gives block ≡ Err f)
fault_from block within (Ok e) gives = tt
fault_from block within (Err fault) gives = λ other. short block within ∙ no_memory fault.kind (read_lines (lines block) ≡ Err fault) gives other
