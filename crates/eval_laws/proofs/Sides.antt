-- What a comparison comes to, whatever is wrong after its answers.
use Rattle.std.proofs.Common.{◌≡◌, ℕ, ◌==◌, ◌&&◌, Bool, true, false, cond, List, [], ◌∷◌, ◌++◌, Option, Some, None, is_none, Result, Ok, Err, is_ok, length, refl, sym}
use Rattle.std.proofs.lemmas.List.{append-nil}
use Rattle.std.specs.List.{list_all}
use Rattle.text_bytes.specs.Text.{Text}
use Rattle.device_core.specs.Faults.{block_gives}
use Rattle.device_core.specs.Values.{EventValue}
use Rattle.device_core.specs.declared.faults.BlockFault.{BlockFault}
use Rattle.engine_sessions.specs.Answers.{answers_to, number_after, with_block}
use Rattle.engine_sessions.specs.BlockFaults.{block_said}
use Rattle.engine_sessions.specs.Findings.{found}
use Rattle.engine_sessions.specs.Outcomes.{answered_until, no_block_line, tells_none}
use Rattle.engine_sessions.specs.declared.following.Telling.{Telling}

pub output_is : (telling : Telling) (messages output : Text) (count : ℕ) (fault : Option BlockFault) → (answered_until telling messages output count fault).output ≡ output
output_is telling messages output count None = refl
output_is telling messages output count (Some fault) = refl

-- there is no fault just where each block gives an event
pub none_faulty : (answer : EventValue → Text) (blocks : List Text) → is_none (answers_to answer blocks).fault ≡ list_all (λ block. is_ok (block_gives block)) blocks
none_faulty answer [] = refl
none_faulty answer (block ∷ blocks) = by (block_gives block) (none_faulty answer blocks)
  where
    by : (given : Result EventValue BlockFault) → is_none (answers_to answer blocks).fault ≡ list_all (λ block. is_ok (block_gives block)) blocks
        → is_none (with_block answer given (answers_to answer blocks)).fault ≡ (is_ok given && list_all (λ block. is_ok (block_gives block)) blocks)
    by (Ok event) rest = rest
    by (Err fault) rest = refl

-- the status by whether there is any output, and a fault
pub status_by : (telling : Telling) (messages output : Text) (count : ℕ) (fault : Option BlockFault)
    → (found (answered_until telling messages output count fault)).status
    ≡ cond {A = ℕ} (length (found (answered_until telling messages output count fault)).output == 0 && is_none fault) 0 1
status_by telling messages output count None = by (length output == 0)
  where
    by : (b : Bool) → cond {A = ℕ} b 0 1 ≡ cond {A = ℕ} (b && true) 0 1
    by true = refl
    by false = refl
status_by telling messages output count (Some fault) = by (length output == 0)
  where
    by : (b : Bool) → cond {A = ℕ} b 1 1 ≡ cond {A = ℕ} (b && false) 0 1
    by true = refl
    by false = refl

-- the messages come first
pub messages_first : (telling : Telling) (messages output : Text) (count : ℕ) (fault : Option BlockFault)
    → (later : Text) × ((found (answered_until telling messages output count fault)).messages ≡ messages ++ later)
messages_first telling messages output count None = by (tells_none telling count)
  where
    by : (none : Bool) → (later : Text) × (cond none (messages ++ no_block_line) messages ≡ messages ++ later)
    by true = (no_block_line, refl)
    by false = ([], sym (append-nil messages))
messages_first telling messages output count (Some fault) = (block_said telling.for_people (number_after count) fault, refl)
