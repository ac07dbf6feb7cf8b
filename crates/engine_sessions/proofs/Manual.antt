-- The events of blocks are those of the manual.
use Rattle.std.proofs.Common.{◌≡◌, ℕ, ◌+◌, Bool, true, false, cond, List, [], ◌∷◌, ◌++◌, length, Option, Some, None, Result, Ok, Err, ap, sym, ◌∙◌, refl}
use Rattle.std.specs.Option.{option_to_list}
use Rattle.text_bytes.specs.Lines.{lines}
use Rattle.text_bytes.specs.declared.profile.Profile.{Profile}
use Rattle.text_bytes.specs.declared.profile.Profile.TheVariants.{Manual}
use Rattle.text_bytes.specs.Text.{Text}
use Rattle.device_core.specs.Blocks.{devices, event}
use Rattle.device_core.specs.Faults.{block_gives, given_below, given_by, given_with, line_fault, unless_faulty}
use Rattle.device_core.specs.Lines.{Row, row_of}
use Rattle.device_core.specs.RunBlocks.{is_too_long, line_of_excess}
use Rattle.device_core.specs.Runs.{runs}
use Rattle.device_core.specs.Values.{DeviceValue, EventValue, NumberValue, by_profile, number_by}
use Rattle.device_core.specs.declared.faults.BlockFault.{BlockFault}
use Rattle.device_core.specs.declared.faults.BlockFaultKind.{BlockFaultKind}
use Rattle.device_core.specs.declared.faults.BlockFaultKind.TheVariants.{TooLong}
use Rattle.engine_sessions.specs.Answers.{Answers, answers_of, answers_to, with_block}
use Rattle.engine_sessions.specs.Sessions.{answers_as}

manual_with : (rows : List Row) (given : List DeviceValue) (e : EventValue) → given_with rows given ≡ Ok e → e.profile ≡ Manual
unfolding event
manual_with rows [] e h = absurd cc
manual_with rows (device ∷ parents) e h = let same : event rows device parents ≡ e = cc in ap (λ (v : EventValue). v.profile) (sym same)

manual_unless : (line : ℕ) (fault : Option BlockFaultKind) (whole : Result EventValue BlockFault) (e : EventValue) → (whole ≡ Ok e → e.profile ≡ Manual) → unless_faulty line fault whole ≡ Ok e → e.profile ≡ Manual
manual_unless line None whole e of h = of h
manual_unless line (Some kind) whole e of h = absurd cc

manual_below : (above : List Row) (below : List Text) (e : EventValue) → given_below above below ≡ Ok e → e.profile ≡ Manual
unfolding given_below
manual_below above [] e h = manual_with above (devices above) e h
manual_below above (line ∷ below) e h =
    manual_unless (length above + 1) (line_fault above line below) (given_below (above ++ option_to_list (row_of line)) below) e
    (manual_below (above ++ option_to_list (row_of line)) below e) h

manual_by : (texts : List Text) (e : EventValue) → given_by texts ≡ Ok e → e.profile ≡ Manual
unfolding given_by
manual_by [] e h = absurd cc
manual_by (line ∷ below) e h = manual_below [] (line ∷ below) e h

manual_if : (long : Bool) (texts : List Text) (fault : BlockFault) (e : EventValue) → cond long (Err fault) (given_by texts) ≡ Ok e → e.profile ≡ Manual
manual_if true texts fault e h = absurd cc
manual_if false texts fault e h = manual_by texts e h

pub manual_block : (block : Text) (e : EventValue) → block_gives block ≡ Ok e → e.profile ≡ Manual
unfolding block_gives
manual_block block e h = manual_if (is_too_long block) (lines block) (record { line = line_of_excess block; kind = TooLong }) e h

same_number : (number : Option NumberValue) → number_by Manual number ≡ number
same_number None = refl
same_number (Some number) = refl

same_event : (e : EventValue) → e.profile ≡ Manual → by_profile Manual e ≡ e
same_event e h =
    ap (λ number. record e { profile = Manual; device = record e.device { number = number } }) (same_number e.device.number)
    ∙ ap (λ (p : Profile). record e { profile = p }) (sym h)

same_block : (answer : EventValue → Text) (given : Result EventValue BlockFault) (following same : Answers) → ((e : EventValue) → given ≡ Ok e → e.profile ≡ Manual) → following ≡ same
    → with_block (answers_as Manual answer) given following ≡ with_block answer given same
same_block answer (Ok e) following same manual h =
    ap (with_block (answers_as Manual answer) (Ok e)) h
    ∙ ap (λ (text : Text). record { texts = text ∷ same.texts; fault = same.fault }) (ap answer (same_event e (manual e refl)))
same_block answer (Err fault) following same manual h = refl

same_answers : (answer : EventValue → Text) (blocks : List Text) → answers_to (answers_as Manual answer) blocks ≡ answers_to answer blocks
same_answers answer [] = refl
same_answers answer (block ∷ blocks) =
    same_block answer (block_gives block) (answers_to (answers_as Manual answer) blocks) (answers_to answer blocks) (manual_block block) (same_answers answer blocks)

pub same_input : (answer : EventValue → Text) (input : Text) → answers_of (answers_as Manual answer) input ≡ answers_of answer input
same_input answer input = same_answers answer (runs input)
