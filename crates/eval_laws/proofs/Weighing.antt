-- What an answer weighs at most.
use Rattle.std.proofs.Common.{◌≡◌, ℕ, ◌+◌, ◌*◌, ◌≤◌, Bool, true, false, cond, List, [], ◌∷◌, length, Option, Some, None, Ok, option_to_list, refl, arith}
use Rattle.std.proofs.lemmas.List.Sums.{sum_by-cons}
use Rattle.std.specs.List.{sum_by}
use Rattle.text_bytes.specs.declared.profile.Profile.{Profile}
use Rattle.text_bytes.specs.declared.profile.Profile.TheVariants.{Manual, Udev}
use Rattle.text_bytes.specs.Text.{Text}
use Rattle.builtin_devices.specs.Knowledge.{Known}
use Rattle.rule_types.specs.Rules.{Rule}
use Rattle.device_core.specs.Faults.{block_gives}
use Rattle.device_core.specs.Values.{DeviceValue, EventValue, NumberValue, by_profile, is_number_by, number_by}
use Rattle.eval_laws.specs.DeviceWeights.{device_weight, event_weight, number_weight}
use Rattle.eval_laws.proofs.DeviceWeights.{event_within}
use Rattle.eval_state.specs.Scenes.{start}
use Rattle.eval_rules.specs.Jumps.{run}
use Rattle.eval_rules.specs.Outcomes.{outcome}
use Rattle.eval_unread.specs.Given.{not_given, not_given_by}
use Rattle.eval_unread.specs.Unread.{noted, unread, unread_by, whole_outcome, with_notes}
use Rattle.eval_laws.specs.Weights.{note_weight, outcome_weight}
use Rattle.eval_laws.specs.Allowances.{most_weight, notes_allowance, rules_allowance, unread_allowance}
use Rattle.eval_laws.proofs.Starts.{start_within}
use Rattle.eval_laws.proofs.Ruled.{run_within}
use Rattle.eval_laws.proofs.Ends.{outcome_light}
use Rattle.eval_laws.proofs.Scenes.{note_light}
use Rattle.eval_laws.proofs.UnreadWeights.{mode_weighs, more_weigh, most_unread, not_given_light, rules_light}

answer_within : (len : ℕ) (rules : List Rule) (known : Known) (event : EventValue) → event_weight event ≤ len → outcome_weight (outcome rules known event) ≤ 4 * len + 128 + rules_allowance event.profile len known.entries rules
answer_within len rules known event short =
    let a = (run_within event len short known rules None (event_weight event + 50) (start event) (start_within event)).light in
    let b = outcome_light (run known None rules (start event)) in
    omega (arith, a, b, short)

-- a number by a profile weighs no more
number_by_light : (profile : Profile) (number : Option NumberValue) → number_weight (number_by profile number) ≤ number_weight number
number_by_light profile None = omega arith
number_by_light profile (Some number) = by (is_number_by profile number)
  where
    by : (b : Bool) → number_weight (cond b (Some number) None) ≤ number_weight (Some number)
    by true = omega arith
    by false = omega arith

device_by_light : (profile : Profile) (device : DeviceValue) → device_weight (record device { number = number_by profile device.number }) ≤ device_weight device
unfolding device_weight
device_by_light profile device = let a = number_by_light profile device.number in omega (arith, a)

-- an event by a profile weighs no more
pub weight_by : (profile : Profile) (event : EventValue) → event_weight (by_profile profile event) ≤ event_weight event
unfolding event_weight
weight_by profile event =
    let changed : DeviceValue = record event.device { number = number_by profile event.device.number } in
    let a : device_weight changed ≤ device_weight event.device = device_by_light profile event.device in
    let b = sum_by-cons device_weight event.device event.parents in
    let c = sum_by-cons device_weight changed event.parents in
    omega (arith, a, b, c)

-- what the notes of the searches and assignments of a rule may weigh
abbrev most_of : Rule → ℕ
most_of r = most_unread note_weight (λ r. length r.file + 280) note_light r

-- what may be added for each rule, and for its searches and assignments
allowances_apart : (rules : List Rule) → sum_by (λ (r : Rule). length r.file + 280) rules + sum_by most_of rules ≡ sum_by unread_allowance rules
allowances_apart [] = refl
allowances_apart (r ∷ rs) =
    let later = allowances_apart rs in
    let a = sum_by-cons (λ (r : Rule). length r.file + 280) r rs in
    let b = sum_by-cons most_of r rs in
    let all = sum_by-cons unread_allowance r rs in
    omega (arith, later, a, b, all)

-- what the notes of searches and assignments and that on a block without attributes add by a profile
notes_within : (profile : Profile) (rules : List Rule) (known : Known) (event : EventValue)
    → sum_by note_weight (unread_by profile rules known event) + sum_by note_weight (option_to_list (not_given_by profile rules event)) ≤ notes_allowance profile rules
notes_within Manual rules known event = omega arith
notes_within Udev rules known event =
    let asked = rules_light note_weight (λ r. length r.file + 280) note_light known rules None (start event) in
    let given = not_given_light note_weight (λ r. length r.file + 280) note_light Udev rules event in
    let all = allowances_apart rules in
    omega (arith, asked, given, all)

pub block_answer : (profile : Profile) (rules : List Rule) (known : Known) (block : Text) (event : EventValue) → block_gives block ≡ Ok event
    → outcome_weight (whole_outcome rules known (by_profile profile event)) ≤ most_weight profile (length block) known.entries rules
block_answer profile rules known block event given =
    let a = weight_by profile event in
    let b = event_within block event given in
    let own = answer_within (length block) rules known (by_profile profile event) (omega (arith, a, b)) in
    let notes = notes_within profile rules known (by_profile profile event) in
    let asked = more_weigh (unread rules known (by_profile profile event)) (outcome rules known (by_profile profile event)) in
    let unread_told = with_notes (unread rules known (by_profile profile event)) (outcome rules known (by_profile profile event)) in
    let given = more_weigh (option_to_list (not_given rules (by_profile profile event))) unread_told in
    let mode = mode_weighs (by_profile profile event) (noted rules known (by_profile profile event) (outcome rules known (by_profile profile event))) in
    omega (arith, own, notes, asked, given, mode)
