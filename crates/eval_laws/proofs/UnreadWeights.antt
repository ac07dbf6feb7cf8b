-- How many the notes are that searches and assignments leave on attributes that are not read, and what they weigh.
use Rattle.std.proofs.Common.{◌≡◌, ℕ, ◌+◌, ◌≤◌, Bool, true, false, cond, List, [], ◌∷◌, ◌++◌, length, Option, Some, None, is_some, option_map, option_to_list, codes, refl, arith}
use Rattle.std.specs.Option.{option_and_then, option_or}
use Rattle.std.proofs.lemmas.List.{length-append}
use Rattle.std.proofs.lemmas.List.Sums.{sum_by-append, sum_by-cons}
use Rattle.std.specs.List.{sum_by}
use Rattle.text_bytes.specs.declared.profile.Profile.{Profile}
use Rattle.text_bytes.specs.declared.profile.Profile.TheVariants.{Manual, Udev}
use Rattle.text_bytes.specs.Text.{Text}
use Rattle.text_tables.specs.Pairs.{value_of}
use Rattle.rule_types.specs.declared.part.Assignment.{Assignment}
use Rattle.rule_types.specs.declared.part.UpMatch.{UpMatch}
use Rattle.rule_types.specs.Rules.{Rule}
use Rattle.device_core.specs.Values.{EventValue}
use Rattle.builtin_devices.specs.Knowledge.{Known}
use Rattle.eval_state.specs.Notes.{note_about}
use Rattle.eval_state.specs.Scenes.{start}
use Rattle.eval_state.specs.declared.note_kind.NoteKind.{NoteKind}
use Rattle.eval_state.specs.declared.note_kind.NoteKind.TheVariants.{AttributeNotRead, AttributesNotGiven}
use Rattle.eval_state.specs.declared.notes.Note.{Note}
use Rattle.eval_state.specs.declared.scene.Scene.{Scene}
use Rattle.eval_state.specs.declared.state.State.{State}
use Rattle.eval_rendering.specs.Subjects.{found_place}
use Rattle.eval_acts.specs.Unread.{unread_notes}
use Rattle.eval_assignments.specs.Modes.{four_digits}
use Rattle.eval_assignments.specs.Steps.{set_step}
use Rattle.eval_rules.specs.Idle.{is_idle}
use Rattle.eval_rules.specs.Jumps.{is_passed, sought_after}
use Rattle.eval_rules.specs.Outcomes.{outcome}
use Rattle.eval_rules.specs.Steps.{Went, apply, before_sets, plain_step, walk}
use Rattle.eval_rules.specs.declared.outcome.Outcome.{Outcome}
use Rattle.eval_unread.specs.Given.{first_looking, gives_none, looked_at, not_given, not_given_by}
use Rattle.eval_unread.specs.KernelModes.{kernel_mode, with_kernel_mode, written_mode}
use Rattle.eval_unread.specs.Unread.{rule_unread, rules_unread, search_unread, searched_unread, unread, unread_after, unread_at, unread_by, unread_place, unread_from, unread_of, whole_outcome, with_notes}
use Rattle.eval_laws.specs.Counts.{most_notes, most_told}
use Rattle.eval_laws.specs.DeviceWeights.{given_weight}
use Rattle.eval_laws.specs.Weights.{note_weight, outcome_weight}
use Rattle.eval_laws.proofs.Counted.{notes_counted}

module _ (w : Note → ℕ) (c : Rule → ℕ) (light : (r : Rule) (kind : NoteKind) (text : Text) → w (note_about r kind text) ≤ c r) where
  -- at most one note for each match of one device, and for each assignment
  abbrev pub most_unread : Rule → ℕ
  most_unread r = sum_by (λ (part : UpMatch). c r) r.up + sum_by (λ (a : Assignment). c r) r.sets

  one_light : (r : Rule) (o : Option Text) → sum_by w (unread_notes r o) ≤ c r
  one_light r None = omega arith
  one_light r (Some name) = let a = light r AttributeNotRead name in let b = sum_by-cons w (note_about r AttributeNotRead name) [] in omega (arith, a, b)

  sets_light : (r : Rule) (sets : List Assignment) (s : Scene) → sum_by w (unread_from r sets s) ≤ sum_by (λ (a : Assignment). c r) sets
  sets_light r [] s = omega arith
  sets_light r (a ∷ sets) s =
      let one = one_light r (unread_of s a) in
      let more = sets_light r sets (set_step r s a) in
      let both = sum_by-append w (unread_notes r (unread_of s a)) (unread_from r sets (set_step r s a)) in
      let all = sum_by-cons (λ (b : Assignment). c r) a sets in
      omega (arith, one, more, both, all)

  searched_light : (r : Rule) (parts : List UpMatch) (state : State) → sum_by w (unread_notes r (search_unread parts state)) ≤ sum_by (λ (part : UpMatch). c r) parts
  searched_light r [] state = by (is_some (found_place [] state)) (unread_place [] state)
    where
      by : (b : Bool) (found : Option ℕ) → sum_by w (unread_notes r (cond b None (option_and_then (unread_at [] state) found))) ≤ sum_by (λ (part : UpMatch). c r) []
      by true found = omega arith
      by false None = omega arith
      by false (Some place) = omega arith
  searched_light r (part ∷ parts) state =
      let one = one_light r (search_unread (part ∷ parts) state) in
      let all = sum_by-cons (λ (other : UpMatch). c r) part parts in
      omega (arith, one, all)

  rule_light : (known : Known) (r : Rule) (s : Scene) → sum_by w (rule_unread known r s) ≤ most_unread r
  unfolding rule_unread
  rule_light known r s =
      let searched = by_search (walk (plain_step r) r.plain s) in
      let sets = by (is_idle r s.state.event) in
      let both = sum_by-append w (searched_unread r (walk (plain_step r) r.plain s)) (cond (is_idle r s.state.event) [] (unread_after r (before_sets known r s))) in
      omega (arith, searched, sets, both)
    where
      by_search : (went : Went) → sum_by w (searched_unread r went) ≤ sum_by (λ (part : UpMatch). c r) r.up
      by_search went = on went.1
        where
          on : (b : Bool) → sum_by w (cond b (unread_notes r (search_unread r.up went.0.state)) []) ≤ sum_by (λ (part : UpMatch). c r) r.up
          on true = searched_light r r.up went.0.state
          on false = omega arith

      after : (went : Went) → sum_by w (unread_after r went) ≤ sum_by (λ (a : Assignment). c r) r.sets
      after went = on went.1
        where
          on : (b : Bool) → sum_by w (cond b (unread_from r r.sets went.0) []) ≤ sum_by (λ (a : Assignment). c r) r.sets
          on true = sets_light r r.sets went.0
          on false = omega arith

      by : (b : Bool) → sum_by w (cond b [] (unread_after r (before_sets known r s))) ≤ sum_by (λ (a : Assignment). c r) r.sets
      by true = omega arith
      by false = after (before_sets known r s)

  pub rules_light : (known : Known) (rules : List Rule) (sought : Option Text) (s : Scene) → sum_by w (rules_unread known sought rules s) ≤ sum_by most_unread rules
  unfolding rules_unread
  rules_light known [] sought s = omega arith
  rules_light known (r ∷ rs) sought s =
      by (is_passed sought r) (rules_light known rs sought s) (rules_light known rs (sought_after (apply known r s).1 r) (apply known r s).0)
    where
      later : List Note
      later = rules_unread known (sought_after (apply known r s).1 r) rs (apply known r s).0

      by : (b : Bool) → sum_by w (rules_unread known sought rs s) ≤ sum_by most_unread rs → sum_by w later ≤ sum_by most_unread rs
          → sum_by w (cond b (rules_unread known sought rs s) (rule_unread known r s ++ later)) ≤ sum_by most_unread (r ∷ rs)
      by true over through = let all = sum_by-cons most_unread r rs in omega (arith, over, all)
      by false over through =
          let own = rule_light known r s in
          let both = sum_by-append w (rule_unread known r s) later in
          let all = sum_by-cons most_unread r rs in
          omega (arith, own, through, both, all)

  -- the note on a block without attributes is about one of the rules
  looking_light : (rules : List Rule) → sum_by w (option_to_list (first_looking rules)) ≤ sum_by c rules
  unfolding first_looking
  looking_light [] = omega arith
  looking_light (r ∷ rs) = by (looked_at r) (looking_light rs)
    where
      by : (o : Option Text) → sum_by w (option_to_list (first_looking rs)) ≤ sum_by c rs
          → sum_by w (option_to_list (option_or (option_map (note_about r AttributesNotGiven) o) (first_looking rs))) ≤ sum_by c (r ∷ rs)
      by None later = let all = sum_by-cons c r rs in omega (arith, later, all)
      by (Some name) later =
          let a = light r AttributesNotGiven name in
          let b = sum_by-cons w (note_about r AttributesNotGiven name) [] in
          let all = sum_by-cons c r rs in
          omega (arith, a, b, all)

  pub not_given_light : (profile : Profile) (rules : List Rule) (event : EventValue) → sum_by w (option_to_list (not_given_by profile rules event)) ≤ sum_by c rules
  not_given_light Manual rules event = omega arith
  not_given_light Udev rules event = by (gives_none event)
    where
      by : (b : Bool) → sum_by w (option_to_list (cond b (first_looking rules) None)) ≤ sum_by c rules
      by true = looking_light rules
      by false = omega arith

  pub unread_light : (rules : List Rule) (known : Known) (event : EventValue) → sum_by w (unread rules known event) ≤ sum_by most_unread rules
  unread_light rules known event = by event.profile
    where
      by : (p : Profile) → sum_by w (unread_by p rules known event) ≤ sum_by most_unread rules
      by Manual = omega arith
      by Udev = rules_light known rules None (start event)

-- what an outcome weighs with more notes
pub more_weigh : (more : List Note) (o : Outcome) → outcome_weight (with_notes more o) ≡ outcome_weight o + sum_by note_weight more
unfolding outcome_weight
more_weigh more o = let a = sum_by-append note_weight o.notes more in omega (arith, a)

-- what the kernel's mode weighs, if there is one
either_weighs : (given other : Option Text) → given_weight (option_or given other) ≤ given_weight given + given_weight other
either_weighs None other = omega arith
either_weighs (Some text) other = omega arith

digits_weigh : (mode : Option ℕ) → given_weight (option_map four_digits mode) ≤ 5
digits_weigh None = omega arith
digits_weigh (Some mode) = omega arith

kernel_weighs : (profile : Profile) (event : EventValue) → given_weight (kernel_mode profile event) ≤ 5
kernel_weighs Manual event = omega arith
kernel_weighs Udev event = by (is_some event.device.number)
  where
    by : (b : Bool) → given_weight (cond b (option_map four_digits (option_and_then written_mode (value_of event.device.env (codes "DEVMODE")))) None) ≤ 5
    by true = digits_weigh (option_and_then written_mode (value_of event.device.env (codes "DEVMODE")))
    by false = omega arith

-- what an outcome weighs with it
pub mode_weighs : (event : EventValue) (o : Outcome) → outcome_weight (with_kernel_mode event o) ≤ outcome_weight o + 5
unfolding outcome_weight
mode_weighs event o = let a = either_weighs o.mode (kernel_mode event.profile event) in let b = kernel_weighs event.profile event in omega (arith, a, b)

-- ---- how many there are

ones : {X : Type 0} (xs : List X) → sum_by (λ (x : X). 1) xs ≡ length xs
ones [] = refl
ones (x ∷ xs) = let a = sum_by-cons (λ y. 1) x xs in let b = ones xs in omega (arith, a, b)

-- a note for each match of one device and each assignment, beside those of the outcome
told_more : (rules : List Rule)
    → sum_by most_notes rules + sum_by (λ (r : Rule). sum_by (λ (part : UpMatch). 1) r.up + sum_by (λ (a : Assignment). 1) r.sets) rules ≤ sum_by most_told rules
told_more [] = omega arith
told_more (r ∷ rs) =
    let rest = told_more rs in
    let up = ones r.up in
    let sets = ones r.sets in
    let own = sum_by-cons most_notes r rs in
    let more = sum_by-cons (λ (q : Rule). sum_by (λ (part : UpMatch). 1) q.up + sum_by (λ (a : Assignment). 1) q.sets) r rs in
    let all = sum_by-cons most_told r rs in
    omega (arith, rest, up, sets, own, more, all)

at_most_one : {X : Type 0} (o : Option X) → length (option_to_list o) ≤ 1
at_most_one None = omega arith
at_most_one (Some x) = omega arith

pub told_counted : (rules : List Rule) (known : Known) (event : EventValue) → length (whole_outcome rules known event).notes ≤ sum_by most_told rules + 1
told_counted rules known event =
    let own = notes_counted rules known event in
    let notes = unread rules known event in
    let more = unread_light (λ note. 1) (λ r. 1) (λ r kind text. omega arith) rules known event in
    let count = ones notes in
    let both = length-append (outcome rules known event).notes notes in
    let one = at_most_one (not_given rules event) in
    let with_one = length-append ((outcome rules known event).notes ++ notes) (option_to_list (not_given rules event)) in
    let all = told_more rules in
    omega (arith, own, more, count, both, one, with_one, all)
