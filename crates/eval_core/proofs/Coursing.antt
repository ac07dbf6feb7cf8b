-- The outcome of a rule, by its course. Over an event by the manual it is known as far as its steps are; over one of udev's nothing is.
use Rattle.std.proofs.Common.{◌≡◌, ℕ, ◌-◌, ◌<◌, Bool, true, false, cond, ◌&&◌, List, [], ◌∷◌, length, fold, map, get_or, slice_get, is_some, Option, Some, None, option_map, refl, ap, sym, ◌∙◌}
use Rattle.std.specs.List.{list_all}
use Rattle.std.specs.Option.{option_and_then, option_or}
use Rattle.std.proofs.lemmas.List.{get_or-map}
use Rattle.std.proofs.lemmas.List.Folds.{list_all_at}
use Rattle.std.specs.Cmp.Lexicographic.{bytes_decides}
use Rattle.std.proofs.lemmas.List.Quantifiers.{position-Some}
use Rattle.std.proofs.lemmas.Option.{same_Some, slice_get-get_or, slice_get-map, slice_get_within}
use Rattle.text_bytes.specs.Texts.{is_empty, trimmed}
use Rattle.text_bytes.specs.declared.profile.Profile.{Profile}
use Rattle.text_bytes.specs.declared.profile.Profile.TheVariants.{Manual, Udev}
use Rattle.text_bytes.specs.Text.{Text}
use Rattle.text_tables.specs.Texts.{same_text}
use Rattle.text_tables.specs.Pairs.{value_of}
use Rattle.builtin_devices.specs.Knowledge.{Known}
use Rattle.rule_types.specs.declared.roles.MatchOperator.{MatchOperator}
use Rattle.rule_types.specs.declared.roles.MatchOperator.TheVariants.{Equal, NotEqual}
use Rattle.rule_types.specs.declared.roles.PlainKey.{PlainKey}
use Rattle.rule_types.specs.declared.roles.PlainKey.TheVariants as plain
use Rattle.rule_types.specs.declared.roles.UpKey.{UpKey}
use Rattle.rule_types.specs.declared.roles.UpKey.TheVariants as up
use Rattle.rule_types.specs.declared.part.Act.{Act}
use Rattle.rule_types.specs.declared.part.Assignment.{Assignment}
use Rattle.rule_types.specs.declared.part.Comparison.{Comparison}
use Rattle.rule_types.specs.declared.part.PlainMatch.{PlainMatch}
use Rattle.rule_types.specs.declared.part.UpMatch.{UpMatch}
use Rattle.rule_types.specs.Rules.{Rule}
use Rattle.eval_core.specs.Sketches.{exact_sketch, sketch}
use Rattle.device_core.specs.Values.{DeviceValue, EventValue, chain}
use Rattle.eval_state.specs.Chains.{device_at}
use Rattle.eval_state.specs.Texts.{or_empty}
use Rattle.eval_state.specs.declared.state.State.{State}
use Rattle.eval_rendering.specs.Attributes.{attribute_by, value_by}
use Rattle.eval_rendering.specs.Holding.{agrees, attribute, holds, one}
use Rattle.eval_rendering.specs.Subjects.{found_place, holds_at, plain_subject, tried, up_subject}
use Rattle.eval_rendering.proofs.Finding.{none_found}
use Rattle.eval_state.specs.declared.scene.Scene.{Scene}
use Rattle.eval_acts.specs.Acts.{act_step}
use Rattle.eval_acts.specs.Reaching.{match_reached}
use Rattle.eval_assignments.specs.Steps.{set_step}
use Rattle.eval_rules.specs.Idle.{is_idle_by}
use Rattle.eval_rules.specs.Steps.{Went, apply, if_proceeding, only_noted, plain_step, result_step, search, set_all, steps, walk, with_selected}
use Rattle.eval_core.specs.Actions.{action_place, actions, by_action_in, has_no_more, held_for, is_guard, with_action}
use Rattle.eval_core.specs.Checks.{check_of, choice_check, is_other, is_ruled_out, seen}
use Rattle.eval_core.specs.Courses.{as_predicted, checked_course, course_after, course_by, course_in, course_of, course_with, guard_in, guarded, mark_by, mark_in, mark_of, part_mark, predicted, predicted_by, search_in, searched, told, told_by, unequal_check}
use Rattle.eval_core.specs.Marks.{driver, is_lacking, mark, marks, subsystem}
use Rattle.eval_core.specs.declared.checks.Check.{Check}
use Rattle.eval_core.specs.declared.courses.Course.{Course}
use Rattle.eval_core.specs.declared.courses.Course.TheVariants.{Open, Search}
use Rattle.eval_core.specs.declared.courses.Fate.{Fate}
use Rattle.eval_core.specs.declared.courses.Fate.TheVariants.{Unknown, Failed, Reached, NotFound}
use Rattle.eval_core.proofs.Marking.{marked, marks_attribute, marks_driver, marks_subsystem, other_value}
use Rattle.eval_core.proofs.Ruling.{attribute_missed, missed, nothing_known, ruled_out, stops, text_missed}

-- ---- rules that are matches of the event alone

-- a rule has nothing after its matches
record IsDone (r : Rule) : Type 0 where
  pub acts : r.acts ≡ []
  pub results : r.results ≡ []
  pub sets : r.sets ≡ []

none_left : {A : Type 0} (xs : List A) → is_empty xs ≡ true → xs ≡ []
none_left [] h = refl
none_left (x ∷ xs) h = nothing_known h

both : (a b : Bool) → (a && b) ≡ true → (a ≡ true) × (b ≡ true)
both true true h = (refl, refl)
both true false h = nothing_known h
both false b h = nothing_known h

done : (r : Rule) → has_no_more r ≡ true → IsDone r
done r h =
    let last = both (is_empty r.acts && is_empty r.results) (is_empty r.sets) h in
    let rest = both (is_empty r.acts) (is_empty r.results) last.0 in
    record { acts = none_left r.acts rest.0; results = none_left r.results rest.1; sets = none_left r.sets last.1 }

module _ (knows : Known) (r : Rule) (s : Scene) where
  -- what follows the matches of the event
  ended : r.up ≡ [] → IsDone r → walk (plain_step r) r.plain s ≡ (s, true) → steps knows r s ≡ (s, true)
  unfolding steps walk
  ended none is first =
      ap (λ (w : Went). if_proceeding (set_all r) (if_proceeding (walk result_step r.results) (if_proceeding (walk (act_step knows r) r.acts) (if_proceeding (search r.up) w)))) first
      ∙ ap (λ (parts : List UpMatch). if_proceeding (set_all r) (if_proceeding (walk result_step r.results) (if_proceeding (walk (act_step knows r) r.acts) (search parts s)))) none
      ∙ ap (λ (parts : List Act). if_proceeding (set_all r) (if_proceeding (walk result_step r.results) (walk (act_step knows r) parts s))) is.acts
      ∙ ap (λ (parts : List Comparison). if_proceeding (set_all r) (walk result_step parts s)) is.results
      ∙ ap (λ (parts : List Assignment). (fold (set_step r) s parts, true)) is.sets

  none_walked : r.plain ≡ [] → walk (plain_step r) r.plain s ≡ (s, true)
  unfolding walk
  none_walked plain = ap (λ ps. walk (plain_step r) ps s) plain

  one_walked : (part : PlainMatch) → r.plain ≡ part ∷ [] → match_reached r part.key s ≡ s → holds (plain_subject part.key s.state) part.wanted ≡ true → walk (plain_step r) r.plain s ≡ (s, true)
  unfolding walk plain_step
  one_walked part plain leaves holds_so =
      ap (λ ps. walk (plain_step r) ps s) plain
      ∙ ap (λ (t : Scene). if_proceeding (walk (plain_step r) []) (t, holds (plain_subject part.key s.state) part.wanted)) leaves
      ∙ ap (λ b. if_proceeding (walk (plain_step r) []) (s, b)) holds_so

  -- a rule that searches for one device and finds none
  stranded : (part : UpMatch) (parts : List UpMatch) → r.plain ≡ [] → r.up ≡ part ∷ parts → found_place (part ∷ parts) s.state ≡ None → steps knows r s ≡ (record s { state = with_selected None s.state }, false)
  unfolding steps walk
  stranded part parts plain ups none =
      ap (λ (w : Went). if_proceeding (set_all r) (if_proceeding (walk result_step r.results) (if_proceeding (walk (act_step knows r) r.acts) (if_proceeding (search r.up) w)))) (none_walked plain)
      ∙ ap (λ (us : List UpMatch). if_proceeding (set_all r) (if_proceeding (walk result_step r.results) (if_proceeding (walk (act_step knows r) r.acts) (search us s)))) ups
      ∙ ap (λ (place : Option ℕ). if_proceeding (set_all r) (if_proceeding (walk result_step r.results) (if_proceeding (walk (act_step knows r) r.acts) (record s { state = with_selected place s.state }, is_some place)))) none

-- ---- what no device has

module _ (state : State) (manual : state.event.profile ≡ Manual) where
  -- a match holds at no device
  abbrev Absent : UpMatch → Type 0
  Absent part = (place : ℕ) → place < length (chain state.event) → holds_at state place part ≡ false

  -- the mark of a thing with a value is not set
  abbrev Lacks : ℕ → ℕ → Type 0
  Lacks thing found = is_lacking (slice_get (marks state.event) (mark thing found)) ≡ true

  device : (place : ℕ) → place < length (chain state.event) → slice_get (chain state.event) place ≡ Some (get_or (chain state.event) place state.event.device)
  device place within = slice_get-get_or (chain state.event) place state.event.device within

  no_subsystem : (part : UpMatch) (found : ℕ) → part.key ≡ up.Subsystems → part.wanted.operator ≡ Equal → exact_sketch part.wanted.choice ≡ Some found → Lacks subsystem found → Absent part
  unfolding holds_at
  no_subsystem part found key equal e h place within =
      let d : DeviceValue = get_or (chain state.event) place state.event.device in
      ap (λ k. holds (up_subject k state place) part.wanted) key
      ∙ ap (λ (o : Option DeviceValue). holds (one (or_empty (option_and_then (λ device. device.subsystem) o))) part.wanted) (device place within)
      ∙ text_missed part.wanted found (or_empty d.subsystem) e
      (other_value (marks state.event) subsystem (sketch (or_empty d.subsystem)) found (marked state.event (mark subsystem (sketch (or_empty d.subsystem))) place d (device place within) (marks_subsystem d)) h)
      ∙ ap (λ o. agrees o false) equal

  no_driver : (part : UpMatch) (found : ℕ) → part.key ≡ up.Drivers → part.wanted.operator ≡ Equal → exact_sketch part.wanted.choice ≡ Some found → Lacks driver found → Absent part
  unfolding holds_at
  no_driver part found key equal e h place within =
      let d : DeviceValue = get_or (chain state.event) place state.event.device in
      ap (λ k. holds (up_subject k state place) part.wanted) key
      ∙ ap (λ (o : Option DeviceValue). holds (one (or_empty (option_and_then (λ device. device.driver) o))) part.wanted) (device place within)
      ∙ text_missed part.wanted found (or_empty d.driver) e
      (other_value (marks state.event) driver (sketch (or_empty d.driver)) found (marked state.event (mark driver (sketch (or_empty d.driver))) place d (device place within) (marks_driver d)) h)
      ∙ ap (λ o. agrees o false) equal

  -- an attribute of a device has another value, or none
  missing : (place : ℕ) (d : DeviceValue) (name : Text) (found : ℕ) → slice_get (chain state.event) place ≡ Some d → Lacks (sketch name) found → (value : Option Text) → value_of d.attrs name ≡ value → is_other found (option_map (λ v. sketch (trimmed v)) value) ≡ true
  missing place d name found at h None e = refl
  missing place d name found at h (Some v) e =
      other_value (marks state.event) (sketch name) (sketch (trimmed v)) found (marked state.event (mark (sketch name) (sketch (trimmed v))) place d at (marks_attribute d name v e)) h

  no_attribute : (part : UpMatch) (name : Text) (found : ℕ) → part.key ≡ up.Attrs name → part.wanted.operator ≡ Equal → exact_sketch part.wanted.choice ≡ Some found → Lacks (sketch name) found → Absent part
  unfolding holds_at
  no_attribute part name found key equal e h place within =
      let d : DeviceValue = get_or (chain state.event) place state.event.device in
      ap (λ k. holds (up_subject k state place) part.wanted) key
      ∙ ap (λ by. holds (attribute_by by name state.event (device_at state.event place) (option_and_then (λ device. value_by by name (tried state place) device) (device_at state.event place))) part.wanted) manual
      ∙ ap (λ (o : Option DeviceValue). holds (attribute (option_and_then (λ device. value_of device.attrs name) o)) part.wanted) (device place within)
      ∙ attribute_missed part.wanted found (value_of d.attrs name) e (missing place d name found (device place within) h (value_of d.attrs name) refl)
      ∙ ap (λ o. agrees o false) equal

  -- if the mark of a match is not set, it holds at no device
  absent : (part : UpMatch) (m : ℕ) → part_mark part ≡ Some m → is_lacking (slice_get (marks state.event) m) ≡ true → Absent part
  absent part m e h = by part.wanted.operator refl part.key refl e
    where
      known : (thing : ℕ) → ((found : ℕ) → exact_sketch part.wanted.choice ≡ Some found → Lacks thing found → Absent part)
          → (o : Option ℕ) → exact_sketch part.wanted.choice ≡ o → mark_by (Some thing) o ≡ Some m → Absent part
      known thing then None x c = cc c
      known thing then (Some found) x c =
          let is : mark thing found ≡ m = same_Some (mark thing found) m c in
          then found x (ap (λ k. is_lacking (slice_get (marks state.event) k)) is ∙ h)

      by : (o : MatchOperator) → part.wanted.operator ≡ o → (key : UpKey) → part.key ≡ key → mark_of o key part.wanted.choice ≡ Some m → Absent part
      by NotEqual is key at c = cc c
      by Equal is up.Subsystems at c = known subsystem (λ found x lacks. no_subsystem part found at is x lacks) (exact_sketch part.wanted.choice) refl c
      by Equal is up.Drivers at c = known driver (λ found x lacks. no_driver part found at is x lacks) (exact_sketch part.wanted.choice) refl c
      by Equal is (up.Attrs name) at c = known (sketch name) (λ found x lacks. no_attribute part name found at is x lacks) (exact_sketch part.wanted.choice) refl c
      by Equal is other at c = cc c

  -- if one of the matches holds at no device, none is found
  none_meets : (parts : List UpMatch) (i : ℕ) (part : UpMatch) → slice_get parts i ≡ Some part → Absent part → found_place parts state ≡ None
  unfolding found_place
  none_meets parts i part at nowhere =
      let within_parts : i < length parts = slice_get_within parts i part at in
      let is : get_or parts i part ≡ part = same_Some (get_or parts i part) part (sym (slice_get-get_or parts i part within_parts) ∙ at) in
      (none_found (λ place. list_all (holds_at state place) parts) (length (chain state.event))).1
      (λ place within. list_all_at (holds_at state place) parts i part within_parts (ap (holds_at state place) is ∙ nowhere place within))

-- ---- what is known of the action

-- what is held for a known action is whether the match holds for it
held_at : (wanted : Comparison) (action : Text) (place : ℕ) → action_place action ≡ Some place → (b : Bool) → slice_get (held_for wanted) place ≡ Some b → holds (one action) wanted ≡ b
held_at wanted action place e b at =
    let found = position-Some (same_text action) actions place [] e in
    let known : Text = get_or actions place [] in
    let same : action ≡ known = (bytes_decides action known).0 found.1 in
    let held : slice_get (held_for wanted) place ≡ Some (holds (one known) wanted) =
    slice_get-map (λ action. holds (one action) wanted) actions place
    ∙ ap (option_map (λ action. holds (one action) wanted)) (slice_get-get_or actions place [] found.0) in
    ap (λ text. holds (one text) wanted) same ∙ same_Some (holds (one known) wanted) b (sym held ∙ at)

-- ---- a rule by its course

module _ (knows : Known) (names : List Text) (r : Rule) (s : Scene) (manual : s.state.event.profile ≡ Manual) where
  -- what a fate says
  abbrev Comes : Fate → Type 0
  Comes fate = as_predicted fate s (steps knows r s) ≡ steps knows r s

  abbrev Foretold : Course → Type 0
  Foretold course = Comes (predicted (action_place s.state.event.action) (seen names s.state.event) (marks s.state.event) course)

  at_guard : (part : PlainMatch) → r.up ≡ [] → IsDone r → r.plain ≡ part ∷ [] → Foretold (guarded (unequal_check part.wanted.operator (choice_check names part.key part.wanted.choice)))
  at_guard part ups is plain = by part.wanted.operator refl (choice_check names part.key part.wanted.choice) refl
    where
      holds_by : (check : Check) → part.wanted.operator ≡ NotEqual → choice_check names part.key part.wanted.choice ≡ Some check → (b : Bool) → is_ruled_out (seen names s.state.event) (Some check) ≡ b → Comes (cond b Reached Unknown)
      holds_by check o c true out =
          let misses = missed names r s manual part.key part.wanted (ap (is_ruled_out (seen names s.state.event)) c ∙ out) in
          sym (ended knows r s ups is (one_walked knows r s part plain misses.0 (misses.1 ∙ ap (λ o. agrees o false) o)))
      holds_by check o c false out = refl

      by : (o : MatchOperator) → part.wanted.operator ≡ o → (c : Option Check) → choice_check names part.key part.wanted.choice ≡ c → Foretold (guarded (unequal_check o c))
      by Equal o c e = refl
      by NotEqual o None e = refl
      by NotEqual o (Some check) e = holds_by check o e (is_ruled_out (seen names s.state.event) (Some check)) refl

  at_plain : (parts : List PlainMatch) → r.plain ≡ parts → r.up ≡ [] → IsDone r → Foretold (guard_in names parts)
  at_plain [] plain ups is = sym (ended knows r s ups is (none_walked knows r s plain))
  at_plain (part ∷ []) plain ups is = at_guard part ups is plain
  at_plain (part ∷ other ∷ parts) plain ups is = refl

  -- a search by a mark
  at_mark : (part : UpMatch) (parts : List UpMatch) (m : ℕ) → r.plain ≡ [] → r.up ≡ part ∷ parts → (is_lacking (slice_get (marks s.state.event) m) ≡ true → found_place (part ∷ parts) s.state ≡ None) → Foretold (Search m)
  at_mark part parts m plain ups none = by (is_lacking (slice_get (marks s.state.event) m)) refl
    where
      by : (b : Bool) → is_lacking (slice_get (marks s.state.event) m) ≡ b → Comes (cond b NotFound Unknown)
      by true lacks = sym (stranded knows r s part parts plain ups (none lacks))
      by false lacks = refl

  at_search : (part : UpMatch) (parts : List UpMatch) → r.up ≡ part ∷ parts → (plain : List PlainMatch) → r.plain ≡ plain → Foretold (search_in plain (part ∷ parts) part)
  at_search part parts ups (other ∷ plain) e = refl
  at_search part parts ups [] plain = by_last (slice_get (part ∷ parts) (length (part ∷ parts) - 1)) refl
    where
      by_first : (o : Option ℕ) → part_mark part ≡ o → Foretold (searched o)
      by_first None e = refl
      by_first (Some m) e = at_mark part parts m plain ups (λ lacks. none_meets s.state manual (part ∷ parts) 0 part refl (absent s.state manual part m e lacks))

      by_mark : (last : UpMatch) → slice_get (part ∷ parts) (length (part ∷ parts) - 1) ≡ Some last → (o : Option ℕ) → part_mark last ≡ o → Foretold (searched (option_or o (part_mark part)))
      by_mark last at None e = by_first (part_mark part) refl
      by_mark last at (Some m) e = at_mark part parts m plain ups (λ lacks. none_meets s.state manual (part ∷ parts) (length (part ∷ parts) - 1) last at (absent s.state manual last m e lacks))

      by_last : (u : Option UpMatch) → slice_get (part ∷ parts) (length (part ∷ parts) - 1) ≡ u → Foretold (searched (option_or (mark_in u) (part_mark part)))
      by_last None e = by_first (part_mark part) refl
      by_last (Some last) e = by_mark last e (part_mark last) refl

  at_after : Foretold (course_after names r)
  at_after = by r.up refl
    where
      either : r.up ≡ [] → (b : Bool) → has_no_more r ≡ b → Foretold (cond b (guard_in names r.plain) Open)
      either ups true more = at_plain r.plain refl ups (done r more)
      either ups false more = refl

      by : (parts : List UpMatch) → r.up ≡ parts → Foretold (course_in names r parts)
      by [] ups = either ups (has_no_more r) refl
      by (part ∷ parts) ups = at_search part parts ups r.plain refl

  at_checked : Foretold (checked_course names r)
  at_checked = by (check_of names r) refl
    where
      fails : (check : Check) → check_of names r ≡ Some check → (b : Bool) → is_ruled_out (seen names s.state.event) (Some check) ≡ b → Comes (cond b Failed Unknown)
      fails check e true out = sym (ruled_out knows names r s manual (ap (is_ruled_out (seen names s.state.event)) e ∙ out))
      fails check e false out = refl

      by : (check : Option Check) → check_of names r ≡ check → Foretold (course_by names r check)
      by None e = at_after
      by (Some check) e = fails check e (is_ruled_out (seen names s.state.event) (Some check)) refl

  -- a rule whose first match is one of the action
  at_action : (part : PlainMatch) (parts : List PlainMatch) → r.plain ≡ part ∷ parts → part.key ≡ plain.Action
      → Comes (told_by (action_place s.state.event.action) (record { held = held_for part.wanted; is_guard = is_guard r parts }))
  at_action part parts plain key = by (action_place s.state.event.action) refl
    where
      alone : Bool
      alone = is_guard r parts

      leaves : match_reached r part.key s ≡ s
      leaves = ap (λ k. match_reached r k s) key

      met : holds (plain_subject part.key s.state) part.wanted ≡ holds (one s.state.event.action) part.wanted
      met = ap (λ k. holds (plain_subject k s.state) part.wanted) key

      reached : holds (one s.state.event.action) part.wanted ≡ true → (guard : Bool) → alone ≡ guard → Comes (cond guard Reached Unknown)
      reached is false e = refl
      reached is true e =
          let last = both (is_empty parts && is_empty r.up) (has_no_more r) e in
          let first = both (is_empty parts) (is_empty r.up) last.0 in
          let only : r.plain ≡ part ∷ [] = plain ∙ ap (λ (ps : List PlainMatch). part ∷ ps) (none_left parts first.0) in
          sym (ended knows r s (none_left r.up first.1) (done r last.1) (one_walked knows r s part only leaves (met ∙ is)))

      so : (held : Option Bool) → ((b : Bool) → held ≡ Some b → holds (one s.state.event.action) part.wanted ≡ b) → Comes (told held alone)
      so None is = refl
      so (Some true) is = reached (is true refl) alone refl
      so (Some false) is = sym (stops knows r s part parts plain leaves (met ∙ is false refl))

      by : (place : Option ℕ) → action_place s.state.event.action ≡ place → Comes (told_by place (record { held = held_for part.wanted; is_guard = alone }))
      by None e = refl
      by (Some place) e = so (slice_get (held_for part.wanted) place) (held_at part.wanted s.state.event.action place e)

  at_course : Foretold (course_of names r)
  at_course = by r.plain refl
    where
      by : (parts : List PlainMatch) → r.plain ≡ parts → Foretold (course_with names r (by_action_in r parts))
      by [] e = at_checked
      by (part ∷ parts) e = with_key part.key refl
        where
          with_key : (key : PlainKey) → part.key ≡ key → Foretold (course_with names r (with_action key part.wanted (is_guard r parts)))
          with_key plain.Action k = at_action part parts e k
          with_key other k = at_checked

-- by the manual a rule goes through its steps
passes_through : (knows : Known) (r : Rule) (s : Scene) → s.state.event.profile ≡ Manual → apply knows r s ≡ steps knows r s
unfolding apply is_idle_by
passes_through knows r s manual = ap (λ by. cond (is_idle_by by r s.state.event) (only_noted knows r s) (steps knows r s)) manual

-- what is known of a rule by its course comes so
pub comes_so : (knows : Known) (names : List Text) (event : EventValue) (r : Rule) (s : Scene) → s.state.event ≡ event
    → as_predicted (predicted_by event.profile (action_place event.action) (seen names event) (marks event) (course_of names r)) s (apply knows r s) ≡ apply knows r s
comes_so knows names event r s same = by event.profile refl
  where
    by : (profile : Profile) → event.profile ≡ profile → as_predicted (predicted_by profile (action_place event.action) (seen names event) (marks event) (course_of names r)) s (apply knows r s) ≡ apply knows r s
    by Udev e = refl
    by Manual e =
        let manual : s.state.event.profile ≡ Manual = ap (λ (v : EventValue). v.profile) same ∙ e in
        let through : apply knows r s ≡ steps knows r s = passes_through knows r s manual in
        ap (as_predicted (predicted (action_place event.action) (seen names event) (marks event) (course_of names r)) s) through
        ∙ ap (λ (v : EventValue). as_predicted (predicted (action_place v.action) (seen names v) (marks v) (course_of names r)) s (steps knows r s)) (sym same)
        ∙ at_course knows names r s manual
        ∙ sym through

-- what is foretold of the rule at a place comes so
pub predicted_so : (knows : Known) (names : List Text) (event : EventValue) (rules : List Rule) (courses : List Course) (reported : List (Option ℕ)) (found : List Bool) (profile : Profile) (action : Option ℕ) (place : ℕ) (r : Rule) (d : Course) (s : Scene) (fate : Fate)
    → place < length rules → s.state.event ≡ event → courses ≡ map (course_of names) rules → reported ≡ seen names event → found ≡ marks event → profile ≡ event.profile → action ≡ action_place event.action
    → fate ≡ predicted_by profile action reported found (get_or courses place d)
    → as_predicted fate s (apply knows (get_or rules place r) s) ≡ apply knows (get_or rules place r) s
predicted_so knows names event rules courses reported found profile action place r d s fate within same known is are by acts to =
    let rule : Rule = get_or rules place r in
    let course : get_or courses place d ≡ course_of names rule = ap (λ cs. get_or cs place d) known ∙ get_or-map (course_of names) rules place r d within in
    ap (λ f. as_predicted f s (apply knows rule s))
    (to
    ∙ ap (λ p. predicted_by p action reported found (get_or courses place d)) by
    ∙ ap (λ a. predicted_by event.profile a reported found (get_or courses place d)) acts
    ∙ ap (λ t. predicted_by event.profile (action_place event.action) t found (get_or courses place d)) is
    ∙ ap (λ k. predicted_by event.profile (action_place event.action) (seen names event) k (get_or courses place d)) are
    ∙ ap (predicted_by event.profile (action_place event.action) (seen names event) (marks event)) course)
    ∙ comes_so knows names event rule s same
