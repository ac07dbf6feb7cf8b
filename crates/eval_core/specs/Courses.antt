-- Serves inner proofs only: what is known about rules before they are looked at.
use Rattle.std.specs.Prelude.{ℕ, ◌-◌, Bool, true, false, if◌then◌else◌, List, [], ◌∷◌, length, slice_get, Option, Some, None}
use Rattle.std.specs.Option.{option_or}
use Rattle.text_bytes.specs.declared.profile.Profile.{Profile}
use Rattle.text_bytes.specs.declared.profile.Profile.TheVariants as profile
use Rattle.text_bytes.specs.Text.{Text}
use Rattle.text_core.specs.declared.item.Item.{Item}
use Rattle.rule_types.specs.declared.roles.MatchOperator.{MatchOperator}
use Rattle.rule_types.specs.declared.roles.MatchOperator.TheVariants.{Equal, NotEqual}
use Rattle.rule_types.specs.declared.roles.UpKey.{UpKey}
use Rattle.rule_types.specs.declared.roles.UpKey.TheVariants as up
use Rattle.rule_types.specs.declared.part.PlainMatch.{PlainMatch}
use Rattle.rule_types.specs.declared.part.UpMatch.{UpMatch}
use Rattle.rule_types.specs.Rules.{Rule}
use Rattle.eval_core.specs.Sketches.{exact_sketch, sketch}
use Rattle.eval_state.specs.declared.scene.Scene.{Scene}
use Rattle.eval_rules.specs.Steps.{Went, with_selected}
use Rattle.eval_core.specs.Actions.{by_action, has_no_more}
use Rattle.eval_core.specs.Checks.{check_of, choice_check, is_ruled_out}
use Rattle.eval_core.specs.Marks.{driver, is_lacking, mark, subsystem}
use Rattle.eval_core.specs.declared.actions.ByAction.{ByAction}
use Rattle.eval_core.specs.declared.checks.Check.{Check}
use Rattle.eval_core.specs.declared.courses.Course.{Course}
use Rattle.eval_core.specs.declared.courses.Course.TheVariants.{Open, Bare, Action, First, Guard, Search}
use Rattle.eval_core.specs.declared.courses.Fate.{Fate}
use Rattle.eval_core.specs.declared.courses.Fate.TheVariants.{Unknown, Failed, Reached, NotFound}

-- a check of a match by `!=`; one by `==` has none
abbrev pub unequal_check : MatchOperator → Option Check → Option Check
unequal_check Equal check = None
unequal_check NotEqual check = check

-- the course of a rule that is one match of the event, if it has a check
abbrev pub guarded : Option Check → Course
guarded None = Open
guarded (Some check) = Guard check

-- the number for what a key looks at, if it has marks
abbrev pub thing_of : UpKey → Option ℕ
thing_of up.Subsystems = Some subsystem
thing_of up.Drivers = Some driver
thing_of (up.Attrs name) = Some (sketch name)
thing_of key = None

-- a mark, if both its parts are known
abbrev pub mark_by : Option ℕ → Option ℕ → Option ℕ
mark_by None value = None
mark_by (Some thing) None = None
mark_by (Some thing) (Some value) = Some (mark thing value)

-- the mark of what a match asks for by its operator: one by `!=` asks for none
abbrev pub mark_of : MatchOperator → UpKey → List (List Item) → Option ℕ
mark_of Equal key choice = mark_by (thing_of key) (exact_sketch choice)
mark_of NotEqual key choice = None

-- the mark of what a match asks for, if it has one
abbrev pub part_mark : UpMatch → Option ℕ
part_mark part = mark_of part.wanted.operator part.key part.wanted.choice

-- the same for a match that may be absent
abbrev pub mark_in : Option UpMatch → Option ℕ
mark_in None = None
mark_in (Some part) = part_mark part

-- the mark of what the last of some matches asks for, if it has one
abbrev pub last_mark : List UpMatch → Option ℕ
last_mark parts = mark_in (slice_get parts (length parts - 1))

-- the course of a rule that searches for one device, if there is a mark that this device has
abbrev pub searched : Option ℕ → Course
searched None = Open
searched (Some mark) = Search mark

-- the course of a rule that has no more than these matches of the event
abbrev pub guard_in : List Text → List PlainMatch → Course
guard_in names [] = Bare
guard_in names (part ∷ []) = guarded (unequal_check part.wanted.operator (choice_check names part.key part.wanted.choice))
guard_in names (part ∷ other ∷ parts) = Open

-- the course of a rule with these matches of the event, and these of one device, of which this is the first
abbrev pub search_in : List PlainMatch → List UpMatch → UpMatch → Course
search_in [] parts part = searched (option_or (last_mark parts) (part_mark part))
search_in (other ∷ plain) parts part = Open

-- the course of a rule with these matches of one device
abbrev pub course_in : List Text → Rule → List UpMatch → Course
course_in names r [] = if has_no_more r then guard_in names r.plain else Open
course_in names r (part ∷ parts) = search_in r.plain (part ∷ parts) part

-- the course of a rule whose first match has no check
abbrev pub course_after : List Text → Rule → Course
course_after names r = course_in names r r.up

-- the course of a rule, by the check of its first match
abbrev pub course_by : List Text → Rule → Option Check → Course
course_by names r None = course_after names r
course_by names r (Some check) = First check

-- the course of a rule whose first match is not one of the action
abbrev pub checked_course : List Text → Rule → Course
checked_course names r = course_by names r (check_of names r)

-- the course of a rule, by what is known of it if its first match is one of the action
abbrev pub course_with : List Text → Rule → Option ByAction → Course
course_with names r None = checked_course names r
course_with names r (Some by) = Action by

-- the course of a rule
abbrev pub course_of : List Text → Rule → Course
course_of names r = course_with names r (by_action r)

-- the outcome of a rule whose first match is one of the action, if it is known whether that holds
abbrev pub told : Option Bool → Bool → Fate
told None guard = Unknown
told (Some true) guard = if guard then Reached else Unknown
told (Some false) guard = Failed

-- the same by the action's place among those that are known
abbrev pub told_by : Option ℕ → ByAction → Fate
told_by None by = Unknown
told_by (Some place) by = told (slice_get by.held place) by.is_guard

-- the outcome of a rule by what is seen: it fails, or its end is reached, with nothing changed; or its search finds
-- no device
abbrev pub predicted : Option ℕ → List (Option ℕ) → List Bool → Course → Fate
predicted action seen marks Open = Unknown
predicted action seen marks Bare = Reached
predicted action seen marks (Action by) = told_by action by
predicted action seen marks (First check) = if is_ruled_out seen (Some check) then Failed else Unknown
predicted action seen marks (Guard check) = if is_ruled_out seen (Some check) then Reached else Unknown
predicted action seen marks (Search mark) = if is_lacking (slice_get marks mark) then NotFound else Unknown

-- the outcome of a rule of an event, by the profile by which it is evaluated: for udev nothing is foretold
abbrev pub predicted_by : Profile → Option ℕ → List (Option ℕ) → List Bool → Course → Fate
predicted_by profile.Manual action seen marks course = predicted action seen marks course
predicted_by profile.Udev action seen marks course = Unknown

-- what becomes of a scene by a rule whose outcome is known, as far as it is known
abbrev pub as_predicted : Fate → Scene → Went → Went
as_predicted Unknown s went = went
as_predicted Failed s went = (s, false)
as_predicted Reached s went = (s, true)
as_predicted NotFound s went = (record s { state = with_selected None s.state }, false)
