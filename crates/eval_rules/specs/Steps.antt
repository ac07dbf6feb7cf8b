-- One rule, step by step.
use Rattle.std.specs.Prelude.{ℕ, Bool, true, false, if◌then◌else◌, is_some, List, [], ◌∷◌, Option, fold}
use Rattle.builtin_devices.specs.Knowledge.{Known}
use Rattle.rule_types.specs.declared.part.Comparison.{Comparison}
use Rattle.rule_types.specs.declared.part.PlainMatch.{PlainMatch}
use Rattle.rule_types.specs.declared.part.UpMatch.{UpMatch}
use Rattle.rule_types.specs.Rules.{Rule}
use Rattle.eval_state.specs.declared.state.State.{State}
use Rattle.eval_rendering.specs.Holding.{holds, one}
use Rattle.eval_rendering.specs.Subjects.{found_place, plain_subject}
use Rattle.eval_state.specs.declared.scene.Scene.{Scene}
use Rattle.eval_acts.specs.Acts.{act_step}
use Rattle.eval_acts.specs.Reaching.{match_reached}
use Rattle.eval_assignments.specs.Steps.{set_step}
use Rattle.eval_rules.specs.Idle.{is_idle, note_all}

-- a scene, and whether the rule goes on
abbrev pub Went : Type 0
Went = Scene × Bool

-- what a rule does next, if it goes on; if it does not, what was changed until then stays
abbrev pub if_proceeding : {S : Type 0} → (S → S × Bool) → S × Bool → S × Bool
if_proceeding next went = if went.1 then next went.0 else went

-- the parts of a rule that are of one step, one after another
unfoldable pub walk : {S P : Type 0} → (P → S → S × Bool) → List P → S → S × Bool
walk step [] s = (s, true)
walk step (p ∷ ps) s = if_proceeding (walk step ps) (step p s)

-- a match of the event: one of what is not read leaves its note, and the rule goes on if the match holds
unfoldable pub plain_step : Rule → PlainMatch → Scene → Went
plain_step r part s = (match_reached r part.key s, holds (plain_subject part.key s.state) part.wanted)

-- a match of the result of the last program
unfoldable pub result_step : Comparison → Scene → Went
result_step part s = (s, holds (one s.state.result) part)

-- what is known about an event, with the device at a place selected, or none
abbrev pub with_selected : Option ℕ → State → State
with_selected place state = record state { selected = place }

-- the search for one device: the nearest that meets all of the matches is selected, or none if none does; without a
-- match nothing is searched, and the selection stays
abbrev pub search : List UpMatch → Scene → Went
search [] s = (s, true)
search (part ∷ parts) s =
    (record s { state = with_selected (found_place (part ∷ parts) s.state) s.state }, is_some (found_place (part ∷ parts) s.state))

-- the assignments, none of which stops a rule
abbrev pub set_all : Rule → Scene → Went
set_all r s = (fold (set_step r) s r.sets, true)

-- a rule up to its assignments: the matches of the event, the search for one device, what acts, the matches of the
-- result; and whether all of them let the rule go on
abbrev pub before_sets : Known → Rule → Scene → Went
before_sets known r s =
    fold (λ went step. if_proceeding step went) (s, true)
    (walk (plain_step r) r.plain ∷ search r.up ∷ walk (act_step known r) r.acts ∷ walk result_step r.results ∷ [])

-- a rule in its five steps, the assignments last; and whether its end was reached
unfoldable pub steps : Known → Rule → Scene → Went
steps known r s = if_proceeding (set_all r) (before_sets known r s)

-- a rule that is skipped: it leaves its notes and changes nothing else, and its end is not reached
abbrev pub only_noted : Known → Rule → Scene → Went
only_noted known r s = (record s { notes = (if_proceeding (note_all r) (before_sets known r s)).0.notes }, false)

-- a rule over a scene: udev skips it if nothing in it counts for the event
unfoldable pub apply : Known → Rule → Scene → Went
apply known r s = if is_idle r s.state.event then only_noted known r s else steps known r s
