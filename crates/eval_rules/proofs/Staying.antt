-- What an event says of itself stays, whatever rules do.
use Rattle.std.proofs.Common.{Bool, true, false, cond, List, [], ◌∷◌, refl, ◌∙◌}
use Rattle.std.specs.List.{fold}
use Rattle.builtin_devices.specs.Knowledge.{Known}
use Rattle.rule_types.specs.declared.roles.PlainKey.{PlainKey}
use Rattle.rule_types.specs.declared.roles.PlainKey.TheVariants as plain
use Rattle.rule_types.specs.declared.part.Act.{Act}
use Rattle.rule_types.specs.declared.part.Assignment.{Assignment}
use Rattle.rule_types.specs.declared.part.Comparison.{Comparison}
use Rattle.rule_types.specs.declared.part.PlainMatch.{PlainMatch}
use Rattle.rule_types.specs.declared.part.UpMatch.{UpMatch}
use Rattle.rule_types.specs.Rules.{Rule}
use Rattle.eval_rendering.specs.Attributes.{is_not_read}
use Rattle.eval_rendering.specs.Subjects.{is_not_given}
use Rattle.eval_state.specs.Scenes.{noted}
use Rattle.eval_state.specs.declared.note_kind.NoteKind.TheVariants.{AttributeNotRead, ConstantNotGiven}
use Rattle.eval_state.specs.declared.scene.Scene.{Scene}
use Rattle.eval_acts.specs.Acts.{act_step, performed}
use Rattle.eval_acts.specs.Reaching.{match_reached}
use Rattle.eval_assignments.specs.Steps.{set_step}
use Rattle.eval_rules.specs.Idle.{change_applies, is_idle, note_step}
use Rattle.eval_rules.specs.Steps.{Went, apply, only_noted, if_proceeding, plain_step, result_step, search, set_all, steps, before_sets, walk}
use Rattle.eval_assignments.proofs.Staying.{Stays, set_stays}
use Rattle.eval_acts.proofs.Staying.{late_stays, performed_stays}

-- ---- acts

-- an act
pub act_stays : (known : Known) (r : Rule) (act : Act) (s : Scene) → Stays s (act_step known r act s).0
unfolding act_step
act_stays known r act s = late_stays r act.kind (performed known r act.kind s).1 s (performed known r act.kind s).0 (performed_stays known r act.kind s)

-- ---- matches

-- a match that is reached
pub reached_stays : (r : Rule) (k : PlainKey) (s : Scene) → Stays s (match_reached r k s)
reached_stays r (plain.Sysctl name) s = refl
reached_stays r (plain.Attr name) s = by (is_not_read name s.state.event)
  where
    by : (b : Bool) → Stays s (cond b (noted r AttributeNotRead name s) s)
    by true = refl
    by false = refl
reached_stays r (plain.Const name) s = by (is_not_given name s.state.event)
  where
    by : (b : Bool) → Stays s (cond b (noted r ConstantNotGiven name s) s)
    by true = refl
    by false = refl
reached_stays r k s = refl

plain_stays : (r : Rule) (part : PlainMatch) (s : Scene) → Stays s (plain_step r part s).0
unfolding plain_step
plain_stays r part s = reached_stays r part.key s

result_stays : (part : Comparison) (s : Scene) → Stays s (result_step part s).0
unfolding result_step
result_stays part s = refl

search_stays : (parts : List UpMatch) (s : Scene) → Stays s (search parts s).0
search_stays [] s = refl
search_stays (part ∷ parts) s = refl

-- ---- assignments

sets_stay : (r : Rule) (sets : List Assignment) (s : Scene) → Stays s (fold (set_step r) s sets)
sets_stay r [] s = refl
sets_stay r (a ∷ sets) s = sets_stay r sets (set_step r s a) ∙ set_stays r a s

-- an assignment that is not made
pub note_stays : (r : Rule) (a : Assignment) (s : Scene) → Stays s (note_step r s a)
note_stays r a s = by (change_applies a.change s.state.event.device)
  where
    by : (b : Bool) → Stays s (cond b s (set_step r s a))
    by true = refl
    by false = set_stays r a s

-- ---- steps, and a rule

if_proceeding_stays : (f : Scene → Went) → ((s : Scene) → Stays s (f s).0) → (s : Scene) (w : Went) → Stays s w.0 → Stays s (if_proceeding f w).0
if_proceeding_stays f h s w k = by w.1
  where
    by : (b : Bool) → Stays s (cond b (f w.0) w).0
    by true = h w.0 ∙ k
    by false = k

walk_stays : {P : Type 0} (step : P → Scene → Went) → ((p : P) (s : Scene) → Stays s (step p s).0) → (ps : List P) (s : Scene) → Stays s (walk step ps s).0
unfolding walk
walk_stays step h [] s = refl
walk_stays step h (p ∷ ps) s = if_proceeding_stays (walk step ps) (walk_stays step h ps) s (step p s) (h p s)

-- a rule up to its assignments
pub tried_stays : (known : Known) (r : Rule) (s : Scene) → Stays s (before_sets known r s).0
tried_stays known r s =
    if_proceeding_stays (walk result_step r.results) (walk_stays result_step result_stays r.results) s _
    (if_proceeding_stays (walk (act_step known r) r.acts) (walk_stays (act_step known r) (act_stays known r) r.acts) s _
    (if_proceeding_stays (search r.up) (search_stays r.up) s _
    (walk_stays (plain_step r) (plain_stays r) r.plain s)))

-- a rule in its steps
pub steps_stay : (known : Known) (r : Rule) (s : Scene) → Stays s (steps known r s).0
unfolding steps
steps_stay known r s = if_proceeding_stays (set_all r) (sets_stay r r.sets) s (before_sets known r s) (tried_stays known r s)

-- a rule
pub event_stays : (known : Known) (r : Rule) (s : Scene) → Stays s (apply known r s).0
unfolding apply
event_stays known r s = by (is_idle r s.state.event)
  where
    by : (b : Bool) → Stays s (cond b (only_noted known r s) (steps known r s)).0
    by true = refl
    by false = steps_stay known r s
