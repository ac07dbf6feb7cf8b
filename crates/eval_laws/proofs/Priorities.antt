-- The priority that rules of files give an event is a number of 32 bits.
use Rattle.std.proofs.Common.{◌≡◌, Bool, true, false, cond, List, [], ◌∷◌, Option, None, IfSome, refl, sym, ap, subst}
use Rattle.std.specs.List.{fold}
use Rattle.text_bytes.specs.declared.profile.Profile.{Profile}
use Rattle.text_bytes.specs.declared.source_file.SourceFile.{SourceFile}
use Rattle.text_bytes.specs.Text.{Text}
use Rattle.builtin_devices.specs.Knowledge.{Known}
use Rattle.rule_types.specs.declared.roles.AssignOperator.{AssignOperator}
use Rattle.rule_types.specs.declared.roles.Target.{Target}
use Rattle.rule_types.specs.declared.roles.Target.TheVariants as target
use Rattle.rule_types.specs.declared.rule_option.RuleOption.{RuleOption}
use Rattle.rule_types.specs.declared.rule_option.RuleOption.TheVariants as option
use Rattle.rule_types.specs.declared.part.Assignment.{Assignment}
use Rattle.rule_types.specs.declared.part.Change.{Change}
use Rattle.rule_types.specs.declared.part.Change.TheVariants as change
use Rattle.rule_types.specs.Rules.{Rule}
use Rattle.rule_core.specs.Rules.{set_of_as}
use Rattle.device_core.specs.Values.{EventValue}
use Rattle.eval_state.specs.Scenes.{start}
use Rattle.eval_state.specs.declared.finals.FinalKey.TheVariants as key
use Rattle.eval_state.specs.declared.scene.Scene.{Scene}
use Rattle.eval_assignments.specs.Assigning.{with_option}
use Rattle.eval_assignments.specs.Finality.{final_key, final_option, final_target, is_settled}
use Rattle.eval_assignments.specs.Steps.{set_step, step_by}
use Rattle.eval_rules.specs.Idle.{is_idle}
use Rattle.eval_rules.specs.Steps.{apply, before_sets, only_noted, set_all, steps}
use Rattle.eval_rules.specs.Jumps.{is_passed, run, sought_after}
use Rattle.eval_rules.specs.Outcomes.{outcome, outcome_of}
use Rattle.eval_laws.proofs.Keeping.{before_same}
use Rattle.eval_laws.proofs.Small.{ChangeFits, IsSmall, RulesFit, SetsFit, set_fits}
use Rattle.eval_laws.proofs.KeptParts.{Other, value, same_finally}
use Rattle.eval_laws.proofs.Untouched.{run_same, step_same}

-- two scenes have the same priority
abbrev Same : Scene → Scene → Type 0
Same s t = t.priority ≡ s.priority

-- the priority, if there is one, is a number of 32 bits
abbrev Fits : Scene → Type 0
Fits s = IfSome s.priority IsSmall

kept : (s t : Scene) → Same s t → Fits s → Fits t
kept s t same h = subst (λ p. IfSome p IsSmall) (sym same) h

-- ---- assignments

option_kept : (known : RuleOption) (s : Scene) → ChangeFits (change.Option known) → Fits s → Fits (with_option known s)
option_kept (option.LinkPriority n) s fits h = fits
option_kept option.Watch s fits h = h
option_kept option.NoWatch s fits h = h
option_kept option.DbPersist s fits h = h
option_kept known s fits h = h

not_priority : (about : Target) → Other (value key.Priority) (final_target about)
not_priority target.Owner h = cc
not_priority target.Group h = cc
not_priority target.Mode h = cc
not_priority target.Name h = cc
not_priority target.Symlink h = cc
not_priority target.Tag h = cc
not_priority (target.Seclabel label) h = cc
not_priority (target.Env name) h = cc
not_priority (target.Attr name) h = cc
not_priority (target.Sysctl name) h = cc

change_kept : (profile : Profile) (r : Rule) (o : AssignOperator) (c : Change) (s : Scene) → ChangeFits c → Fits s → Fits (step_by profile r o c s)
change_kept profile r o (change.Option known) s fits h =
    kept (with_option known s) (step_by profile r o (change.Option known) s) (same_finally (value key.Priority) (with_option known s) (with_option known s) o (final_option profile known) refl) (option_kept known s fits h)
change_kept profile r o (change.Text about template) s fits h =
    kept s (step_by profile r o (change.Text about template) s) (step_same (value key.Priority) r profile o about template s (not_priority about)) h
change_kept profile r o (change.Run kind template) s fits h =
    kept s (step_by profile r o (change.Run kind template) s) (run_same (value key.Priority) r profile o kind template s (λ e. cc)) h

set_kept : (r : Rule) (a : Assignment) (s : Scene) → ChangeFits a.change → Fits s → Fits (set_step r s a)
unfolding set_step
set_kept r a s fits h = by (is_settled (final_key s.state.event.profile a.change) s.finals)
  where
    by : (b : Bool) → Fits (cond b s (step_by s.state.event.profile r a.operator a.change s))
    by true = h
    by false = change_kept s.state.event.profile r a.operator a.change s fits h

sets_kept : (r : Rule) (sets : List Assignment) (s : Scene) → SetsFit sets → Fits s → Fits (fold (set_step r) s sets)
sets_kept r [] s fits h = h
sets_kept r (a ∷ sets) s fits h = sets_kept r sets (set_step r s a) fits.1 (set_kept r a s fits.0 h)

-- ---- rules one after another

steps_kept : (known : Known) (r : Rule) (s : Scene) → SetsFit r.sets → Fits s → Fits (steps known r s).0
unfolding steps
steps_kept known r s fits h = by (before_sets known r s).1
  where
    t : Scene
    t = (before_sets known r s).0

    held : Fits t
    held = kept s t (ap (λ (x : Scene). x.priority) (before_same known r s)) h

    by : (b : Bool) → Fits (cond b (set_all r t) (before_sets known r s)).0
    by true = sets_kept r r.sets t fits held
    by false = held

rule_kept : (known : Known) (r : Rule) (s : Scene) → SetsFit r.sets → Fits s → Fits (apply known r s).0
unfolding apply
rule_kept known r s fits h = by (is_idle r s.state.event)
  where
    by : (b : Bool) → Fits (cond b (only_noted known r s) (steps known r s)).0
    by true = h
    by false = steps_kept known r s fits h

rules_kept : (known : Known) (sought : Option Text) (rules : List Rule) (s : Scene) → RulesFit rules → Fits s → Fits (run known sought rules s)
unfolding run
rules_kept known sought [] s fits h = h
rules_kept known sought (r ∷ rs) s fits h = by (is_passed sought r) (rules_kept known sought rs s fits.1 h) (rules_kept known next rs t fits.1 (rule_kept known r s fits.0 h))
  where
    t : Scene
    t = (apply known r s).0

    next : Option Text
    next = sought_after (apply known r s).1 r

    by : (b : Bool) → Fits (run known sought rs s) → Fits (run known next rs t) → Fits (cond b (run known sought rs s) (run known next rs t))
    by true x y = x
    by false x y = y

-- the priority of the outcome of an event
pub outcome_small : (profile : Profile) (files : List SourceFile) (known : Known) (event : EventValue) → IfSome (outcome (set_of_as profile files).rules known event).priority IsSmall
unfolding outcome_of
outcome_small profile files known event = rules_kept known None (set_of_as profile files).rules (start event) (set_fits profile files) tt
