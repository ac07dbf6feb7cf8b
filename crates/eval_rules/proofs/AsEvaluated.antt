-- A rule that is skipped leaves what it would leave if it were evaluated, except for the device that is selected and the keys that are
-- final.
use Rattle.std.proofs.Common.{◌≡◌, Bool, true, false, cond, not, ◌&&◌, ◌||◌, List, [], ◌∷◌, is_some, refl, ap, sym, ◌∙◌}
use Rattle.std.specs.List.{fold, list_any}
use Rattle.text_bytes.specs.declared.profile.Profile.{Profile}
use Rattle.text_bytes.specs.declared.profile.Profile.TheVariants.{Manual, Udev}
use Rattle.builtin_devices.specs.Knowledge.{Known}
use Rattle.device_core.specs.Values.{EventValue}
use Rattle.rule_types.specs.declared.roles.AssignOperator.{AssignOperator}
use Rattle.rule_types.specs.declared.roles.AssignOperator.TheVariants.{AssignFinal}
use Rattle.rule_types.specs.declared.rule_option.RuleOption.TheVariants.{Ignored}
use Rattle.rule_types.specs.declared.part.Assignment.{Assignment}
use Rattle.rule_types.specs.declared.part.Change.{Change}
use Rattle.rule_types.specs.declared.part.Change.TheVariants as change
use Rattle.rule_types.specs.Rules.{Rule}
use Rattle.eval_state.specs.declared.scene.Scene.{Scene}
use Rattle.eval_assignments.specs.Steps.{set_step}
use Rattle.eval_acts.specs.Stored.{is_removal}
use Rattle.eval_rules.specs.Idle.{act_kind_counts, applies, change_applies, change_counts, is_idle, is_idle_by, is_of_device, note_all, note_step}
use Rattle.eval_rules.specs.Steps.{Went, apply, only_noted, if_proceeding, set_all, steps, before_sets, with_selected}
use Rattle.eval_rules.proofs.Skipped.{Still, by_udev, note_still, noted_still, same_event, still_noted, tried_idle}

-- an assignment of a text does not count if its key does not apply, unless the device is removed
not_applying : (a b gone : Bool) → (a && not (b && gone)) ≡ false → gone ≡ false → a ≡ false
not_applying false b gone h g = refl
not_applying true true true h g = cc g
not_applying true true false h g = cc h
not_applying true false gone h g = cc h

option_as : (r : Rule) (o : AssignOperator) (t : Scene) → t ≡ set_step r t (record { operator = o; change = change.Option Ignored })
unfolding set_step
option_as r AssignFinal t = refl
option_as r o t = refl

noted_as : (r : Rule) (a : Assignment) (t : Scene) → change_applies a.change t.state.event.device ≡ false → note_step r t a ≡ set_step r t a
noted_as r a t h = ap (λ b. cond b t (set_step r t a)) h

-- the result of an assignment that does not count, in place of making it
step_as : (r : Rule) (t : Scene) (o : AssignOperator) (c : Change) → is_removal t.state.event ≡ false → change_counts c t.state.event ≡ false
    → note_step r t (record { operator = o; change = c }) ≡ set_step r t (record { operator = o; change = c })
step_as r t o (change.Option Ignored) g n = option_as r o t
step_as r t o (change.Option known) g n = cc n
step_as r t o (change.Text about template) g n =
    noted_as r (record { operator = o; change = change.Text about template }) t
    (not_applying (applies about t.state.event.device) (is_of_device about) (is_removal t.state.event) n g)
step_as r t o (change.Run braces template) g n = cc n

neither_first : (a b : Bool) → (a || b) ≡ false → a ≡ false
neither_first false b h = refl
neither_first true b h = h

neither_second : (a b : Bool) → (a || b) ≡ false → b ≡ false
neither_second false b h = h
neither_second true b h = cc h

sets_as : (r : Rule) (t : Scene) (sets : List Assignment) → t.state.event.profile ≡ Udev → is_removal t.state.event ≡ false → list_any (λ a. change_counts a.change t.state.event) sets ≡ false
    → fold (note_step r) t sets ≡ fold (set_step r) t sets
sets_as r t [] udev g n = refl
sets_as r t (a ∷ sets) udev g n =
    let u : Scene = note_step r t a in
    let same : u.state.event ≡ t.state.event = same_event t u (note_still r a t udev) in
    sets_as r u sets (ap (λ (e : EventValue). e.profile) same ∙ udev) (ap is_removal same ∙ g)
    (ap (λ e. list_any (λ a. change_counts a.change e) sets) same ∙ neither_second (change_counts a.change t.state.event) _ n)
    ∙ ap (λ v. fold (set_step r) v sets) (step_as r t a.operator a.change g (neither_first (change_counts a.change t.state.event) _ n))

-- in a rule that is skipped no assignment counts
no_set_counts : (p : Profile) (r : Rule) (event : EventValue) → is_idle_by p r event ≡ true → list_any (λ a. change_counts a.change event) r.sets ≡ false
unfolding is_idle_by
no_set_counts Manual r event h = cc h
no_set_counts Udev r event h = by (is_some r.goto) (list_any (λ act. act_kind_counts act.kind) r.acts) (list_any (λ a. change_counts a.change event) r.sets) h
  where
    by : (a b c : Bool) → not (a || (b || c)) ≡ true → c ≡ false
    by true b c h = cc h
    by false true c h = cc h
    by false false true h = cc h
    by false false false h = refl

module _ (known : Known) (r : Rule) (s : Scene) (idle : is_idle r s.state.event ≡ true) where
  ends_as : (w : Went) → Still s w.0 → is_removal s.state.event ≡ false → (if_proceeding (note_all r) w).0 ≡ (if_proceeding (set_all r) w).0
  ends_as w h g = by w.1
    where
      same : w.0.state.event ≡ s.state.event
      same = same_event s w.0 h

      by : (b : Bool) → (if_proceeding (note_all r) (w.0, b)).0 ≡ (if_proceeding (set_all r) (w.0, b)).0
      by true =
          sets_as r w.0 r.sets (ap (λ (e : EventValue). e.profile) same ∙ by_udev s.state.event.profile r s.state.event idle) (ap is_removal same ∙ g)
          (ap (λ e. list_any (λ a. change_counts a.change e) r.sets) same ∙ no_set_counts s.state.event.profile r s.state.event idle)
      by false = refl

  -- a rule that is skipped
  pub passed_as : is_removal s.state.event ≡ false
      → apply known r s ≡ (record (steps known r s).0 { finals = s.finals; state = with_selected s.state.selected (steps known r s).0.state }, false)
  unfolding apply steps
  passed_as g =
      ap (λ b. cond b (only_noted known r s) (steps known r s)) idle
      ∙ ap (λ (t : Scene). (t, false)) (sym (still_noted s (if_proceeding (note_all r) (before_sets known r s)).0 (noted_still known r s idle)))
      ∙ ap (λ (t : Scene). (record t { finals = s.finals; state = with_selected s.state.selected t.state }, false)) (ends_as (before_sets known r s) (tried_idle known r s idle) g)

-- a rule by the manual
pub manual_evaluates : (known : Known) (r : Rule) (s : Scene) → s.state.event.profile ≡ Manual → apply known r s ≡ steps known r s
unfolding apply is_idle_by
manual_evaluates known r s h = ap (λ p. cond (is_idle_by p r s.state.event) (only_noted known r s) (steps known r s)) h
