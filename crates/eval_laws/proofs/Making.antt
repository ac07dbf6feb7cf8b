-- What is final after an assignment, and what OWNER, GROUP, MODE and RUN leave.
use Rattle.std.proofs.Common.{◌≡◌, ℕ, Bool, true, false, cond, not, ◌||◌, ◌&&◌, List, [], ◌∷◌, ◌++◌, Option, Some, None, is_some, option_map, if◌then◌else◌, refl, ap, sym, ◌∙◌}
use Rattle.std.specs.List.{fold, list_any}
use Rattle.text_bytes.specs.Texts.{is_empty}
use Rattle.text_bytes.specs.declared.profile.Profile.{Profile}
use Rattle.text_bytes.specs.declared.profile.Profile.TheVariants.{Manual, Udev}
use Rattle.text_bytes.specs.Text.{Text}
use Rattle.rule_tokens.specs.Template.{Parts as Template}
use Rattle.rule_types.specs.Topics as topics
use Rattle.rule_types.specs.Written.{attribute_of_target, key_of_target}
use Rattle.rule_types.specs.declared.part.Assignment.{Assignment}
use Rattle.rule_types.specs.declared.part.Change.{Change}
use Rattle.rule_types.specs.declared.part.Change.TheVariants as change
use Rattle.rule_types.specs.declared.roles.AssignOperator.{AssignOperator}
use Rattle.rule_types.specs.declared.roles.AssignOperator.TheVariants.{Assign, Add, Remove, AssignFinal}
use Rattle.rule_types.specs.declared.roles.Target.{Target}
use Rattle.rule_types.specs.declared.roles.Target.TheVariants as target
use Rattle.rule_types.specs.declared.rule_option.RuleOption.{RuleOption}
use Rattle.rule_types.specs.declared.rule_option.RuleOption.TheVariants as option
use Rattle.rule_types.specs.declared.types.RunType.{RunType}
use Rattle.rule_types.specs.Rules.{Rule}
use Rattle.device_core.specs.Values.{NumberValue}
use Rattle.eval_state.specs.Finals.{is_final}
use Rattle.eval_state.specs.Runs.{RunValue, runs_after, same_run, with_run}
use Rattle.eval_state.specs.Scenes.{noted, noted_key}
use Rattle.eval_state.specs.declared.finals.FinalKey.{FinalKey}
use Rattle.eval_state.specs.declared.finals.FinalKey.TheVariants as key
use Rattle.eval_state.specs.declared.finals.Finals.{Finals}
use Rattle.eval_state.specs.declared.note_kind.NoteKind.TheVariants.{NameIgnored, NoDeviceNumber}
use Rattle.eval_state.specs.declared.scene.Scene.{Scene}
use Rattle.eval_rendering.specs.Bounds.{most_command_bytes, most_value_bytes, within}
use Rattle.eval_rendering.specs.Rendering.{render}
use Rattle.eval_rendering.specs.declared.rendered.Mode.{Mode}
use Rattle.eval_rendering.specs.declared.rendered.Mode.TheVariants.{Plain}
use Rattle.eval_rendering.specs.declared.rendered.Rendered.{Rendered}
use Rattle.eval_rendering.specs.declared.rendered.Rendered.TheVariants as rendered
use Rattle.eval_assignments.specs.Assigning.{assigned, group_set, owner_set, unless_empty, with_option}
use Rattle.eval_assignments.specs.Bounds.{most_bytes_of}
use Rattle.eval_assignments.specs.Escapes.{escape_of, mode_of}
use Rattle.eval_assignments.specs.Finality.{final_key, final_option, final_target, finally, is_settled, settled}
use Rattle.eval_assignments.specs.Inner.{given_by}
use Rattle.eval_assignments.specs.Links.{words}
use Rattle.eval_assignments.specs.Modes.{four_digits, mode_read, mode_set}
use Rattle.eval_assignments.specs.Runs.{command_made, made_before, run_made, run_of}
use Rattle.eval_assignments.specs.Steps.{emptied, finally_too_long, is_ignored, lacks_number, run_step, set_step, step_by, text_given, text_rendered, text_set, text_step}
use Rattle.eval_assignments.specs.declared.escapes.Escape.{Escape}
use Rattle.eval_assignments.specs.declared.escapes.Escape.TheVariants as escape
use Rattle.eval_laws.specs.AssignmentLaws.{Keeps, may_be_final}
use Rattle.eval_laws.specs.Making.{is_made, is_taken_too_long, is_template_made, is_text_made}
use Rattle.eval_laws.proofs.Finality.{Lasts, fold_keeps, lasts_on, step_event, step_keeps}
use Rattle.eval_laws.proofs.MadeFinal.{made_is_final}
use Rattle.eval_laws.proofs.Untouched.{assigned_finals, emptied_finals, made_finals}

-- a key that is settled is final
settled_is : (o : Option FinalKey) (k : FinalKey) (s : Scene) → o ≡ Some k → is_final (settled o s).finals k ≡ true
settled_is o k s e = ap (λ (j : Option FinalKey). is_final (settled j s).finals k) e ∙ made_is_final s.finals k

-- an assignment to a key that is not final is made
pub open_step : (r : Rule) (s : Scene) (a : Assignment) → is_settled (final_key s.state.event.profile a.change) s.finals ≡ false
    → set_step r s a ≡ step_by s.state.event.profile r a.operator a.change s
unfolding set_step
open_step r s a h = ap (λ b. cond b s (step_by s.state.event.profile r a.operator a.change s)) h

module _ (r : Rule) (k : FinalKey) (s : Scene) (open_key : is_final s.finals k ≡ false) where
  given_final : (profile : Profile) (e : Escape) (about : Target) (written t : Text) → final_target about ≡ Some k
      → is_final (text_given profile (given_by r e AssignFinal about written) t s).finals k ≡ not (is_ignored profile about s)
  given_final profile e about written t h = by (is_ignored profile about s)
    where
      by : (b : Bool) → is_final (if b then noted r NameIgnored t s else settled (final_target about) (assigned profile about (given_by r e AssignFinal about written) t s)).finals k ≡ not b
      by true = open_key
      by false = settled_is (final_target about) k (assigned profile about (given_by r e AssignFinal about written) t s) h

  late_final : (profile : Profile) (about : Target) (t : Scene) → t.finals ≡ s.finals → final_target about ≡ Some k → is_final (finally_too_long profile AssignFinal about t).finals k ≡ is_taken_too_long profile
  late_final Manual about t same h = ap (λ (f : Finals). is_final f k) same ∙ open_key
  late_final Udev about t same h = settled_is (final_target about) k t h

  text_final : (profile : Profile) (e : Escape) (about : Target) (written : Text) (text : Rendered) → final_target about ≡ Some k
      → is_final (text_set profile (given_by r e AssignFinal about written) text s).finals k ≡ is_text_made profile about text s
  text_final profile e about written (rendered.Text t) h = given_final profile e about written t h
  text_final profile e about written rendered.TooLong h = late_final profile about _ refl h

module _ (r : Rule) (k : FinalKey) (s : Scene) (open_key : is_final s.finals k ≡ false) where
  template_final : (profile : Profile) (about : Target) (template : Template) → final_target about ≡ Some k
      → is_final (text_step profile (given_by r (escape_of r.sets) AssignFinal about template.written) template s).finals k ≡ is_template_made profile r about template s
  template_final Manual about template h = text_final r k s open_key Manual (escape_of r.sets) about template.written (render template s.state (mode_of Manual about (escape_of r.sets))) h
  template_final Udev about template h = by (lacks_number about s.state.event.device.number)
    where
      t : Scene
      t = emptied AssignFinal about s

      text : Rendered
      text = within (most_bytes_of about) (render template t.state (mode_of Udev about (escape_of r.sets)))

      still_open : is_final t.finals k ≡ false
      still_open = ap (λ (f : Finals). is_final f k) (emptied_finals AssignFinal about s) ∙ open_key

      by : (b : Bool) → is_final (cond b (noted_key r NoDeviceNumber (key_of_target about) (attribute_of_target about) s) (text_rendered Udev (given_by r (escape_of r.sets) AssignFinal about template.written) template t)).finals k
          ≡ (not b && is_text_made Udev about text t)
      by true = open_key
      by false = text_final r k t still_open Udev (escape_of r.sets) about template.written text h

  run_final : (profile : Profile) (braces : Option RunType) (template : Template) → Some key.Run ≡ Some k → is_final (run_step profile r AssignFinal braces template s).finals k ≡ true
  run_final Manual braces template h = settled_is (Some key.Run) k (record s { runs = runs_after AssignFinal s.runs (run_of r braces template s) }) h
  run_final Udev braces template h = settled_is (Some key.Run) k (run_made r braces template (within most_command_bytes (render template s.state Plain)) (record s { made = made_before AssignFinal s.made })) h

  change_final : (c : Change) → final_key s.state.event.profile c ≡ Some k → is_final (step_by s.state.event.profile r AssignFinal c s).finals k ≡ is_made r c s
  change_final (change.Option known) h = settled_is (final_option s.state.event.profile known) k (with_option known s) h
  change_final (change.Text about template) h = template_final s.state.event.profile about template h
  change_final (change.Run braces template) h = run_final s.state.event.profile braces template h

  -- `:=` makes its key final if it is made
  pub step_final : (a : Assignment) → a.operator ≡ AssignFinal → final_key s.state.event.profile a.change ≡ Some k → is_final (set_step r s a).finals k ≡ is_made r a.change s
  step_final a o h =
      ap (λ (t : Scene). is_final t.finals k) (open_step r s a (ap (λ j. is_settled j s.finals) h ∙ open_key))
      ∙ ap (λ (p : AssignOperator). is_final (step_by s.state.event.profile r p a.change s).finals k) o
      ∙ change_final a.change h

-- whether a key, if there is one, may be final for udev
abbrev lasting : Option FinalKey → Bool
lasting None = true
lasting (Some k) = may_be_final Udev k

target_lasts : (about : Target) (k : FinalKey) → final_target about ≡ Some k → may_be_final Udev k ≡ true
target_lasts target.Owner k h = ap lasting (sym h)
target_lasts target.Group k h = ap lasting (sym h)
target_lasts target.Mode k h = ap lasting (sym h)
target_lasts target.Name k h = ap lasting (sym h)
target_lasts target.Symlink k h = ap lasting (sym h)
target_lasts about k h = cc

-- the key of an assignment may be final
own_lasts : (profile : Profile) (c : Change) (k : FinalKey) → final_key profile c ≡ Some k → may_be_final profile k ≡ true
own_lasts Manual c k h = refl
own_lasts Udev (change.Option option.Watch) k h = ap lasting (sym h)
own_lasts Udev (change.Option option.NoWatch) k h = ap lasting (sym h)
own_lasts Udev (change.Option known) k h = cc
own_lasts Udev (change.Run braces template) k h = ap lasting (sym h)
own_lasts Udev (change.Text about template) k h = target_lasts about k h

-- so that later assignments leave it
pub later_keeps : (r : Rule) (a : Assignment) (s : Scene) (k : FinalKey) → a.operator ≡ AssignFinal → final_key s.state.event.profile a.change ≡ Some k → is_made r a.change s ≡ true
    → (other : Rule) (sets : List Assignment) → Keeps k (set_step r s a) (fold (set_step other) (set_step r s a) sets)
later_keeps r a s k o h made other sets =
    fold_keeps k other sets (set_step r s a) (lasts_on k s (set_step r s a) (step_event r a s) lasts) (by (is_final s.finals k) refl)
  where
    lasts : Lasts k s
    lasts = own_lasts s.state.event.profile a.change k h

    by : (b : Bool) → is_final s.finals k ≡ b → is_final (set_step r s a).finals k ≡ true
    by true e = (step_keeps k r a s lasts e).stays
    by false e = step_final r k s e a o h ∙ made

-- ---- other operators

option_finals : (known : RuleOption) (s : Scene) → (with_option known s).finals ≡ s.finals
option_finals (option.LinkPriority n) s = refl
option_finals option.Watch s = refl
option_finals option.NoWatch s = refl
option_finals option.DbPersist s = refl
option_finals known s = refl

module _ (o : AssignOperator) (other : o ≡ AssignFinal → ⊥) where
  finally_same : (k : Option FinalKey) (s : Scene) → finally o k s ≡ s
  finally_same k s = by o other
    where
      by : (p : AssignOperator) → (p ≡ AssignFinal → ⊥) → finally p k s ≡ s
      by AssignFinal h = absurd (h refl)
      by p h = refl

  given_finals : (profile : Profile) (r : Rule) (e : Escape) (about : Target) (written t : Text) (s : Scene) → (text_given profile (given_by r e o about written) t s).finals ≡ s.finals
  given_finals profile r e about written t s = by (is_ignored profile about s)
    where
      by : (b : Bool) → (if b then noted r NameIgnored t s else finally o (final_target about) (assigned profile about (given_by r e o about written) t s)).finals ≡ s.finals
      by true = refl
      by false = ap (λ (u : Scene). u.finals) (finally_same (final_target about) (assigned profile about (given_by r e o about written) t s)) ∙ assigned_finals profile r e o about written t s

  late_finals : (profile : Profile) (about : Target) (s : Scene) → (finally_too_long profile o about s).finals ≡ s.finals
  late_finals Manual about s = refl
  late_finals Udev about s = ap (λ (u : Scene). u.finals) (finally_same (final_target about) s)

  text_finals : (profile : Profile) (r : Rule) (e : Escape) (about : Target) (written : Text) (text : Rendered) (s : Scene) → (text_set profile (given_by r e o about written) text s).finals ≡ s.finals
  text_finals profile r e about written (rendered.Text t) s = given_finals profile r e about written t s
  text_finals profile r e about written rendered.TooLong s = late_finals profile about _

  template_finals : (profile : Profile) (r : Rule) (about : Target) (template : Template) (s : Scene) → (text_step profile (given_by r (escape_of r.sets) o about template.written) template s).finals ≡ s.finals
  template_finals Manual r about template s = text_finals Manual r (escape_of r.sets) about template.written _ s
  template_finals Udev r about template s = by (lacks_number about s.state.event.device.number)
    where
      by : (b : Bool) → (cond b (noted_key r NoDeviceNumber (key_of_target about) (attribute_of_target about) s) (text_rendered Udev (given_by r (escape_of r.sets) o about template.written) template (emptied o about s))).finals ≡ s.finals
      by true = refl
      by false = text_finals Udev r (escape_of r.sets) about template.written _ (emptied o about s) ∙ emptied_finals o about s

  run_finals : (profile : Profile) (r : Rule) (braces : Option RunType) (template : Template) (s : Scene) → (run_step profile r o braces template s).finals ≡ s.finals
  run_finals Manual r braces template s = ap (λ (u : Scene). u.finals) (finally_same (Some key.Run) (record s { runs = runs_after o s.runs (run_of r braces template s) }))
  run_finals Udev r braces template s =
      let text : Rendered = within most_command_bytes (render template s.state Plain) in
      let fewer : Scene = record s { made = made_before o s.made } in
      ap (λ (u : Scene). u.finals) (finally_same (Some key.Run) (run_made r braces template text fewer)) ∙ made_finals r braces template text fewer

  by_finals : (profile : Profile) (r : Rule) (c : Change) (s : Scene) → (step_by profile r o c s).finals ≡ s.finals
  by_finals profile r (change.Option known) s = ap (λ (u : Scene). u.finals) (finally_same (final_option profile known) (with_option known s)) ∙ option_finals known s
  by_finals profile r (change.Text about template) s = template_finals profile r about template s
  by_finals profile r (change.Run braces template) s = run_finals profile r braces template s

-- no other operator makes a key final
pub step_finals : (r : Rule) (a : Assignment) (s : Scene) → (a.operator ≡ AssignFinal → ⊥) → (set_step r s a).finals ≡ s.finals
unfolding set_step
step_finals r a s other = by (is_settled (final_key s.state.event.profile a.change) s.finals)
  where
    by : (b : Bool) → (cond b s (step_by s.state.event.profile r a.operator a.change s)).finals ≡ s.finals
    by true = refl
    by false = by_finals a.operator other s.state.event.profile r a.change s

-- ---- OWNER, GROUP and MODE

given_is : (t : Text) → unless_empty t ≡ (if is_empty t then None else Some t)
given_is [] = refl
given_is (b ∷ t) = refl

plain_owner : (profile : Profile) (e : Escape) → mode_of profile target.Owner e ≡ Plain
plain_owner profile escape.Usual = refl
plain_owner profile escape.Keep = refl
plain_owner profile escape.Replace = refl

plain_group : (profile : Profile) (e : Escape) → mode_of profile target.Group e ≡ Plain
plain_group profile escape.Usual = refl
plain_group profile escape.Keep = refl
plain_group profile escape.Replace = refl

plain_mode : (profile : Profile) (e : Escape) → mode_of profile target.Mode e ≡ Plain
plain_mode profile escape.Usual = refl
plain_mode profile escape.Keep = refl
plain_mode profile escape.Replace = refl

finally_owner : (o : AssignOperator) (k : Option FinalKey) (s : Scene) → (finally o k s).owner ≡ s.owner
finally_owner AssignFinal None s = refl
finally_owner AssignFinal (Some k) s = refl
finally_owner o k s = refl

finally_group : (o : AssignOperator) (k : Option FinalKey) (s : Scene) → (finally o k s).group ≡ s.group
finally_group AssignFinal None s = refl
finally_group AssignFinal (Some k) s = refl
finally_group o k s = refl

finally_mode : (o : AssignOperator) (k : Option FinalKey) (s : Scene) → (finally o k s).mode ≡ s.mode
finally_mode AssignFinal None s = refl
finally_mode AssignFinal (Some k) s = refl
finally_mode o k s = refl

finally_runs : (o : AssignOperator) (k : Option FinalKey) (s : Scene) → (finally o k s).runs ≡ s.runs
finally_runs AssignFinal None s = refl
finally_runs AssignFinal (Some k) s = refl
finally_runs o k s = refl

finally_made : (o : AssignOperator) (k : Option FinalKey) (s : Scene) → (finally o k s).made ≡ s.made
finally_made AssignFinal None s = refl
finally_made AssignFinal (Some k) s = refl
finally_made o k s = refl

module _ (r : Rule) (o : AssignOperator) (template : Template) (s : Scene) (t : Text) where
  -- a text that is rendered as it is, by the manual
  set_text : s.state.event.profile ≡ Manual → (about : Target) → is_settled (final_target about) s.finals ≡ false → mode_of Manual about (escape_of r.sets) ≡ Plain → render template s.state Plain ≡ rendered.Text t
      → set_step r s (record { operator = o; change = change.Text about template }) ≡ text_given Manual (given_by r (escape_of r.sets) o about template.written) t s
  set_text manual about open_key plain text =
      open_step r s (record { operator = o; change = change.Text about template }) open_key
      ∙ ap (λ (p : Profile). text_step p (given_by r (escape_of r.sets) o about template.written) template s) manual
      ∙ ap (λ (x : Rendered). text_set Manual (given_by r (escape_of r.sets) o about template.written) x s) (ap (λ (m : Mode). render template s.state m) plain ∙ text)

  pub owner_in_place : s.state.event.profile ≡ Manual → is_final s.finals key.Owner ≡ false → render template s.state Plain ≡ rendered.Text t
      → (set_step r s (record { operator = o; change = change.Text target.Owner template })).owner ≡ (if is_empty t then None else Some t)
  owner_in_place manual open_key text =
      ap (λ (u : Scene). u.owner) (set_text manual target.Owner open_key (plain_owner Manual (escape_of r.sets)) text) ∙ finally_owner o (Some key.Owner) (record s { owner = unless_empty t }) ∙ given_is t

  pub group_in_place : s.state.event.profile ≡ Manual → is_final s.finals key.Group ≡ false → render template s.state Plain ≡ rendered.Text t
      → (set_step r s (record { operator = o; change = change.Text target.Group template })).group ≡ (if is_empty t then None else Some t)
  group_in_place manual open_key text =
      ap (λ (u : Scene). u.group) (set_text manual target.Group open_key (plain_group Manual (escape_of r.sets)) text) ∙ finally_group o (Some key.Group) (record s { group = unless_empty t }) ∙ given_is t

  pub mode_in_place : s.state.event.profile ≡ Manual → is_final s.finals key.Mode ≡ false → render template s.state Plain ≡ rendered.Text t
      → (set_step r s (record { operator = o; change = change.Text target.Mode template })).mode ≡ (if is_empty t then None else Some t)
  mode_in_place manual open_key text =
      ap (λ (u : Scene). u.mode) (set_text manual target.Mode open_key (plain_mode Manual (escape_of r.sets)) text) ∙ finally_mode o (Some key.Mode) (record s { mode = unless_empty t }) ∙ given_is t

  -- the same by udev, of a device with a number
  udev_text : s.state.event.profile ≡ Udev → (number : NumberValue) → s.state.event.device.number ≡ Some number → (about : Target) → (emptied o about s ≡ s)
      → is_settled (final_target about) s.finals ≡ false → mode_of Udev about (escape_of r.sets) ≡ Plain → within (most_bytes_of about) (render template s.state Plain) ≡ rendered.Text t
      → set_step r s (record { operator = o; change = change.Text about template }) ≡ text_given Udev (given_by r (escape_of r.sets) o about template.written) t s
  udev_text udev number numbered about stays open_key plain text =
      open_step r s (record { operator = o; change = change.Text about template }) open_key
      ∙ ap (λ (p : Profile). text_step p (given_by r (escape_of r.sets) o about template.written) template s) udev
      ∙ ap (λ (n : Option NumberValue). cond (lacks_number about n) (noted_key r NoDeviceNumber (key_of_target about) (attribute_of_target about) s) (text_rendered Udev (given_by r (escape_of r.sets) o about template.written) template (emptied o about s))) numbered
      ∙ ap (λ (u : Scene). text_rendered Udev (given_by r (escape_of r.sets) o about template.written) template u) stays
      ∙ ap (λ (x : Rendered). text_set Udev (given_by r (escape_of r.sets) o about template.written) x s) (ap (λ (m : Mode). within (most_bytes_of about) (render template s.state m)) plain ∙ text)

  owner_by : (u : Text) → (owner_set r u s).owner ≡ (if is_empty u then s.owner else Some u)
  owner_by [] = refl
  owner_by (b ∷ u) = refl

  group_by : (u : Text) → (group_set r u s).group ≡ (if is_empty u then s.group else Some u)
  group_by [] = refl
  group_by (b ∷ u) = refl

  read_by : (u : Text) (mode : Option ℕ) → (mode_read r u mode s).mode ≡ (if is_some mode then option_map four_digits mode else s.mode)
  read_by u None = refl
  read_by u (Some mode) = refl

  mode_by : (u : Text) → (mode_set r u s).mode ≡ (if is_empty u then s.mode else if is_some (topics.mode_of u) then option_map four_digits (topics.mode_of u) else s.mode)
  mode_by [] = refl
  mode_by (b ∷ u) = read_by (b ∷ u) (topics.mode_of (b ∷ u))

  stays_owner : emptied o target.Owner s ≡ s
  stays_owner = by o
    where
      by : (p : AssignOperator) → emptied p target.Owner s ≡ s
      by Assign = refl
      by Add = refl
      by Remove = refl
      by AssignFinal = refl

  stays_group : emptied o target.Group s ≡ s
  stays_group = by o
    where
      by : (p : AssignOperator) → emptied p target.Group s ≡ s
      by Assign = refl
      by Add = refl
      by Remove = refl
      by AssignFinal = refl

  stays_mode : emptied o target.Mode s ≡ s
  stays_mode = by o
    where
      by : (p : AssignOperator) → emptied p target.Mode s ≡ s
      by Assign = refl
      by Add = refl
      by Remove = refl
      by AssignFinal = refl

  module _ (udev : s.state.event.profile ≡ Udev) (number : NumberValue) (numbered : s.state.event.device.number ≡ Some number) where
    pub udev_owner : is_final s.finals key.Owner ≡ false → within most_value_bytes (render template s.state Plain) ≡ rendered.Text t
        → (set_step r s (record { operator = o; change = change.Text target.Owner template })).owner ≡ (if is_empty t then s.owner else Some t)
    udev_owner open_key text =
        ap (λ (u : Scene). u.owner) (udev_text udev number numbered target.Owner stays_owner open_key (plain_owner Udev (escape_of r.sets)) text) ∙ finally_owner o (Some key.Owner) (owner_set r t s) ∙ owner_by t

    pub udev_group : is_final s.finals key.Group ≡ false → within most_value_bytes (render template s.state Plain) ≡ rendered.Text t
        → (set_step r s (record { operator = o; change = change.Text target.Group template })).group ≡ (if is_empty t then s.group else Some t)
    udev_group open_key text =
        ap (λ (u : Scene). u.group) (udev_text udev number numbered target.Group stays_group open_key (plain_group Udev (escape_of r.sets)) text) ∙ finally_group o (Some key.Group) (group_set r t s) ∙ group_by t

    pub udev_mode : is_final s.finals key.Mode ≡ false → within most_value_bytes (render template s.state Plain) ≡ rendered.Text t
        → (set_step r s (record { operator = o; change = change.Text target.Mode template })).mode
        ≡ (if is_empty t then s.mode else if is_some (topics.mode_of t) then option_map four_digits (topics.mode_of t) else s.mode)
    udev_mode open_key text =
        ap (λ (u : Scene). u.mode) (udev_text udev number numbered target.Mode stays_mode open_key (plain_mode Udev (escape_of r.sets)) text) ∙ finally_mode o (Some key.Mode) (mode_set r t s) ∙ mode_by t

-- ---- RUN

pub run_added : (runs : List RunValue) (run : RunValue) → is_empty run.template.written ≡ false → list_any (same_run run) runs ≡ false → with_run runs run ≡ runs ++ run ∷ []
run_added runs run some new = ap (λ b. cond (b || list_any (same_run run) runs) runs (runs ++ run ∷ [])) some ∙ ap (λ b. cond b runs (runs ++ run ∷ [])) new

pub run_alone : (o : AssignOperator) (runs : List RunValue) (run : RunValue) → (o ≡ Add → ⊥) → is_empty run.template.written ≡ false → runs_after o runs run ≡ run ∷ []
run_alone Add runs run other some = absurd (other refl)
run_alone o runs run other some = run_added [] run some refl

pub run_empty : (runs : List RunValue) (run : RunValue) → is_empty run.template.written ≡ true → with_run runs run ≡ runs
run_empty runs run none = ap (λ b. cond (b || list_any (same_run run) runs) runs (runs ++ run ∷ [])) none

pub run_taken : (r : Rule) (o : AssignOperator) (braces : Option RunType) (template : Template) (s : Scene) → s.state.event.profile ≡ Manual → is_final s.finals key.Run ≡ false
    → (set_step r s (record { operator = o; change = change.Run braces template })).runs ≡ runs_after o s.runs (run_of r braces template s)
run_taken r o braces template s manual open_key =
    ap (λ (u : Scene). u.runs) (open_step r s (record { operator = o; change = change.Run braces template }) open_key)
    ∙ ap (λ (p : Profile). (run_step p r o braces template s).runs) manual
    ∙ finally_runs o (Some key.Run) (record s { runs = runs_after o s.runs (run_of r braces template s) })

-- by udev a command follows those that stay
pub run_rendered_last : (r : Rule) (o : AssignOperator) (braces : Option RunType) (template : Template) (s : Scene) (text : Text) → s.state.event.profile ≡ Udev → is_final s.finals key.Run ≡ false
    → within most_command_bytes (render template s.state Plain) ≡ rendered.Text text → is_empty (words text) ≡ false
    → (set_step r s (record { operator = o; change = change.Run braces template })).made ≡ made_before o s.made ++ record { run = run_of r braces template s; text = text } ∷ []
run_rendered_last r o braces template s text udev open_key is some =
    ap (λ (u : Scene). u.made) (open_step r s (record { operator = o; change = change.Run braces template }) open_key)
    ∙ ap (λ (p : Profile). (run_step p r o braces template s).made) udev
    ∙ finally_made o (Some key.Run) (run_made r braces template (within most_command_bytes (render template s.state Plain)) fewer)
    ∙ ap (λ (x : Rendered). (run_made r braces template x fewer).made) is
    ∙ by (words text) some
  where
    fewer : Scene
    fewer = record s { made = made_before o s.made }

    by : (ws : List Text) → is_empty ws ≡ false → (command_made r braces template text ws fewer).made ≡ made_before o s.made ++ record { run = run_of r braces template s; text = text } ∷ []
    by [] h = cc
    by (word ∷ ws) h = refl
