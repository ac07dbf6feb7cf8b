-- Keys that are final stay, assignment by assignment.
use Rattle.std.proofs.Common.{◌≡◌, ℤ, Bool, true, false, cond, List, [], ◌∷◌, Option, Some, None, refl, sym, ◌∙◌, ap, true≢false}
use Rattle.std.specs.List.{fold}
use Rattle.text_bytes.specs.declared.profile.Profile.{Profile}
use Rattle.text_bytes.specs.declared.profile.Profile.TheVariants.{Manual, Udev}
use Rattle.text_bytes.specs.Text.{Text}
use Rattle.rule_tokens.specs.Template.{Parts as Template}
use Rattle.rule_types.specs.Written.{attribute_of_target, key_of_target}
use Rattle.rule_types.specs.declared.roles.AssignOperator.{AssignOperator}
use Rattle.rule_types.specs.declared.roles.AssignOperator.TheVariants.{Assign, Add, Remove, AssignFinal}
use Rattle.rule_types.specs.declared.roles.Target.{Target}
use Rattle.rule_types.specs.declared.rule_option.RuleOption.{RuleOption}
use Rattle.rule_types.specs.declared.rule_option.RuleOption.TheVariants as option
use Rattle.rule_types.specs.declared.types.RunType.{RunType}
use Rattle.rule_types.specs.declared.part.Assignment.{Assignment}
use Rattle.rule_types.specs.declared.part.Change.{Change}
use Rattle.rule_types.specs.declared.part.Change.TheVariants as change
use Rattle.rule_types.specs.Rules.{Rule}
use Rattle.device_core.specs.Values.{EventValue}
use Rattle.eval_rendering.specs.Bounds.{most_command_bytes, within}
use Rattle.eval_rendering.specs.Rendering.{render}
use Rattle.eval_rendering.specs.declared.rendered.Mode.TheVariants.{Plain}
use Rattle.eval_rendering.specs.declared.rendered.Rendered.{Rendered}
use Rattle.eval_rendering.specs.declared.rendered.Rendered.TheVariants as rendered
use Rattle.eval_state.specs.Finals.{is_final}
use Rattle.eval_state.specs.Runs.{runs_after}
use Rattle.eval_state.specs.Scenes.{noted, noted_key}
use Rattle.eval_state.specs.declared.note_kind.NoteKind.TheVariants.{NameIgnored, NoDeviceNumber}
use Rattle.eval_state.specs.declared.finals.FinalKey.{FinalKey}
use Rattle.eval_state.specs.declared.finals.FinalKey.TheVariants as key
use Rattle.eval_state.specs.declared.scene.Scene.{Scene}
use Rattle.eval_assignments.specs.declared.escapes.Escape.{Escape}
use Rattle.eval_assignments.specs.Assigning.{assigned, with_option}
use Rattle.eval_assignments.specs.Escapes.{escape_of}
use Rattle.eval_assignments.specs.Finality.{final_key, final_option, final_target, finally, is_settled}
use Rattle.eval_assignments.specs.Inner.{given_by}
use Rattle.eval_assignments.specs.Runs.{made_before, run_made, run_of}
use Rattle.eval_assignments.specs.Steps.{emptied, finally_too_long, is_ignored, lacks_number, run_step, set_step, step_by, text_given, text_rendered, text_set, text_step}
use Rattle.eval_laws.specs.AssignmentLaws.{Keeps, may_be_final}
use Rattle.eval_laws.proofs.KeptParts.{At, Kept, value, event, Other, itself, same_finally, through}
use Rattle.eval_laws.proofs.MadeFinal.{made_final_stays}
use Rattle.eval_laws.proofs.Untouched.{assigned_finals, emptied_finals, made_finals, run_same, step_same}

-- a key is final in a scene
abbrev Final : FinalKey → Scene → Type 0
Final k s = is_final s.finals k ≡ true

same_final : (k : FinalKey) (s t : Scene) → t.finals ≡ s.finals → Final k s → Final k t
same_final k s t e h = ap (λ f. is_final f k) e ∙ h

stays_finally : (k : FinalKey) (o : AssignOperator) (j : Option FinalKey) (t : Scene) → Final k t → Final k (finally o j t)
stays_finally k AssignFinal (Some j) t h = made_final_stays k j t.finals h
stays_finally k AssignFinal None t h = h
stays_finally k Assign j t h = h
stays_finally k Add j t h = h
stays_finally k Remove j t h = h

option_finals : (known : RuleOption) (s : Scene) → (with_option known s).finals ≡ s.finals
option_finals (option.LinkPriority n) s = refl
option_finals option.Watch s = refl
option_finals option.NoWatch s = refl
option_finals option.DbPersist s = refl
option_finals known s = refl

module _ (k : FinalKey) (r : Rule) where
  given_stays : (profile : Profile) (e : Escape) (o : AssignOperator) (about : Target) (written t : Text) (s : Scene) → Final k s → Final k (text_given profile (given_by r e o about written) t s)
  given_stays profile e o about written t s h = by (is_ignored profile about s)
    where
      by : (b : Bool) → Final k (cond b (noted r NameIgnored t s) (finally o (final_target about) (assigned profile about (given_by r e o about written) t s)))
      by true = h
      by false =
          stays_finally k o (final_target about) (assigned profile about (given_by r e o about written) t s)
          (same_final k s (assigned profile about (given_by r e o about written) t s) (assigned_finals profile r e o about written t s) h)

  late_stays : (profile : Profile) (o : AssignOperator) (about : Target) (t : Scene) → Final k t → Final k (finally_too_long profile o about t)
  late_stays Manual o about t h = h
  late_stays Udev o about t h = stays_finally k o (final_target about) t h

  text_stays : (profile : Profile) (e : Escape) (o : AssignOperator) (about : Target) (written : Text) (text : Rendered) (s : Scene) → Final k s → Final k (text_set profile (given_by r e o about written) text s)
  text_stays profile e o about written (rendered.Text t) s h = given_stays profile e o about written t s h
  text_stays profile e o about written rendered.TooLong s h = late_stays profile o about _ h

  rendered_stays : (profile : Profile) (o : AssignOperator) (about : Target) (template : Template) (s : Scene) → Final k s → Final k (text_rendered profile (given_by r (escape_of r.sets) o about template.written) template s)
  rendered_stays Manual o about template s h = text_stays Manual (escape_of r.sets) o about template.written _ s h
  rendered_stays Udev o about template s h = text_stays Udev (escape_of r.sets) o about template.written _ s h

  step_stays : (profile : Profile) (o : AssignOperator) (about : Target) (template : Template) (s : Scene) → Final k s → Final k (text_step profile (given_by r (escape_of r.sets) o about template.written) template s)
  step_stays Manual o about template s h = rendered_stays Manual o about template s h
  step_stays Udev o about template s h = by (lacks_number about s.state.event.device.number)
    where
      by : (b : Bool) → Final k (cond b (noted_key r NoDeviceNumber (key_of_target about) (attribute_of_target about) s) (text_rendered Udev (given_by r (escape_of r.sets) o about template.written) template (emptied o about s)))
      by true = h
      by false = rendered_stays Udev o about template (emptied o about s) (same_final k s (emptied o about s) (emptied_finals o about s) h)

  run_stays : (profile : Profile) (o : AssignOperator) (braces : Option RunType) (template : Template) (s : Scene) → Final k s → Final k (run_step profile r o braces template s)
  run_stays Manual o braces template s h = stays_finally k o (Some key.Run) (record s { runs = runs_after o s.runs (run_of r braces template s) }) h
  run_stays Udev o braces template s h =
      let text : Rendered = within most_command_bytes (render template s.state Plain) in
      let fewer : Scene = record s { made = made_before o s.made } in
      stays_finally k o (Some key.Run) (run_made r braces template text fewer) (same_final k s (run_made r braces template text fewer) (made_finals r braces template text fewer) h)

  change_stays : (profile : Profile) (o : AssignOperator) (c : Change) (s : Scene) → Final k s → Final k (step_by profile r o c s)
  change_stays profile o (change.Option known) s h = stays_finally k o (final_option profile known) (with_option known s) (same_final k s (with_option known s) (option_finals known s) h)
  change_stays profile o (change.Text about template) s h = step_stays profile o about template s h
  change_stays profile o (change.Run braces template) s h = run_stays profile o braces template s h

-- an option of another key
module _ (k : Kept) (s : Scene) where
  priority_same : (priority : Option ℤ) → Other k (Some key.Priority) → At k s (record s { priority = priority })
  priority_same priority other = by k other
    where
      by : (j : Kept) → Other j (Some key.Priority) → At j s (record s { priority = priority })
      by (value key.Priority) h = absurd (h refl)
      by (value key.Run) h = (refl, refl)
      by (value key.Owner) h = refl
      by (value key.Group) h = refl
      by (value key.Mode) h = refl
      by (value key.Name) h = refl
      by (value key.Symlink) h = refl
      by (value key.Watch) h = refl
      by event h = refl

  watch_same : (watch : Option Bool) → Other k (Some key.Watch) → At k s (record s { watch = watch })
  watch_same watch other = by k other
    where
      by : (j : Kept) → Other j (Some key.Watch) → At j s (record s { watch = watch })
      by (value key.Watch) h = absurd (h refl)
      by (value key.Run) h = (refl, refl)
      by (value key.Owner) h = refl
      by (value key.Group) h = refl
      by (value key.Mode) h = refl
      by (value key.Name) h = refl
      by (value key.Symlink) h = refl
      by (value key.Priority) h = refl
      by event h = refl

  persist_same : At k s (record s { persist = true })
  persist_same = by k
    where
      by : (j : Kept) → At j s (record s { persist = true })
      by (value key.Run) = (refl, refl)
      by (value key.Owner) = refl
      by (value key.Group) = refl
      by (value key.Mode) = refl
      by (value key.Name) = refl
      by (value key.Symlink) = refl
      by (value key.Priority) = refl
      by (value key.Watch) = refl
      by event = refl

  -- the key of an option, whether `:=` makes it final or not
  option_same : (known : RuleOption) → Other k (final_option Manual known) → At k s (with_option known s)
  option_same (option.LinkPriority n) other = priority_same (Some n) other
  option_same option.Watch other = watch_same (Some true) other
  option_same option.NoWatch other = watch_same (Some false) other
  option_same option.DbPersist other = persist_same
  option_same option.KeepEscapes other = itself k s
  option_same option.ReplaceEscapes other = itself k s
  option_same option.LogLevel other = itself k s
  option_same option.Ignored other = itself k s

-- an assignment to another key
change_same : (k : Kept) (r : Rule) (profile : Profile) (o : AssignOperator) (c : Change) (s : Scene) → Other k (final_key Manual c) → At k s (step_by profile r o c s)
change_same k r profile o (change.Option known) s other = same_finally k s (with_option known s) o (final_option profile known) (option_same k s known other)
change_same k r profile o (change.Text about template) s other = step_same k r profile o about template s other
change_same k r profile o (change.Run braces template) s other = run_same k r profile o braces template s other

-- a key that is final is not that of an assignment to a key that is not
settled_other : (k : FinalKey) (s : Scene) (own : Option FinalKey) → is_final s.finals k ≡ true → is_settled own s.finals ≡ false → Other (value k) own
settled_other k s own h g e = absurd (true≢false (sym h ∙ sym (ap (λ (j : Option FinalKey). is_settled j s.finals) e) ∙ g))

-- an option's key by the manual is its key by a profile, but that of the priority of links for udev
manual_key : (k : FinalKey) (profile : Profile) (c : Change) → may_be_final profile k ≡ true → Other (value k) (final_key profile c) → Other (value k) (final_key Manual c)
manual_key k Manual c may other = other
manual_key k Udev (change.Text about template) may other = other
manual_key k Udev (change.Run braces template) may other = other
manual_key key.Priority Udev (change.Option (option.LinkPriority n)) may other = absurd (true≢false (sym may))
manual_key key.Owner Udev (change.Option (option.LinkPriority n)) may other = λ e. cc
manual_key key.Group Udev (change.Option (option.LinkPriority n)) may other = λ e. cc
manual_key key.Mode Udev (change.Option (option.LinkPriority n)) may other = λ e. cc
manual_key key.Name Udev (change.Option (option.LinkPriority n)) may other = λ e. cc
manual_key key.Symlink Udev (change.Option (option.LinkPriority n)) may other = λ e. cc
manual_key key.Run Udev (change.Option (option.LinkPriority n)) may other = λ e. cc
manual_key key.Watch Udev (change.Option (option.LinkPriority n)) may other = λ e. cc
manual_key k Udev (change.Option option.Watch) may other = other
manual_key k Udev (change.Option option.NoWatch) may other = other
manual_key k Udev (change.Option option.DbPersist) may other = other
manual_key k Udev (change.Option option.KeepEscapes) may other = other
manual_key k Udev (change.Option option.ReplaceEscapes) may other = other
manual_key k Udev (change.Option option.LogLevel) may other = other
manual_key k Udev (change.Option option.Ignored) may other = other

-- the event stays whatever is assigned
pub step_event : (r : Rule) (a : Assignment) (s : Scene) → (set_step r s a).state.event ≡ s.state.event
unfolding set_step
step_event r a s = by (is_settled (final_key s.state.event.profile a.change) s.finals)
  where
    by : (b : Bool) → (cond b s (step_by s.state.event.profile r a.operator a.change s)).state.event ≡ s.state.event
    by true = refl
    by false = change_same event r s.state.event.profile a.operator a.change s tt

-- a key that may be final by the profile of a scene's event
abbrev pub Lasts : FinalKey → Scene → Type 0
Lasts k s = may_be_final s.state.event.profile k ≡ true

pub lasts_on : (k : FinalKey) (s t : Scene) → t.state.event ≡ s.state.event → Lasts k s → Lasts k t
lasts_on k s t e h = ap (λ (v : EventValue). may_be_final v.profile k) e ∙ h

-- a key that is final stays through one assignment
pub step_keeps : (k : FinalKey) (r : Rule) (a : Assignment) (s : Scene) → Lasts k s → is_final s.finals k ≡ true → Keeps k s (set_step r s a)
unfolding set_step
step_keeps k r a s lasts h = by (is_settled (final_key s.state.event.profile a.change) s.finals) refl
  where
    by : (b : Bool) → is_settled (final_key s.state.event.profile a.change) s.finals ≡ b → Keeps k s (cond b s (step_by s.state.event.profile r a.operator a.change s))
    by true g = record { same = itself (value k) s; stays = h }
    by false g = record {
      same = change_same (value k) r s.state.event.profile a.operator a.change s
          (manual_key k s.state.event.profile a.change lasts (settled_other k s (final_key s.state.event.profile a.change) h g));
      stays = change_stays k r s.state.event.profile a.operator a.change s h;
    }

-- and through assignments one after another
pub fold_keeps : (k : FinalKey) (r : Rule) (sets : List Assignment) (s : Scene) → Lasts k s → is_final s.finals k ≡ true → Keeps k s (fold (set_step r) s sets)
fold_keeps k r [] s lasts h = record { same = itself (value k) s; stays = h }
fold_keeps k r (a ∷ sets) s lasts h =
    let first = step_keeps k r a s lasts h in
    let rest = fold_keeps k r sets (set_step r s a) (lasts_on k s (set_step r s a) (step_event r a s) lasts) first.stays in
    record { same = through (value k) s (set_step r s a) _ first.same rest.same; stays = rest.stays }

pub fold_event : (r : Rule) (sets : List Assignment) (s : Scene) → (fold (set_step r) s sets).state.event ≡ s.state.event
fold_event r [] s = refl
fold_event r (a ∷ sets) s = fold_event r sets (set_step r s a) ∙ step_event r a s
