-- What a scene weighs after one assignment of a rule.
use Rattle.std.proofs.Common.{◌≡◌, ℕ, ◌+◌, ◌≤◌, Bool, true, false, List, [], ◌∷◌, ◌++◌, length, Option, Some, None, ◌||◌, if◌then◌else◌, option_map, ap, subst, arith}
use Rattle.std.proofs.lemmas.List.Sums.{sum_by_push}
use Rattle.std.specs.List.{sum_by, list_any}
use Rattle.text_bytes.specs.Texts.{is_empty}
use Rattle.text_bytes.specs.declared.profile.Profile.{Profile}
use Rattle.text_bytes.specs.declared.profile.Profile.TheVariants.{Manual, Udev}
use Rattle.text_bytes.specs.Text.{Text}
use Rattle.rule_types.specs.Written.{attribute_of_target, key_of_target}
use Rattle.rule_types.specs.declared.roles.AssignOperator.{AssignOperator}
use Rattle.rule_types.specs.declared.roles.AssignOperator.TheVariants.{Assign, Add, Remove, AssignFinal}
use Rattle.rule_types.specs.declared.keys.Key.TheVariants as key
use Rattle.rule_types.specs.declared.roles.Target.{Target}
use Rattle.rule_types.specs.declared.roles.Target.TheVariants as target
use Rattle.rule_types.specs.declared.types.RunType.{RunType}
use Rattle.rule_types.specs.declared.types.RunType.TheVariants.{Program, Builtin}
use Rattle.rule_types.specs.Names.{run_name}
use Rattle.rule_tokens.specs.Template.{Parts as Template}
use Rattle.rule_types.specs.WrittenParts.{attribute_of_change}
use Rattle.rule_types.specs.declared.rule_option.RuleOption.{RuleOption}
use Rattle.rule_types.specs.declared.rule_option.RuleOption.TheVariants as option
use Rattle.rule_types.specs.declared.part.Assignment.{Assignment}
use Rattle.rule_types.specs.declared.part.Change.{Change}
use Rattle.rule_types.specs.declared.part.Change.TheVariants as change
use Rattle.rule_types.specs.Rules.{Rule}
use Rattle.device_core.specs.Values.{EventValue}
use Rattle.eval_rendering.specs.Bounds.{most_command_bytes, within}
use Rattle.eval_rendering.specs.Rendering.{render}
use Rattle.eval_rendering.specs.declared.rendered.Mode.TheVariants.{Plain}
use Rattle.eval_rendering.specs.declared.rendered.Rendered.{Rendered}
use Rattle.eval_rendering.specs.declared.rendered.Rendered.TheVariants as rendered
use Rattle.eval_state.specs.Notes.{word_of_key}
use Rattle.eval_state.specs.Scenes.{noted, noted_key}
use Rattle.eval_state.specs.Runs.{RunValue, run_kind, runs_after, same_run, with_run}
use Rattle.eval_state.specs.declared.made_runs.MadeRun.{MadeRun}
use Rattle.eval_state.specs.declared.finals.FinalKey.{FinalKey}
use Rattle.eval_state.specs.declared.finals.FinalKey.TheVariants as final
use Rattle.eval_state.specs.declared.note_kind.NoteKind.TheVariants.{NameIgnored, NoDeviceNumber, NoValue, TextTooLong}
use Rattle.eval_state.specs.declared.scene.Scene.{Scene}
use Rattle.eval_assignments.specs.Assigning.{assigned, with_option}
use Rattle.eval_assignments.specs.Bounds.{most_bytes_of}
use Rattle.eval_assignments.specs.Escapes.{escape_of, mode_of}
use Rattle.eval_assignments.specs.Finality.{final_key, final_option, final_target, finally, is_settled, settled}
use Rattle.eval_assignments.specs.Inner.{given_by}
use Rattle.eval_assignments.specs.Links.{words}
use Rattle.eval_assignments.specs.Runs.{command_made, made_before, run_made, run_of}
use Rattle.eval_assignments.specs.Steps.{emptied, finally_too_long, is_ignored, lacks_number, run_step, set_step, step_by, text_given, text_rendered, text_set, text_step}
use Rattle.eval_assignments.specs.declared.escapes.Escape.{Escape}
use Rattle.eval_laws.specs.Allowances.{change_allowance, part_allowance, set_allowance, text_allowance}
use Rattle.eval_laws.specs.DeviceWeights.{event_weight, text_weight}
use Rattle.eval_laws.specs.Inner.{Within, made_weight, run_weight, scene_weight}
use Rattle.eval_laws.proofs.Rendered.{IsShort, rendered_short, within_short}
use Rattle.eval_laws.proofs.Scenes.{more, note_within}
use Rattle.eval_laws.proofs.Assigned.{assigned_within}

-- a RUN more
with_run_light : (runs : List RunValue) (run : RunValue) → sum_by run_weight (with_run runs run) ≤ sum_by run_weight runs + run_weight run
with_run_light runs run = by (is_empty run.template.written || list_any (same_run run) runs)
  where
    by : (b : Bool) → sum_by run_weight (if b then runs else runs ++ run ∷ []) ≤ sum_by run_weight runs + run_weight run
    by true = omega arith
    by false = let a = sum_by_push run_weight runs run in omega (arith, a)

runs_light : (o : AssignOperator) (runs : List RunValue) (run : RunValue) → sum_by run_weight (runs_after o runs run) ≤ sum_by run_weight runs + run_weight run
runs_light Add runs run = with_run_light runs run
runs_light Assign runs run = let a = with_run_light [] run in omega (arith, a)
runs_light Remove runs run = let a = with_run_light [] run in omega (arith, a)
runs_light AssignFinal runs run = let a = with_run_light [] run in omega (arith, a)

-- what udev keeps of commands
before_light : (o : AssignOperator) (made : List MadeRun) → sum_by made_weight (made_before o made) ≤ sum_by made_weight made
before_light Add made = omega arith
before_light Assign made = omega arith
before_light Remove made = omega arith
before_light AssignFinal made = omega arith

type_light : (kind : RunType) → text_weight (run_name kind) ≤ 8
type_light Program = omega arith
type_light Builtin = omega arith

module _ (event : EventValue) (len : ℕ) (fits : event_weight event ≤ len) where
  settled_within : (n : ℕ) (k : Option FinalKey) (s : Scene) → Within event n s → Within event n (settled k s)
  unfolding scene_weight
  settled_within n None s h = h
  settled_within n (Some k) s h = record { same = h.same; light = h.light }

  finally_within : (n : ℕ) (o : AssignOperator) (k : Option FinalKey) (s : Scene) → Within event n s → Within event n (finally o k s)
  finally_within n AssignFinal k s h = settled_within n k s h
  finally_within n Assign k s h = h
  finally_within n Add k s h = h
  finally_within n Remove k s h = h

  option_within : (n : ℕ) (known : RuleOption) (s : Scene) → Within event n s → Within event n (with_option known s)
  unfolding scene_weight
  option_within n (option.LinkPriority m) s h = record { same = h.same; light = h.light }
  option_within n option.Watch s h = record { same = h.same; light = h.light }
  option_within n option.NoWatch s h = record { same = h.same; light = h.light }
  option_within n option.DbPersist s h = record { same = h.same; light = h.light }
  option_within n option.KeepEscapes s h = h
  option_within n option.ReplaceEscapes s h = h
  option_within n option.LogLevel s h = h
  option_within n option.Ignored s h = h

  module _ (n : ℕ) (r : Rule) (s : Scene) (h : Within event n s) where
    given_within : (profile : Profile) (e : Escape) (o : AssignOperator) (about : Target) (written t : Text) → length t ≤ 16384
        → Within event (n + (part_allowance r (attribute_of_target about) + text_allowance profile len about written)) (text_given profile (given_by r e o about written) t s)
    given_within profile e o about written t short = by (is_ignored profile about s)
      where
        most : ℕ
        most = part_allowance r (attribute_of_target about) + text_allowance profile len about written

        by : (b : Bool) → Within event (n + most) (if b then noted r NameIgnored t s else finally o (final_target about) (assigned profile about (given_by r e o about written) t s))
        by true = note_within event n most r s h (omega arith) NameIgnored t
        by false =
            finally_within (n + most) o (final_target about) (assigned profile about (given_by r e o about written) t s) (assigned_within event n r s h len fits profile e o about written t short)

    late_within : (m : ℕ) (profile : Profile) (o : AssignOperator) (about : Target) (u : Scene) → Within event m u → Within event m (finally_too_long profile o about u)
    late_within m Manual o about u inside = inside
    late_within m Udev o about u inside = finally_within m o (final_target about) u inside

    text_within : (profile : Profile) (e : Escape) (o : AssignOperator) (about : Target) (written : Text) (given : Rendered) → IsShort given
        → Within event (n + (part_allowance r (attribute_of_target about) + text_allowance profile len about written)) (text_set profile (given_by r e o about written) given s)
    text_within profile e o about written (rendered.Text t) short = given_within profile e o about written t short
    text_within profile e o about written rendered.TooLong short =
        let most : ℕ = part_allowance r (attribute_of_target about) + text_allowance profile len about written in
        late_within (n + most) profile o about (noted r TextTooLong (word_of_key (key_of_target about) (attribute_of_target about)) s)
        (note_within event n most r s h (omega arith) TextTooLong (word_of_key (key_of_target about) (attribute_of_target about)))

    taken_within : (o : AssignOperator) (run : RunValue) (m : ℕ) → run_weight run ≤ m → Within event (n + m) (record s { runs = runs_after o s.runs run })
    unfolding scene_weight
    taken_within o run m light = let a = h.light in let b = runs_light o s.runs run in record { same = h.same; light = omega (arith, a, b, light) }

    -- udev's RUN
    fewer_within : (o : AssignOperator) → Within event n (record s { made = made_before o s.made })
    unfolding scene_weight
    fewer_within o = let a = h.light in let b = before_light o s.made in record { same = h.same; light = omega (arith, a, b) }

    command_within : (m : ℕ) → length r.file + 16441 ≤ m → (braces : Option RunType) (template : Template) (text : Text) → length text ≤ 16384 → (ws : List Text)
        → Within event (n + m) (command_made r braces template text ws s)
    unfolding scene_weight
    command_within m room braces template text short [] = note_within event n m r s h (omega (arith, room)) NoValue (word_of_key key.Run (option_map run_name braces))
    command_within m room braces template text short (word ∷ ws) =
        let a = h.light in
        let b = sum_by_push made_weight s.made (record { run = run_of r braces template s; text = text }) in
        let c = type_light (run_kind braces) in
        record { same = h.same; light = omega (arith, a, b, c, room, short) }

    made_within : (m : ℕ) → length r.file + 16441 ≤ m → (braces : Option RunType) (template : Template) (given : Rendered) → IsShort given → Within event (n + m) (run_made r braces template given s)
    made_within m room braces template rendered.TooLong short = note_within event n m r s h (omega (arith, room)) TextTooLong (word_of_key key.Run (option_map run_name braces))
    made_within m room braces template (rendered.Text text) short = command_within m room braces template text short (words text)

  module _ (n : ℕ) (r : Rule) (s : Scene) (h : Within event n s) where
    emptied_within : (o : AssignOperator) (about : Target) → Within event n (emptied o about s)
    unfolding scene_weight
    emptied_within Assign target.Symlink = let a = h.light in record { same = h.same; light = omega (arith, a) }
    emptied_within AssignFinal target.Symlink = let a = h.light in record { same = h.same; light = omega (arith, a) }
    emptied_within o about = h

    rendered_within : (profile : Profile) (o : AssignOperator) (about : Target) (template : Template)
        → Within event (n + (part_allowance r (attribute_of_target about) + text_allowance profile len about template.written)) (text_rendered profile (given_by r (escape_of r.sets) o about template.written) template s)
    rendered_within Manual o about template =
        let mode = mode_of Manual about (escape_of r.sets) in
        text_within n r s h Manual (escape_of r.sets) o about template.written (render template s.state mode) (rendered_short template s.state mode)
    rendered_within Udev o about template =
        let mode = mode_of Udev about (escape_of r.sets) in
        text_within n r s h Udev (escape_of r.sets) o about template.written (within (most_bytes_of about) (render template s.state mode))
        (within_short (most_bytes_of about) (render template s.state mode) (rendered_short template s.state mode))

  module _ (n : ℕ) (r : Rule) (s : Scene) (h : Within event n s) where
    step_within : (profile : Profile) (o : AssignOperator) (about : Target) (template : Template)
        → Within event (n + (part_allowance r (attribute_of_target about) + text_allowance profile len about template.written)) (text_step profile (given_by r (escape_of r.sets) o about template.written) template s)
    step_within Manual o about template = rendered_within n r s h Manual o about template
    step_within Udev o about template = by (lacks_number about s.state.event.device.number)
      where
        most : ℕ
        most = part_allowance r (attribute_of_target about) + text_allowance Udev len about template.written

        by : (b : Bool) → Within event (n + most) (if b then noted_key r NoDeviceNumber (key_of_target about) (attribute_of_target about) s else text_rendered Udev (given_by r (escape_of r.sets) o about template.written) template (emptied o about s))
        by true = note_within event n most r s h (omega arith) NoDeviceNumber (word_of_key (key_of_target about) (attribute_of_target about))
        by false = rendered_within n r (emptied o about s) (emptied_within n r s h o about) Udev o about template

    run_within : (profile : Profile) (o : AssignOperator) (braces : Option RunType) (template : Template)
        → Within event (n + part_allowance r (attribute_of_change (change.Run braces template))) (run_step profile r o braces template s)
    run_within Manual o braces template =
        let most : ℕ = part_allowance r (attribute_of_change (change.Run braces template)) in
        finally_within (n + most) o (Some final.Run) (record s { runs = runs_after o s.runs (run_of r braces template s) }) (taken_within n r s h o (run_of r braces template s) most (omega arith))
    run_within Udev o braces template =
        let most : ℕ = part_allowance r (attribute_of_change (change.Run braces template)) in
        let given : Rendered = within most_command_bytes (render template s.state Plain) in
        finally_within (n + most) o (Some final.Run) (run_made r braces template given (record s { made = made_before o s.made }))
        (made_within n r (record s { made = made_before o s.made }) (fewer_within n r s h o) most (omega arith) braces template given
        (within_short most_command_bytes (render template s.state Plain) (rendered_short template s.state Plain)))

    change_within : (profile : Profile) (o : AssignOperator) (c : Change) → Within event (n + (part_allowance r (attribute_of_change c) + change_allowance profile len c)) (step_by profile r o c s)
    change_within profile o (change.Option known) =
        more event n (n + (part_allowance r (attribute_of_change (change.Option known)) + change_allowance profile len (change.Option known))) _ (omega arith)
        (finally_within n o (final_option profile known) (with_option known s) (option_within n known s h))
    change_within profile o (change.Text about template) = step_within profile o about template
    change_within profile o (change.Run braces template) =
        more event (n + part_allowance r (attribute_of_change (change.Run braces template))) (n + (part_allowance r (attribute_of_change (change.Run braces template)) + change_allowance profile len (change.Run braces template))) _ (omega arith)
        (run_within profile o braces template)

    -- an assignment of a rule
    pub set_within : (a : Assignment) → Within event (n + set_allowance event.profile len r a) (set_step r s a)
    unfolding set_step
    set_within a = by_profile s.state.event.profile (ap (λ (e : EventValue). e.profile) h.same) (is_settled (final_key s.state.event.profile a.change) s.finals)
      where
        by_profile : (profile : Profile) → profile ≡ event.profile → (b : Bool) → Within event (n + set_allowance event.profile len r a) (if b then s else step_by profile r a.operator a.change s)
        by_profile profile e true = more event n (n + set_allowance event.profile len r a) s (omega arith) h
        by_profile profile e false = subst (λ p. Within event (n + set_allowance p len r a) (step_by profile r a.operator a.change s)) e (change_within profile a.operator a.change)
