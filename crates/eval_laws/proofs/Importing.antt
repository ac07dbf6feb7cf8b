-- What TEST asks, and what IMPORT takes from the parent and from the hardware database, by the manual.
use Rattle.std.proofs.Common.{◌≡◌, ◌==◌, ◌||◌, Bool, true, false, cond, not, List, filter, length, Option, Some, None, is_some, ap, codes, ◌∙◌}
use Rattle.text_bytes.specs.Names.{slash}
use Rattle.text_bytes.specs.Texts.{begins_with}
use Rattle.text_bytes.specs.declared.profile.Profile.{Profile}
use Rattle.text_bytes.specs.declared.profile.Profile.TheVariants.{Manual}
use Rattle.text_bytes.specs.Text.{Text}
use Rattle.text_tables.specs.Pairs.{Pair, value_of, with_values}
use Rattle.text_core.specs.Choices.{choice_fits}
use Rattle.text_core.specs.declared.item.Item.{Item}
use Rattle.builtin_devices.specs.Knowledge.{Known}
use Rattle.device_core.specs.Values.{DeviceValue}
use Rattle.rule_tokens.specs.Template.{Parts as Template}
use Rattle.rule_types.specs.declared.part.ActKind.{ActKind}
use Rattle.rule_types.specs.declared.part.ActKind.TheVariants as act_kind
use Rattle.rule_types.specs.declared.part.Import.TheVariants as import
use Rattle.rule_types.specs.declared.roles.MatchOperator.TheVariants.{Equal}
use Rattle.rule_types.specs.Rules.{Rule}
use Rattle.eval_state.specs.Chains.{device_at}
use Rattle.eval_state.specs.Scenes.{noted, with_env}
use Rattle.eval_state.specs.declared.note_kind.NoteKind.TheVariants.{TestNotMade}
use Rattle.eval_state.specs.declared.scene.Scene.{Scene}
use Rattle.eval_rendering.specs.Bounds.{most_command_bytes}
use Rattle.eval_rendering.specs.Rendering.{render}
use Rattle.eval_rendering.specs.declared.rendered.Mode.TheVariants.{Plain}
use Rattle.eval_rendering.specs.declared.rendered.Rendered.{Rendered}
use Rattle.eval_rendering.specs.declared.rendered.Rendered.TheVariants as rendered
use Rattle.eval_commands.specs.Builtins.{builtin}
use Rattle.eval_commands.specs.declared.builtin.Builtin.{Builtin}
use Rattle.eval_commands.specs.declared.builtin.Builtin.TheVariants as asked
use Rattle.eval_commands.specs.declared.hwdb.Hwdb.{Hwdb}
use Rattle.eval_acts.specs.ActTexts.{path_by, within_by}
use Rattle.eval_acts.specs.Acts as acts
use Rattle.eval_acts.specs.Acts.{act_step, command_reached, imported, on_text, proceeds, too_long_noted}
use Rattle.eval_acts.specs.BuiltinRuns.{needs_noted}
use Rattle.eval_acts.specs.Imports.{builtin_run, from_parent, parent_properties, run_builtin, with_found}
use Rattle.eval_commands.specs.LookUpNeeds.{lookup_needs}
use Rattle.eval_commands.specs.LookUps.{found}
use Rattle.eval_acts.specs.Questions.{tested, tested_by}
use Rattle.eval_laws.specs.Acting.{builtin_import, parent_import, test}

module _ (known : Known) (r : Rule) (s : Scene) (manual : s.state.event.profile ≡ Manual) where
  -- the scene after an act and whether the rule goes on, by whether it was done
  abbrev after : ActKind → Scene × Option Bool → Scene × Bool
  after kind went = (too_long_noted r kind went.1 went.0, proceeds went.1 s.state.event.profile Equal)

  module _ (mask : Option Text) (template : Template) (path : Text) (text : render template s.state Plain ≡ rendered.Text path) where
    test_is : act_step known r (test mask template) s ≡ after (act_kind.Test mask template) (on_text (tested r mask) (rendered.Text path) s)
    unfolding act_step
    test_is =
        ap (λ (p : Profile). after (act_kind.Test mask template) (on_text (tested r mask) (path_by p s.state.event.device (render template s.state Plain)) s)) manual
        ∙ ap (λ (x : Rendered). after (act_kind.Test mask template) (on_text (tested r mask) x s)) text

    pub test_unmade : (is_some mask || begins_with slash path) ≡ true → act_step known r (test mask template) s ≡ (noted r TestNotMade path s, false)
    test_unmade e =
        test_is ∙ ap (λ b. after (act_kind.Test mask template) (acts.tried (cond b (noted r TestNotMade path s, false) (tested_by s.state.event.profile r path s)))) e

  pub test_made : (template : Template) (path : Text) → render template s.state Plain ≡ rendered.Text path → begins_with slash path ≡ false
      → act_step known r (test None template) s ≡ (s, is_some (value_of s.state.event.device.attrs path))
  test_made template path text e =
      test_is None template path text
      ∙ ap (λ b. after (act_kind.Test None template) (acts.tried (cond b (noted r TestNotMade path s, false) (tested_by s.state.event.profile r path s)))) e
      ∙ ap (λ (p : Profile). after (act_kind.Test None template) (acts.tried (tested_by p r path s))) manual

  module _ (names : List (List Item)) (written : Text) where
    parent_is : act_step known r (parent_import names written) s ≡ after (act_kind.Import (import.Parent names written)) (acts.tried (from_parent names (device_at s.state.event 1) s))
    unfolding act_step
    parent_is = ap (λ (p : Profile). after (act_kind.Import (import.Parent names written)) (imported p known r (import.Parent names written) s)) manual

    pub parent_there : (parent : DeviceValue) → device_at s.state.event 1 ≡ Some parent
        → act_step known r (parent_import names written) s ≡ (with_env (with_values s.state.env (filter (λ (property : Pair). choice_fits names property.0) parent.env)) s, true)
    parent_there parent e =
        parent_is ∙ ap (λ (d : Option DeviceValue). after (act_kind.Import (import.Parent names written)) (acts.tried (from_parent names d s))) e
        ∙ ap (λ (p : Profile). (with_env (with_values s.state.env (filter (λ (property : Pair). choice_fits names property.0) (parent_properties p parent))) s, true)) manual

    pub parent_absent : device_at s.state.event 1 ≡ None → act_step known r (parent_import names written) s ≡ (s, false)
    parent_absent e = parent_is ∙ ap (λ (d : Option DeviceValue). after (act_kind.Import (import.Parent names written)) (acts.tried (from_parent names d s))) e

  -- what `hwdb` does with what it found, by a profile
  abbrev hwdb_as : Profile → Hwdb → List Pair → Scene × Bool
  hwdb_as p hwdb properties =
      (needs_noted r (codes "hwdb") (lookup_needs p s.state hwdb properties) (with_env (with_found p s.state.env properties) s), not (length properties == 0))

  pub database_set : (template : Template) (command : Text) (hwdb : Hwdb) → render template s.state Plain ≡ rendered.Text command → builtin Manual command ≡ asked.Hwdb hwdb
      → act_step known r (builtin_import template) s ≡ (with_env (with_values s.state.env (found known hwdb s.state)) s, not (length (found known hwdb s.state) == 0))
  unfolding act_step
  database_set template command hwdb text reads =
      let here : ActKind = act_kind.Import (import.Builtin template) in
      ap (λ (p : Profile). after here (imported p known r (import.Builtin template) (command_reached p r template s))) manual
      ∙ ap (λ (p : Profile). after here (on_text (run_builtin known r) (within_by p most_command_bytes (render template s.state Plain)) s)) manual
      ∙ ap (λ (x : Rendered). after here (on_text (run_builtin known r) x s)) text
      ∙ ap (λ (p : Profile). after here (acts.tried (builtin_run known r command (builtin p command) s))) manual
      ∙ ap (λ (b : Builtin). after here (acts.tried (builtin_run known r command b s))) reads
      ∙ ap (λ (p : Profile). after here (acts.tried (hwdb_as p hwdb (found known hwdb s.state)))) manual
