-- How much an act of a rule adds to what is counted.
use Rattle.std.proofs.Common.{ℕ, ◌+◌, ◌≤◌, nat_le, Bool, true, false, ◌==◌, List, [], ◌∷◌, ◌++◌, length, Option, Some, None, is_some, ◌||◌, codes, if◌then◌else◌, arith}
use Rattle.std.specs.Option.{option_and_then}
use Rattle.std.proofs.lemmas.List.Sums.{sum_by-append}
use Rattle.text_bytes.specs.Names.{slash}
use Rattle.text_bytes.specs.Texts.{begins_with}
use Rattle.text_bytes.specs.declared.profile.Profile.{Profile}
use Rattle.text_bytes.specs.declared.profile.Profile.TheVariants.{Manual, Udev}
use Rattle.text_bytes.specs.Text.{Text}
use Rattle.text_tables.specs.Pairs.{Pair, value_of}
use Rattle.text_core.specs.Fnmatch.{fnmatch_items}
use Rattle.text_core.specs.declared.item.Item.{Item}
use Rattle.text_core.specs.declared.reading.Reading.TheVariants.{Exact}
use Rattle.builtin_devices.specs.Knowledge.{Known}
use Rattle.builtin_devices.specs.declared.root_files.RootFile.{RootFile}
use Rattle.builtin_devices.specs.declared.root_files.RootFile.TheVariants.{Absent, Read}
use Rattle.rule_tokens.specs.Template.{Parts as Template}
use Rattle.rule_types.specs.Names.{import_name}
use Rattle.rule_types.specs.WrittenParts.{attribute_of_act_kind, key_of_act_kind}
use Rattle.rule_types.specs.declared.part.Act.{Act}
use Rattle.rule_types.specs.declared.part.ActKind.{ActKind}
use Rattle.rule_types.specs.declared.part.ActKind.TheVariants as act_kind
use Rattle.rule_types.specs.declared.part.Import.{Import}
use Rattle.rule_types.specs.declared.part.Import.TheVariants as import
use Rattle.rule_types.specs.declared.types.ImportType.{ImportType}
use Rattle.rule_types.specs.declared.types.ImportType.TheVariants as import_of
use Rattle.rule_types.specs.Rules.{Rule}
use Rattle.device_core.specs.Values.{AnswerValue, DeviceValue}
use Rattle.eval_state.specs.Chains.{device_at}
use Rattle.eval_rendering.specs.Bounds.{most_command_bytes, most_path_bytes}
use Rattle.eval_rendering.specs.declared.rendered.Rendered.{Rendered}
use Rattle.eval_rendering.specs.declared.rendered.Rendered.TheVariants as rendered
use Rattle.eval_state.specs.Places.{is_there, place_of}
use Rattle.eval_state.specs.Named.{NamedValue, named, named_place}
use Rattle.eval_state.specs.Notes.{note_about, word_of_key}
use Rattle.eval_state.specs.Runs.{RunValue}
use Rattle.eval_state.specs.Properties.{properties_set}
use Rattle.eval_state.specs.Scenes.{noted, with_env}
use Rattle.eval_state.specs.declared.notes.Note.{Note}
use Rattle.eval_state.specs.declared.note_kind.NoteKind.{NoteKind}
use Rattle.eval_state.specs.declared.note_kind.NoteKind.TheVariants.{AttributeNotRead, BadHwdbArguments, BuiltinNeeds, BuiltinNotRun, ImportNotRun, NoAnswer, TestNotMade, TextTooLong}
use Rattle.eval_state.specs.declared.scene.Scene.{Scene}
use Rattle.eval_rendering.specs.Attributes.{is_not_read}
use Rattle.rule_types.specs.Builtins.{builtin_name}
use Rattle.rule_types.specs.declared.builtins.Builtin.TheVariants.{InputId, NetId, NetSetupLink, PathId, UsbId}
use Rattle.builtin_devices.specs.Outcomes.{OutcomeValue}
use Rattle.eval_acts.specs.BuiltinRuns.{looked_up, most_set, needs_noted, needs_word, outcome_set, outcome_taken, path_id_run, properties_size, usb_id_run, with_maker}
use Rattle.eval_commands.specs.Builtins.{builtin, builtin_question}
use Rattle.eval_commands.specs.Cmdline.{cmdline_value}
use Rattle.eval_commands.specs.declared.builtin.Builtin.{Builtin}
use Rattle.eval_commands.specs.declared.builtin.Builtin.TheVariants as asked_for
use Rattle.eval_acts.specs.ActTexts.{import_text, names_text, program_text, test_text}
use Rattle.eval_acts.specs.Acts.{act_step, command_reached, from_parent_by, import_reached, imported, on_text, performed}
use Rattle.eval_acts.specs.Inner.{left}
use Rattle.eval_acts.specs.RootImports.{file_properties, from_file, from_found}
use Rattle.eval_acts.specs.Stored.{from_stored, is_stored_known, stored_value}
use Rattle.eval_acts.specs.Imports.{builtin_run, from_answer_or_noted, from_line, from_parent, from_part, from_program, name_given, not_run, run_builtin, taken, words_for}
use Rattle.eval_commands.specs.LookUpNeeds.{lookup_needs}
use Rattle.eval_commands.specs.LookUps.{found}
use Rattle.eval_acts.specs.Printed.{printed_properties}
use Rattle.eval_acts.specs.Questions.{answered_by_block, answered_or_noted, is_somewhere, result_of, tested, tested_at, tested_by, tested_by_udev, tested_here, with_result}
use Rattle.eval_acts.specs.Unread.{first_unread, unread_notes}
use Rattle.eval_laws.proofs.Measured.{act_most, measured, noted_more}

module _ (w : Note → ℕ) (v : RunValue → ℕ) (c : Rule → ℕ) (light : (r : Rule) (kind : NoteKind) (text : Text) → w (note_about r kind text) ≤ c r) where
  abbrev counted : Scene → ℕ
  counted s = measured w v s

  need_counts : (r : Rule) (name : Text) (needs : List Text) (s : Scene) → counted (needs_noted r name needs s) ≤ counted s + c r
  need_counts r name [] s = omega arith
  need_counts r name (need ∷ needs) s = noted_more w v c light r s BuiltinNeeds (needs_word name need needs)

  outcome_counts : (r : Rule) (name : Text) (outcome : OutcomeValue) (properties : List Pair) (s : Scene) → counted (outcome_set r name outcome properties s).0 ≤ counted s + c r
  outcome_counts r name outcome properties s = by (nat_le (properties_size outcome.properties) most_set)
    where
      set : Scene
      set = with_env (properties_set s.state.env properties) s

      by : (b : Bool) → counted (if◌then◌else◌ {A = Scene × Bool} b (needs_noted r name outcome.needs set, outcome.is_done) (noted r TextTooLong name s, false)).0 ≤ counted s + c r
      by true = need_counts r name outcome.needs set
      by false = noted_more w v c light r s TextTooLong name

  taken_counts : (r : Rule) (name : Text) (outcome : OutcomeValue) (s : Scene) → counted (outcome_taken r name outcome s).0 ≤ counted s + c r
  taken_counts r name outcome s = outcome_counts r name outcome outcome.properties s

  usb_counts : (known : Known) (r : Rule) (ran : Option Bool) (s : Scene) → counted (usb_id_run known ran r s).0 ≤ counted s + c r
  usb_counts known r (Some done) s = omega arith
  usb_counts known r None s = taken_counts r (builtin_name UsbId) (known.usb_id s.state.event (is_some (value_of s.state.env (codes "ID_BUS")))) s

  path_counts : (known : Known) (r : Rule) (ran : Option Bool) (s : Scene) → counted (path_id_run known ran r s).0 ≤ counted s + c r
  path_counts known r (Some done) s = omega arith
  path_counts known r None s = taken_counts r (builtin_name PathId) (known.path_id s.state.event) s

  module _ (r : Rule) (s : Scene) where
    notes : (kind : NoteKind) (text : Text) → counted (noted r kind text s) ≤ counted s + c r
    notes kind text = noted_more w v c light r s kind text

    on_text_counts : (d : ActKind) (act : Text → Scene → Scene × Bool) (given : Rendered) → ((text : Text) → counted (act text s).0 ≤ counted s + c r) → counted (left r d (on_text act given s)) ≤ counted s + c r
    on_text_counts d act (rendered.Text text) each = each text
    on_text_counts d act rendered.TooLong each = notes TextTooLong (word_of_key (key_of_act_kind d) (attribute_of_act_kind d))

    test_at_counts : (place : Option ℕ) (name path : Text) → counted (tested_at place r name path s).0 ≤ counted s + c r
    test_at_counts None name path = by (is_there s.state.event (place_of s.state.event.device path))
      where
        by : (b : Bool) → counted (if◌then◌else◌ {A = Scene × Bool} b (s, true) (noted r TestNotMade path s, false)).0 ≤ counted s + c r
        by true = omega arith
        by false = notes TestNotMade path
    test_at_counts (Some place) name path = omega arith

    test_here_counts : (path : Text) → counted (tested_here r path s).0 ≤ counted s + c r
    test_here_counts path = by (is_somewhere s.state.event s.state.event.device path) (is_not_read path s.state.event)
      where
        by : (found unread : Bool)
            → counted (if◌then◌else◌ {A = Scene × Bool} found (s, true) (if◌then◌else◌ {A = Scene × Bool} unread (noted r TestNotMade path s, false) (s, false))).0 ≤ counted s + c r
        by true unread = omega arith
        by false true = notes TestNotMade path
        by false false = omega arith

    test_udev_counts : (is : Option NamedValue) (path : Text) → counted (tested_by_udev is r path s).0 ≤ counted s + c r
    test_udev_counts None path = test_here_counts path
    test_udev_counts (Some is) path = test_at_counts (named_place is s.state.event) is.attribute path

    test_by_counts : (profile : Profile) (path : Text) → counted (tested_by profile r path s).0 ≤ counted s + c r
    test_by_counts Manual path = omega arith
    test_by_counts Udev path = test_udev_counts (named path) path

    tested_counts : (mask : Option Text) (path : Text) → counted (tested r mask path s).0 ≤ counted s + c r
    tested_counts mask path = by (is_some mask || begins_with slash path)
      where
        by : (b : Bool) → counted (if◌then◌else◌ {A = Scene × Bool} b (noted r TestNotMade path s, false) (tested_by s.state.event.profile r path s)).0 ≤ counted s + c r
        by true = notes TestNotMade path
        by false = test_by_counts s.state.event.profile path

    answered_counts : (command : Text) (answer : Option AnswerValue) → counted (answered_or_noted r command answer s).0 ≤ counted s + c r
    answered_counts command None = notes NoAnswer command
    answered_counts command (Some answer) = by (answer.status == 0)
      where
        by : (b : Bool) → counted (if◌then◌else◌ {A = Scene × Bool} b (with_result (result_of s.state.event.profile answer.text) s, true) (s, false)).0 ≤ counted s + c r
        by true = omega arith
        by false = omega arith

    printed_counts : (kind : NoteKind) (word : Text) (answer : Option AnswerValue) → counted (from_answer_or_noted r kind word answer s).0 ≤ counted s + c r
    printed_counts kind word None = notes kind word
    printed_counts kind word (Some answer) = by (answer.status == 0)
      where
        by : (b : Bool) → counted (if◌then◌else◌ {A = Scene × Bool} b (with_env (properties_set s.state.env (printed_properties answer.text)) s, true) (s, false)).0 ≤ counted s + c r
        by true = omega arith
        by false = omega arith

    builtin_counts : (known : Known) (command : Text) (wanted : Builtin) → counted (builtin_run known r command wanted s).0 ≤ counted s + c r
    builtin_counts known command (asked_for.Hwdb hwdb) =
        let properties : List Pair = found known hwdb s.state in
        need_counts r (codes "hwdb") (lookup_needs s.state.event.profile s.state hwdb properties) (taken properties s).0
    builtin_counts known command asked_for.InputId = taken_counts r (builtin_name InputId) (known.input_id s.state.event) s
    builtin_counts known command asked_for.NetId =
        let names : OutcomeValue = known.net_id s.state.event s.state.env in
        outcome_counts r (builtin_name NetId) names (with_maker (looked_up known (known.net_lookup s.state.event s.state.env)) names.properties) s
    builtin_counts known command asked_for.NetSetupLink = taken_counts r (builtin_name NetSetupLink) (known.net_setup_link s.state.event s.state.env) s
    builtin_counts known command asked_for.PathId = path_counts known r s.ran.path_id s
    builtin_counts known command asked_for.UsbId = usb_counts known r s.ran.usb_id s
    builtin_counts known command asked_for.SetsNothing = omega arith
    builtin_counts known command asked_for.Fails = omega arith
    builtin_counts known command (asked_for.Answered name) = printed_counts BuiltinNotRun name (value_of s.state.event.programs (builtin_question command))
    builtin_counts known command (asked_for.Other name) = notes BuiltinNotRun name
    builtin_counts known command asked_for.BadArguments = notes BadHwdbArguments command

    parent_counts : (names : List (List Item)) (parent : Option DeviceValue) → counted (from_parent names parent s).0 ≤ counted s + c r
    parent_counts names None = omega arith
    parent_counts names (Some parent) = omega arith

    not_run_counts : (type : ImportType) → counted (not_run r type s).0 ≤ counted s + c r
    not_run_counts type = notes ImportNotRun (import_name type)

    found_counts : (found : Option RootFile) → counted (from_found r found s).0 ≤ counted s + c r
    found_counts None = not_run_counts import_of.File
    found_counts (Some Absent) = omega arith
    found_counts (Some (Read bytes)) = by (nat_le (length bytes) most_set)
      where
        by : (b : Bool) → counted (if◌then◌else◌ {A = Scene × Bool} b (with_env (properties_set s.state.env (file_properties bytes)) s, true) (not_run r import_of.File s)).0 ≤ counted s + c r
        by true = omega arith
        by false = not_run_counts import_of.File

    given_counts : (name : Text) (value : Option Text) → counted (name_given name value s).0 ≤ counted s + c r
    given_counts name None = omega arith
    given_counts name (Some value) = omega arith

    part_counts : (name : Text) (given : Option Text) → counted (from_part r name given s).0 ≤ counted s + c r
    part_counts name None = not_run_counts import_of.Cmdline
    part_counts name (Some value) = given_counts name (Some value)

    line_counts : (name : Text) (line part : Option Text) → counted (from_line r name line part s).0 ≤ counted s + c r
    line_counts name None part = part_counts name (option_and_then (cmdline_value name) part)
    line_counts name (Some line) part = given_counts name (cmdline_value name line)

    stored_counts : (name : Text) → counted (from_stored r name s).0 ≤ counted s + c r
    stored_counts name = by (is_stored_known s.state.event)
      where
        by : (b : Bool) → counted (if b then name_given name (stored_value name s.state.event) s else not_run r import_of.Db s).0 ≤ counted s + c r
        by true = given_counts name (stored_value name s.state.event)
        by false = not_run_counts import_of.Db

    built_counts : (d : ActKind) (known : Known) (given : Rendered) → counted (left r d (on_text (run_builtin known r) given s)) ≤ counted s + c r
    built_counts d known given = on_text_counts d (run_builtin known r) given (λ command. builtin_counts known command (builtin s.state.event.profile command))

    import_counts : (profile : Profile) (d : ActKind) (known : Known) (from : Import) → counted (left r d (imported profile known r from s)) ≤ counted s + c r
    import_counts Manual d known (import.Builtin template) = built_counts d known _
    import_counts Udev d known (import.Builtin template) = built_counts d known _
    import_counts Manual d known (import.Parent names text) = parent_counts names (device_at s.state.event 1)
    import_counts Udev d known (import.Parent names text) =
        on_text_counts d from_parent_by (names_text text s.state) (λ found. parent_counts (fnmatch_items Exact found 0 ∷ []) (device_at s.state.event 1))
    import_counts Manual d known (import.Program template) = not_run_counts import_of.Program
    import_counts Udev d known (import.Program template) =
        on_text_counts d (from_program r) (import_text most_command_bytes template s.state) (λ command. printed_counts NoAnswer command (value_of s.state.event.programs command))
    import_counts Manual d known (import.File template) = not_run_counts import_of.File
    import_counts Udev d known (import.File template) = on_text_counts d (from_file known r) (import_text most_path_bytes template s.state) (λ path. found_counts (known.file path))
    import_counts Manual d known (import.Cmdline name) = not_run_counts import_of.Cmdline
    import_counts Udev d known (import.Cmdline name) = line_counts name (words_for (codes "cmdline") name s.state.event) (words_for (codes "cmdline.part") name s.state.event)
    import_counts Manual d known (import.Db name) = not_run_counts import_of.Db
    import_counts Udev d known (import.Db name) = stored_counts name

  -- a command that is reached, with a note or none
  unread_counts : (r : Rule) (name : Option Text) (s : Scene) → counted (record s { notes = s.notes ++ unread_notes r name }) ≤ counted s + c r
  unread_counts r None s = let a = sum_by-append w s.notes [] in omega (arith, a)
  unread_counts r (Some name) s = noted_more w v c light r s AttributeNotRead name

  command_counts : (profile : Profile) (r : Rule) (template : Template) (s : Scene) → counted (command_reached profile r template s) ≤ counted s + c r
  command_counts Manual r template s = omega arith
  command_counts Udev r template s = unread_counts r (first_unread s.state.event template.pieces) s

  reached_counts : (profile : Profile) (r : Rule) (from : Import) (s : Scene) → counted (import_reached profile r from s) ≤ counted s + c r
  reached_counts profile r (import.Builtin template) s = command_counts profile r template s
  reached_counts profile r from s = omega arith

  act_kind_counts : (known : Known) (r : Rule) (s : Scene) (d : ActKind) → counted (left r d (performed known r d s)) ≤ counted s + act_most (c r) d
  act_kind_counts known r s (act_kind.Test mask template) = on_text_counts r s (act_kind.Test mask template) (tested r mask) (test_text template s.state) (tested_counts r s mask)
  act_kind_counts known r s (act_kind.Program template) =
      on_text_counts r (with_result [] s) (act_kind.Program template) (answered_by_block r) (program_text template s.state)
      (λ command. answered_counts r (with_result [] s) command (value_of s.state.event.programs command))
  act_kind_counts known r s (act_kind.Import from) =
      let reached : Scene = import_reached s.state.event.profile r from s in
      let a = reached_counts s.state.event.profile r from s in
      let b = import_counts r reached s.state.event.profile (act_kind.Import from) known from in
      omega (arith, a, b)

  -- an act of a rule
  pub act_counts : (known : Known) (r : Rule) (act : Act) (s : Scene) → counted (act_step known r act s).0 ≤ counted s + act_most (c r) act.kind
  unfolding act_step
  act_counts known r act s = act_kind_counts known r s act.kind
