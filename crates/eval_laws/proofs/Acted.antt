-- What a scene weighs after an act of a rule.
use Rattle.std.proofs.Common.{◌≡◌, ℕ, ◌+◌, ◌≤◌, nat_le, Bool, true, false, ◌==◌, List, [], ◌∷◌, ◌++◌, length, Option, Some, None, is_some, ◌||◌, ap, codes, if◌then◌else◌, refl, arith}
use Rattle.std.specs.Option.{option_and_then}
use Rattle.std.proofs.Common.{◌≡◌, ℕ, ◌+◌, ◌*◌, ◌≤◌, nat_le, Bool, true, false, ◌==◌, List, [], ◌∷◌, ◌++◌, length, Option, Some, None, is_some, ◌||◌, ap, codes, if◌then◌else◌, refl, arith}
use Rattle.std.proofs.lemmas.Bool.{leb-true}
use Rattle.std.proofs.lemmas.List.Sums.{sum_by-append, sum_by-cons}
use Rattle.text_bytes.specs.Names.{slash}
use Rattle.text_bytes.specs.Texts.{begins_with}
use Rattle.text_bytes.specs.declared.profile.Profile.{Profile}
use Rattle.text_bytes.specs.declared.profile.Profile.TheVariants.{Manual, Udev}
use Rattle.text_bytes.specs.Text.{Text}
use Rattle.text_tables.specs.Texts.{same_text}
use Rattle.text_tables.specs.Pairs.{Pair, value_of}
use Rattle.text_core.specs.Choices.{choice_fits}
use Rattle.text_core.specs.Fnmatch.{fnmatch_items}
use Rattle.text_core.specs.declared.item.Item.{Item}
use Rattle.text_core.specs.declared.reading.Reading.TheVariants.{Exact}
use Rattle.builtin_devices.specs.Knowledge.{Known}
use Rattle.builtin_devices.specs.declared.root_files.RootFile.{RootFile}
use Rattle.builtin_devices.specs.declared.root_files.RootFile.TheVariants.{Absent, Read}
use Rattle.rule_tokens.specs.Template.{Parts as Template}
use Rattle.rule_types.specs.Names.{import_name}
use Rattle.rule_types.specs.WrittenParts.{attribute_of_act_kind, key_of_act_kind}
use Rattle.rule_types.specs.declared.part.Act.{Act}
use Rattle.rule_types.specs.declared.part.ActKind.{ActKind}
use Rattle.rule_types.specs.declared.part.ActKind.TheVariants as act_kind
use Rattle.rule_types.specs.declared.part.Import.{Import}
use Rattle.rule_types.specs.declared.part.Import.TheVariants as import
use Rattle.rule_types.specs.declared.types.ImportType.{ImportType}
use Rattle.rule_types.specs.declared.types.ImportType.TheVariants as import_of
use Rattle.rule_types.specs.Rules.{Rule}
use Rattle.device_core.specs.Values.{AnswerValue, DeviceValue, EventValue}
use Rattle.eval_laws.specs.DeviceWeights.{event_weight, pair_weight, pairs_weight}
use Rattle.eval_state.specs.Chains.{device_at}
use Rattle.eval_rendering.specs.Bounds.{most_command_bytes, most_path_bytes}
use Rattle.eval_rendering.specs.declared.rendered.Rendered.{Rendered}
use Rattle.eval_rendering.specs.declared.rendered.Rendered.TheVariants as rendered
use Rattle.eval_state.specs.Notes.{word_of_key}
use Rattle.eval_state.specs.Scenes.{noted, with_env}
use Rattle.eval_state.specs.declared.note_kind.NoteKind.{NoteKind}
use Rattle.eval_state.specs.declared.note_kind.NoteKind.TheVariants.{AttributeNotRead, BadHwdbArguments, BuiltinNeeds, BuiltinNotRun, ImportNotRun, NoAnswer, TestNotMade, TextTooLong}
use Rattle.eval_state.specs.declared.scene.Scene.{Scene}
use Rattle.eval_rendering.specs.Attributes.{is_not_read}
use Rattle.rule_types.specs.Builtins.{builtin_name}
use Rattle.rule_types.specs.declared.builtins.Builtin.TheVariants.{InputId, NetId, NetSetupLink, PathId, UsbId}
use Rattle.builtin_devices.specs.Outcomes.{OutcomeValue}
use Rattle.eval_acts.specs.BuiltinRuns.{looked_up, most_set, needs_noted, needs_word, net_id_run, outcome_set, outcome_taken, path_id_run, properties_size, usb_id_run, with_maker}
use Rattle.eval_commands.specs.Builtins.{builtin, builtin_of, builtin_question, hwdb_asked}
use Rattle.eval_commands.specs.Cmdline.{cmdline_value}
use Rattle.eval_commands.specs.Hwdb.{hwdb_of}
use Rattle.eval_commands.specs.Words.{command_words}
use Rattle.eval_commands.specs.declared.hwdb.Hwdb.{Hwdb}
use Rattle.eval_commands.specs.LookUps.{found}
use Rattle.eval_commands.specs.declared.builtin.Builtin.{Builtin}
use Rattle.eval_commands.specs.declared.builtin.Builtin.TheVariants as asked_for
use Rattle.eval_state.specs.Places.{is_there, place_of}
use Rattle.eval_state.specs.Named.{NamedValue, named, named_place}
use Rattle.eval_state.specs.Properties.{properties_set}
use Rattle.eval_acts.specs.ActTexts.{import_text, names_text, program_text, test_text}
use Rattle.eval_acts.specs.Acts.{act_step, command_reached, from_parent_by, import_reached, imported, on_text, performed}
use Rattle.eval_acts.specs.Inner.{left}
use Rattle.eval_acts.specs.RootImports.{file_properties, from_file, from_found}
use Rattle.eval_acts.specs.Stored.{from_stored, is_stored_known, stored_value}
use Rattle.eval_commands.specs.LookUpNeeds.{lookup_needs}
use Rattle.eval_acts.specs.Imports.{builtin_run, from_answer_or_noted, from_cmdline, from_line, from_parent, from_part, from_program, name_given, names_fitting, parent_properties, words_for}
use Rattle.eval_acts.specs.Imports.{not_run, run_builtin, taken, with_found}
use Rattle.eval_acts.specs.Printed.{printed_properties}
use Rattle.eval_acts.specs.Questions.{answered_by_block, answered_or_noted, is_somewhere, result_of, tested, tested_at, tested_by, tested_by_udev, tested_here, with_result}
use Rattle.eval_acts.specs.Unread.{first_unread, unread_notes}
use Rattle.eval_laws.specs.Allowances.{act_kind_allowance, entries_weight}
use Rattle.eval_laws.specs.Inner.{Within, scene_weight}
use Rattle.eval_laws.specs.Weights.{note_weight}
use Rattle.eval_laws.proofs.Sums.{filter_light}
use Rattle.eval_laws.proofs.Found.{found_light}
use Rattle.eval_laws.proofs.PrintedWeights.{answered_weight, answers_light, file_light, printed_light}
use Rattle.eval_laws.proofs.StoredWeights.{stored_light}
use Rattle.eval_laws.proofs.CmdlineWeights.{cmdline_light, line_light, line_weight, set_weight}
use Rattle.eval_laws.proofs.Scenes.{more, noted_within}
use Rattle.eval_laws.proofs.Starts.{parent_properties_light}
use Rattle.eval_laws.proofs.Scenes.{more, most_imported, noted_within, second_note, second_room}
use Rattle.eval_laws.proofs.Starts.{properties_light}
use Rattle.eval_laws.proofs.FoundWeights.{env_of, found_more, looked_up_light, parent_light, with_maker_light}

-- what udev's builtins set and note
module _ (event : EventValue) where
  set_within : (n : ℕ) (properties : List Pair) (s : Scene) → Within event n s → Within event (n + properties_size properties) (with_env (properties_set s.state.env properties) s)
  unfolding scene_weight
  set_within n properties s h =
      let a = h.light in
      let b : pairs_weight (properties_set s.state.env properties) ≤ pairs_weight s.state.env + properties_size properties = found_more Udev s.state.env properties in
      record { same = h.same; light = omega (arith, a, b) }

  found_within : (n : ℕ) (profile : Profile) (properties : List Pair) (s : Scene) → Within event n s
      → Within event (n + pairs_weight properties) (record s { state = record s.state { env = with_found profile s.state.env properties } })
  unfolding scene_weight
  found_within n profile properties s h =
      let a = h.light in
      let b = found_more profile s.state.env properties in
      record { same = h.same; light = omega (arith, a, b) }

  need_within : (n : ℕ) (r : Rule) (name : Text) (needs : List Text) (s : Scene) → Within event n s → Within event (n + (length r.file + 280)) (needs_noted r name needs s)
  need_within n r name [] s h = more event n (n + (length r.file + 280)) s (omega arith) h
  need_within n r name (need ∷ needs) s h = noted_within event n r BuiltinNeeds (needs_word name need needs) s h

  outcome_within : (n extra : ℕ) (r : Rule) (name : Text) (outcome : OutcomeValue) (properties : List Pair) (s : Scene) → properties_size properties ≤ extra + properties_size outcome.properties → Within event n s
      → Within event (n + (extra + (most_set + (length r.file + 280)))) (outcome_set r name outcome properties s).0
  outcome_within n extra r name outcome properties s few h = by (nat_le (properties_size outcome.properties) most_set) refl
    where
      set : Scene
      set = with_env (properties_set s.state.env properties) s

      by : (b : Bool) → nat_le (properties_size outcome.properties) most_set ≡ b
          → Within event (n + (extra + (most_set + (length r.file + 280)))) (if◌then◌else◌ {A = Scene × Bool} b (needs_noted r name outcome.needs set, outcome.is_done) (noted r TextTooLong name s, false)).0
      by true fits =
          let a = leb-true (properties_size outcome.properties) most_set fits in
          more event (n + properties_size properties + (length r.file + 280)) (n + (extra + (most_set + (length r.file + 280)))) _ (omega (arith, a, few))
          (need_within (n + properties_size properties) r name outcome.needs set (set_within n properties s h))
      by false over = more event (n + (length r.file + 280)) (n + (extra + (most_set + (length r.file + 280)))) _ (omega arith) (noted_within event n r TextTooLong name s h)

module _ (event : EventValue) where
  module _ (n : ℕ) (r : Rule) (s : Scene) (h : Within event n s) (most : ℕ) (room : length r.file + 280 ≤ most) where
    stays : Within event (n + most) s
    stays = more event n (n + most) s (omega arith) h

    notes : (kind : NoteKind) (text : Text) → Within event (n + most) (noted r kind text s)
    notes kind text = more event (n + (length r.file + 280)) (n + most) _ (omega (arith, room)) (noted_within event n r kind text s h)

    on_text_within : (d : ActKind) (act : Text → Scene → Scene × Bool) (given : Rendered) → ((text : Text) → Within event (n + most) (act text s).0)
        → Within event (n + most) (left r d (on_text act given s))
    on_text_within d act (rendered.Text text) each = each text
    on_text_within d act rendered.TooLong each = notes TextTooLong (word_of_key (key_of_act_kind d) (attribute_of_act_kind d))

    at_within : (place : Option ℕ) (name path : Text) → Within event (n + most) (tested_at place r name path s).0
    at_within None name path = by (is_there s.state.event (place_of s.state.event.device path))
      where
        by : (b : Bool) → Within event (n + most) (if◌then◌else◌ {A = Scene × Bool} b (s, true) (noted r TestNotMade path s, false)).0
        by true = stays
        by false = notes TestNotMade path
    at_within (Some place) name path = stays

    here_within : (path : Text) → Within event (n + most) (tested_here r path s).0
    here_within path = by (is_somewhere s.state.event s.state.event.device path) (is_not_read path s.state.event)
      where
        by : (found unread : Bool)
            → Within event (n + most) (if◌then◌else◌ {A = Scene × Bool} found (s, true) (if◌then◌else◌ {A = Scene × Bool} unread (noted r TestNotMade path s, false) (s, false))).0
        by true unread = stays
        by false true = notes TestNotMade path
        by false false = stays

    udev_within : (is : Option NamedValue) (path : Text) → Within event (n + most) (tested_by_udev is r path s).0
    udev_within None path = here_within path
    udev_within (Some is) path = at_within (named_place is s.state.event) is.attribute path

    by_within : (profile : Profile) (path : Text) → Within event (n + most) (tested_by profile r path s).0
    by_within Manual path = stays
    by_within Udev path = udev_within (named path) path

    tested_within : (mask : Option Text) (path : Text) → Within event (n + most) (tested r mask path s).0
    tested_within mask path = by (is_some mask || begins_with slash path)
      where
        by : (b : Bool) → Within event (n + most) (if◌then◌else◌ {A = Scene × Bool} b (noted r TestNotMade path s, false) (tested_by s.state.event.profile r path s)).0
        by true = notes TestNotMade path
        by false = by_within s.state.event.profile path

    result_within : (text : Text) → Within event (n + most) (with_result text s)
    unfolding scene_weight
    result_within text = let a = h.light in record { same = h.same; light = omega (arith, a) }

    answered_within : (command : Text) (answer : Option AnswerValue) → Within event (n + most) (answered_or_noted r command answer s).0
    answered_within command None = notes NoAnswer command
    answered_within command (Some answer) = by (answer.status == 0)
      where
        by : (b : Bool) → Within event (n + most) (if◌then◌else◌ {A = Scene × Bool} b (with_result (result_of s.state.event.profile answer.text) s, true) (s, false)).0
        by true = result_within (result_of s.state.event.profile answer.text)
        by false = stays

    asked_within : (command : Text) → Within event (n + most) (answered_by_block r command s).0
    asked_within command = answered_within command (value_of s.state.event.programs command)

    more_env : (profile : Profile) (properties : List Pair) → pairs_weight properties ≤ most → Within event (n + most) (record s { state = record s.state { env = with_found profile s.state.env properties } })
    unfolding scene_weight
    more_env profile properties light = let a = h.light in let b = found_more profile s.state.env properties in record { same = h.same; light = omega (arith, a, b, light) }

    parent_within : (names : List (List Item)) (parent : Option DeviceValue) → pairs_weight (env_of parent) ≤ most → Within event (n + most) (from_parent names parent s).0
    parent_within names None light = stays
    parent_within names (Some parent) light =
        let given : List Pair = parent_properties s.state.event.profile parent in
        let a = filter_light pair_weight (λ property. choice_fits names property.0) given in
        let b = parent_properties_light s.state.event.profile parent in
        more_env Manual (names_fitting names given) (omega (arith, a, b, light))

    hwdb_within : (known : Known) (command : Text) (hwdb : Option Hwdb) → entries_weight known.entries + (length r.file + 280) ≤ most → Within event (n + most) (builtin_run known r command (hwdb_asked hwdb) s).0
    hwdb_within known command None light = notes BadHwdbArguments command
    hwdb_within known command (Some hwdb) light =
        let properties : List Pair = found known hwdb s.state in
        let a = found_light known hwdb s.state in
        more event (n + pairs_weight properties + (length r.file + 280)) (n + most) _ (omega (arith, a, light))
        (need_within event (n + pairs_weight properties) r (codes "hwdb") (lookup_needs s.state.event.profile s.state hwdb properties) (taken properties s).0
        (found_within event n s.state.event.profile properties s h))

    manual_within : (known : Known) (command : Text) (words : Option (List Text)) → entries_weight known.entries + (length r.file + 280) ≤ most → Within event (n + most) (builtin_run known r command (builtin_of words) s).0
    manual_within known command None light = notes BadHwdbArguments command
    manual_within known command (Some []) light = notes BuiltinNotRun []
    manual_within known command (Some (name ∷ words)) light = by (same_text name (codes "hwdb"))
      where
        by : (b : Bool) → Within event (n + most) (builtin_run known r command (if b then hwdb_asked (hwdb_of words) else asked_for.Other name) s).0
        by true = hwdb_within known command (hwdb_of words) light
        by false = notes BuiltinNotRun name

    taken_within : (name : Text) (outcome : OutcomeValue) → most_set + (length r.file + 280) ≤ most → Within event (n + most) (outcome_taken r name outcome s).0
    taken_within name outcome light =
        more event (n + (0 + (most_set + (length r.file + 280)))) (n + most) _ (omega (arith, light)) (outcome_within event n 0 r name outcome outcome.properties s (omega arith) h)

    usb_within : (known : Known) (ran : Option Bool) → most_set + (length r.file + 280) ≤ most → Within event (n + most) (usb_id_run known ran r s).0
    unfolding scene_weight
    usb_within known (Some done) light = stays
    usb_within known None light =
        let after = taken_within (builtin_name UsbId) (known.usb_id s.state.event (is_some (value_of s.state.env (codes "ID_BUS")))) light in
        record { same = after.same; light = after.light }

    path_within : (known : Known) (ran : Option Bool) → most_set + (length r.file + 280) ≤ most → Within event (n + most) (path_id_run known ran r s).0
    unfolding scene_weight
    path_within known (Some done) light = stays
    path_within known None light = let after = taken_within (builtin_name PathId) (known.path_id s.state.event) light in record { same = after.same; light = after.light }

    net_within : (known : Known) → entries_weight known.entries + (most_set + (length r.file + 280)) ≤ most → Within event (n + most) (net_id_run known r s).0
    net_within known light =
        let names : OutcomeValue = known.net_id s.state.event s.state.env in
        let found : List Pair = looked_up known (known.net_lookup s.state.event s.state.env) in
        let a = with_maker_light found names.properties in
        let b = looked_up_light known (known.net_lookup s.state.event s.state.env) in
        more event (n + (entries_weight known.entries + (most_set + (length r.file + 280)))) (n + most) _ (omega (arith, light))
        (outcome_within event n (entries_weight known.entries) r (builtin_name NetId) names (with_maker found names.properties) s (omega (arith, a, b)) h)

    printed_within : (kind : NoteKind) (word : Text) (answer : Option AnswerValue) → answered_weight answer ≤ most → Within event (n + most) (from_answer_or_noted r kind word answer s).0
    printed_within kind word None light = notes kind word
    printed_within kind word (Some answer) light = by (answer.status == 0)
      where
        by : (b : Bool) → Within event (n + most) (if◌then◌else◌ {A = Scene × Bool} b (with_env (properties_set s.state.env (printed_properties answer.text)) s, true) (s, false)).0
        by true = let a = printed_light answer.text in more_env Udev (printed_properties answer.text) (omega (arith, a, light))
        by false = stays

    answer_within : (kind : NoteKind) (word question : Text) → event_weight event ≤ most → Within event (n + most) (from_answer_or_noted r kind word (value_of s.state.event.programs question) s).0
    answer_within kind word question short =
        let a = answers_light event question in
        let b = ap (λ e. answered_weight (value_of e.programs question)) h.same in
        printed_within kind word (value_of s.state.event.programs question) (omega (arith, a, b, short))

    meant_within : (known : Known) (command : Text) (wanted : Builtin) → entries_weight known.entries + (most_set + (length r.file + 280)) ≤ most → event_weight event ≤ most → Within event (n + most) (builtin_run known r command wanted s).0
    meant_within known command (asked_for.Hwdb hwdb) light short = hwdb_within known command (Some hwdb) (omega (arith, light))
    meant_within known command asked_for.InputId light short = taken_within (builtin_name InputId) (known.input_id s.state.event) (omega (arith, light))
    meant_within known command asked_for.NetId light short = net_within known light
    meant_within known command asked_for.NetSetupLink light short = taken_within (builtin_name NetSetupLink) (known.net_setup_link s.state.event s.state.env) (omega (arith, light))
    meant_within known command asked_for.PathId light short = path_within known s.ran.path_id (omega (arith, light))
    meant_within known command asked_for.UsbId light short = usb_within known s.ran.usb_id (omega (arith, light))
    meant_within known command asked_for.SetsNothing light short = stays
    meant_within known command asked_for.Fails light short = stays
    meant_within known command (asked_for.Answered name) light short = answer_within BuiltinNotRun name (builtin_question command) short
    meant_within known command (asked_for.Other name) light short = notes BuiltinNotRun name
    meant_within known command asked_for.BadArguments light short = notes BadHwdbArguments command

    builtin_within : (profile : Profile) (known : Known) (command : Text) → entries_weight known.entries + (most_imported profile + (length r.file + 280)) ≤ most → event_weight event ≤ most
        → Within event (n + most) (builtin_run known r command (builtin profile command) s).0
    builtin_within Manual known command light short = manual_within known command (command_words command) (omega (arith, light))
    builtin_within Udev known command light short = meant_within known command (builtin Udev command) light short

    not_run_within : (type : ImportType) → Within event (n + most) (not_run r type s).0
    not_run_within type = notes ImportNotRun (import_name type)

    file_within : (found : Option RootFile) → most_set + (length r.file + 280) ≤ most → Within event (n + most) (from_found r found s).0
    file_within None light = not_run_within import_of.File
    file_within (Some Absent) light = stays
    file_within (Some (Read bytes)) light = by (nat_le (length bytes) most_set) refl
      where
        by : (b : Bool) → nat_le (length bytes) most_set ≡ b
            → Within event (n + most) (if◌then◌else◌ {A = Scene × Bool} b (with_env (properties_set s.state.env (file_properties bytes)) s, true) (not_run r import_of.File s)).0
        by true fits =
            let a = file_light bytes in
            let b = leb-true (length bytes) most_set fits in
            more_env Udev (file_properties bytes) (omega (arith, a, b, light))
        by false over = not_run_within import_of.File

    -- udev may set as much as a builtin
    file_room : (entries : ℕ) → Udev ≡ event.profile → entries + (most_imported event.profile + (length r.file + 280)) ≤ most → most_set + (length r.file + 280) ≤ most
    file_room entries is light =
        let same : most_set ≡ most_imported event.profile = ap most_imported is in
        omega (arith, same, light)

    program_within : (command : Text) → event_weight event ≤ most → Within event (n + most) (from_program r command s).0
    program_within command short = answer_within NoAnswer command command short

    given_within : (name : Text) (value : Option Text) → set_weight name value ≤ most → Within event (n + most) (name_given name value s).0
    given_within name None light = stays
    given_within name (Some value) light = more_env Udev ((name, value) ∷ []) (let a = sum_by-cons pair_weight (name, value) [] in omega (arith, a, light))

    part_within : (name : Text) (given : Option Text) → set_weight name given ≤ most → Within event (n + most) (from_part r name given s).0
    part_within name None light = not_run_within import_of.Cmdline
    part_within name (Some value) light = given_within name (Some value) light

    words_within : (name : Text) (part : Option Text) → line_weight part ≤ most → Within event (n + most) (from_part r name (option_and_then (cmdline_value name) part) s).0
    words_within name None light = not_run_within import_of.Cmdline
    words_within name (Some words) light = part_within name (cmdline_value name words) (let a = cmdline_light name words in omega (arith, a, light))

    line_within : (name : Text) (line part : Option Text) → line_weight line ≤ most → line_weight part ≤ most → Within event (n + most) (from_line r name line part s).0
    line_within name None part light small = words_within name part small
    line_within name (Some line) part light small = given_within name (cmdline_value name line) (let a = cmdline_light name line in omega (arith, a, light))

    cmdline_within : (name : Text) → event_weight event ≤ most → Within event (n + most) (from_cmdline r name s).0
    cmdline_within name short =
        let a = line_light event (codes "cmdline") name in
        let b = ap (λ e. line_weight (words_for (codes "cmdline") name e)) h.same in
        let c = line_light event (codes "cmdline.part") name in
        let d = ap (λ e. line_weight (words_for (codes "cmdline.part") name e)) h.same in
        line_within name (words_for (codes "cmdline") name s.state.event) (words_for (codes "cmdline.part") name s.state.event) (omega (arith, a, b, short)) (omega (arith, c, d, short))

    stored_within : (name : Text) → event_weight event ≤ most → Within event (n + most) (from_stored r name s).0
    stored_within name short = by (is_stored_known s.state.event)
      where
        by : (b : Bool) → Within event (n + most) (if b then name_given name (stored_value name s.state.event) s else not_run r import_of.Db s).0
        by true =
            let a = stored_light name event in
            let b = ap (λ e. set_weight name (stored_value name e)) h.same in
            given_within name (stored_value name s.state.event) (omega (arith, a, b, short))
        by false = not_run_within import_of.Db

    second_within : (names : List (List Item)) → event_weight event ≤ most → Within event (n + most) (from_parent names (device_at s.state.event 1) s).0
    second_within names short =
        let a = parent_light event in
        let b = ap (λ e. pairs_weight (env_of (device_at e 1))) h.same in
        parent_within names (device_at s.state.event 1) (omega (arith, a, b, short))

    built_within : (d : ActKind) (known : Known) (given : Rendered) → entries_weight known.entries + (most_imported event.profile + (length r.file + 280)) ≤ most
        → event_weight event ≤ most → Within event (n + most) (left r d (on_text (run_builtin known r) given s))
    built_within d known given light short =
        on_text_within d (run_builtin known r) given
        (λ command. builtin_within s.state.event.profile known command (let same = ap (λ e. most_imported e.profile) h.same in omega (arith, same, light)) short)

    import_within : (profile : Profile) (d : ActKind) (known : Known) (from : Import) → profile ≡ event.profile
        → entries_weight known.entries + (most_imported event.profile + (length r.file + 280)) ≤ most → event_weight event ≤ most → Within event (n + most) (left r d (imported profile known r from s))
    import_within Manual d known (import.Builtin template) is light short = built_within d known _ light short
    import_within Udev d known (import.Builtin template) is light short = built_within d known _ light short
    import_within Manual d known (import.Parent names text) is light short = second_within names short
    import_within Udev d known (import.Parent names text) is light short =
        on_text_within d from_parent_by (names_text text s.state) (λ found. second_within (fnmatch_items Exact found 0 ∷ []) short)
    import_within Manual d known (import.Program template) is light short = not_run_within import_of.Program
    import_within Udev d known (import.Program template) is light short =
        on_text_within d (from_program r) (import_text most_command_bytes template s.state) (λ command. program_within command short)
    import_within Manual d known (import.File template) is light short = not_run_within import_of.File
    import_within Udev d known (import.File template) is light short =
        on_text_within d (from_file known r) (import_text most_path_bytes template s.state) (λ path. file_within (known.file path) (file_room (entries_weight known.entries) is light))
    import_within Manual d known (import.Cmdline name) is light short = not_run_within import_of.Cmdline
    import_within Udev d known (import.Cmdline name) is light short = cmdline_within name short
    import_within Manual d known (import.Db name) is light short = not_run_within import_of.Db
    import_within Udev d known (import.Db name) is light short = stored_within name short

  emptied : (n : ℕ) (s : Scene) → Within event n s → Within event n (with_result [] s)
  unfolding scene_weight
  emptied n s h = record { same = h.same; light = h.light }

  -- a command that is reached, with a note or none
  unread_within : (n : ℕ) (r : Rule) (s : Scene) → Within event n s → (name : Option Text)
      → Within event (n + (length r.file + 280)) (record s { notes = s.notes ++ unread_notes r name })
  unfolding scene_weight
  unread_within n r s h None =
      let a = h.light in
      let b = sum_by-append note_weight s.notes [] in
      record { same = h.same; light = omega (arith, a, b) }
  unread_within n r s h (Some name) = noted_within event n r AttributeNotRead name s h

  command_within : (n : ℕ) (r : Rule) (s : Scene) → Within event n s → (profile : Profile) (template : Template)
      → Within event (n + second_note profile r) (command_reached profile r template s)
  command_within n r s h Manual template = more event n (n + second_note Manual r) s (omega arith) h
  command_within n r s h Udev template = unread_within n r s h (first_unread s.state.event template.pieces)

  reached_within : (n : ℕ) (r : Rule) (s : Scene) → Within event n s → (profile : Profile) (from : Import)
      → Within event (n + second_note profile r) (import_reached profile r from s)
  reached_within n r s h profile (import.Builtin template) = command_within n r s h profile template
  reached_within n r s h profile from = more event n (n + second_note profile r) s (omega arith) h

  module _ (len : ℕ) (short : event_weight event ≤ len) (known : Known) where
    act_kind_within : (n : ℕ) (r : Rule) (s : Scene) → Within event n s → (d : ActKind) → Within event (n + act_kind_allowance event.profile len known.entries r d) (left r d (performed known r d s))
    act_kind_within n r s h (act_kind.Test mask template) =
        let most : ℕ = act_kind_allowance event.profile len known.entries r (act_kind.Test mask template) in
        on_text_within n r s h most (omega arith) (act_kind.Test mask template) (tested r mask) (test_text template s.state) (tested_within n r s h most (omega arith) mask)
    act_kind_within n r s h (act_kind.Program template) =
        let most : ℕ = act_kind_allowance event.profile len known.entries r (act_kind.Program template) in
        on_text_within n r (with_result [] s) (emptied n s h) most (omega arith) (act_kind.Program template) (answered_by_block r) (program_text template s.state)
        (asked_within n r (with_result [] s) (emptied n s h) most (omega arith))
    act_kind_within n r s h (act_kind.Import from) =
        let note : ℕ = second_note s.state.event.profile r in
        let most : ℕ = length r.file + 280 + (2 * len + entries_weight known.entries + most_imported event.profile) in
        let reached : Scene = import_reached s.state.event.profile r from s in
        let inside = reached_within n r s h s.state.event.profile from in
        let same : note ≡ second_note event.profile r = ap (λ e. second_note e.profile r) h.same in
        let room = second_room event.profile r in
        more event ((n + note) + most) (n + act_kind_allowance event.profile len known.entries r (act_kind.Import from)) _ (omega (arith, same, room))
        (import_within (n + note) r reached inside most (omega arith) s.state.event.profile (act_kind.Import from) known from (ap (λ e. e.profile) h.same) (omega arith) (omega (arith, short)))

    -- an act
    pub act_within : (r : Rule) (act : Act) (n : ℕ) (s : Scene) → Within event n s → Within event (n + act_kind_allowance event.profile len known.entries r act.kind) (act_step known r act s).0
    unfolding act_step
    act_within r act n s h = act_kind_within n r s h act.kind
