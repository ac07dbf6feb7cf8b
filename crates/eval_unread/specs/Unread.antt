-- The attributes that the texts of assignments and searches for one device ask for and that a dry run does not read: those that udev
-- would read of a device that the block does not have, or of which the block tells nothing. Their substitutions are empty.
use Rattle.std.specs.Prelude.{ℕ, Bool, not, if◌then◌else◌, is_some, List, [], ◌∷◌, ◌++◌, length, Option, Some, None, option_to_list, position}
use Rattle.std.specs.List.{find, range_with_len}
use Rattle.std.specs.Option.{option_and_then}
use Rattle.rule_tokens.specs.declared.piece.Piece.{Piece}
use Rattle.text_bytes.specs.declared.profile.Profile.{Profile}
use Rattle.text_bytes.specs.declared.profile.Profile.TheVariants.{Manual, Udev}
use Rattle.text_bytes.specs.Text.{Text}
use Rattle.rule_types.specs.declared.roles.Target.{Target}
use Rattle.rule_types.specs.declared.roles.Target.TheVariants as target
use Rattle.rule_types.specs.declared.part.Assignment.{Assignment}
use Rattle.rule_types.specs.declared.part.Change.{Change}
use Rattle.rule_types.specs.declared.part.Change.TheVariants as change
use Rattle.rule_types.specs.declared.part.UpMatch.{UpMatch}
use Rattle.rule_types.specs.declared.roles.UpKey.{UpKey}
use Rattle.rule_types.specs.declared.roles.UpKey.TheVariants as up
use Rattle.rule_types.specs.Rules.{Rule}
use Rattle.device_core.specs.Values.{DeviceValue, EventValue, chain}
use Rattle.builtin_devices.specs.Knowledge.{Known}
use Rattle.eval_state.specs.Scenes.{start}
use Rattle.eval_state.specs.declared.notes.Note.{Note}
use Rattle.eval_state.specs.declared.scene.Scene.{Scene}
use Rattle.eval_state.specs.declared.state.State.{State}
use Rattle.eval_rendering.specs.Holding.{Subject, udev_unread}
use Rattle.eval_rendering.specs.Subjects.{found_place, holds_at, up_subject}
use Rattle.eval_acts.specs.Unread.{first_unread, unread_notes}
use Rattle.eval_assignments.specs.Finality.{final_key, is_settled}
use Rattle.eval_assignments.specs.Names.{is_interface}
use Rattle.eval_assignments.specs.Steps.{lacks_number, set_step}
use Rattle.eval_rules.specs.Idle.{is_idle}
use Rattle.eval_rules.specs.Jumps.{is_passed, sought_after}
use Rattle.eval_rules.specs.Outcomes.{outcome}
use Rattle.eval_unread.specs.Given.{not_given}
use Rattle.eval_unread.specs.KernelModes.{with_kernel_mode}
use Rattle.eval_rules.specs.Steps.{Went, apply, before_sets, plain_step, walk}
use Rattle.eval_rules.specs.declared.outcome.Outcome.{Outcome}

-- the name that a match of one device asks for, if it looks at an attribute that is not read
abbrev pub name_unread : UpKey → Subject → Option Text
name_unread (up.Attrs name) udev_unread = Some name
name_unread key subject = None

-- the same of the match by which the device at a place is given up: the first that does not hold there
abbrev pub unread_at : List UpMatch → State → ℕ → Option Text
unread_at parts state place =
    option_and_then (λ part. name_unread part.key (up_subject part.key state place)) (find (λ part. not (holds_at state place part)) parts)

-- the place of the nearest device that is given up by such a match
unfoldable pub unread_place : List UpMatch → State → Option ℕ
unread_place parts state = position (λ place. is_some (unread_at parts state place)) (range_with_len 0 (length (chain state.event)))

-- the name that a search asks for and that is not read: that of the nearest such device, if no device meets all of the matches
abbrev pub search_unread : List UpMatch → State → Option Text
search_unread parts state = if is_some (found_place parts state) then None else option_and_then (unread_at parts state) (unread_place parts state)

-- the note on this of a rule, if its matches of the event let it go on to the search
abbrev pub searched_unread : Rule → Went → List Note
searched_unread r went = if went.1 then unread_notes r (search_unread r.up went.0.state) else []

-- whether udev renders a text that is assigned to a key: a name only if the device is an interface, one for the node, its links
-- or its labels only if it has a number
abbrev pub is_rendered_for : Target → DeviceValue → Bool
is_rendered_for target.Name device = is_interface device
is_rendered_for about device = not (lacks_number about device.number)

-- the pieces of the text that udev renders for an assignment
abbrev pub rendered_pieces : Change → DeviceValue → List Piece
rendered_pieces (change.Option known) device = []
rendered_pieces (change.Text about template) device = if is_rendered_for about device then template.pieces else []
rendered_pieces (change.Run braces template) device = template.pieces

-- the first attribute that an assignment asks for and that is not read: none if its key is final, as it is then not made
abbrev pub unread_of : Scene → Assignment → Option Text
unread_of s a =
    if is_settled (final_key s.state.event.profile a.change) s.finals then None
    else first_unread s.state.event (rendered_pieces a.change s.state.event.device)

-- the notes on these of assignments of a rule, each of which finds what those before it left
abbrev pub unread_from : Rule → List Assignment → Scene → List Note
unread_from r [] s = []
unread_from r (a ∷ sets) s = unread_notes r (unread_of s a) ++ unread_from r sets (set_step r s a)

-- the notes of the assignments of a rule, if its keys let it go on to them
abbrev pub unread_after : Rule → Went → List Note
unread_after r went = if went.1 then unread_from r r.sets went.0 else []

-- the notes of the search of a rule, and of its assignments if it is not skipped
unfoldable pub rule_unread : Known → Rule → Scene → List Note
rule_unread known r s = searched_unread r (walk (plain_step r) r.plain s) ++ (if is_idle r s.state.event then [] else unread_after r (before_sets known r s))

-- the notes of the searches and assignments of rules, one after another, perhaps while a label is sought
unfoldable pub rules_unread : Known → Option Text → List Rule → Scene → List Note
rules_unread known sought [] s = []
rules_unread known sought (r ∷ rs) s =
    if is_passed sought r then rules_unread known sought rs s
    else rule_unread known r s ++ rules_unread known (sought_after (apply known r s).1 r) rs (apply known r s).0

-- the notes of the searches and assignments of all rules at an event: by the manual there are none, as it knows no names of other devices
abbrev pub unread_by : Profile → List Rule → Known → EventValue → List Note
unread_by Manual rules known event = []
unread_by Udev rules known event = rules_unread known None rules (start event)

-- the notes of the searches and assignments of all rules at an event, by its profile
abbrev pub unread : List Rule → Known → EventValue → List Note
unread rules known event = unread_by event.profile rules known event

-- an outcome with more notes after its own
abbrev pub with_notes : List Note → Outcome → Outcome
with_notes more o = record o { notes = o.notes ++ more }

-- an outcome with the notes that are told besides, after its own: those of the searches and assignments of all rules, and that on a block
-- without attributes
abbrev pub noted : List Rule → Known → EventValue → Outcome → Outcome
noted rules known event o = with_notes (option_to_list (not_given rules event)) (with_notes (unread rules known event) o)

-- an outcome with what is told besides: these notes, and the kernel's mode
abbrev pub completed : List Rule → Known → EventValue → Outcome → Outcome
completed rules known event o = with_kernel_mode event (noted rules known event o)

-- the whole outcome of an event, as its answer tells it
abbrev pub whole_outcome : List Rule → Known → EventValue → Outcome
whole_outcome rules known event = completed rules known event (outcome rules known event)
