-- What the assignments of a rule did, reported while they are made.
use Rattle.std.specs.Prelude.{if◌then◌else◌, List, [], ◌∷◌, ◌++◌, Option, Some, None, unwrap_or, codes, slice_get}
use Rattle.text_bytes.specs.Text.{Text}
use Rattle.rule_types.specs.Rules.{Rule}
use Rattle.rule_types.specs.declared.part.Assignment.{Assignment}
use Rattle.rule_types.specs.declared.part.Change.{Change}
use Rattle.eval_state.specs.Finals.{is_final}
use Rattle.eval_state.specs.declared.finals.FinalKey.{FinalKey}
use Rattle.eval_state.specs.declared.finals.Finals.{Finals}
use Rattle.eval_state.specs.declared.note_kind.NoteKind.{NoteKind}
use Rattle.eval_state.specs.declared.note_kind.NoteKind.TheVariants.{TextTooLong, NameIgnored, NoDeviceNumber, NoValue, LinkIgnored}
use Rattle.eval_state.specs.declared.note_kind.NoteKind.TheVariants.{ModeIgnored, TagIgnored, AttributeNotFound}
use Rattle.eval_state.specs.declared.notes.Note.{Note}
use Rattle.eval_state.specs.declared.scene.Scene.{Scene}
use Rattle.eval_assignments.specs.Finality.{final_key}
use Rattle.eval_assignments.specs.Names.{is_net}
use Rattle.eval_assignments.specs.Steps.{set_step}
use Rattle.eval_effects.specs.Changes.{Snapshot, changes, snapshot}
use Rattle.eval_effects.specs.Named.{change_key, final_name, rule_place}
use Rattle.eval_effects.specs.Shown.{joined, shown}
use Rattle.eval_effects.specs.Scope.{fronts}
use Rattle.eval_effects.specs.Since.{Since}
use Rattle.eval_effects.specs.declared.scope.Fronts.{Fronts}

-- a key, if there is one and it no longer changes
abbrev pub settled_key : Finals → Option FinalKey → Option FinalKey
settled_key finals None = None
settled_key finals (Some key) = if is_final finals key then Some key else None

-- the text of an assignment to a key that has been final since a rule
abbrev pub final_text : FinalKey → Rule → Text
final_text key r = final_name key ++ codes " is final since " ++ rule_place r

-- what an assignment changed, if anything
abbrev pub changed_text : Change → List Text → Text
changed_text c [] = change_key c ++ codes " changes nothing"
changed_text c (text ∷ more) = joined (text ∷ more)

-- why a device has no name to assign: it is no network device, or for udev it is one without the number of an
-- interface
abbrev pub no_name : Option Text → Text
no_name subsystem = if is_net subsystem then codes "no interface (IFINDEX)" else codes "no network device"

-- what a note of an assignment over a scene is reported as
abbrev pub said_of : Change → Scene → NoteKind → Text → List Text
said_of c s TextTooLong word = (change_key c ++ codes " left out, too long") ∷ []
said_of c s NameIgnored word = (codes "NAME ignored, " ++ no_name s.state.event.device.subsystem) ∷ []
said_of c s NoDeviceNumber word = (change_key c ++ codes " ignored, no device number") ∷ []
said_of c s NoValue word = (change_key c ++ codes " ignored, no value") ∷ []
said_of c s LinkIgnored word = (shown word ++ codes " ignored, no link") ∷ []
said_of c s ModeIgnored word = (change_key c ++ codes " ignored, no mode") ∷ []
said_of c s TagIgnored word = (change_key c ++ codes " ignored, no tag") ∷ []
said_of c s AttributeNotFound word = (change_key c ++ codes " ignored, no such attribute") ∷ []
said_of c s kind word = []

-- what the note of an assignment is reported as, if it left one
abbrev pub said_left : Change → Scene → Option Note → List Text
said_left c s None = []
said_left c s (Some note) = said_of c s note.kind note.word

-- an assignment that was made or left a note, by the fronts that stay, what was there before it, and the scene after it: what
-- changed, and what was left out, by the first note after those that there were
abbrev pub made_text : Change → Fronts → Snapshot → Scene → Text
made_text c f was s = changed_text c (changes was (snapshot c f s) ++ said_left c s (slice_get s.notes was.notes))

-- an assignment, by its key if that was final, the fronts that stay, what was there before it, and the scene after it; a key
-- that no earlier rule made final has been final since the rule itself
abbrev pub effect_by : Since → Rule → Change → Option FinalKey → Fronts → Snapshot → Scene → Text
effect_by since r c (Some key) f was s = final_text key (unwrap_or (since key) r)
effect_by since r c None f was s = made_text c f was s

-- what an assignment of a rule does over a scene
unfoldable pub effect : Since → Rule → Scene → Assignment → Text
effect since r s a =
    let f = fronts a.operator s in
    effect_by since r a.change (settled_key s.finals (final_key s.state.event.profile a.change)) f (snapshot a.change f s) (set_step r s a)

-- what assignments do, each over the scene that the one before it left
abbrev pub effects : Since → Rule → Scene → List Assignment → List Text
effects since r s [] = []
effects since r s (a ∷ more) = effect since r s a ∷ effects since r (set_step r s a) more

-- the text of a rule whose end is reached, by what its assignments did
abbrev pub ending_of : List Text → Text
ending_of [] = codes "reached its end"
ending_of (text ∷ more) = codes "reached its end: " ++ joined (text ∷ more)

-- the text of a rule whose end is reached over a scene, given since which rules keys are final
unfoldable pub ending : Since → Rule → Scene → Text
ending since r s = ending_of (effects since r s r.sets)
