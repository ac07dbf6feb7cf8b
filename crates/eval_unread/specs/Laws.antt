-- Serves laws alone: which search and which assignment leaves a note, said without a walk over rules.
use Rattle.std.specs.Prelude.{◌≡◌, ◌⊎◌, true, false, if◌then◌else◌, is_none, List, [], ◌∷◌, ◌++◌, Option, Some, fold}
use Rattle.std.specs.List.{list_all}
use Rattle.text_bytes.specs.Text.{Text}
use Rattle.rule_tokens.specs.declared.piece.Piece.{Piece}
use Rattle.rule_tokens.specs.declared.piece.Piece.TheVariants as piece
use Rattle.rule_types.specs.declared.part.Assignment.{Assignment}
use Rattle.rule_types.specs.Rules.{Rule}
use Rattle.device_core.specs.Values.{EventValue}
use Rattle.builtin_devices.specs.Knowledge.{Known}
use Rattle.eval_state.specs.Notes.{note_about}
use Rattle.eval_state.specs.declared.note_kind.NoteKind.TheVariants.{AttributeNotRead}
use Rattle.eval_state.specs.declared.notes.Note.{Note}
use Rattle.eval_state.specs.declared.scene.Scene.{Scene}
use Rattle.eval_rendering.specs.Attributes.{is_not_read}
use Rattle.eval_acts.specs.Unread.{unread_in}
use Rattle.eval_assignments.specs.Finality.{final_key, is_settled}
use Rattle.eval_assignments.specs.Steps.{set_step}
use Rattle.eval_rules.specs.Idle.{is_idle}
use Rattle.eval_rules.specs.Jumps.{is_passed, run, sought_after}
use Rattle.eval_rules.specs.Steps.{apply, before_sets, plain_step, walk}
use Rattle.eval_unread.specs.Unread.{rendered_pieces, search_unread}

-- a note is among these
pub record IsAmong (note : Note) (notes : List Note) : Type 0 where
  pub before : List Note
  pub following : List Note
  pub are : notes ≡ before ++ note ∷ following

-- the label that is sought after rules one after another, perhaps while one is sought before them
unfoldable pub sought_past : Known → Option Text → List Rule → Scene → Option Text
sought_past known sought [] s = sought
sought_past known sought (r ∷ rs) s =
    if is_passed sought r then sought_past known sought rs s else sought_past known (sought_after (apply known r s).1 r) rs (apply known r s).0

-- Pieces of a text ask by `$attr` for an attribute of this name, which is not read, and before it for none that is not read.
pub record AsksFirst (event : EventValue) (pieces : List Piece) (name : Text) : Type 0 where
  pub before : List Piece
  pub following : List Piece
  pub are : pieces ≡ before ++ piece.Attr name ∷ following
  pub read : list_all (λ p. is_none (unread_in event p)) before ≡ true
  pub unread : is_not_read name event ≡ true

-- One of rules is entered with this scene: no label is sought there other than its own.
pub record Enters (known : Known) (sought : Option Text) (rules : List Rule) (s : Scene) (r : Rule) (t : Scene) : Type 0 where
  pub above : List Rule
  pub below : List Rule
  pub are : rules ≡ above ++ r ∷ below
  pub entered : is_passed (sought_past known sought above s) r ≡ false
  pub found : t ≡ run known sought above s

-- The search of a rule leaves this note: the matches of the event let the rule go on to it, and it finds no device and asks for what is not read.
pub record SearchLeaves (r : Rule) (s : Scene) (note : Note) : Type 0 where
  pub goes_on : (walk (plain_step r) r.plain s).1 ≡ true
  pub name : Text
  pub asks : search_unread r.up (walk (plain_step r) r.plain s).0.state ≡ Some name
  pub is : note ≡ note_about r AttributeNotRead name

-- An assignment of a rule leaves this note: the rule is not skipped, its keys let it go on, and its assignments before this one are made;
-- the key of this one is not final, and the text that is rendered for it asks for an attribute that is not read.
pub record SetLeaves (known : Known) (r : Rule) (s : Scene) (note : Note) : Type 0 where
  pub counts : is_idle r s.state.event ≡ false
  pub goes_on : (before_sets known r s).1 ≡ true
  pub before : List Assignment
  pub assignment : Assignment
  pub after : List Assignment
  pub are : r.sets ≡ before ++ assignment ∷ after
  pub scene : Scene
  pub found : scene ≡ fold (set_step r) (before_sets known r s).0 before
  pub made : is_settled (final_key scene.state.event.profile assignment.change) scene.finals ≡ false
  pub name : Text
  pub asks : AsksFirst scene.state.event (rendered_pieces assignment.change scene.state.event.device) name
  pub is : note ≡ note_about r AttributeNotRead name

-- The search or an assignment of one of rules leaves this note.
pub record Leaves (known : Known) (sought : Option Text) (rules : List Rule) (s : Scene) (note : Note) : Type 0 where
  pub rule : Rule
  pub scene : Scene
  pub enters : Enters known sought rules s rule scene
  pub leaves : SearchLeaves rule scene note ⊎ SetLeaves known rule scene note
