-- What a scene weighs with one more note, and if what changes has no weight.
use Rattle.std.proofs.Common.{ℕ, ◌+◌, ◌≤◌, length, take, arith}
use Rattle.std.proofs.lemmas.List.{length-take}
use Rattle.std.proofs.lemmas.List.Sums.{sum_by_push}
use Rattle.std.proofs.Math.Nat.{min-le_left}
use Rattle.text_bytes.specs.declared.profile.Profile.{Profile}
use Rattle.text_bytes.specs.declared.profile.Profile.TheVariants.{Manual, Udev}
use Rattle.text_bytes.specs.Text.{Text}
use Rattle.rule_types.specs.Rules.{Rule}
use Rattle.device_core.specs.Values.{EventValue}
use Rattle.eval_laws.specs.DeviceWeights.{text_weight}
use Rattle.eval_state.specs.Notes.{kept_word, note_about, text_of}
use Rattle.eval_state.specs.Scenes.{noted}
use Rattle.eval_state.specs.declared.note_kind.NoteKind.{NoteKind}
use Rattle.eval_state.specs.declared.note_kind.NoteKind.TheVariants.{ImportNotRun, BuiltinNotRun, BadHwdbArguments, NoAnswer, TestNotMade, SysctlNotRead, TextTooLong, NameIgnored, NoDeviceNumber, NoValue, LinkIgnored, ModeIgnored, TagIgnored, AttributeNotRead, AttributeNotFound, AttributesNotGiven, BuiltinNeeds, ConstantNotGiven}
use Rattle.eval_state.specs.declared.scene.Scene.{Scene}
use Rattle.eval_acts.specs.BuiltinRuns.{most_set}
use Rattle.eval_laws.specs.Allowances.{builtin_allowance}
use Rattle.eval_laws.specs.Weights.{note_weight}
use Rattle.eval_laws.specs.Inner.{Within, scene_weight}

-- a bound that is greater
pub more : (event : EventValue) (n m : ℕ) (s : Scene) → n ≤ m → Within event n s → Within event m s
more event n m s up h = let a = h.light in record { same = h.same; light = omega (arith, a, up) }

kind_light : (kind : NoteKind) → text_weight (text_of kind) ≤ 22
kind_light ImportNotRun = omega arith
kind_light BuiltinNotRun = omega arith
kind_light BadHwdbArguments = omega arith
kind_light NoAnswer = omega arith
kind_light TestNotMade = omega arith
kind_light SysctlNotRead = omega arith
kind_light TextTooLong = omega arith
kind_light NameIgnored = omega arith
kind_light NoDeviceNumber = omega arith
kind_light NoValue = omega arith
kind_light LinkIgnored = omega arith
kind_light ModeIgnored = omega arith
kind_light TagIgnored = omega arith
kind_light AttributeNotRead = omega arith
kind_light AttributeNotFound = omega arith
kind_light BuiltinNeeds = omega arith
kind_light ConstantNotGiven = omega arith
kind_light AttributesNotGiven = omega arith

-- the first bytes of a text
first_light : (most : ℕ) (text : Text) → most ≤ 256 → length (take most text) ≤ 256
first_light most text few = let a = length-take most text in let b = min-le_left most (length text) in omega (arith, a, b, few)

word_light : (kind : NoteKind) (text : Text) → length (kept_word kind text) ≤ 256
word_light ImportNotRun text = first_light 32 text (omega arith)
word_light BuiltinNotRun text = first_light 32 text (omega arith)
word_light BadHwdbArguments text = first_light 32 text (omega arith)
word_light NoAnswer text = first_light 32 text (omega arith)
word_light TestNotMade text = first_light 32 text (omega arith)
word_light SysctlNotRead text = first_light 32 text (omega arith)
word_light TextTooLong text = first_light 32 text (omega arith)
word_light NameIgnored text = first_light 32 text (omega arith)
word_light NoDeviceNumber text = first_light 32 text (omega arith)
word_light NoValue text = first_light 32 text (omega arith)
word_light LinkIgnored text = first_light 32 text (omega arith)
word_light ModeIgnored text = first_light 32 text (omega arith)
word_light TagIgnored text = first_light 32 text (omega arith)
word_light AttributeNotRead text = first_light 32 text (omega arith)
word_light AttributeNotFound text = first_light 32 text (omega arith)
word_light BuiltinNeeds text = first_light 256 text (omega arith)
word_light ConstantNotGiven text = first_light 32 text (omega arith)
word_light AttributesNotGiven text = first_light 32 text (omega arith)

-- a note about a rule
pub note_light : (r : Rule) (kind : NoteKind) (text : Text) → note_weight (note_about r kind text) ≤ length r.file + 280
note_light r kind text = let a = kind_light kind in let b = word_light kind text in omega (arith, a, b)

pub noted_within : (event : EventValue) (n : ℕ) (r : Rule) (kind : NoteKind) (text : Text) (s : Scene) → Within event n s → Within event (n + (length r.file + 280)) (noted r kind text s)
unfolding scene_weight
noted_within event n r kind text s h =
    let a = h.light in
    let b = sum_by_push note_weight s.notes (note_about r kind text) in
    let c = note_light r kind text in
    record { same = h.same; light = omega (arith, a, b, c) }

-- the same within a greater bound
pub note_within : (event : EventValue) (n k : ℕ) (r : Rule) (s : Scene) → Within event n s → length r.file + 280 ≤ k → (kind : NoteKind) (text : Text) → Within event (n + k) (noted r kind text s)
note_within event n k r s h room kind text = more event (n + (length r.file + 280)) (n + k) (noted r kind text s) (omega (arith, room)) (noted_within event n r kind text s h)

-- what a builtin of udev may set, or is taken of a file
abbrev pub most_imported : Profile → ℕ
most_imported Manual = 0
most_imported Udev = most_set

-- what an IMPORT that is reached may leave for udev, before the note about what it does
abbrev pub second_note : Profile → Rule → ℕ
second_note Manual r = 0
second_note Udev r = length r.file + 280

-- both have room in what is allowed for an IMPORT
pub second_room : (profile : Profile) (r : Rule) → second_note profile r + most_imported profile ≤ builtin_allowance profile r + 280
second_room Manual r = omega arith
second_room Udev r = omega arith
