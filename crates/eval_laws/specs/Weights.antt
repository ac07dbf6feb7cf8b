-- What an answer weighs: the length of each of its texts, and one more for each. Numbers and switches weigh nothing.
use Rattle.std.specs.Prelude.{ℕ, ◌+◌}
use Rattle.std.specs.List.{sum_by}
use Rattle.text_bytes.specs.declared.profile.Profile.{Profile}
use Rattle.text_bytes.specs.declared.profile.Profile.TheVariants.{Manual, Udev}
use Rattle.rule_types.specs.Names.{run_name}
use Rattle.eval_laws.specs.DeviceWeights.{given_weight, pairs_weight, text_weight, texts_weight}
use Rattle.eval_state.specs.Notes.{text_of}
use Rattle.eval_state.specs.declared.notes.Note.{Note}
use Rattle.eval_rules.specs.declared.outcome.Command.{Command}
use Rattle.eval_rules.specs.declared.outcome.Outcome.{Outcome}

-- a note has three texts: its file, the text of its kind and its word
abbrev pub note_weight : Note → ℕ
note_weight note = text_weight note.file + text_weight (text_of note.kind) + text_weight note.word

-- a command has two: the name of its type and its text
abbrev pub command_weight : Command → ℕ
command_weight command = text_weight (run_name command.kind) + text_weight command.text

-- an answer
unfoldable pub outcome_weight : Outcome → ℕ
outcome_weight o =
    given_weight o.name + given_weight o.owner + given_weight o.group + given_weight o.mode
    + pairs_weight o.labels + texts_weight o.links + texts_weight o.tags
    + pairs_weight o.env + pairs_weight o.attrs + pairs_weight o.sysctls
    + sum_by command_weight o.runs + sum_by note_weight o.notes

-- how many bytes the lines of notes about a block have at most, by a profile: by the manual there are none
abbrev pub most_about_a_block : Profile → ℕ
most_about_a_block Manual = 0
most_about_a_block Udev = 1176
