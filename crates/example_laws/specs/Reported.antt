-- What `events` answers with `--sources`, `--why`, `--questions` and `--format=json`, and what it says with `--unused`.
use Rattle.std.specs.Prelude.{[], ◌∷◌, ◌++◌, codes, map, true, Bool, Option}
use Rattle.text_bytes.specs.Names.{newline}
use Rattle.text_bytes.specs.declared.profile.Profile.{Profile}
use Rattle.text_bytes.specs.declared.profile.Profile.TheVariants.{Manual, Udev}
use Rattle.text_bytes.specs.declared.source_file.FileKind.TheVariants.{Rules}
use Rattle.text_bytes.specs.Text.{Text}
use Rattle.rule_core.specs.Ends.{file_as_read}
use Rattle.rule_core.specs.Rules.{ReadRules, set_of_as}
use Rattle.device_core.specs.Faults.{block_gives}
use Rattle.device_core.specs.Values.{EventValue}
use Rattle.builtin_devices.specs.Knowledge.{Known}
use Rattle.eval_unread.specs.Unread.{whole_outcome}
use Rattle.engine_answers.specs.Answers.{answer_lines, sourced_lines}
use Rattle.engine_courses.specs.Asked.{unknown}
use Rattle.engine_courses.specs.WhyLines.{why_lines}
use Rattle.engine_courses.specs.Questions.{question_answer}
use Rattle.engine_answers.specs.JsonAnswers.{json_answer}
use Rattle.engine_sessions.specs.Delivery.{RunOutcome}
use Rattle.engine_sessions.specs.Outcomes.{input_outcome}
use Rattle.engine_sessions.specs.Tallies.{events_of}
use Rattle.engine_courses.specs.Unused.{unused_lines}
use Rattle.example_laws.specs.Answered.{answer_to, file_with, only_entries, read_by}

-- the answer to an event in which each line has its source
abbrev pub sourced_answer : ReadRules → Known → EventValue → Text
sourced_answer read known event = sourced_lines read.rules known event ++ newline ∷ []

-- the answer to an event with what each rule met
abbrev pub explained_answer : ReadRules → Known → EventValue → Text
explained_answer read known event =
    answer_lines event (whole_outcome read.rules known event)
    ++ why_lines (codes "r.rules" ∷ []) read.messages read.rules known event
    ++ newline ∷ []

-- the questions of an event
abbrev pub asked_answer : ReadRules → Known → EventValue → Text
asked_answer read known event = question_answer read.rules known event

-- the answer to an event as an object of JSON, with sources or without
abbrev pub object_answer : (sources : Bool) → ReadRules → Known → EventValue → Text
object_answer sources read known event = json_answer sources [] read.rules known event

-- what is answered to a block in such a way, by a profile and the text of a rules file, without a database
abbrev pub answered_so : (ReadRules → Known → EventValue → Text) → Profile → Text → Text → Text
answered_so way profile rules block = answer_to (way (read_by profile rules) (only_entries [])) profile (block_gives block)

-- what `events --sources` answers
unfoldable pub sourced : Text → Text → Text
sourced rules block = answered_so sourced_answer Manual rules block

-- what it answers as udev does
unfoldable pub sourced_as_udev : Text → Text → Text
sourced_as_udev rules block = answered_so sourced_answer Udev rules block

-- what `events --why r.rules` answers
unfoldable pub explained : Text → Text → Text
explained rules block = answered_so explained_answer Manual rules block

-- what `events --udev --why r.rules` answers
unfoldable pub explained_as_udev : Text → Text → Text
explained_as_udev rules block = answered_so explained_answer Udev rules block

-- what `events --questions` answers
unfoldable pub asked : Text → Text → Text
asked rules block = answered_so asked_answer Manual rules block

-- what `events --format=json` answers, with `--sources` or without
unfoldable pub told_as_object : (sources : Bool) → Text → Text → Text
told_as_object sources rules block = answered_so (object_answer sources) Manual rules block

-- what is said about a text of `--why`, by the text of a rules file, if it asks for nothing there
unfoldable pub asked_in_vain : Text → Text → Option Text
asked_in_vain why rules = let read = read_by Manual rules in unknown (why ∷ []) read.messages read.rules

-- the lines that follow the answers of `events --unused`, by a profile, the text of a rules file and that of an input
unfoldable pub unused_by : Profile → Text → Text → Text
unused_by profile rules input = unused_lines [] (read_by profile rules).rules (only_entries []) (events_of profile input)

-- two rules files as they are read by the manual: `a.rules`, which is added to the folders, and `r.rules`, which is there
abbrev pub read_with_added : (added rules : Text) → ReadRules
read_with_added added rules =
    set_of_as Manual (map (file_as_read Manual) (file_with Rules (codes "a.rules") added ∷ file_with Rules (codes "r.rules") rules ∷ []))

-- the lines that follow the answers of `events --unused --with x/a.rules`, by the texts of these files and that of an input
unfoldable pub unused_with_added : (added rules : Text) → Text → Text
unused_with_added added rules input =
    unused_lines (codes "x/a.rules" ∷ []) (read_with_added added rules).rules (only_entries []) (events_of Manual input)

-- what is said to people after messages, by whether it is told that there is no block and by the text of an input, where each event is
-- answered with the line `a`
unfoldable pub told_people : (no_block : Bool) → Text → Text → RunOutcome
told_people no_block messages input = input_outcome (record { for_people = true; no_block = no_block }) messages (λ event. codes "a\n") input
