-- The lines of `--why`: what each rule that was asked for did, or why it was skipped, and why a line that was asked
-- for is not a rule.
use Rattle.std.specs.Prelude.{ℕ, Bool, if◌then◌else◌, is_some, List, [], ◌∷◌, ◌++◌, flat_map, codes, Option, Some, None, option_and_then}
use Rattle.text_bytes.specs.Names.{newline}
use Rattle.file_messages.specs.declared.message.Message.{Message}
use Rattle.text_bytes.specs.Text.{Text}
use Rattle.builtin_devices.specs.Knowledge.{Known}
use Rattle.rule_types.specs.Rules.{Rule}
use Rattle.device_core.specs.Values.{EventValue}
use Rattle.device_core.specs.Tried.{tried}
use Rattle.eval_state.specs.Scenes.{start}
use Rattle.eval_state.specs.declared.scene.Scene.{Scene}
use Rattle.eval_rules.specs.Jumps.{is_passed, sought_after}
use Rattle.eval_rules.specs.Steps.{apply}
use Rattle.eval_effects.specs.Named.{rule_place}
use Rattle.eval_effects.specs.Since.{Since, no_since, since_after}
use Rattle.eval_courses.specs.Courses.{course}
use Rattle.engine_sessions.specs.Places.{place_of, word_part}
use Rattle.file_catalogue.specs.Catalogue.{remark_heading}
use Rattle.file_catalogue.specs.declared.remark.Remark.TheVariants as about
use Rattle.engine_courses.specs.Asked.{is_asked, unread}

-- a line of `--why`: `why FILE:LINE: TEXT`
unfoldable pub why_line : Text → ℕ → Text → Text
why_line file line text = codes "why " ++ place_of file line ++ text ++ newline ∷ []

-- what is reported for a line of rules that was not read, by the message on it
unfoldable pub unread_text : Message → Text
unread_text message = codes "not read: " ++ remark_heading (about.Message message.kind) ++ word_part message.word

-- the lines on messages whose lines were not read
abbrev pub unread_lines : List Message → Text
unread_lines messages = flat_map (λ m. why_line m.file m.line (unread_text m)) messages

-- what is reported for a rule that is skipped, by the rule that jumps
abbrev pub passed_texts : Option Rule → List Text
passed_texts None = []
passed_texts (Some jumping) = (codes "passed over by GOTO of " ++ rule_place jumping) ∷ []

-- a rule with what is reported for it, if it is asked for
abbrev pub reported_if_asked : List Text → Rule → List Text → List (Rule × List Text)
reported_if_asked why r texts = if is_asked why r.file r.line then (r, texts) ∷ [] else []

-- the label that is looked for, if a rule jumps
abbrev pub sought_by : Option Rule → Option Text
sought_by jumping = option_and_then (λ r. r.goto) jumping

-- the rule that jumps, after a rule was reached: this one, if its GOTO is then looked for
abbrev pub jumping_after : Bool → Rule → Option Rule
jumping_after reached r = if is_some (sought_after reached r) then Some r else None

-- of rules one after another, those that are asked for, each with what is reported for it: which rule's jump skips
-- it, or its course; since when keys are final is known from all rules
unfoldable pub reported_from : List Text → Known → Since → Option Rule → List Rule → Scene → List (Rule × List Text)
reported_from why known since jumping [] s = []
reported_from why known since jumping (r ∷ rs) s =
    if is_passed (sought_by jumping) r then reported_if_asked why r (passed_texts jumping) ++ reported_from why known since jumping rs s
    else
    reported_if_asked why r (course known since r s)
    ++ reported_from why known (since_after since r (apply known r s).0.finals) (jumping_after (apply known r s).1 r) rs (apply known r s).0

-- the rules of an event that are tried and asked for, each with what is reported for it
abbrev pub reported_for : List Text → List Rule → Known → EventValue → List (Rule × List Text)
reported_for why rules known event = reported_from why known no_since None (tried event rules) (start event)

-- the lines on a rule
abbrev pub rule_lines : Rule × List Text → Text
rule_lines reported = flat_map (why_line reported.0.file reported.0.line) reported.1

-- the lines of `--why` after the answer to an event: those on lines that were not read, then those on rules in the order of
-- evaluation
unfoldable pub why_lines : List Text → List Message → List Rule → Known → EventValue → Text
why_lines why messages rules known event = unread_lines (unread why messages rules) ++ flat_map rule_lines (reported_for why rules known event)
