-- Serves inner proofs only: what is known about an act before it is done, what a match looks at as it is borrowed,
-- and what is reported and asked moment by moment.
use Rattle.std.specs.Prelude.{ℕ, ◌+◌, Bool, if◌then◌else◌, List, [], ◌∷◌, ◌++◌, map, option_map, codes}
use Rattle.text_bytes.specs.Text.{Text}
use Rattle.text_tables.specs.Pairs.{Pair}
use Rattle.rule_types.specs.declared.part.Act.{Act}
use Rattle.eval_state.specs.declared.scene.Scene.{Scene}
use Rattle.eval_rendering.specs.Holding.{Subject, one, constant, never, unread}
use Rattle.eval_rendering.specs.Borrowed.{borrowed_subject}
use Rattle.eval_rendering.specs.Subjects.{members_by, subsystem_by}
use Rattle.eval_rules.specs.Idle.{is_idle}
use Rattle.eval_rules.specs.Steps.{Went}
use Rattle.eval_rules.specs.Watched.{Happening, acted, assigned, comparing, entered, left, meeting, passed, searching, skipped, stopped}
use Rattle.eval_courses.specs.Acts.{has_noted, noted_report, taken_report}
use Rattle.eval_courses.specs.Keys.{act_key}
use Rattle.eval_courses.specs.Looks.{met, plain_report, result_report}
use Rattle.eval_courses.specs.Questions.{act_asks, with_asked}
use Rattle.eval_courses.specs.Skipped.{skipped_text}
use Rattle.eval_courses.specs.Upward.{search_reports}
use Rattle.eval_courses.specs.declared.acts.ReportBefore.{ReportBefore}
use Rattle.eval_courses.specs.declared.acts.ReportBefore.TheVariants as before
use Rattle.eval_courses.specs.declared.fate.Fate.{Fate}
use Rattle.eval_courses.specs.declared.fate.Fate.TheVariants.{Passed, Stopped, Met}
use Rattle.eval_courses.specs.declared.subjects.Subject as borrowed
use Rattle.eval_courses.specs.declared.subjects.Subject.TheVariants as borrowed_as

-- what is reported for an act, by whether it left a note and the properties after it
abbrev pub report_after : ReportBefore → (noted : Bool) → List Pair → Text
report_after (before.Whole text) noted env = text
report_after (before.Taking text properties) noted env = text ++ taken_report properties env
report_after (before.Importing properties) noted env = noted_report noted properties env
report_after (before.Testing path) noted env = if noted then codes "not made: " ++ path else path

-- an act that was done, whether its rule goes on, and what it met
unfoldable pub done_report : Act → ReportBefore → Scene → Went → Text
done_report act reported s went = act_key act ++ met went.1 ++ report_after reported (has_noted s went.0) went.0.state.env

-- what a match looks at
abbrev pub subject_of : borrowed.Subject → Subject
subject_of (borrowed_as.One text) = one text.now
subject_of (borrowed_as.Subsystem profile text) = subsystem_by profile text.now
subject_of (borrowed_as.Attribute value) = borrowed_subject value
subject_of (borrowed_as.Constant value) = constant (option_map (λ t. t.now) value)
subject_of (borrowed_as.Members profile texts) = members_by profile (map (λ t. t.items) texts.now)
subject_of (borrowed_as.Given profile texts) = members_by profile (map (λ t. t.now) texts.now)
subject_of borrowed_as.Unknown = never
subject_of borrowed_as.Unread = unread

-- what is reported of a rule at a moment
abbrev pub moment_reports : Happening → Scene → List Text
moment_reports (meeting r part) s = plain_report part s.state ∷ []
moment_reports (searching r) s = search_reports (is_idle r s.state.event) r.up s.state
moment_reports (comparing r part) s = result_report part s.state ∷ []
moment_reports (stopped r) s = codes "stops there" ∷ []
moment_reports (skipped r) s = skipped_text r s.state.event ∷ []
moment_reports happening s = []

-- what was asked, once more happened: an act asks before it is done
abbrev pub asking : List Text → Happening → Scene → List Text
asking asked (acted r act went) s = with_asked asked (act_asks act.kind s.state)
asking asked happening s = asked

-- how many keys of the rule that was reached last were begun, and what became of the rules until now
pub record Noted : Type 0 where
  pub begun : ℕ
  pub fates : List Fate

-- one more fate is known
abbrev pub with_fate : Noted → Fate → Noted
with_fate w f = record w { fates = w.fates ++ f ∷ [] }

-- one more key was begun
abbrev pub with_key : Noted → Noted
with_key w = record w { begun = w.begun + 1 }

-- what is known of the fates of rules once more happened
abbrev pub noting : Noted → Happening → Scene → Noted
noting w (passed r) s = with_fate w Passed
noting w (entered r) s = record w { begun = 0 }
noting w (searching r) s = with_key w
noting w (stopped r) s = with_fate w (Stopped w.begun)
noting w (skipped r) s = with_fate w Met
noting w (meeting r part) s = with_key w
noting w (acted r act went) s = with_key w
noting w (comparing r part) s = with_key w
noting w (assigned r made) s = with_fate w Met
noting w (left r reached) s = w
