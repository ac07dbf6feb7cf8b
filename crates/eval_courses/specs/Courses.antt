-- The course of a rule over a scene: the keys that were reached, each with what it met, and how the rule ended.
use Rattle.std.specs.Prelude.{Bool, if◌then◌else◌, List, [], ◌∷◌, ◌++◌, codes}
use Rattle.text_bytes.specs.Text.{Text}
use Rattle.builtin_devices.specs.Knowledge.{Known}
use Rattle.rule_types.specs.Rules.{Rule}
use Rattle.rule_types.specs.declared.part.Act.{Act}
use Rattle.rule_types.specs.declared.part.Comparison.{Comparison}
use Rattle.rule_types.specs.declared.part.PlainMatch.{PlainMatch}
use Rattle.eval_state.specs.declared.scene.Scene.{Scene}
use Rattle.eval_acts.specs.Acts.{act_step}
use Rattle.eval_rules.specs.Idle.{is_idle}
use Rattle.eval_rules.specs.Steps.{Went, if_proceeding, plain_step, result_step, search, before_sets, walk}
use Rattle.eval_effects.specs.Effects.{ending}
use Rattle.eval_effects.specs.Since.{Since}
use Rattle.eval_courses.specs.Acts.{act_report}
use Rattle.eval_courses.specs.Looks.{plain_report, result_report}
use Rattle.eval_courses.specs.Skipped.{skipped_text}
use Rattle.eval_courses.specs.Upward.{search_reports}

-- what is reported after something that stops the rule, or lets it go on
abbrev pub reports_if_proceeding : (Scene → List Text) → Went → List Text
reports_if_proceeding reported went = if went.1 then reported went.0 else []

-- the texts of the parts of a rule that are of one step, one after another, up to the first that stops the rule
unfoldable pub walk_reports : {P : Type 0} → (P → Scene → Went) → (P → Scene → List Text) → List P → Scene → List Text
walk_reports step reported [] s = []
walk_reports step reported (p ∷ ps) s = reported p s ++ reports_if_proceeding (walk_reports step reported ps) (step p s)

-- the matches of the event
abbrev pub event_reports : Rule → List PlainMatch → Scene → List Text
event_reports r parts s = walk_reports (plain_step r) (λ part s. plain_report part s.state ∷ []) parts s

-- what acts
abbrev pub act_reports : Known → Rule → List Act → Scene → List Text
act_reports known r parts s = walk_reports (act_step known r) (λ act s. act_report known r act s ∷ []) parts s

-- the matches of the result of the last program
abbrev pub result_reports : List Comparison → Scene → List Text
result_reports parts s = walk_reports result_step (λ part s. result_report part s.state ∷ []) parts s

-- a rule after the matches of the event, after the search, and after what acts
abbrev pub matched : Rule → Scene → Went
matched r s = walk (plain_step r) r.plain s

abbrev pub searched : Rule → Scene → Went
searched r s = if_proceeding (search r.up) (matched r s)

abbrev pub acted : Known → Rule → Scene → Went
acted known r s = if_proceeding (walk (act_step known r) r.acts) (searched r s)

-- the keys of a rule that were reached, in the order of evaluation
unfoldable pub key_reports : Known → Rule → Scene → List Text
key_reports known r s =
    event_reports r r.plain s
    ++ reports_if_proceeding (λ t. search_reports (is_idle r t.state.event) r.up t.state) (matched r s)
    ++ reports_if_proceeding (act_reports known r r.acts) (searched r s)
    ++ reports_if_proceeding (result_reports r.results) (acted known r s)

-- how a rule whose keys let it go on ended: nothing in it counts for the event, so that it is skipped, or its end was
-- reached
abbrev pub end_reached : Bool → Since → Rule → Scene → Text
end_reached idle since r s = if idle then skipped_text r s.state.event else ending since r s

-- how a rule ended: it was stopped, or all its keys let it go on
abbrev pub end_of : Bool → Since → Rule → Went → Text
end_of idle since r went = if went.1 then end_reached idle since r went.0 else codes "stops there"

-- the course of a rule
unfoldable pub course : Known → Since → Rule → Scene → List Text
course known since r s = key_reports known r s ++ end_of (is_idle r s.state.event) since r (before_sets known r s) ∷ []
