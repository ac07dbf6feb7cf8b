-- What is reported for an act, by what was known before it and by what came of it.
use Rattle.std.proofs.Common.{◌≡◌, Bool, List, ◌++◌, ap}
use Rattle.text_tables.specs.Pairs.{Pair}
use Rattle.builtin_devices.specs.Knowledge.{Known}
use Rattle.rule_types.specs.declared.part.Act.{Act}
use Rattle.rule_types.specs.Rules.{Rule}
use Rattle.eval_state.specs.declared.scene.Scene.{Scene}
use Rattle.eval_acts.specs.Acts.{act_step}
use Rattle.eval_rules.specs.Steps.{Went}
use Rattle.eval_courses.specs.Acts.{act_kind_report, act_report, has_noted}
use Rattle.eval_courses.specs.Keys.{act_key}
use Rattle.eval_courses.specs.Looks.{met}
use Rattle.eval_courses.specs.Inner.{done_report, report_after}
use Rattle.eval_courses.specs.declared.acts.ReportBefore.{ReportBefore}

-- what is reported for an act that was done, by its result
pub done_is : (act : Act) (before : ReportBefore) (s t : Scene) (on : Bool) (went : Went) → (t, on) ≡ went
    → act_key act ++ met on ++ report_after before (has_noted s t) t.state.env ≡ done_report act before s went
unfolding done_report
done_is act before s t on went e = ap (λ (w : Went). act_key act ++ met w.1 ++ report_after before (has_noted s w.0) w.0.state.env) e

-- what is reported for an act is what was reported before it, and what it set
pub act_is : (known : Known) (r : Rule) (act : Act) (s : Scene) (before : ReportBefore)
    → ((noted : Bool) (env : List Pair) → report_after before noted env ≡ act_kind_report act.kind s.state noted env)
    → done_report act before s (act_step known r act s) ≡ act_report known r act s
unfolding act_report done_report
act_is known r act s before reported =
    let after : Scene = (act_step known r act s).0 in
    ap (λ text. act_key act ++ met (act_step known r act s).1 ++ text) (reported (has_noted s after) after.state.env)
