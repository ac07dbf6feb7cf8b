use Rattle.eval_effects.proofs.Fields.{field_by_field}
use Rattle.eval_effects.proofs.since.Since.report.Goals as goal

pub returns : goal.returns
returns c = rw (← c.self.view_is) (field_by_field _ _ _ _
    (record { told = c.contains.result; is_told = c.contains.ensures; is_now = c.since_either-self-inside.ensures })
    (record { told = c.contains-2.result; is_told = c.contains-2.ensures; is_now = c.since_either-self-inside-2.ensures })
    (record { told = c.contains-3.result; is_told = c.contains-3.ensures; is_now = c.since_either-self-inside-3.ensures })
    (record { told = c.contains-4.result; is_told = c.contains-4.ensures; is_now = c.since_either-self-inside-4.ensures })
    (record { told = c.contains-5.result; is_told = c.contains-5.ensures; is_now = c.since_either-self-inside-5.ensures })
    (record { told = c.contains-6.result; is_told = c.contains-6.ensures; is_now = c.since_either-self-inside-6.ensures })
    (record { told = c.contains-7.result; is_told = c.contains-7.ensures; is_now = c.since_either-self-inside-7.ensures })
    (record { told = c.contains-8.result; is_told = c.contains-8.ensures; is_now = c.since_either-self-inside-8.ensures }))
