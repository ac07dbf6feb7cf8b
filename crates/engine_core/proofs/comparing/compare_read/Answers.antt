use Rattle.std.proofs.Common.{◌≡◌, IfErr, IfOk, Ok, refl, subst}
use Rattle.engine_reports.specs.Reports.{IsRefused, shown_rules}
use Rattle.engine_core.proofs.Compared.{new_refused, old_refused}
use Rattle.engine_core.proofs.comparing.compare_read.Goals as goal

pub returns-in-Err-new : goal.returns-in-Err-new
returns-in-Err-new g c old_opened new_opened old_is old_refuses new_is new_refuses =
    let opened = subst (λ t. IfOk t (λ r. old_opened ≡ Ok (shown_rules r.0 (g.L.Lookup.entries r.1)))) c.in-Ok.is old_is in
    let refused = subst (λ t. IfErr t (λ e. IsRefused e new_opened)) c.in-Err-new.is new_refuses in
    new_refused c.args.old_line.now c.args.new_line.now c.args.old_found.now c.args.new_found.now c.in-Err-new.refusal old_opened new_opened _ _ _ _ opened refused
    (record {
      delivers = c.deliver_refusal.ensures.delivers;
      faults = c.deliver_refusal.ensures.faults;
      memory = c.deliver_refusal.ensures.memory;
      unread = refl;
    })

pub returns-in-Err : goal.returns-in-Err
returns-in-Err g c old_opened new_opened old_is old_refuses new_is new_refuses =
    let refused = subst (λ t. IfErr t (λ e. IsRefused e old_opened)) c.in-Err.is old_refuses in
    old_refused c.args.old_line.now c.args.new_line.now c.args.old_found.now c.args.new_found.now c.in-Err.refusal old_opened new_opened _ _ _ refused
    (record {
      delivers = c.deliver_refusal-in-Err.ensures.delivers;
      faults = c.deliver_refusal-in-Err.ensures.faults;
      memory = c.deliver_refusal-in-Err.ensures.memory;
      unread = refl;
    })
