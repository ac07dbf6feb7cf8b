use Rattle.std.proofs.Common.{◌≡◌, [], List, ◌++◌, map, append-nil, map-id, ap, sym, ◌∙◌}
use Rattle.std.proofs.lemmas.Iterator.Adapters.{YieldsList-from_vec}
use Rattle.std.proofs.lemmas.Iterator.Consumers.{YieldsList-end}
use Rattle.rule_remarks.specs.ByLine.{by_line}
use Rattle.engine_formats.specs.Diagnostics.{shown}
use Rattle.engine_formats.specs.declared.diagnostic.Diagnostic.{Diagnostic}
use Rattle.engine_checks.proofs.ByLines.{made_by_line, one_by_line}
use Rattle.engine_checks.proofs.by_line.by_line.Goals as goal

pub loop-diagnostic-preserved : goal.loop-diagnostic-preserved
loop-diagnostic-preserved c left =
    one_by_line (λ (d : Diagnostic). d.begins) c.args.others.items c.loop-diagnostic.all.items c.move_before.new.all.items c.loop-diagnostic.rest.items c.move_before.new.rest.items c.push.new.self.items c.loop-diagnostic.yielded c.in-Some.diagnostic
    c.loop-diagnostic.invariant c.in_ok-move_before.ensures.moved c.in_ok-move_before.ensures.left c.in_ok-push.ensures.items left

pub returns : goal.returns
returns c =
    let road = YieldsList-from_vec {s = c.into_iter-diagnostic-iterator.result} c.args.found.items (cc) (cc) in
    let t = YieldsList-end road c.loop-diagnostic.yielded c.loop-diagnostic.diagnostic-iterator c.loop-diagnostic.yielded_by c.next.result c.next.new.self c.in-None.is c.next.ensures.steps in
    let way = YieldsList-from_vec {s = c.into_iter-other-iterator.result} c.loop-diagnostic.rest.items (cc) (cc) in
    let u = YieldsList-end way c.loop-other.yielded c.loop-other.other-iterator c.loop-other.yielded_by c.next-in-loop-other.result c.next-in-loop-other.new.self c.in-None-other.is c.next-in-loop-other.ensures.steps in
    let found : c.loop-diagnostic.yielded ≡ c.args.found.items = sym (map-id c.loop-diagnostic.yielded) ∙ t.0 in
    let rest : c.loop-other.yielded ≡ c.loop-diagnostic.rest.items = sym (map-id c.loop-other.yielded) ∙ u.0 in
    ap (λ (ds : List Diagnostic). map shown ds)
    (c.loop-other.invariant
    ∙ ap (λ (ds : List Diagnostic). c.loop-diagnostic.all.items ++ ds) rest
    ∙ c.loop-diagnostic.invariant []
    ∙ ap (λ (ds : List Diagnostic). by_line (λ d. d.begins) ds c.args.others.items) (append-nil c.loop-diagnostic.yielded ∙ found))
    ∙ made_by_line shown (λ d. d.begins) c.args.found.items c.args.others.items
