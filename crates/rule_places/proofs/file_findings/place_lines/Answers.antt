use Rattle.std.proofs.Common.{[], append-nil, map-id, ap, sym, ◌∙◌}
use Rattle.std.proofs.lemmas.Iterator.Adapters.{YieldsList-from_vec}
use Rattle.std.proofs.lemmas.Iterator.Consumers.{YieldsList-end}
use Rattle.rule_places.specs.Files.{placed_from}
use Rattle.rule_places.proofs.Lining.{one_more_line}
use Rattle.rule_places.proofs.file_findings.place_lines.Goals as goal

pub loop-line-preserved : goal.loop-line-preserved
loop-line-preserved c left =
    one_more_line c.args.kept.now c.loop-line.start c.in_ok-start.start c.loop-line.found.items c.place_line.new.found.items c.loop-line.yielded c.in-Some.line
    c.loop-line.invariant c.in_ok-start.ensures.found c.in_ok-start.ensures.next left

pub returns : goal.returns
returns c =
    let road = YieldsList-from_vec {s = c.into_iter-line-iterator.result} c.args.lines.items (cc) (cc) in
    let t = YieldsList-end road c.loop-line.yielded c.loop-line.line-iterator c.loop-line.yielded_by c.next.result c.next.new.self c.in-None.is c.next.ensures.steps in
    sym (append-nil c.loop-line.found.items)
    ∙ c.loop-line.invariant []
    ∙ ap (placed_from c.args.kept.now 0) (append-nil c.loop-line.yielded ∙ sym (map-id c.loop-line.yielded) ∙ t.0)
