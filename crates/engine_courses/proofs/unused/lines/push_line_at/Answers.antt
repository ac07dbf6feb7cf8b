use Rattle.std.proofs.Common.{◌≡◌, ◌++◌, OnOk, append-nil, map, ap, subst, sym, ◌∙◌}
use Rattle.text_bytes.specs.Text.{Text}
use Rattle.engine_courses.proofs.Noting.{line_there, no_row, no_rule}
use Rattle.engine_courses.proofs.unused.lines.push_line_at.Goals as goal

pub returns-in_default : goal.returns-in_default
returns-in_default c =
    let names = map (λ n. n.now) c.args.names.now in
    sym (append-nil c.args.text.now.items)
    ∙ ap (λ line. c.args.text.now.items ++ line) (sym (no_rule names c.args.rules.now c.args.rows.now c.args.place c.in_default.ensures.lookup.3))

pub returns-in_default-get : goal.returns-in_default-get
returns-in_default-get c =
    let names = map (λ n. n.now) c.args.names.now in
    sym (append-nil c.args.text.now.items)
    ∙ ap (λ line. c.args.text.now.items ++ line) (sym (no_row names c.args.rules.now c.args.rows.now c.args.place c.in_default-get.ensures.lookup.3))

pub returns : goal.returns
returns c =
    let names = map (λ n. n.now) c.args.names.now in
    subst (λ (line : Text). OnOk c.push_reported_line.result (c.push_reported_line.new.text.items ≡ c.args.text.now.items ++ line))
    (line_there names c.args.rules.now c.args.rows.now c.args.place c.in-Some.rule.now c.in-Some-get.row.now c.in-Some.ensures.lookup.3.0 c.in-Some-get.ensures.lookup.3.0
    c.in-Some.ensures.lookup.1 c.in-Some-get.ensures.lookup.1)
    c.push_reported_line.ensures
