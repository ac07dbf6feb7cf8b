use Rattle.std.proofs.Common.{◌≡◌, ap, ◌∙◌}
use Rattle.engine_courses.specs.Rows.{Row, with_fate}
use Rattle.engine_courses.proofs.Noting.{none_is, on_ok, set_is}
use Rattle.engine_courses.proofs.unused.rows.note_at.Goals as goal

pub returns-in-Some : goal.returns-in-Some
returns-in-Some c =
    on_ok c.note.result c.note.ensures
    (λ (e : c.note.new.self ≡ with_fate c.in-Some.row.now c.args.fate). set_is c.args.rows.now.items c.args.place c.note.new.self c.in-Some.row.now c.args.fate c.in-Some.ensures.item.3.0
    (e ∙ ap (λ (row : Row). with_fate row c.args.fate) c.in-Some.ensures.value))

pub returns-in-None : goal.returns-in-None
returns-in-None c = none_is c.args.rows.now.items c.args.place c.args.fate c.in-None.ensures.item.3
