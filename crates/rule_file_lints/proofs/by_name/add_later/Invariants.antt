use Rattle.std.proofs.Common.{◌≡◌, drop, map}
use Rattle.text_tables.specs.Texts.{with_texts}
use Rattle.rule_file_lints.specs.ByName.{later_in}
use Rattle.rule_file_lints.proofs.by_name.add_later.Given as goal

abbrev pub invariant-loop-row : goal.invariant-loop-row
invariant-loop-row l =
    with_texts l.names (later_in (map (λ row. (row.0.now, row.1.now)) (drop l.row-index l.rows)) l.path)
    ≡ with_texts l.initial.names (later_in (map (λ row. (row.0.now, row.1.now)) l.rows) l.path)
