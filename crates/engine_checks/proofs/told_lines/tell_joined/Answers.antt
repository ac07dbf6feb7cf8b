use Rattle.std.proofs.Common.{◌++◌, List, Option, ℕ, map, ap, ◌∙◌}
use Rattle.std.specs.List.{zip}
use Rattle.rule_types.specs.Jumps.{landings}
use Rattle.rule_core.specs.Lines.{NumberedLine}
use Rattle.rule_core.specs.Rules.{names_of, reading_of}
use Rattle.engine_checks.specs.Reported.{Asked}
use Rattle.engine_checks.specs.Told.{names_told, open_said, told}
use Rattle.engine_checks.proofs.Telling.{joined_parts}
use Rattle.engine_checks.proofs.told_lines.tell_joined.Goals as goal

pub returns-clause-text : goal.returns-clause-text
returns-clause-text c =
    let asked = c.args.asked.now in
    let name = c.args.name.now in
    joined_parts asked name c.args.joined.now c.new-lines.result c.deref.result.now c.in_ok-names.names c.deref-2.result.now c.in_ok-notes.notes.silent.items _ _ c.args.text.now.items c.tell_lines.new.text.items c.tell_open.new.text.items
    (c.new-lines.ensures
    ∙ ap (λ (a : Asked). zip (map (reading_of a.profile) c.lines-2.result.now) c.deref.result.now) c.asked.view_is
    ∙ ap (λ (ls : List NumberedLine). zip (map (reading_of asked.profile) ls) c.deref.result.now) c.lines-2.ensures)
    (c.deref.ensures.value
    ∙ c.in_ok-notes.ensures.landings
    ∙ ap (λ (a : Asked). landings (map (λ r. names_of r.read) (map (reading_of a.profile) c.lines.result.now))) c.asked.view_is
    ∙ ap (λ (ls : List NumberedLine). landings (map (λ r. names_of r.read) (map (reading_of asked.profile) ls))) c.lines.ensures)
    (c.in_ok-names.ensures ∙ ap (names_told asked name) c.copied.ensures)
    c.in_ok-notes.ensures.silent
    c.deref-2.ensures.value
    (ap (λ (a : Asked). a.profile) c.asked.view_is)
    c.lines.ensures
    c.in_ok-tell_lines.ensures
    (c.in_ok-tell_open.ensures ∙ ap (λ (o : Option ℕ). c.tell_lines.new.text.items ++ told asked (open_said name o)) c.open_at.ensures)
