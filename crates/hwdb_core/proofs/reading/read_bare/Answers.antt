use Rattle.std.proofs.Common.{sym, ◌∙◌, ap}
use Rattle.hwdb_core.specs.Found.{onto}
use Rattle.hwdb_core.proofs.Joining.{onto_nothing}
use Rattle.hwdb_core.proofs.Showing.{bare_with_properties, bare_without_matches, empty_at_start}
use Rattle.hwdb_core.proofs.reading.read_bare.Goals as goal

pub returns-in_default : goal.returns-in_default
returns-in_default c =
    sym (onto_nothing c.args.found.now)
    ∙ ap (onto c.args.found.now) (sym (bare_with_properties c.args.file.now c.args.matches.now c.args.properties.now (cc)))

pub returns-in_default-2 : goal.returns-in_default-2
returns-in_default-2 c =
    sym (onto_nothing c.args.found.now)
    ∙ ap (onto c.args.found.now) (sym (bare_without_matches c.args.file.now c.args.matches.now c.args.properties.now (empty_at_start c.args.matches.now (rw c.in_default.is at (sym c.first.ensures.value)))))
