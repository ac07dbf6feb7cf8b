use Rattle.std.proofs.Common.{sym, ◌∙◌, ap}
use Rattle.hwdb_core.specs.Found.{onto}
use Rattle.hwdb_core.proofs.Joining.{onto_nothing}
use Rattle.hwdb_core.proofs.Showing.{empty_at_start, no_rest}
use Rattle.hwdb_core.proofs.reading.read_rest.Goals as goal

pub returns-in-None : goal.returns-in-None
returns-in-None c =
    sym (onto_nothing c.args.found.now)
    ∙ ap (onto c.args.found.now) (sym (no_rest c.args.file.now c.args.rest.now (empty_at_start c.args.rest.now (sym c.in-None.ensures.value))))
