use Rattle.std.proofs.Common.{◌∙◌, ap, sym}
use Rattle.std.proofs.lemmas.Result.{err_from_is_err_and}
use Rattle.trie_nodes.specs.Query.{fitting}
use Rattle.hwdb_core.specs.Sources.{entries_of, messages_of}
use Rattle.engine_reports.specs.Outcomes.{query_outcome}
use Rattle.engine_reports.proofs.Bounds.{entries_refused, outcome_few}
use Rattle.engine_reports.proofs.Fitting.{answers_so}
use Rattle.engine_reports.proofs.database.read_answer.Goals as goal

pub returns-in_err-database-clause-refused : goal.returns-in_err-database-clause-refused
returns-in_err-database-clause-refused c =
    let p = err_from_is_err_and c.from_residual-in_err-database.result c.from_residual-in_err-database.ensures.1 in
    rw (p.1, p.2, ← c.in_ok-files.ensures, ← c.deref.ensures.value) (entries_refused (query_outcome c.args.line.now) c.deref.result.now c.in_err-database.field-0.0 c.in_err-database.ensures.too_many)

pub returns-clause-read : goal.returns-clause-read
returns-clause-read c =
    let few = outcome_few (query_outcome c.args.line.now) c.deref.result.now c.in_ok-database.ensures.within in
    let entries = c.new.ensures ∙ c.in_ok-database.ensures.entries ∙ ap (fitting (entries_of c.deref.result.now)) c.as_bytes.ensures.value in
    rw (← c.in_ok-files.ensures, ← c.deref.ensures.value)
    (ap (λ es. query_outcome c.args.line.now es c.in_ok-database.database.messages.items) entries
    ∙ ap (λ ms. query_outcome c.args.line.now (fitting (entries_of c.deref.result.now) c.args.line.now.modalias.now) ms) c.in_ok-database.ensures.messages
    ∙ answers_so c.args.line.now (entries_of c.deref.result.now) (messages_of c.deref.result.now) ∙ sym few)
