use Rattle.std.proofs.Common.{◌≡◌, true, ◌∙◌, sym, ap, subst}
use Rattle.std.proofs.lemmas.Result.{err_from_is_err_and}
use Rattle.hwdb_core.specs.Found.{Held, found_in, onto}
use Rattle.hwdb_core.specs.Parts.{file_found}
use Rattle.trie_nodes.specs.Orders.{Rising}
use Rattle.hwdb_core.proofs.Bounds.{within_few}
use Rattle.hwdb_core.proofs.Orders.{rising_counting}
use Rattle.hwdb_core.proofs.Totals.{beyond_at, read_entries, read_messages, within}
use Rattle.hwdb_core.proofs.database.read_counting.Goals as goal

pub returns-clause-entries : goal.returns-clause-entries
returns-clause-entries c =
    c.into_lists-entries.ensures.entries ∙ read_entries _ c.read_files.new.found c.args.files.now (c.in_ok-read_files.ensures ∙ ap (λ (x : Held). onto x (found_in file_found c.args.files.now)) c.new-found.ensures)

pub returns-clause-rising : goal.returns-clause-rising
returns-clause-rising c =
    subst Rising (sym (c.into_lists-entries.ensures.entries ∙ read_entries _ c.read_files.new.found c.args.files.now (c.in_ok-read_files.ensures ∙ ap (λ (x : Held). onto x (found_in file_found c.args.files.now)) c.new-found.ensures))) (rising_counting _ c.args.files.now)

pub returns-clause-messages : goal.returns-clause-messages
returns-clause-messages c =
    c.into_lists-entries.ensures.messages ∙ read_messages _ c.read_files.new.found c.args.files.now (c.in_ok-read_files.ensures ∙ ap (λ (x : Held). onto x (found_in file_found c.args.files.now)) c.new-found.ensures)

pub returns-clause-within : goal.returns-clause-within
returns-clause-within c =
    within _ c.read_files.new.found c.args.files.now (c.in_ok-read_files.ensures ∙ ap (λ (x : Held). onto x (found_in file_found c.args.files.now)) c.new-found.ensures) c.into_lists-entries.ensures.kept (c.names_fit.ensures.0 c.if-not-names_fit.false)

pub returns-in_err-read_files-clause-too_many : goal.returns-in_err-read_files-clause-too_many
returns-in_err-read_files-clause-too_many c =
    let p = err_from_is_err_and c.from_residual.result c.from_residual.ensures.1 in
    rw p.1 (λ t. beyond_at _ c.new-found.result c.args.files.now c.in_err-read_files.field-0.0 c.new-found.ensures c.in_err-read_files.ensures (sym p.2 ∙ t))

pub returns-then-not-names_fit-clause-too_many : goal.returns-then-not-names_fit-clause-too_many
returns-then-not-names_fit-clause-too_many c is within =
    let fits : c.names_fit.result ≡ true = c.names_fit.ensures.1 (within_few c.args.files.now within).name_bytes in
    cc
