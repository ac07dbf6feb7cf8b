use Rattle.std.proofs.Common.{rules, ◌≡◌, length, map, ap, sym, ◌∙◌}
use Rattle.std.specs.List.{flat_map}
use Rattle.std.proofs.lemmas.List.{length-map}
use Rattle.engine_formats.specs.Diagnostics.{shown}
use Rattle.engine_formats.specs.Formats.{formatted}
use Rattle.engine_checks.specs.Files.{database_reported}
use Rattle.engine_checks.specs.Tables.{database_reported_by}
use Rattle.engine_checks.proofs.Checking.{database_by}
use Rattle.engine_checks.proofs.updates.reported_in_format.Goals as goal

pub returns-clause-text : goal.returns-clause-text
returns-clause-text c =
    let all : map shown c.in_ok-reported.reported.items ≡ flat_map (database_reported c.args.line.now) c.args.files.now =
    c.in_ok-reported.ensures
    ∙ ap (flat_map (database_reported_by c.args.asked.now)) (c.deref.ensures.value ∙ c.in_ok-reads.ensures)
    ∙ database_by c.args.line.now c.args.asked.now c.requires.profile c.requires.accounts c.requires.style c.requires.lint c.requires.ignored c.args.files.now in
    c.in_ok-formatted.ensures
    ∙ ap (λ ds. formatted c.args.line.now.format (map shown ds)) c.deref-2.ensures.value
    ∙ ap (formatted c.args.line.now.format) all

pub returns-clause-count : goal.returns-clause-count
returns-clause-count c =
    let all : map shown c.in_ok-reported.reported.items ≡ flat_map (database_reported c.args.line.now) c.args.files.now =
    c.in_ok-reported.ensures
    ∙ ap (flat_map (database_reported_by c.args.asked.now)) (c.deref.ensures.value ∙ c.in_ok-reads.ensures)
    ∙ database_by c.args.line.now c.args.asked.now c.requires.profile c.requires.accounts c.requires.style c.requires.lint c.requires.ignored c.args.files.now in
    let len : c.len.result ≡ length c.in_ok-reported.reported.items = search rules in
    len ∙ sym (length-map c.in_ok-reported.reported.items shown) ∙ ap length all
