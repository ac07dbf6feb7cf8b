use Rattle.std.proofs.Common.{◌∙◌, ap}
use Rattle.std.proofs.lemmas.Result.{err_from_is_err_and}
use Rattle.hwdb_core.specs.Found.{found_in, join}
use Rattle.hwdb_core.specs.Parts.{bare_found, cut_found, early_found, match_found, property_found, rest_found}
use Rattle.hwdb_core.proofs.Joining.{first_failed, returned, same_failed, same_part, second_failed, second_part}
use Rattle.hwdb_core.proofs.Showing.{cut_joined}
use Rattle.hwdb_core.proofs.reading.read_paragraph.Goals as goal

pub returns-in_err-read_early : goal.returns-in_err-read_early
returns-in_err-read_early c =
    let p = err_from_is_err_and c.from_residual.result c.from_residual.ensures.1 in
    returned c.args.found.now c.read_early.new.found _ c.from_residual.result p.0 c.in_err-read_early.field-0.0 p.1 p.2
    (same_failed c.args.found.now _ _ c.in_err-read_early.field-0.0 (cut_joined c.args.file.now (record { early = c.parts_of-parts.result.early.now; matches = c.parts_of-parts.result.matches.now; properties = c.parts_of-parts.result.properties.now; rest = c.parts_of-parts.result.rest.now }) ∙ ap (cut_found c.args.file.now) c.parts_of-parts.ensures)
    (first_failed c.args.found.now (found_in (early_found c.args.file.now) c.parts_of-parts.result.early.now) (join (bare_found c.args.file.now c.parts_of-parts.result.matches.now c.parts_of-parts.result.properties.now) (join (found_in (match_found c.args.file.now c.parts_of-parts.result.properties.now) c.parts_of-parts.result.matches.now) (join (found_in (property_found c.args.file.now) c.parts_of-parts.result.properties.now) (rest_found c.args.file.now c.parts_of-parts.result.rest.now)))) c.in_err-read_early.field-0.0 c.in_err-read_early.ensures))

pub returns-in_err-read_bare : goal.returns-in_err-read_bare
returns-in_err-read_bare c =
    let p = err_from_is_err_and c.from_residual-in_err-read_bare.result c.from_residual-in_err-read_bare.ensures.1 in
    returned c.args.found.now c.read_bare.new.found _ c.from_residual-in_err-read_bare.result p.0 c.in_err-read_bare.field-0.0 p.1 p.2
    (same_failed c.args.found.now _ _ c.in_err-read_bare.field-0.0 (cut_joined c.args.file.now (record { early = c.parts_of-parts.result.early.now; matches = c.parts_of-parts.result.matches.now; properties = c.parts_of-parts.result.properties.now; rest = c.parts_of-parts.result.rest.now }) ∙ ap (cut_found c.args.file.now) c.parts_of-parts.ensures)
    (second_failed c.args.found.now c.read_early.new.found (found_in (early_found c.args.file.now) c.parts_of-parts.result.early.now) (join (bare_found c.args.file.now c.parts_of-parts.result.matches.now c.parts_of-parts.result.properties.now) (join (found_in (match_found c.args.file.now c.parts_of-parts.result.properties.now) c.parts_of-parts.result.matches.now) (join (found_in (property_found c.args.file.now) c.parts_of-parts.result.properties.now) (rest_found c.args.file.now c.parts_of-parts.result.rest.now)))) c.in_err-read_bare.field-0.0 c.in_ok-read_early.ensures
    (first_failed c.read_early.new.found (bare_found c.args.file.now c.parts_of-parts.result.matches.now c.parts_of-parts.result.properties.now) (join (found_in (match_found c.args.file.now c.parts_of-parts.result.properties.now) c.parts_of-parts.result.matches.now) (join (found_in (property_found c.args.file.now) c.parts_of-parts.result.properties.now) (rest_found c.args.file.now c.parts_of-parts.result.rest.now))) c.in_err-read_bare.field-0.0 c.in_err-read_bare.ensures)))

pub returns-in_err-read_matches : goal.returns-in_err-read_matches
returns-in_err-read_matches c =
    let p = err_from_is_err_and c.from_residual-in_err-read_matches.result c.from_residual-in_err-read_matches.ensures.1 in
    returned c.args.found.now c.read_matches.new.found _ c.from_residual-in_err-read_matches.result p.0 c.in_err-read_matches.field-0.0 p.1 p.2
    (same_failed c.args.found.now _ _ c.in_err-read_matches.field-0.0 (cut_joined c.args.file.now (record { early = c.parts_of-parts.result.early.now; matches = c.parts_of-parts.result.matches.now; properties = c.parts_of-parts.result.properties.now; rest = c.parts_of-parts.result.rest.now }) ∙ ap (cut_found c.args.file.now) c.parts_of-parts.ensures)
    (second_failed c.args.found.now c.read_early.new.found (found_in (early_found c.args.file.now) c.parts_of-parts.result.early.now) (join (bare_found c.args.file.now c.parts_of-parts.result.matches.now c.parts_of-parts.result.properties.now) (join (found_in (match_found c.args.file.now c.parts_of-parts.result.properties.now) c.parts_of-parts.result.matches.now) (join (found_in (property_found c.args.file.now) c.parts_of-parts.result.properties.now) (rest_found c.args.file.now c.parts_of-parts.result.rest.now)))) c.in_err-read_matches.field-0.0 c.in_ok-read_early.ensures
    (second_failed c.read_early.new.found c.read_bare.new.found (bare_found c.args.file.now c.parts_of-parts.result.matches.now c.parts_of-parts.result.properties.now) (join (found_in (match_found c.args.file.now c.parts_of-parts.result.properties.now) c.parts_of-parts.result.matches.now) (join (found_in (property_found c.args.file.now) c.parts_of-parts.result.properties.now) (rest_found c.args.file.now c.parts_of-parts.result.rest.now))) c.in_err-read_matches.field-0.0 c.in_ok-read_bare.ensures
    (first_failed c.read_bare.new.found (found_in (match_found c.args.file.now c.parts_of-parts.result.properties.now) c.parts_of-parts.result.matches.now) (join (found_in (property_found c.args.file.now) c.parts_of-parts.result.properties.now) (rest_found c.args.file.now c.parts_of-parts.result.rest.now)) c.in_err-read_matches.field-0.0 c.in_err-read_matches.ensures))))

pub returns-in_err-read_properties : goal.returns-in_err-read_properties
returns-in_err-read_properties c =
    let p = err_from_is_err_and c.from_residual-in_err-read_properties.result c.from_residual-in_err-read_properties.ensures.1 in
    returned c.args.found.now c.read_properties.new.found _ c.from_residual-in_err-read_properties.result p.0 c.in_err-read_properties.field-0.0 p.1 p.2
    (same_failed c.args.found.now _ _ c.in_err-read_properties.field-0.0 (cut_joined c.args.file.now (record { early = c.parts_of-parts.result.early.now; matches = c.parts_of-parts.result.matches.now; properties = c.parts_of-parts.result.properties.now; rest = c.parts_of-parts.result.rest.now }) ∙ ap (cut_found c.args.file.now) c.parts_of-parts.ensures)
    (second_failed c.args.found.now c.read_early.new.found (found_in (early_found c.args.file.now) c.parts_of-parts.result.early.now) (join (bare_found c.args.file.now c.parts_of-parts.result.matches.now c.parts_of-parts.result.properties.now) (join (found_in (match_found c.args.file.now c.parts_of-parts.result.properties.now) c.parts_of-parts.result.matches.now) (join (found_in (property_found c.args.file.now) c.parts_of-parts.result.properties.now) (rest_found c.args.file.now c.parts_of-parts.result.rest.now)))) c.in_err-read_properties.field-0.0 c.in_ok-read_early.ensures
    (second_failed c.read_early.new.found c.read_bare.new.found (bare_found c.args.file.now c.parts_of-parts.result.matches.now c.parts_of-parts.result.properties.now) (join (found_in (match_found c.args.file.now c.parts_of-parts.result.properties.now) c.parts_of-parts.result.matches.now) (join (found_in (property_found c.args.file.now) c.parts_of-parts.result.properties.now) (rest_found c.args.file.now c.parts_of-parts.result.rest.now))) c.in_err-read_properties.field-0.0 c.in_ok-read_bare.ensures
    (second_failed c.read_bare.new.found c.read_matches.new.found (found_in (match_found c.args.file.now c.parts_of-parts.result.properties.now) c.parts_of-parts.result.matches.now) (join (found_in (property_found c.args.file.now) c.parts_of-parts.result.properties.now) (rest_found c.args.file.now c.parts_of-parts.result.rest.now)) c.in_err-read_properties.field-0.0 c.in_ok-read_matches.ensures
    (first_failed c.read_matches.new.found (found_in (property_found c.args.file.now) c.parts_of-parts.result.properties.now) (rest_found c.args.file.now c.parts_of-parts.result.rest.now) c.in_err-read_properties.field-0.0 c.in_err-read_properties.ensures)))))

pub returns : goal.returns
returns c =
    same_part c.args.found.now c.read_rest.new.found _ _ c.read_rest.result (cut_joined c.args.file.now (record { early = c.parts_of-parts.result.early.now; matches = c.parts_of-parts.result.matches.now; properties = c.parts_of-parts.result.properties.now; rest = c.parts_of-parts.result.rest.now }) ∙ ap (cut_found c.args.file.now) c.parts_of-parts.ensures)
    (second_part c.args.found.now c.read_early.new.found c.read_rest.new.found (found_in (early_found c.args.file.now) c.parts_of-parts.result.early.now) (join (bare_found c.args.file.now c.parts_of-parts.result.matches.now c.parts_of-parts.result.properties.now) (join (found_in (match_found c.args.file.now c.parts_of-parts.result.properties.now) c.parts_of-parts.result.matches.now) (join (found_in (property_found c.args.file.now) c.parts_of-parts.result.properties.now) (rest_found c.args.file.now c.parts_of-parts.result.rest.now)))) c.read_rest.result c.in_ok-read_early.ensures
    (second_part c.read_early.new.found c.read_bare.new.found c.read_rest.new.found (bare_found c.args.file.now c.parts_of-parts.result.matches.now c.parts_of-parts.result.properties.now) (join (found_in (match_found c.args.file.now c.parts_of-parts.result.properties.now) c.parts_of-parts.result.matches.now) (join (found_in (property_found c.args.file.now) c.parts_of-parts.result.properties.now) (rest_found c.args.file.now c.parts_of-parts.result.rest.now))) c.read_rest.result c.in_ok-read_bare.ensures
    (second_part c.read_bare.new.found c.read_matches.new.found c.read_rest.new.found (found_in (match_found c.args.file.now c.parts_of-parts.result.properties.now) c.parts_of-parts.result.matches.now) (join (found_in (property_found c.args.file.now) c.parts_of-parts.result.properties.now) (rest_found c.args.file.now c.parts_of-parts.result.rest.now)) c.read_rest.result c.in_ok-read_matches.ensures
    (second_part c.read_matches.new.found c.read_properties.new.found c.read_rest.new.found (found_in (property_found c.args.file.now) c.parts_of-parts.result.properties.now) (rest_found c.args.file.now c.parts_of-parts.result.rest.now) c.read_rest.result c.in_ok-read_properties.ensures c.read_rest.ensures))))
