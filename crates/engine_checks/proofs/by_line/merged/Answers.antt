use Rattle.std.proofs.Common.{◌≡◌, ◌∙◌, eqb-true, length, rules, sym, vec_len}
use Rattle.engine_formats.specs.Diagnostics.{shown}
use Rattle.engine_checks.proofs.ByLines.{none_others}
use Rattle.engine_checks.proofs.by_line.merged.Goals as goal

pub returns-then-is_empty : goal.returns-then-is_empty
returns-then-is_empty c =
    let same : vec_len c.args.others ≡ length c.args.others.items = search rules in
    none_others shown (λ d. d.begins) c.args.found.items c.args.others.items (sym same ∙ eqb-true (vec_len c.args.others) 0 (sym c.is_empty.ensures ∙ c.if-is_empty.true))
