use Rattle.std.proofs.Common.{List, ◌∙◌, ap, map}
use Rattle.rule_types.specs.Jumps.{landings}
use Rattle.rule_types.specs.declared.jumps.Landing.{Landing}
use Rattle.rule_core.specs.Rules.{Reading, names_of, reading_of}
use Rattle.rule_core.proofs.Noting.{lines_relanded}
use Rattle.rule_core.proofs.readings.read_lines.Goals as goal

pub returns : goal.returns
returns c =
    lines_relanded (map (reading_of c.args.profile) c.args.lines.now) c.in_ok-landed.landed.items c.land.new.landed.items c.deref-2.result.now
    c.in_ok-landed.ensures
    (c.deref-2.ensures.value ∙ c.in_ok-landings.ensures ∙ ap (λ (ls : List (Reading × Landing)). landings (map (λ x. names_of x.0.read) ls)) c.deref.ensures.value)
    c.land.ensures
