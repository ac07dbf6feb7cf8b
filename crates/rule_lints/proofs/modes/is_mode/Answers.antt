use Rattle.std.proofs.Common.{◌≡◌, is_some, sym, ◌∙◌}
use Rattle.rule_types.specs.Topics.{is_mode, mode_of}
use Rattle.rule_lints.proofs.Octal.{bare_mode}
use Rattle.rule_lints.proofs.modes.is_mode.Goals as goal

pub returns-then-not-is_indented : goal.returns-then-not-is_indented
returns-then-not-is_indented c =
    let bare : is_some (mode_of c.args.text.now) ≡ is_mode c.args.text.now = bare_mode c.args.text.now (sym c.is_indented.ensures ∙ c.if-not-is_indented.true) in
    cc
