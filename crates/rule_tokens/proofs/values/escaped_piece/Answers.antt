use Rattle.std.proofs.Common.{rules, ◌≡◌, ◌∙◌}
use Rattle.std.specs.Prelude.{slice_index}
use Rattle.rule_tokens.proofs.EscapeLemmas.{backslash_means}
use Rattle.rule_tokens.proofs.values.escaped_piece.Goals as goal

pub returns-in-92 : goal.returns-in-92
returns-in-92 c = let e : slice_index c.args.text.now 0 ≡ 92 = search rules in backslash_means c.args.text.now c.in-92.len_at_least e ∙ c.escape_of.ensures
