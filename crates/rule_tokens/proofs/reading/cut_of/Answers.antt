use Rattle.rule_tokens.specs.Cuts.{copied}
use Rattle.rule_tokens.specs.Names.{long_names_as, short_names_as}
use Rattle.rule_tokens.proofs.FirstPieces.{found_leaves, seen_shorter}
use Rattle.rule_tokens.proofs.reading.cut_of.Goals as goal

pub returns-in-36-clause-shorter : goal.returns-in-36-clause-shorter
returns-in-36-clause-shorter c =
    seen_shorter (λ x. (copied x.0, x.1.now)) c.args.after.now c.substituted.result _ c.substituted.ensures
    (found_leaves c.args.profile (long_names_as c.args.profile) c.args.after.now _ c.long_name.ensures)

pub returns-in-37-clause-shorter : goal.returns-in-37-clause-shorter
returns-in-37-clause-shorter c =
    seen_shorter (λ x. (copied x.0, x.1.now)) c.args.after.now c.substituted-in-37.result _ c.substituted-in-37.ensures
    (found_leaves c.args.profile (short_names_as c.args.profile) c.args.after.now _ c.short_name.ensures)
