use Rattle.std.proofs.Common.{◌≡◌, ◌∷◌, Bool, List, rules, subst, sym}
use Rattle.rule_remarks.specs.Known.{AreChances}
use Rattle.rule_remarks.proofs.Chances.{chance_at}
use Rattle.rule_remarks.proofs.pairs.reported_for.Goals as goal

pub report_pairs-requires-clause-known : goal.report_pairs-requires-clause-known
report_pairs-requires-clause-known c =
    let cut : c.loop-earlier.left.now ≡ c.in-Some.earlier.now ∷ c.in-Some.following.now = search rules in
    chance_at c.args.said.now c.loop-earlier.left.now c.in-Some.following.now c.in-Some.earlier.now c.deref.result.now c.get.result cut
    c.loop-earlier.invariant.suffix (subst (λ (x : List (Bool × Bool)). AreChances x c.args.said.now) (sym c.deref.ensures.value) c.loop-earlier.invariant.chances) c.get.ensures.lookup
