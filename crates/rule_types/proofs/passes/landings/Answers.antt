use Rattle.std.proofs.Common.{◌≡◌, ◌∙◌, [], Bool, IfOk, List, map, ap, subst}
use Rattle.std.specs.List.{zip}
use Rattle.rule_types.specs.Passes.{joined, lost_flags, unused_flags}
use Rattle.rule_types.specs.Jumps.{landings}
use Rattle.rule_types.specs.declared.jumps.Landing.{Landing}
use Rattle.rule_types.proofs.Passing.{landings-from_flags}
use Rattle.rule_types.proofs.passes.landings.Goals as goal

pub returns : goal.returns
returns c =
    let lost : c.deref.result.now ≡ lost_flags c.args.rules.now = c.deref.ensures.value ∙ c.in_ok-lost.ensures in
    let unused : c.deref-2.result.now ≡ unused_flags [] c.args.rules.now = c.deref-2.ensures.value ∙ c.in_ok-unused.ensures in
    let whole : map joined (zip c.deref.result.now c.deref-2.result.now) ≡ landings c.args.rules.now =
    ap (λ (bs : List Bool). map joined (zip bs c.deref-2.result.now)) lost
    ∙ ap (λ (bs : List Bool). map joined (zip (lost_flags c.args.rules.now) bs)) unused
    ∙ landings-from_flags c.args.rules.now in
    subst (λ (ls : List Landing). IfOk c.joined.result (λ found. found.items ≡ ls)) whole c.joined.ensures
