use Rattle.std.proofs.Common.{◌+◌, ◌<◌, length, arith, ◌∙◌, ap, [], ◌∷◌, ◌++◌}
use Rattle.engine_checks.proofs.Lists.{code_last, code_more, codes_of}
use Rattle.engine_checks.proofs.ignores.push_list.Goals as goal

pub loop-code-preserved : goal.loop-code-preserved
loop-code-preserved c =
    let shorter : length c.in-Some.code.now + length c.in-Some.following.now < length c.loop-code.rest.now = c.in-Some.ensures.shorter in
    record {
      reported =
          ap (λ held. held ++ codes_of c.args.line c.args.scope c.args.end c.in-Some.following.now) (c.in_ok-push.ensures.items ∙ ap (λ i. c.loop-code.ignores.items ++ i ∷ []) c.at.ensures)
          ∙ code_more c.args.line c.args.scope c.args.end c.loop-code.ignores.items c.loop-code.rest.now c.in-Some.code.now c.in-Some.following.now _ c.in-Some.ensures.value c.loop-code.invariant.within c.loop-code.invariant.reported;
      within = omega arith;
    }

pub returns : goal.returns
returns c =
    c.in_ok-push-2.ensures.items
    ∙ ap (λ i. c.loop-code.ignores.items ++ i ∷ []) c.at-2.ensures
    ∙ code_last c.args.line c.args.scope c.args.end c.loop-code.ignores.items c.loop-code.rest.now _ c.in_default.ensures.value c.loop-code.invariant.reported
