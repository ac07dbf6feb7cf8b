use Rattle.std.proofs.Common.{◌∷◌, ◌∙◌, flat_map, ap}
use Rattle.text_bytes.specs.Names.{space}
use Rattle.eval_rendering.specs.Lengthened.{lengthened}
use Rattle.eval_rendering.proofs.Joining.{spaced_seen}
use Rattle.eval_rendering.proofs.Naming.{lengthened_twice}
use Rattle.eval_rendering.proofs.short_name.ShortName.push_spaced.Goals as goal

pub returns-in-Some : goal.returns-in-Some
returns-in-Some c =
    let before = c.args.self.now in
    let first = c.in-Some.first.now in
    let others = flat_map (λ other. space ∷ other.items) c.in-Some.others.now in
    c.push_others.ensures
    ∙ ap (λ text. lengthened text others) (c.push.ensures ∙ ap (lengthened before) c.deref.ensures.value)
    ∙ lengthened_twice before first.items others
    ∙ ap (lengthened before) (spaced_seen (λ t. t.items) c.args.texts.now first c.in-Some.others.now c.in-Some.ensures.cases.0)
