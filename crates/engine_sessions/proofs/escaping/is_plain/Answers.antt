use Rattle.std.proofs.Common.{◌≡◌, subst, refl, rules}
use Rattle.std.proofs.lemmas.Fn.{fold_over, slice_gives, fronts}
use Rattle.engine_sessions.proofs.Plain.{are_plain, one_more}
use Rattle.engine_sessions.proofs.escaping.is_plain.Goals as goal

pub returns : goal.returns
returns c = subst (λ l. c.fold.result ≡ are_plain l) c.iter.ensures.rest
    (fold_over fronts (λ y. y.now) _ (λ ys p. p ≡ are_plain ys) _ (λ ys p x b f' j k. let more = one_more p ys x.now j in search rules)
    _ _ _ _ (slice_gives c.iter.result) refl c.fold.ensures.ran)
