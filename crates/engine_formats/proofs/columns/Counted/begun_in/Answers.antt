use Rattle.std.proofs.Common.{◌≡◌, ◌++◌, Some, cond, not, sym}
use Rattle.std.proofs.lemmas.Bool.Decides.{Decides-eqb}
use Rattle.std.proofs.lemmas.List.Sums.{sum_by-append}
use Rattle.std.proofs.lemmas.Slice.Eq.{strip_prefix_is}
use Rattle.engine_formats.specs.Human.{continues}
use Rattle.engine_formats.proofs.columns.Counted.begun_in.Goals as goal

pub returns-in-Some : goal.returns-in-Some
returns-in-Some c =
    let before = c.self.inside.before.now in
    let rest = c.in-Some.rest.now in
    let whole : c.args.text.now ≡ before ++ rest = strip_prefix_is Decides-eqb c.args.text.now before (Some c.in-Some.rest) c.in-Some.ensures.cases in
    rw (c.self.invariant, c.begun_in.ensures, whole) (sym (sum_by-append (λ b. cond (not (continues b)) 1 0) before rest))
