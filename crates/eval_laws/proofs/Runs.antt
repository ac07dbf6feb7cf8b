-- A RUN that is there already.
use Rattle.std.proofs.Common.{◌≡◌, Bool, true, false, cond, ◌||◌, List, [], ◌∷◌, ◌++◌, refl, ap}
use Rattle.std.specs.List.{list_any}
use Rattle.text_bytes.specs.Texts.{is_empty}
use Rattle.eval_state.specs.Runs.{RunValue, same_run, with_run}

or_true : (a b : Bool) → b ≡ true → (a || b) ≡ true
or_true true b h = refl
or_true false b h = h

pub run_there : (runs : List RunValue) (run : RunValue) → list_any (same_run run) runs ≡ true → with_run runs run ≡ runs
run_there runs run h = ap (λ b. cond b runs (runs ++ run ∷ [])) (or_true (is_empty run.template.written) (list_any (same_run run) runs) h)
