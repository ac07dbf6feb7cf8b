use Rattle.std.proofs.Common.{◌≡◌, ◌∙◌, ◌∷◌, ℕ, List, Option, OnOk, flat_map, ap, subst}
use Rattle.text_bytes.specs.Names.{space}
use Rattle.eval_rendering.specs.Bounds.{joined}
use Rattle.eval_rendering.proofs.Joining.{joined_twice, spaced_seen}
use Rattle.eval_rendering.proofs.bounded_text.BoundedText.push_spaced.Goals as goal

pub returns-in_ok-push-in-Some : goal.returns-in_ok-push-in-Some
returns-in_ok-push-in-Some c =
    let before = c.args.self.now in
    let first = c.in-Some.first.now in
    let others = flat_map (λ other. space ∷ other.items) c.in-Some.others.now in
    let P : Option (List ℕ) → Type 0 = λ text. OnOk c.push_others.result (c.push_others.new.self ≡ text) in
    subst P
    (ap (λ text. joined text others) (c.in_ok-push-in-Some.ensures ∙ ap (joined before) c.deref.ensures.value)
    ∙ joined_twice before first.items others
    ∙ ap (joined before) (spaced_seen (λ t. t.items) c.args.texts.now first c.in-Some.others.now c.in-Some.ensures.cases.0))
    c.push_others.ensures
