-- The notes of one assignment more.
use Rattle.std.proofs.Common.{◌≡◌, ℕ, ◌+◌, ◌<◌, List, ◌∷◌, ◌++◌, length, drop, get_or, append_assoc, ap, sym, ◌∙◌}
use Rattle.std.proofs.lemmas.List.{drop_more}
use Rattle.rule_types.specs.declared.part.Assignment.{Assignment}
use Rattle.rule_types.specs.Rules.{Rule}
use Rattle.eval_state.specs.declared.notes.Note.{Note}
use Rattle.eval_state.specs.declared.scene.Scene.{Scene}
use Rattle.eval_acts.specs.Unread.{unread_notes}
use Rattle.eval_assignments.specs.Steps.{set_step}
use Rattle.eval_unread.specs.Unread.{unread_from, unread_of}

pub noted_more : (r : Rule) (s t : Scene) (sets : List Assignment) (i : ℕ) (a : Assignment) (before after all : List Note) → i < length sets → a ≡ get_or sets i a
    → t ≡ set_step r s a → after ≡ before ++ unread_notes r (unread_of s a) → before ++ unread_from r (drop i sets) s ≡ all → after ++ unread_from r (drop (i + 1) sets) t ≡ all
noted_more r s t sets i a before after all within is made noted h =
    let rest : List Assignment = drop (i + 1) sets in
    let next : drop i sets ≡ a ∷ rest = drop_more sets i a within ∙ ap (λ (x : Assignment). x ∷ rest) (sym is) in
    ap (λ (notes : List Note). notes ++ unread_from r rest t) noted
    ∙ append_assoc before (unread_notes r (unread_of s a)) (unread_from r rest t)
    ∙ ap (λ (u : Scene). before ++ (unread_notes r (unread_of s a) ++ unread_from r rest u)) made
    ∙ ap (λ (left : List Assignment). before ++ unread_from r left s) (sym next)
    ∙ h
