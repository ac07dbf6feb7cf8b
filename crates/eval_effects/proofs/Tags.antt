-- The tags that were not removed, one by one.
use Rattle.std.proofs.Common.{◌≡◌, Bool, true, false, cond, not, ◌||◌, List, [], ◌∷◌, ◌++◌, flat_map, codes, refl, ap, sym, ◌∙◌}
use Rattle.std.specs.Cmp.Lexicographic.{bytes_decides}
use Rattle.text_bytes.specs.Text.{Text}
use Rattle.text_tables.specs.Texts.{is_among, same_text, without_text}
use Rattle.eval_assignments.specs.Lists.{without_texts}
use Rattle.eval_effects.specs.Inner.{tag_item}
use Rattle.eval_effects.specs.Items.{item_name, text_items}

reversed : (a b : Text) → same_text a b ≡ same_text b a
reversed a b = by (same_text a b) (same_text b a) refl refl
  where
    is_same : (c d : Text) → same_text c d ≡ true → c ≡ d
    is_same c d h = (bytes_decides c d).0 h

    same : (c d : Text) → c ≡ d → same_text c d ≡ true
    same c d h = (bytes_decides c d).1 h

    by : (p q : Bool) → same_text a b ≡ p → same_text b a ≡ q → p ≡ q
    by true q e f = sym (same b a (sym (is_same a b e))) ∙ f
    by false true e f = sym e ∙ same a b (sym (is_same b a f))
    by false false e f = refl

-- the first of some texts is left unless it was removed
first_left : (gone : List Text) (t : Text) (ts : List Text) → without_texts (t ∷ ts) gone ≡ cond (is_among gone t) (without_texts ts gone) (t ∷ without_texts ts gone)
first_left [] t ts = refl
first_left (g ∷ gone) t ts = by (same_text g t) (reversed t g) (first_left gone t (without_text ts g))
  where
    by : (v : Bool) → same_text t g ≡ v
        → without_texts (t ∷ without_text ts g) gone ≡ cond (is_among gone t) (without_texts (without_text ts g) gone) (t ∷ without_texts (without_text ts g) gone)
        → without_texts (cond (not v) (t ∷ without_text ts g) (without_text ts g)) gone ≡ cond (same_text t g || is_among gone t) (without_texts (without_text ts g) gone) (t ∷ without_texts (without_text ts g) gone)
    by true e more = ap (λ b. cond (b || is_among gone t) (without_texts (without_text ts g) gone) (t ∷ without_texts (without_text ts g) gone)) (sym e)
    by false e more =
        more
        ∙ ap (λ b. cond (b || is_among gone t) (without_texts (without_text ts g) gone) (t ∷ without_texts (without_text ts g) gone)) (sym e)

-- reported one by one they are the tags that are left
pub tags_reported : (gone tags : List Text) → flat_map (tag_item gone) tags ≡ text_items (codes "tag") (without_texts tags gone)
tags_reported gone [] = ap (text_items (codes "tag")) (none gone)
  where
    none : (gone : List Text) → [] ≡ without_texts [] gone
    none [] = refl
    none (g ∷ gone) = none gone
tags_reported gone (t ∷ tags) = by (is_among gone t) (sym (first_left gone t tags)) (tags_reported gone tags)
  where
    by : (v : Bool) → cond v (without_texts tags gone) (t ∷ without_texts tags gone) ≡ without_texts (t ∷ tags) gone
        → flat_map (tag_item gone) tags ≡ text_items (codes "tag") (without_texts tags gone)
        → cond v [] ((item_name (codes "tag") t, []) ∷ []) ++ flat_map (tag_item gone) tags ≡ text_items (codes "tag") (without_texts (t ∷ tags) gone)
    by true e more = more ∙ ap (text_items (codes "tag")) e
    by false e more = ap (λ items. (item_name (codes "tag") t, []) ∷ items) more ∙ ap (text_items (codes "tag")) e
