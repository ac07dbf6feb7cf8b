-- What assignments leave as it was.
use Rattle.std.proofs.Common.{◌≡◌, suc, ◌<◌, ◌⊎◌, inl, inr, Bool, true, false, cond, not, ◌||◌, List, [], ◌∷◌, ◌++◌, length, drop, filter, nat_eq, Option, Some, None, map, codes, append_assoc, refl, ap, sym, ◌∙◌, subst, arith}
use Rattle.std.specs.Option.{option_or}
use Rattle.std.specs.Cmp.Lexicographic.{bytes_decides}
use Rattle.text_bytes.specs.Text.{Text}
use Rattle.text_tables.specs.Texts.{is_among, same_text, with_text, with_texts, without_text}
use Rattle.text_tables.specs.Pairs.{Pair, value_of, with_value, without_name}
use Rattle.eval_state.specs.Properties.{property_set}
use Rattle.eval_state.specs.declared.scene.Scene.{Scene}
use Rattle.eval_assignments.specs.Lists.{without_texts}
use Rattle.eval_assignments.specs.Tags.{current_tags}
use Rattle.eval_effects.specs.Items.{item_name, items, label_items, node_items, pair_items, text_items}
use Rattle.eval_sources.proofs.Lookups.{first_of_seven, items_at}

is_same : (a b : Text) → same_text a b ≡ true → a ≡ b
is_same a b h = (bytes_decides a b).0 h

neither : (a b : Bool) → (a || b) ≡ false → (a ≡ false) × (b ≡ false)
neither true b h = cc
neither false b h = (refl, h)

-- ---- lists that grow, and lists that shrink if they change

-- more texts follow
abbrev pub Extends : List Text → List Text → Type 0
Extends xs ys = (more : List Text) × (ys ≡ xs ++ more)

append_none : (xs : List Text) → xs ≡ xs ++ []
append_none [] = refl
append_none (x ∷ xs) = ap (λ ys. x ∷ ys) (append_none xs)

pub extends_self : (xs : List Text) → Extends xs xs
extends_self xs = ([], append_none xs)

extends_on : (xs ys zs : List Text) → Extends xs ys → Extends ys zs → Extends xs zs
extends_on xs ys zs h k = (h.0 ++ k.0, k.1 ∙ ap (λ l. l ++ k.0) h.1 ∙ append_assoc xs h.0 k.0)

extends_one : (xs : List Text) (x : Text) → Extends xs (with_text xs x)
extends_one xs x = by (is_among xs x)
  where
    by : (b : Bool) → Extends xs (cond b xs (xs ++ x ∷ []))
    by true = extends_self xs
    by false = (x ∷ [], refl)

pub extends_all : (more xs : List Text) → Extends xs (with_texts xs more)
extends_all [] xs = extends_self xs
extends_all (x ∷ more) xs = extends_on xs (with_text xs x) _ (extends_one xs x) (extends_all more (with_text xs x))

-- the same texts, or fewer
abbrev pub Shrinks : List Text → List Text → Type 0
Shrinks xs ys = (ys ≡ xs) ⊎ (length ys < length xs)

shrinks_on : (xs ys zs : List Text) → Shrinks xs ys → Shrinks ys zs → Shrinks xs zs
shrinks_on xs ys zs (inl e) (inl f) = inl (f ∙ e)
shrinks_on xs ys zs (inl e) (inr k) = inr (subst (λ l. length zs < length l) e k)
shrinks_on xs ys zs (inr h) (inl f) = inr (subst (λ l. length l < length xs) (sym f) h)
shrinks_on xs ys zs (inr h) (inr k) = inr (omega (arith, h, k))

pub shrinks_without : (xs : List Text) (x : Text) → Shrinks xs (without_text xs x)
shrinks_without [] x = inl refl
shrinks_without (y ∷ ys) x = by (same_text x y) (shrinks_without ys x)
  where
    by : (b : Bool) → Shrinks ys (without_text ys x) → Shrinks (y ∷ ys) (cond (not b) (y ∷ without_text ys x) (without_text ys x))
    by true (inl e) = inr (subst (λ l. length l < suc (length ys)) (sym e) (omega arith))
    by true (inr h) = inr (omega (arith, h))
    by false (inl e) = inl (ap (λ l. y ∷ l) e)
    by false (inr h) = inr (omega (arith, h))

-- texts that are as many are the same
pub as_many : (xs ys : List Text) → Shrinks xs ys → nat_eq (length ys) (length xs) ≡ true → ys ≡ xs
as_many xs ys (inl e) h = e
as_many xs ys (inr k) h = grind (arith, k, h)

-- ---- values of names that are not among those that changed

pub not_there : (w n : Text) (xs : List Text) → is_among (map (item_name w) xs) n ≡ false → value_of (text_items w xs) n ≡ None
not_there w n [] h = refl
not_there w n (x ∷ xs) h =
    let apart = neither (same_text n (item_name w x)) (is_among (map (item_name w) xs) n) h in
    ap (λ b. cond b (Some []) (value_of (text_items w xs) n)) apart.0 ∙ not_there w n xs apart.1

text_append : (w n : Text) (xs ys : List Text) → value_of (text_items w (xs ++ ys)) n ≡ option_or (value_of (text_items w xs) n) (value_of (text_items w ys) n)
text_append w n [] ys = refl
text_append w n (x ∷ xs) ys = by (same_text n (item_name w x)) (text_append w n xs ys)
  where
    by : (b : Bool) → value_of (text_items w (xs ++ ys)) n ≡ option_or (value_of (text_items w xs) n) (value_of (text_items w ys) n)
        → cond b (Some []) (value_of (text_items w (xs ++ ys)) n) ≡ option_or (cond b (Some []) (value_of (text_items w xs) n)) (value_of (text_items w ys) n)
    by true h = refl
    by false h = h

pub text_stays : (w n : Text) (xs ys : List Text) → value_of (text_items w ys) n ≡ None → value_of (text_items w (xs ++ ys)) n ≡ value_of (text_items w xs) n
text_stays w n xs ys h = text_append w n xs ys ∙ ap (option_or (value_of (text_items w xs) n)) h ∙ none (value_of (text_items w xs) n)
  where
    none : (o : Option Text) → option_or o None ≡ o
    none None = refl
    none (Some t) = refl

pub pair_set : (w n : Text) (ps : List Pair) (x v : Text) → same_text n (item_name w x) ≡ false → value_of (pair_items w (with_value ps x v)) n ≡ value_of (pair_items w ps) n
pair_set w n [] x v h = ap (λ b. cond b (Some v) None) h
pair_set w n (p ∷ ps) x v h = by (same_text x p.0) refl (pair_set w n ps x v h)
  where
    by : (b : Bool) → same_text x p.0 ≡ b → value_of (pair_items w (with_value ps x v)) n ≡ value_of (pair_items w ps) n
        → value_of (pair_items w (cond b ((p.0, v) ∷ ps) (p ∷ with_value ps x v))) n ≡ cond (same_text n (item_name w p.0)) (Some p.1) (value_of (pair_items w ps) n)
    by true e more =
        let apart : same_text n (item_name w p.0) ≡ false = subst (λ y. same_text n (item_name w y) ≡ false) (is_same x p.0 e) h in
        ap (λ b. cond b (Some v) (value_of (pair_items w ps) n)) apart ∙ sym (ap (λ b. cond b (Some p.1) (value_of (pair_items w ps) n)) apart)
    by false e more = ap (cond (same_text n (item_name w p.0)) (Some p.1)) more

pair_removed : (w n : Text) (ps : List Pair) (x : Text) → same_text n (item_name w x) ≡ false → value_of (pair_items w (without_name ps x)) n ≡ value_of (pair_items w ps) n
pair_removed w n [] x h = refl
pair_removed w n (p ∷ ps) x h = by (same_text x p.0) refl (pair_removed w n ps x h)
  where
    by : (b : Bool) → same_text x p.0 ≡ b → value_of (pair_items w (without_name ps x)) n ≡ value_of (pair_items w ps) n
        → value_of (pair_items w (cond (not b) (p ∷ without_name ps x) (without_name ps x))) n ≡ cond (same_text n (item_name w p.0)) (Some p.1) (value_of (pair_items w ps) n)
    by true e more =
        let apart : same_text n (item_name w p.0) ≡ false = subst (λ y. same_text n (item_name w y) ≡ false) (is_same x p.0 e) h in
        more ∙ sym (ap (λ b. cond b (Some p.1) (value_of (pair_items w ps) n)) apart)
    by false e more = ap (cond (same_text n (item_name w p.0)) (Some p.1)) more

pub property_stays : (w n : Text) (x v : Text) (ps : List Pair) → same_text n (item_name w x) ≡ false → value_of (pair_items w (property_set x v ps)) n ≡ value_of (pair_items w ps) n
property_stays w n x [] ps h = pair_removed w n ps x h
property_stays w n x (b ∷ v) ps h = pair_set w n ps x (b ∷ v) h

-- ---- scenes

-- All but links and tags that are added is, at a name, as it was in a scene, or what it held there.
abbrev pub Framed : Text → Scene → Scene → Type 0
Framed n s t =
    (value_of (node_items t) n ≡ value_of (node_items s) n)
    × (value_of (label_items t.state.event.profile t.labels) n ≡ value_of (label_items s.state.event.profile s.labels) n)
    × Extends s.state.links t.state.links
    × Extends s.state.tags t.state.tags
    × Shrinks s.gone t.gone
    × (value_of (pair_items (codes "env") t.state.env) n ≡ value_of (pair_items (codes "env") s.state.env) n)
    × (value_of (pair_items (codes "attr") t.attrs) n ≡ value_of (pair_items (codes "attr") s.attrs) n)
    × (value_of (pair_items (codes "sysctl") t.sysctls) n ≡ value_of (pair_items (codes "sysctl") s.sysctls) n)

pub framed_self : (n : Text) (s : Scene) → Framed n s s
framed_self n s = (refl, refl, extends_self s.state.links, extends_self s.state.tags, inl refl, refl, refl, refl)

pub framed_on : (n : Text) (s t u : Scene) → Framed n s t → Framed n t u → Framed n s u
framed_on n s t u h k =
    (k.0 ∙ h.0, k.1 ∙ h.1, extends_on s.state.links t.state.links u.state.links h.2 k.2, extends_on s.state.tags t.state.tags u.state.tags h.3 k.3, shrinks_on s.gone t.gone u.gone h.4 k.4, k.5 ∙ h.5, k.6 ∙ h.6, k.7 ∙ h.7)

dropped : (xs more ys : List Text) → ys ≡ xs ++ more → drop (length xs) ys ≡ more
dropped xs more ys e = ap (drop (length xs)) e ∙ by xs
  where
    by : (zs : List Text) → drop (length zs) (zs ++ more) ≡ more
    by [] = refl
    by (z ∷ zs) = grind (arith, by zs)

filter_append : (p : Text → Bool) (xs ys : List Text) → filter p (xs ++ ys) ≡ filter p xs ++ filter p ys
filter_append p [] ys = refl
filter_append p (x ∷ xs) ys = by (p x) (filter_append p xs ys)
  where
    by : (b : Bool) → filter p (xs ++ ys) ≡ filter p xs ++ filter p ys → cond b (x ∷ filter p (xs ++ ys)) (filter p (xs ++ ys)) ≡ cond b (x ∷ filter p xs) (filter p xs) ++ filter p ys
    by true h = ap (λ l. x ∷ l) h
    by false h = h

left_append : (gone xs ys : List Text) → without_texts (xs ++ ys) gone ≡ without_texts xs gone ++ without_texts ys gone
left_append [] xs ys = refl
left_append (g ∷ gone) xs ys = ap (λ l. without_texts l gone) (filter_append (λ other. not (same_text g other)) xs ys) ∙ left_append gone (without_text xs g) (without_text ys g)

fewer : (w n : Text) (xs : List Text) (x : Text) → is_among (map (item_name w) xs) n ≡ false → is_among (map (item_name w) (without_text xs x)) n ≡ false
fewer w n [] x h = refl
fewer w n (y ∷ ys) x h =
    let apart = neither (same_text n (item_name w y)) (is_among (map (item_name w) ys) n) h in
    by (same_text x y) apart.0 (fewer w n ys x apart.1)
  where
    by : (b : Bool) → same_text n (item_name w y) ≡ false → is_among (map (item_name w) (without_text ys x)) n ≡ false → is_among (map (item_name w) (cond (not b) (y ∷ without_text ys x) (without_text ys x))) n ≡ false
    by true h more = more
    by false h more = ap (λ b. b || is_among (map (item_name w) (without_text ys x)) n) h ∙ more

none_left : (w n : Text) (gone xs : List Text) → is_among (map (item_name w) xs) n ≡ false → value_of (text_items w (without_texts xs gone)) n ≡ None
none_left w n [] xs h = not_there w n xs h
none_left w n (g ∷ gone) xs h = none_left w n gone (without_text xs g) (fewer w n xs g h)

pub among_append : (xs ys : List Text) (n : Text) → is_among (xs ++ ys) n ≡ false → (is_among xs n ≡ false) × (is_among ys n ≡ false)
among_append [] ys n h = (refl, h)
among_append (x ∷ xs) ys n h =
    let apart = neither (same_text n x) (is_among (xs ++ ys) n) h in
    let rest = among_append xs ys n apart.1 in
    (ap (λ b. b || is_among xs n) apart.0 ∙ rest.0, rest.1)

-- an item that is not among the links and tags that are new is as it was
pub item_stays : (n : Text) (s t : Scene) → Framed n s t → nat_eq (length t.gone) (length s.gone) ≡ true
    → is_among (map (item_name (codes "link")) (drop (length s.state.links) t.state.links)) n ≡ false
    → is_among (map (item_name (codes "tag")) (drop (length s.state.tags) t.state.tags)) n ≡ false
    → value_of (items t) n ≡ value_of (items s) n
item_stays n s t h same links tags =
    items_at t n
    ∙ (λ i. first_of_seven (h.0 i) (h.1 i) (links_stay i) (tags_stay i) (h.5 i) (h.6 i) (h.7 i))
    ∙ sym (items_at s n)
  where
    links_stay : value_of (text_items (codes "link") t.state.links) n ≡ value_of (text_items (codes "link") s.state.links) n
    links_stay =
        ap (λ l. value_of (text_items (codes "link") l) n) h.2.1
        ∙ text_stays (codes "link") n s.state.links h.2.0
        (not_there (codes "link") n h.2.0 (subst (λ l. is_among (map (item_name (codes "link")) l) n ≡ false) (dropped s.state.links h.2.0 t.state.links h.2.1) links))

    tags_stay : value_of (text_items (codes "tag") (current_tags t)) n ≡ value_of (text_items (codes "tag") (current_tags s)) n
    tags_stay =
        (λ i. value_of (text_items (codes "tag") (without_texts (h.3.1 i) (as_many s.gone t.gone h.4 same i))) n)
        ∙ ap (λ l. value_of (text_items (codes "tag") l) n) (left_append s.gone s.state.tags h.3.0)
        ∙ text_stays (codes "tag") n (current_tags s) (without_texts h.3.0 s.gone)
        (none_left (codes "tag") n s.gone h.3.0 (subst (λ l. is_among (map (item_name (codes "tag")) l) n ≡ false) (dropped s.state.tags h.3.0 t.state.tags h.3.1) tags))
