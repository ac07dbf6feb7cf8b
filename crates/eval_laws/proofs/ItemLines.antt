-- The items that the lines of an answer are about.
use Rattle.std.proofs.Common.{◌≡◌, ℤ, ℕ, ◌&&◌, Bool, true, false, not, cond, nat_eq, List, [], ◌∷◌, ◌++◌, map, filter, Option, Some, None, codes, refl, ap, sym, ◌∙◌}
use Rattle.std.proofs.lemmas.Map.Views.{exact_unsigned_eq}
use Rattle.std.specs.List.{AllByRecursion}
use Rattle.std.proofs.lemmas.List.{map-append}
use Rattle.std.proofs.lemmas.List.Elements.{filter-append}
use Rattle.text_bytes.specs.declared.profile.Profile.{Profile}
use Rattle.text_bytes.specs.declared.profile.Profile.TheVariants.{Manual, Udev}
use Rattle.text_tables.specs.Pairs.{Pair}
use Rattle.text_tables.specs.Sorted.{by_name}
use Rattle.text_bytes.specs.Text.{Text}
use Rattle.eval_state.specs.Texts.{filled}
use Rattle.eval_state.specs.declared.scene.Scene.{Scene}
use Rattle.eval_assignments.specs.Tags.{current_tags}
use Rattle.eval_rules.specs.Outcomes.{outcome_of}
use Rattle.eval_effects.specs.Items.{given_item, item_name, items, label_item, label_items, node_items, pair_items, persist_item, priority_item, text_items, watch_item}
use Rattle.engine_answers.specs.Items.{ItemLine, env_lines, given_lines, item_lines, label_lines, member_lines, node_lines, persist_lines, priority_lines, value_lines, watch_lines}
use Rattle.engine_answers.specs.Lines.{is_hidden}
use Rattle.eval_laws.specs.Told.{is_told, with_sorted}

abbrev about : List ItemLine → List Pair
about lines = map (λ (l : ItemLine). l.0) lines

abbrev told : List Pair → List Pair
told all = filter is_told all

-- ---- items of the node

given_about : (word : Text) (text : Option Text) → about (given_lines word text) ≡ given_item word text
given_about word None = refl
given_about word (Some text) = refl

given_told : (word : Text) (text : Option Text) → ((t : Text) → is_told (word, t) ≡ true) → told (given_item word text) ≡ given_item word text
given_told word None h = refl
given_told word (Some text) h = ap (λ b. cond b ((word, text) ∷ []) []) (h text)

priority_about : (priority : Option ℤ) → about (priority_lines priority) ≡ priority_item priority
priority_about None = refl
priority_about (Some priority) = refl

priority_told : (priority : Option ℤ) → told (priority_item priority) ≡ priority_item priority
priority_told None = refl
priority_told (Some priority) = refl

watch_about : (watch : Option Bool) → about (watch_lines watch) ≡ watch_item watch
watch_about None = refl
watch_about (Some watched) = refl

watch_told : (watch : Option Bool) → told (watch_item watch) ≡ watch_item watch
watch_told None = refl
watch_told (Some true) = refl
watch_told (Some false) = refl

persist_about : (persist : Bool) → about (persist_lines persist) ≡ persist_item persist
persist_about true = refl
persist_about false = refl

persist_told : (persist : Bool) → told (persist_item persist) ≡ persist_item persist
persist_told true = refl
persist_told false = refl

-- ---- several at a time

both_about : (xs ys : List ItemLine) (items others : List Pair) → about xs ≡ items → about ys ≡ others → about (xs ++ ys) ≡ items ++ others
both_about xs ys items others h k = map-append (λ (l : ItemLine). l.0) xs ys ∙ ap (λ zs. zs ++ about ys) h ∙ ap (λ zs. items ++ zs) k

both_told : (xs ys items others : List Pair) → told xs ≡ items → told ys ≡ others → told (xs ++ ys) ≡ items ++ others
both_told xs ys items others h k = filter-append is_told xs ys ∙ ap (λ zs. zs ++ told ys) h ∙ ap (λ zs. items ++ zs) k

all_told : {X : Type 0} (f : X → Pair) (xs : List X) → ((x : X) → is_told (f x) ≡ true) → told (map f xs) ≡ map f xs
all_told f [] h = refl
all_told f (x ∷ xs) h = ap (λ b. cond b (f x ∷ told (map f xs)) (told (map f xs))) (h x) ∙ ap (λ zs. f x ∷ zs) (all_told f xs h)

labels_about : (profile : Profile) (labels : List Pair) → about (label_lines profile labels) ≡ label_items profile labels
labels_about profile [] = refl
labels_about profile (label ∷ labels) = ap (λ zs. label_item profile label ∷ zs) (labels_about profile labels)

label_told : (profile : Profile) (label : Pair) → is_told (label_item profile label) ≡ true
label_told Manual label = refl
label_told Udev label = refl

members_about : (word : Text) (texts : List Text) → about (member_lines word texts) ≡ text_items word texts
members_about word [] = refl
members_about word (text ∷ texts) = ap (λ zs. (item_name word text, []) ∷ zs) (members_about word texts)

values_about : (word : Text) (pairs : List Pair) → about (value_lines word pairs) ≡ pair_items word pairs
values_about word [] = refl
values_about word (pair ∷ pairs) = ap (λ zs. (item_name word pair.0, pair.1) ∷ zs) (values_about word pairs)

-- ---- properties

flips : (byte : ℕ) → nat_eq 46 byte ≡ nat_eq byte 46
flips byte = by (nat_eq 46 byte) refl (nat_eq byte 46) refl
  where
    by : (a : Bool) → nat_eq 46 byte ≡ a → (b : Bool) → nat_eq byte 46 ≡ b → a ≡ b
    by true e true f = refl
    by false e false f = refl
    by true e false f = sym (ap (λ n. nat_eq n 46) (sym (exact_unsigned_eq 46 byte e))) ∙ f
    by false e true f = sym e ∙ ap (nat_eq 46) (exact_unsigned_eq byte 46 f)

and_true : (b : Bool) → (b && true) ≡ b
and_true true = refl
and_true false = refl

hidden_is_told : (name value : Text) → is_told (item_name (codes "env") name, value) ≡ not (is_hidden name)
hidden_is_told [] value = refl
hidden_is_told (byte ∷ name) value = ap not (and_true (nat_eq 46 byte) ∙ flips byte)

env_about : (pairs : List Pair) → about (env_lines pairs) ≡ told (pair_items (codes "env") pairs)
env_about [] = refl
env_about (pair ∷ pairs) =
    by (not (is_hidden pair.0)) (env_about pairs)
    ∙ ap (λ b. cond b ((item_name (codes "env") pair.0, pair.1) ∷ told (pair_items (codes "env") pairs)) (told (pair_items (codes "env") pairs))) (sym (hidden_is_told pair.0 pair.1))
  where
    shown : List Pair
    shown = filter (λ (p : Pair). not (is_hidden p.0)) pairs

    by : (b : Bool) → about (value_lines (codes "env") shown) ≡ told (pair_items (codes "env") pairs)
        → about (value_lines (codes "env") (cond b (pair ∷ shown) shown)) ≡ cond b ((item_name (codes "env") pair.0, pair.1) ∷ told (pair_items (codes "env") pairs)) (told (pair_items (codes "env") pairs))
    by true h = ap (λ zs. (item_name (codes "env") pair.0, pair.1) ∷ zs) h
    by false h = h

-- ---- all of them

-- ---- one list after another

-- lists, each put behind those before it
abbrev behind : {X : Type 0} → List X → List (List X) → List X
behind first [] = first
behind first (xs ∷ more) = behind (first ++ xs) more

pieces_about : (first : List ItemLine) (items : List Pair) → about first ≡ items → (ps : List (List ItemLine × List Pair)) → AllByRecursion (λ p. about p.0 ≡ p.1) ps
    → about (behind first (map (λ p. p.0) ps)) ≡ behind items (map (λ p. p.1) ps)
pieces_about first items h [] k = h
pieces_about first items h (p ∷ ps) k = pieces_about (first ++ p.0) (items ++ p.1) (both_about first p.0 items p.1 h k.0) ps k.1

pieces_told : (first items : List Pair) → told first ≡ items → (ps : List (List Pair × List Pair)) → AllByRecursion (λ p. told p.0 ≡ p.1) ps
    → told (behind first (map (λ p. p.0) ps)) ≡ behind items (map (λ p. p.1) ps)
pieces_told first items h [] k = h
pieces_told first items h (p ∷ ps) k = pieces_told (first ++ p.0) (items ++ p.1) (both_told first p.0 items p.1 h k.0) ps k.1

texts_told : (word : Text) (texts : List Text) → ((text : Text) → is_told (item_name word text, []) ≡ true) → told (text_items word texts) ≡ text_items word texts
texts_told word texts h = all_told (λ (text : Text). (item_name word text, [])) texts h

pairs_told : (word : Text) (pairs : List Pair) → ((pair : Pair) → is_told (item_name word pair.0, pair.1) ≡ true) → told (pair_items word pairs) ≡ pair_items word pairs
pairs_told word pairs h = all_told (λ (pair : Pair). (item_name word pair.0, pair.1)) pairs h

-- the items of the node, as they are and as the lines are about them
node_about : (s : Scene) → about (node_lines (outcome_of s)) ≡ node_items (with_sorted s)
unfolding node_lines node_items outcome_of
node_about s =
    pieces_about (given_lines (codes "name") (filled s.state.name)) (given_item (codes "name") (filled s.state.name)) (given_about (codes "name") (filled s.state.name))
    ((given_lines (codes "owner") s.owner, given_item (codes "owner") s.owner)
    ∷ (given_lines (codes "group") s.group, given_item (codes "group") s.group)
    ∷ (given_lines (codes "mode") s.mode, given_item (codes "mode") s.mode)
    ∷ (priority_lines s.priority, priority_item s.priority)
    ∷ (watch_lines s.watch, watch_item s.watch)
    ∷ (persist_lines s.persist, persist_item s.persist)
    ∷ [])
    (given_about (codes "owner") s.owner, (given_about (codes "group") s.group, (given_about (codes "mode") s.mode, (priority_about s.priority, (watch_about s.watch, (persist_about s.persist, tt))))))

node_told : (s : Scene) → told (node_items s) ≡ node_items s
unfolding node_items
node_told s =
    pieces_told (given_item (codes "name") (filled s.state.name)) (given_item (codes "name") (filled s.state.name)) (given_told (codes "name") (filled s.state.name) (λ t. refl))
    ((given_item (codes "owner") s.owner, given_item (codes "owner") s.owner)
    ∷ (given_item (codes "group") s.group, given_item (codes "group") s.group)
    ∷ (given_item (codes "mode") s.mode, given_item (codes "mode") s.mode)
    ∷ (priority_item s.priority, priority_item s.priority)
    ∷ (watch_item s.watch, watch_item s.watch)
    ∷ (persist_item s.persist, persist_item s.persist)
    ∷ [])
    (given_told (codes "owner") s.owner (λ t. refl), (given_told (codes "group") s.group (λ t. refl), (given_told (codes "mode") s.mode (λ t. refl), (priority_told s.priority, (watch_told s.watch, (persist_told s.persist, tt))))))

lines_about : (s : Scene) → about (item_lines s.state.event.profile (outcome_of s)) ≡ behind (node_items (with_sorted s)) (label_items s.state.event.profile s.labels ∷ text_items (codes "link") s.state.links ∷ text_items (codes "tag") (current_tags s) ∷ told (pair_items (codes "env") (by_name s.state.env)) ∷ pair_items (codes "attr") s.attrs ∷ pair_items (codes "sysctl") s.sysctls ∷ [])
unfolding item_lines outcome_of
lines_about s =
    pieces_about (node_lines (outcome_of s)) (node_items (with_sorted s)) (node_about s)
    ((label_lines s.state.event.profile s.labels, label_items s.state.event.profile s.labels)
    ∷ (member_lines (codes "link") s.state.links, text_items (codes "link") s.state.links)
    ∷ (member_lines (codes "tag") (current_tags s), text_items (codes "tag") (current_tags s))
    ∷ (env_lines (by_name s.state.env), told (pair_items (codes "env") (by_name s.state.env)))
    ∷ (value_lines (codes "attr") s.attrs, pair_items (codes "attr") s.attrs)
    ∷ (value_lines (codes "sysctl") s.sysctls, pair_items (codes "sysctl") s.sysctls)
    ∷ [])
    (labels_about s.state.event.profile s.labels, (members_about (codes "link") s.state.links, (members_about (codes "tag") (current_tags s), (env_about (by_name s.state.env), (values_about (codes "attr") s.attrs, (values_about (codes "sysctl") s.sysctls, tt))))))

items_told : (s : Scene) → told (items (with_sorted s)) ≡ behind (node_items (with_sorted s)) (label_items s.state.event.profile s.labels ∷ text_items (codes "link") s.state.links ∷ text_items (codes "tag") (current_tags s) ∷ told (pair_items (codes "env") (by_name s.state.env)) ∷ pair_items (codes "attr") s.attrs ∷ pair_items (codes "sysctl") s.sysctls ∷ [])
unfolding items
items_told s =
    pieces_told (node_items (with_sorted s)) (node_items (with_sorted s)) (node_told (with_sorted s))
    ((label_items s.state.event.profile s.labels, label_items s.state.event.profile s.labels)
    ∷ (text_items (codes "link") s.state.links, text_items (codes "link") s.state.links)
    ∷ (text_items (codes "tag") (current_tags s), text_items (codes "tag") (current_tags s))
    ∷ (pair_items (codes "env") (by_name s.state.env), told (pair_items (codes "env") (by_name s.state.env)))
    ∷ (pair_items (codes "attr") s.attrs, pair_items (codes "attr") s.attrs)
    ∷ (pair_items (codes "sysctl") s.sysctls, pair_items (codes "sysctl") s.sysctls)
    ∷ [])
    (all_told (label_item s.state.event.profile) s.labels (label_told s.state.event.profile), (texts_told (codes "link") s.state.links (λ text. refl), (texts_told (codes "tag") (current_tags s) (λ text. refl), (refl, (pairs_told (codes "attr") s.attrs (λ pair. refl), (pairs_told (codes "sysctl") s.sysctls (λ pair. refl), tt))))))

pub all_about : (s : Scene) → about (item_lines s.state.event.profile (outcome_of s)) ≡ told (items (with_sorted s))
all_about s = lines_about s ∙ sym (items_told s)
