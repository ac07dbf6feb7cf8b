-- The value of an item by its name.
use Rattle.std.proofs.Common.{◌≡◌, ℤ, Bool, true, false, cond, not, ◌||◌, ◌&&◌, List, [], ◌∷◌, ◌++◌, Option, Some, None, option_map, codes, refl, ap, sym, ◌∙◌}
use Rattle.std.specs.Fmt.{signed_decimal}
use Rattle.std.specs.Option.{option_or}
use Rattle.text_bytes.specs.Names.{equals}
use Rattle.text_bytes.specs.declared.profile.Profile.{Profile}
use Rattle.text_bytes.specs.declared.profile.Profile.TheVariants.{Manual, Udev}
use Rattle.text_bytes.specs.Text.{Text}
use Rattle.text_tables.specs.Texts.{is_among, same_text, without_text}
use Rattle.text_tables.specs.Pairs.{Pair, value_of}
use Rattle.text_tables.proofs.Found.{among_removed}
use Rattle.eval_state.specs.Texts.{filled}
use Rattle.eval_state.specs.declared.scene.Scene.{Scene}
use Rattle.eval_assignments.specs.Lists.{without_texts}
use Rattle.eval_assignments.specs.Tags.{current_tags}
use Rattle.eval_effects.specs.Items.{given_item, item_name, items, label_items, node_items, pair_items, persist_item, priority_item, text_items, watch_item}
use Rattle.eval_sources.specs.Touched.{found, is_watch, marks_found, node_words, texts_found}

-- the value of a name in two lists
pub value_append : {V : Type 0} (xs ys : List (Text × V)) (n : Text) → value_of (xs ++ ys) n ≡ option_or (value_of xs n) (value_of ys n)
value_append [] ys n = refl
value_append {V} (x ∷ xs) ys n = by (same_text n x.0) (value_append xs ys n)
  where
    by : (b : Bool) → value_of (xs ++ ys) n ≡ option_or (value_of xs n) (value_of ys n) → cond b (Some x.1) (value_of (xs ++ ys) n) ≡ option_or (cond b (Some x.1) (value_of xs n)) (value_of ys n)
    by true h = refl
    by false h = h

-- four that were added, one after another
pub four : {A : Type 0} (xs : List A) (a b c d : A) → ((((xs ++ a ∷ []) ++ b ∷ []) ++ c ∷ []) ++ d ∷ []) ≡ xs ++ (a ∷ b ∷ c ∷ d ∷ [])
four [] a b c d = refl
four (x ∷ xs) a b c d = ap (λ l. x ∷ l) (four xs a b c d)

-- the first value of seven parts
abbrev pub first_of_seven : Option Text → Option Text → Option Text → Option Text → Option Text → Option Text → Option Text → Option Text
first_of_seven a b c d e f g = option_or (option_or (option_or (option_or (option_or (option_or a b) c) d) e) f) g

-- the value of a name in seven lists
append_seven : (a b c d e f g : List Pair) (n : Text)
    → value_of (((((((a ++ b) ++ c) ++ d) ++ e) ++ f) ++ g)) n ≡ first_of_seven (value_of a n) (value_of b n) (value_of c n) (value_of d n) (value_of e n) (value_of f n) (value_of g n)
append_seven a b c d e f g n =
    value_append (((((a ++ b) ++ c) ++ d) ++ e) ++ f) g n
    ∙ ap (λ o. option_or o (value_of g n))
    (value_append ((((a ++ b) ++ c) ++ d) ++ e) f n
    ∙ ap (λ o. option_or o (value_of f n))
    (value_append (((a ++ b) ++ c) ++ d) e n
    ∙ ap (λ o. option_or o (value_of e n))
    (value_append ((a ++ b) ++ c) d n
    ∙ ap (λ o. option_or o (value_of d n))
    (value_append (a ++ b) c n
    ∙ ap (λ o. option_or o (value_of c n)) (value_append a b n)))))

-- a value before parts that have none
before_one : (o : Option Text) → option_or o None ≡ o
before_one None = refl
before_one (Some t) = refl

before_two : (o : Option Text) → option_or (option_or o None) None ≡ o
before_two None = refl
before_two (Some t) = refl

before_three : (o : Option Text) → option_or (option_or (option_or o None) None) None ≡ o
before_three None = refl
before_three (Some t) = refl

before_four : (o : Option Text) → option_or (option_or (option_or (option_or o None) None) None) None ≡ o
before_four None = refl
before_four (Some t) = refl

before_five : (o : Option Text) → option_or (option_or (option_or (option_or (option_or o None) None) None) None) None ≡ o
before_five None = refl
before_five (Some t) = refl

before_six : (o : Option Text) → option_or (option_or (option_or (option_or (option_or (option_or o None) None) None) None) None) None ≡ o
before_six None = refl
before_six (Some t) = refl

-- the value of an item, by the parts of a scene
abbrev pub by_parts : Scene → Text → Option Text
by_parts s n =
    first_of_seven (value_of (node_items s) n) (value_of (label_items s.state.event.profile s.labels) n) (value_of (text_items (codes "link") s.state.links) n)
    (value_of (text_items (codes "tag") (current_tags s)) n) (value_of (pair_items (codes "env") s.state.env) n) (value_of (pair_items (codes "attr") s.attrs) n)
    (value_of (pair_items (codes "sysctl") s.sysctls) n)

pub items_at : (s : Scene) (n : Text) → value_of (items s) n ≡ by_parts s n
unfolding items
items_at s n =
    append_seven (node_items s) (label_items s.state.event.profile s.labels) (text_items (codes "link") s.state.links) (text_items (codes "tag") (current_tags s))
    (pair_items (codes "env") s.state.env) (pair_items (codes "attr") s.attrs) (pair_items (codes "sysctl") s.sysctls) n

-- ---- names that are not there

module _ (n w : Text) (apart : (x : Text) → same_text n (item_name w x) ≡ false) where
  no_text : (xs : List Text) → value_of (text_items w xs) n ≡ None
  no_text [] = refl
  no_text (x ∷ xs) = ap (λ b. cond b (Some []) (value_of (text_items w xs) n)) (apart x) ∙ no_text xs

  no_pair : (ps : List Pair) → value_of (pair_items w ps) n ≡ None
  no_pair [] = refl
  no_pair (p ∷ ps) = ap (λ b. cond b (Some p.1) (value_of (pair_items w ps) n)) (apart p.0) ∙ no_pair ps

no_label : (n : Text) → ((x : Text) → same_text n (item_name (codes "label") x) ≡ false) → (profile : Profile) (labels : List Pair) → value_of (label_items profile labels) n ≡ None
no_label n apart profile [] = refl
no_label n apart Manual (l ∷ ls) = ap (λ b. cond b (Some l.1) (value_of (label_items Manual ls) n)) (apart l.0) ∙ no_label n apart Manual ls
no_label n apart Udev (l ∷ ls) = ap (λ b. cond b (Some []) (value_of (label_items Udev ls) n)) (apart (l.0 ++ equals ∷ l.1)) ∙ no_label n apart Udev ls

no_given : (n w : Text) → same_text n w ≡ false → (o : Option Text) → value_of (given_item w o) n ≡ None
no_given n w apart None = refl
no_given n w apart (Some t) = ap (λ b. cond b (Some t) None) apart

no_priority : (n : Text) → same_text n (codes "priority") ≡ false → (o : Option ℤ) → value_of (priority_item o) n ≡ None
no_priority n apart None = refl
no_priority n apart (Some priority) = ap (λ b. cond b (Some (signed_decimal priority)) None) apart

no_watch : (n : Text) → same_text n (codes "watch") ≡ false → same_text n (codes "nowatch") ≡ false → (o : Option Bool) → value_of (watch_item o) n ≡ None
no_watch n watch nowatch None = refl
no_watch n watch nowatch (Some true) = ap (λ b. cond b (Some []) None) watch
no_watch n watch nowatch (Some false) = ap (λ b. cond b (Some []) None) nowatch

no_persist : (n : Text) → same_text n (codes "persist") ≡ false → (b : Bool) → value_of (persist_item b) n ≡ None
no_persist n apart true = ap (λ b. cond b (Some []) None) apart
no_persist n apart false = refl

node_parts : (s : Scene) (n : Text) → value_of (node_items s) n
    ≡ first_of_seven (value_of (given_item (codes "name") (filled s.state.name)) n) (value_of (given_item (codes "owner") s.owner) n) (value_of (given_item (codes "group") s.group) n)
    (value_of (given_item (codes "mode") s.mode) n) (value_of (priority_item s.priority) n) (value_of (watch_item s.watch) n) (value_of (persist_item s.persist) n)
unfolding node_items
node_parts s n =
    append_seven (given_item (codes "name") (filled s.state.name)) (given_item (codes "owner") s.owner) (given_item (codes "group") s.group) (given_item (codes "mode") s.mode)
    (priority_item s.priority) (watch_item s.watch) (persist_item s.persist) n

-- a name that is none of these words
pub record IsNoWord (n : Text) : Type 0 where
  pub name : same_text n (codes "name") ≡ false
  pub owner : same_text n (codes "owner") ≡ false
  pub group : same_text n (codes "group") ≡ false
  pub mode : same_text n (codes "mode") ≡ false
  pub priority : same_text n (codes "priority") ≡ false
  pub watch : same_text n (codes "watch") ≡ false
  pub nowatch : same_text n (codes "nowatch") ≡ false
  pub persist : same_text n (codes "persist") ≡ false

pub no_node : (n : Text) → IsNoWord n → (s : Scene) → value_of (node_items s) n ≡ None
no_node n apart s =
    node_parts s n
    ∙ (λ i. first_of_seven (no_given n (codes "name") apart.name (filled s.state.name) i) (no_given n (codes "owner") apart.owner s.owner i) (no_given n (codes "group") apart.group s.group i)
    (no_given n (codes "mode") apart.mode s.mode i) (no_priority n apart.priority s.priority i) (no_watch n apart.watch apart.nowatch s.watch i) (no_persist n apart.persist s.persist i))

-- a name that is not among these words
pub no_word : (n : Text) → is_among node_words n ≡ false → IsNoWord n
no_word n h =
    let a = neither (same_text n (codes "name")) _ h in
    let b = neither (same_text n (codes "owner")) _ a.1 in
    let c = neither (same_text n (codes "group")) _ b.1 in
    let d = neither (same_text n (codes "mode")) _ c.1 in
    let e = neither (same_text n (codes "priority")) _ d.1 in
    let f = neither (same_text n (codes "watch")) _ e.1 in
    let g = neither (same_text n (codes "nowatch")) _ f.1 in
    let p = neither (same_text n (codes "persist")) _ g.1 in
    record { name = a.0; owner = b.0; group = c.0; mode = d.0; priority = e.0; watch = f.0; nowatch = g.0; persist = p.0 }
  where
    neither : (a b : Bool) → (a || b) ≡ false → (a ≡ false) × (b ≡ false)
    neither true b h = cc
    neither false b h = (refl, h)

-- ---- the items of the node

-- a name that is none of several of a word
pub record IsNoMember (n : Text) : Type 0 where
  pub label : (x : Text) → same_text n (item_name (codes "label") x) ≡ false
  pub link : (x : Text) → same_text n (item_name (codes "link") x) ≡ false
  pub tag : (x : Text) → same_text n (item_name (codes "tag") x) ≡ false
  pub env : (x : Text) → same_text n (item_name (codes "env") x) ≡ false
  pub attr : (x : Text) → same_text n (item_name (codes "attr") x) ≡ false
  pub sysctl : (x : Text) → same_text n (item_name (codes "sysctl") x) ≡ false

at_node : (s : Scene) (n : Text) → IsNoMember n → value_of (items s) n ≡ value_of (node_items s) n
at_node s n apart =
    items_at s n
    ∙ (λ i. first_of_seven (value_of (node_items s) n) (no_label n apart.label s.state.event.profile s.labels i) (no_text n (codes "link") apart.link s.state.links i) (no_text n (codes "tag") apart.tag (current_tags s) i)
    (no_pair n (codes "env") apart.env s.state.env i) (no_pair n (codes "attr") apart.attr s.attrs i) (no_pair n (codes "sysctl") apart.sysctl s.sysctls i))
    ∙ before_six (value_of (node_items s) n)

given_is : (w : Text) → same_text w w ≡ true → (o : Option Text) → value_of (given_item w o) w ≡ o
given_is w h None = refl
given_is w h (Some t) = ap (λ b. cond b (Some t) None) h

priority_is : (o : Option ℤ) → value_of (priority_item o) (codes "priority") ≡ option_map signed_decimal o
priority_is None = refl
priority_is (Some priority) = refl

watch_is : (o : Option Bool) → value_of (watch_item o) (codes "watch") ≡ cond (is_watch o true) (Some []) None
watch_is None = refl
watch_is (Some true) = refl
watch_is (Some false) = refl

nowatch_is : (o : Option Bool) → value_of (watch_item o) (codes "nowatch") ≡ cond (is_watch o false) (Some []) None
nowatch_is None = refl
nowatch_is (Some true) = refl
nowatch_is (Some false) = refl

persist_is : (b : Bool) → value_of (persist_item b) (codes "persist") ≡ cond b (Some []) None
persist_is true = refl
persist_is false = refl

module _ (s : Scene) where
  pub at_name : value_of (items s) (codes "name") ≡ filled s.state.name
  at_name =
      let n = codes "name" in
      at_node s n (record { label = λ x. refl; link = λ x. refl; tag = λ x. refl; env = λ x. refl; attr = λ x. refl; sysctl = λ x. refl })
      ∙ node_parts s n
      ∙ (λ i. first_of_seven (given_is n refl (filled s.state.name) i) (no_given n (codes "owner") refl s.owner i) (no_given n (codes "group") refl s.group i)
      (no_given n (codes "mode") refl s.mode i) (no_priority n refl s.priority i) (no_watch n refl refl s.watch i) (no_persist n refl s.persist i))
      ∙ before_six (filled s.state.name)

  pub at_owner : value_of (items s) (codes "owner") ≡ s.owner
  at_owner =
      let n = codes "owner" in
      at_node s n (record { label = λ x. refl; link = λ x. refl; tag = λ x. refl; env = λ x. refl; attr = λ x. refl; sysctl = λ x. refl })
      ∙ node_parts s n
      ∙ (λ i. first_of_seven (no_given n (codes "name") refl (filled s.state.name) i) (given_is n refl s.owner i) (no_given n (codes "group") refl s.group i)
      (no_given n (codes "mode") refl s.mode i) (no_priority n refl s.priority i) (no_watch n refl refl s.watch i) (no_persist n refl s.persist i))
      ∙ before_five s.owner

  pub at_group : value_of (items s) (codes "group") ≡ s.group
  at_group =
      let n = codes "group" in
      at_node s n (record { label = λ x. refl; link = λ x. refl; tag = λ x. refl; env = λ x. refl; attr = λ x. refl; sysctl = λ x. refl })
      ∙ node_parts s n
      ∙ (λ i. first_of_seven (no_given n (codes "name") refl (filled s.state.name) i) (no_given n (codes "owner") refl s.owner i) (given_is n refl s.group i)
      (no_given n (codes "mode") refl s.mode i) (no_priority n refl s.priority i) (no_watch n refl refl s.watch i) (no_persist n refl s.persist i))
      ∙ before_four s.group

  pub at_mode : value_of (items s) (codes "mode") ≡ s.mode
  at_mode =
      let n = codes "mode" in
      at_node s n (record { label = λ x. refl; link = λ x. refl; tag = λ x. refl; env = λ x. refl; attr = λ x. refl; sysctl = λ x. refl })
      ∙ node_parts s n
      ∙ (λ i. first_of_seven (no_given n (codes "name") refl (filled s.state.name) i) (no_given n (codes "owner") refl s.owner i) (no_given n (codes "group") refl s.group i)
      (given_is n refl s.mode i) (no_priority n refl s.priority i) (no_watch n refl refl s.watch i) (no_persist n refl s.persist i))
      ∙ before_three s.mode

  pub at_priority : value_of (items s) (codes "priority") ≡ option_map signed_decimal s.priority
  at_priority =
      let n = codes "priority" in
      at_node s n (record { label = λ x. refl; link = λ x. refl; tag = λ x. refl; env = λ x. refl; attr = λ x. refl; sysctl = λ x. refl })
      ∙ node_parts s n
      ∙ (λ i. first_of_seven (no_given n (codes "name") refl (filled s.state.name) i) (no_given n (codes "owner") refl s.owner i) (no_given n (codes "group") refl s.group i)
      (no_given n (codes "mode") refl s.mode i) (priority_is s.priority i) (no_watch n refl refl s.watch i) (no_persist n refl s.persist i))
      ∙ before_two (option_map signed_decimal s.priority)

  pub at_watch : value_of (items s) (codes "watch") ≡ cond (is_watch s.watch true) (Some []) None
  at_watch =
      let n = codes "watch" in
      at_node s n (record { label = λ x. refl; link = λ x. refl; tag = λ x. refl; env = λ x. refl; attr = λ x. refl; sysctl = λ x. refl })
      ∙ node_parts s n
      ∙ (λ i. first_of_seven (no_given n (codes "name") refl (filled s.state.name) i) (no_given n (codes "owner") refl s.owner i) (no_given n (codes "group") refl s.group i)
      (no_given n (codes "mode") refl s.mode i) (no_priority n refl s.priority i) (watch_is s.watch i) (no_persist n refl s.persist i))
      ∙ before_one (cond (is_watch s.watch true) (Some []) None)

  pub at_nowatch : value_of (items s) (codes "nowatch") ≡ cond (is_watch s.watch false) (Some []) None
  at_nowatch =
      let n = codes "nowatch" in
      at_node s n (record { label = λ x. refl; link = λ x. refl; tag = λ x. refl; env = λ x. refl; attr = λ x. refl; sysctl = λ x. refl })
      ∙ node_parts s n
      ∙ (λ i. first_of_seven (no_given n (codes "name") refl (filled s.state.name) i) (no_given n (codes "owner") refl s.owner i) (no_given n (codes "group") refl s.group i)
      (no_given n (codes "mode") refl s.mode i) (no_priority n refl s.priority i) (nowatch_is s.watch i) (no_persist n refl s.persist i))
      ∙ before_one (cond (is_watch s.watch false) (Some []) None)

  pub at_persist : value_of (items s) (codes "persist") ≡ cond s.persist (Some []) None
  at_persist =
      let n = codes "persist" in
      at_node s n (record { label = λ x. refl; link = λ x. refl; tag = λ x. refl; env = λ x. refl; attr = λ x. refl; sysctl = λ x. refl })
      ∙ node_parts s n
      ∙ (λ i. first_of_seven (no_given n (codes "name") refl (filled s.state.name) i) (no_given n (codes "owner") refl s.owner i) (no_given n (codes "group") refl s.group i)
      (no_given n (codes "mode") refl s.mode i) (no_priority n refl s.priority i) (no_watch n refl refl s.watch i) (persist_is s.persist i))

  -- what is found of the node
  pub node_is : texts_found s ++ marks_found s ≡ found (items s) node_words
  node_is =
      sym
      (λ i.
      (codes "name", at_name i)
      ∷ (codes "owner", at_owner i)
      ∷ (codes "group", at_group i)
      ∷ (codes "mode", at_mode i)
      ∷ (codes "priority", at_priority i)
      ∷ (codes "watch", at_watch i)
      ∷ (codes "nowatch", at_nowatch i)
      ∷ (codes "persist", at_persist i)
      ∷ [])

-- ---- names that may be there

module _ (w : Text) (alike : (x y : Text) → same_text (item_name w x) (item_name w y) ≡ same_text x y) where
  text_at : (xs : List Text) (x : Text) → value_of (text_items w xs) (item_name w x) ≡ cond (is_among xs x) (Some []) None
  text_at [] x = refl
  text_at (y ∷ ys) x = ap (λ b. cond b (Some []) (value_of (text_items w ys) (item_name w x))) (alike x y) ∙ by (same_text x y) (text_at ys x)
    where
      by : (b : Bool) → value_of (text_items w ys) (item_name w x) ≡ cond (is_among ys x) (Some []) None → cond b (Some []) (value_of (text_items w ys) (item_name w x)) ≡ cond (b || is_among ys x) (Some []) None
      by true h = refl
      by false h = h

  pair_at : (ps : List Pair) (x : Text) → value_of (pair_items w ps) (item_name w x) ≡ value_of ps x
  pair_at [] x = refl
  pair_at (p ∷ ps) x = ap (λ b. cond b (Some p.1) (value_of (pair_items w ps) (item_name w x))) (alike x p.0) ∙ ap (cond (same_text x p.0) (Some p.1)) (pair_at ps x)

is_left : (tags gone : List Text) (t : Text) → is_among (without_texts tags gone) t ≡ (is_among tags t && not (is_among gone t))
is_left tags [] t = by (is_among tags t)
  where
    by : (b : Bool) → b ≡ (b && true)
    by true = refl
    by false = refl
is_left tags (g ∷ gone) t = is_left (without_text tags g) gone t ∙ ap (λ b. b && not (is_among gone t)) (among_removed tags g t) ∙ by (same_text t g) (is_among tags t) (is_among gone t)
  where
    by : (a b c : Bool) → ((not a && b) && not c) ≡ (b && not (a || c))
    by true true c = refl
    by true false c = refl
    by false b c = refl

module _ (s : Scene) (x : Text) where
  -- a link
  pub at_link : value_of (items s) (item_name (codes "link") x) ≡ cond (is_among s.state.links x) (Some []) None
  at_link =
      let n = item_name (codes "link") x in
      items_at s n
      ∙ (λ i. first_of_seven (no_node n (record { name = refl; owner = refl; group = refl; mode = refl; priority = refl; watch = refl; nowatch = refl; persist = refl }) s i)
      (no_label n (λ y. refl) s.state.event.profile s.labels i) (text_at (codes "link") (λ a b. refl) s.state.links x i) (no_text n (codes "tag") (λ y. refl) (current_tags s) i)
      (no_pair n (codes "env") (λ y. refl) s.state.env i) (no_pair n (codes "attr") (λ y. refl) s.attrs i) (no_pair n (codes "sysctl") (λ y. refl) s.sysctls i))
      ∙ before_four (cond (is_among s.state.links x) (Some []) None)

  -- a tag
  pub at_tag : value_of (items s) (item_name (codes "tag") x) ≡ cond (is_among s.state.tags x && not (is_among s.gone x)) (Some []) None
  at_tag =
      let n = item_name (codes "tag") x in
      items_at s n
      ∙ (λ i. first_of_seven (no_node n (record { name = refl; owner = refl; group = refl; mode = refl; priority = refl; watch = refl; nowatch = refl; persist = refl }) s i)
      (no_label n (λ y. refl) s.state.event.profile s.labels i) (no_text n (codes "link") (λ y. refl) s.state.links i) (text_at (codes "tag") (λ a b. refl) (current_tags s) x i)
      (no_pair n (codes "env") (λ y. refl) s.state.env i) (no_pair n (codes "attr") (λ y. refl) s.attrs i) (no_pair n (codes "sysctl") (λ y. refl) s.sysctls i))
      ∙ before_three (cond (is_among (current_tags s) x) (Some []) None)
      ∙ ap (λ b. cond b (Some []) None) (is_left s.state.tags s.gone x)

  -- a property
  pub at_property : value_of (items s) (item_name (codes "env") x) ≡ value_of s.state.env x
  at_property =
      let n = item_name (codes "env") x in
      items_at s n
      ∙ (λ i. first_of_seven (no_node n (record { name = refl; owner = refl; group = refl; mode = refl; priority = refl; watch = refl; nowatch = refl; persist = refl }) s i)
      (no_label n (λ y. refl) s.state.event.profile s.labels i) (no_text n (codes "link") (λ y. refl) s.state.links i) (no_text n (codes "tag") (λ y. refl) (current_tags s) i)
      (pair_at (codes "env") (λ a b. refl) s.state.env x i) (no_pair n (codes "attr") (λ y. refl) s.attrs i) (no_pair n (codes "sysctl") (λ y. refl) s.sysctls i))
      ∙ before_two (value_of s.state.env x)

  -- an attribute
  pub at_attribute : value_of (items s) (item_name (codes "attr") x) ≡ value_of s.attrs x
  at_attribute =
      let n = item_name (codes "attr") x in
      items_at s n
      ∙ (λ i. first_of_seven (no_node n (record { name = refl; owner = refl; group = refl; mode = refl; priority = refl; watch = refl; nowatch = refl; persist = refl }) s i)
      (no_label n (λ y. refl) s.state.event.profile s.labels i) (no_text n (codes "link") (λ y. refl) s.state.links i) (no_text n (codes "tag") (λ y. refl) (current_tags s) i)
      (no_pair n (codes "env") (λ y. refl) s.state.env i) (pair_at (codes "attr") (λ a b. refl) s.attrs x i) (no_pair n (codes "sysctl") (λ y. refl) s.sysctls i))
      ∙ before_one (value_of s.attrs x)

  -- a kernel parameter
  pub at_parameter : value_of (items s) (item_name (codes "sysctl") x) ≡ value_of s.sysctls x
  at_parameter =
      let n = item_name (codes "sysctl") x in
      items_at s n
      ∙ (λ i. first_of_seven (no_node n (record { name = refl; owner = refl; group = refl; mode = refl; priority = refl; watch = refl; nowatch = refl; persist = refl }) s i)
      (no_label n (λ y. refl) s.state.event.profile s.labels i) (no_text n (codes "link") (λ y. refl) s.state.links i) (no_text n (codes "tag") (λ y. refl) (current_tags s) i)
      (no_pair n (codes "env") (λ y. refl) s.state.env i) (no_pair n (codes "attr") (λ y. refl) s.attrs i) (pair_at (codes "sysctl") (λ a b. refl) s.sysctls x i))
