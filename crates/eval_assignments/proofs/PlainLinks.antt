-- A link that is kept is a plain path below `/dev`, and a plain path is kept as itself.
use Rattle.std.proofs.Common.{◌≡◌, ℕ, ◌==◌, ◌||◌, Bool, true, false, cond, List, [], ◌∷◌, ◌++◌, All, Some, None, filter, codes, refl, ap, sym, ◌∙◌}
use Rattle.std.specs.List.{join_with_byte, list_any, onto_first, slice_split}
use Rattle.std.proofs.lemmas.Bool.{or_parts}
use Rattle.std.proofs.lemmas.List.Elements.{All-cons, All-filter, All-head, All-nil, All-same, All-tail, filter_passes}
use Rattle.std.proofs.lemmas.List.Splits.{join_with_byte-slice_split, slice_split_at, slice_split_none}
use Rattle.text_bytes.specs.Names.{slash}
use Rattle.text_bytes.specs.Texts.{begins_with}
use Rattle.text_bytes.specs.Text.{Text}
use Rattle.text_tables.specs.Texts.{same_text}
use Rattle.eval_assignments.specs.Links.{after_dev, below_dev, components, is_barred, is_step, path_of, plain_link}

-- what is between the slashes of a text
abbrev parts : Text → List Text
parts path = slice_split (λ b. b == slash) path

-- a component without a slash
abbrev IsWhole : Text → Type 0
IsWhole component = All (λ b. (b == slash) ≡ false) component

onto : (b : ℕ) (ts : List Text) → (b == slash) ≡ false → All IsWhole ts → All IsWhole (onto_first b ts)
onto b [] h k = All-cons IsWhole (b ∷ []) [] (All-cons (λ c. (c == slash) ≡ false) b [] h (All-nil (λ c. (c == slash) ≡ false))) (All-nil IsWhole)
onto b (t ∷ ts) h k =
    All-cons IsWhole (b ∷ t) ts (All-cons (λ c. (c == slash) ≡ false) b t h (All-head IsWhole t ts k)) (All-tail IsWhole t ts k)

whole_parts : (path : Text) → All IsWhole (parts path)
whole_parts [] = All-cons IsWhole [] [] (All-nil (λ c. (c == slash) ≡ false)) (All-nil IsWhole)
whole_parts (b ∷ path) = by (b == slash) refl (whole_parts path)
  where
    by : (v : Bool) → (b == slash) ≡ v → All IsWhole (parts path) → All IsWhole (cond v ([] ∷ parts path) (onto_first b (parts path)))
    by true e k = All-cons IsWhole [] (parts path) (All-nil (λ c. (c == slash) ≡ false)) k
    by false e k = onto b (parts path) e k

-- a component as it may be in a link
record IsPlain (component : Text) : Type 0 where
  step : is_step component ≡ true
  free : is_barred component ≡ false
  whole : IsWhole component

all_plain : (cs : List Text) → All (λ c. is_step c ≡ true) cs → list_any is_barred cs ≡ false → All IsWhole cs → All IsPlain cs
all_plain [] s f w = All-nil IsPlain
all_plain (c ∷ cs) s f w =
    let both = or_parts (is_barred c) (list_any is_barred cs) f in
    All-cons IsPlain c cs (record { step = All-head (λ c. is_step c ≡ true) c cs s; free = both.0; whole = All-head IsWhole c cs w })
    (all_plain cs (All-tail (λ c. is_step c ≡ true) c cs s) both.1 (All-tail IsWhole c cs w))

all_free : (cs : List Text) → All (λ c. is_barred c ≡ false) cs → list_any is_barred cs ≡ false
all_free [] h = refl
all_free (c ∷ cs) h =
    ap (λ b. b || list_any is_barred cs) (All-head (λ c. is_barred c ≡ false) c cs h) ∙ all_free cs (All-tail (λ c. is_barred c ≡ false) c cs h)

steps_all : (cs : List Text) → All IsPlain cs → All (λ c. is_step c ≡ true) cs
steps_all [] h = All-nil (λ c. is_step c ≡ true)
steps_all (c ∷ cs) h = All-cons (λ c. is_step c ≡ true) c cs (All-head IsPlain c cs h).step (steps_all cs (All-tail IsPlain c cs h))

free_all : (cs : List Text) → All IsPlain cs → All (λ c. is_barred c ≡ false) cs
free_all [] h = All-nil (λ c. is_barred c ≡ false)
free_all (c ∷ cs) h = All-cons (λ c. is_barred c ≡ false) c cs (All-head IsPlain c cs h).free (free_all cs (All-tail IsPlain c cs h))

kept_all : (cs : List Text) → All (λ c. is_step c ≡ true) cs → filter is_step cs ≡ cs
kept_all [] h = refl
kept_all (c ∷ cs) h =
    ap (λ b. cond b (c ∷ filter is_step cs) (filter is_step cs)) (All-head (λ c. is_step c ≡ true) c cs h)
    ∙ ap (λ ts. c ∷ ts) (kept_all cs (All-tail (λ c. is_step c ≡ true) c cs h))

-- plain components with slashes between them are its parts
parts_again : (c : Text) (cs : List Text) → All IsPlain (c ∷ cs) → parts (join_with_byte slash (c ∷ cs)) ≡ c ∷ cs
parts_again c [] h = slice_split_none (λ b. b == slash) c (All-head IsPlain c [] h).whole
parts_again c (d ∷ cs) h =
    slice_split_at (λ b. b == slash) c slash (join_with_byte slash (d ∷ cs)) (All-head IsPlain c (d ∷ cs) h).whole refl
    ∙ ap (λ ts. c ∷ ts) (parts_again d cs (All-tail IsPlain c (d ∷ cs) h))

starts_plain : (c : Text) (cs : List Text) → All IsPlain (c ∷ cs) → begins_with slash (join_with_byte slash (c ∷ cs)) ≡ false
starts_plain c cs h = by c cs (All-head IsPlain c cs h)
  where
    by : (c : Text) (cs : List Text) → IsPlain c → begins_with slash (join_with_byte slash (c ∷ cs)) ≡ false
    by [] cs k = let no : false ≡ true = k.step in cc
    by (b ∷ c) [] k = All-head (λ b. (b == slash) ≡ false) b c k.whole
    by (b ∷ c) (d ∷ cs) k = All-head (λ b. (b == slash) ≡ false) b c k.whole

-- a link by its components, as they are below /dev
by_components : (path : Text) (c : Text) (cs : List Text) → components path ≡ c ∷ cs → begins_with slash path ≡ false → All IsPlain (c ∷ cs) → plain_link path ≡ Some (join_with_byte slash (c ∷ cs))
by_components path c cs e relative h =
    ap (λ found. cond (list_any is_barred found) None (path_of (cond (begins_with slash path) (after_dev found) found))) e
    ∙ ap (λ b. cond b None (path_of (cond (begins_with slash path) (after_dev (c ∷ cs)) (c ∷ cs)))) (all_free (c ∷ cs) (free_all (c ∷ cs) h))
    ∙ ap (λ b. path_of (cond b (after_dev (c ∷ cs)) (c ∷ cs))) relative

components_again : (c : Text) (cs : List Text) → All IsPlain (c ∷ cs) → components (join_with_byte slash (c ∷ cs)) ≡ c ∷ cs
components_again c cs h = ap (filter is_step) (parts_again c cs h) ∙ kept_all (c ∷ cs) (steps_all (c ∷ cs) h)

kept_again : (c : Text) (cs : List Text) → All IsPlain (c ∷ cs) → plain_link (join_with_byte slash (c ∷ cs)) ≡ Some (join_with_byte slash (c ∷ cs))
kept_again c cs h = by_components (join_with_byte slash (c ∷ cs)) c cs (components_again c cs h) (starts_plain c cs h) h

-- the same after `/dev/`
kept_below : (c : Text) (cs : List Text) → All IsPlain (c ∷ cs) → plain_link (codes "/dev/" ++ join_with_byte slash (c ∷ cs)) ≡ Some (join_with_byte slash (c ∷ cs))
kept_below c cs h =
    ap (λ found. cond (list_any is_barred found) None (path_of found)) (components_again c cs h)
    ∙ ap (λ b. cond b None (path_of (c ∷ cs))) (all_free (c ∷ cs) (free_all (c ∷ cs) h))

-- what a link that is kept is made of
record IsMade (link : Text) : Type 0 where
  first : Text
  others : List Text
  is : link ≡ join_with_byte slash (first ∷ others)
  plain : All IsPlain (first ∷ others)

of_path : (cs : List Text) (link : Text) → All IsPlain cs → path_of cs ≡ Some link → IsMade link
of_path [] link h e = cc
of_path (c ∷ cs) link h e = record { first = c; others = cs; is = let same : join_with_byte slash (c ∷ cs) ≡ link = cc in sym same; plain = h }

after_plain : (cs : List Text) → All IsPlain cs → All IsPlain (after_dev cs)
after_plain [] h = h
after_plain (c ∷ cs) h = by (same_text c (codes "dev"))
  where
    by : (v : Bool) → All IsPlain (cond v cs [])
    by true = All-tail IsPlain c cs h
    by false = All-nil IsPlain

made : (path link : Text) → plain_link path ≡ Some link → IsMade link
made path link e = by (list_any is_barred (components path)) refl e
  where
    below : (v : Bool) → All IsPlain (components path) → path_of (cond v (after_dev (components path)) (components path)) ≡ Some link → IsMade link
    below true h q = of_path (after_dev (components path)) link (after_plain (components path) h) q
    below false h q = of_path (components path) link h q

    by : (v : Bool) → list_any is_barred (components path) ≡ v → cond v None (path_of (below_dev path)) ≡ Some link → IsMade link
    by true f q = cc
    by false f q =
        below (begins_with slash path)
        (all_plain (components path) (filter_passes is_step (parts path)) f (All-filter is_step IsWhole (parts path) (whole_parts path))) q

-- ---- the laws

pub steps_of_link : (path link : Text) → plain_link path ≡ Some link → All (λ c. is_step c ≡ true) (slice_split (λ b. b == slash) link)
steps_of_link path link e =
    let m = made path link e in
    All-same (λ c. is_step c ≡ true) (parts link) (m.first ∷ m.others) (ap parts m.is ∙ parts_again m.first m.others m.plain) (steps_all (m.first ∷ m.others) m.plain)

pub free_of_link : (path link : Text) → plain_link path ≡ Some link → All (λ c. is_barred c ≡ false) (slice_split (λ b. b == slash) link)
free_of_link path link e =
    let m = made path link e in
    All-same (λ c. is_barred c ≡ false) (parts link) (m.first ∷ m.others) (ap parts m.is ∙ parts_again m.first m.others m.plain) (free_all (m.first ∷ m.others) m.plain)

-- a text of plain parts
plain_parts : (link : Text) → All (λ c. is_step c ≡ true) (parts link) → All (λ c. is_barred c ≡ false) (parts link) → IsMade link
plain_parts link s f = by (parts link) (sym (join_with_byte-slice_split slash link)) (all_plain (parts link) s (all_free (parts link) f) (whole_parts link)) s
  where
    by : (cs : List Text) → link ≡ join_with_byte slash cs → All IsPlain cs → All (λ c. is_step c ≡ true) cs → IsMade link
    by [] e h k = none link e s
      where
        none : (text : Text) → text ≡ [] → All (λ c. is_step c ≡ true) (parts text) → IsMade text
        none [] q t = let no : false ≡ true = All-head (λ c. is_step c ≡ true) [] [] t in cc
        none (b ∷ text) q t = cc
    by (c ∷ cs) e h k = record { first = c; others = cs; is = e; plain = h }

pub plain_is_kept : (link : Text) → All (λ c. is_step c ≡ true) (slice_split (λ b. b == slash) link) → All (λ c. is_barred c ≡ false) (slice_split (λ b. b == slash) link)
    → plain_link link ≡ Some link
plain_is_kept link s f =
    let m = plain_parts link s f in
    ap plain_link m.is ∙ kept_again m.first m.others m.plain ∙ ap (λ t. Some t) (sym m.is)

pub plain_is_below : (link : Text) → All (λ c. is_step c ≡ true) (slice_split (λ b. b == slash) link) → All (λ c. is_barred c ≡ false) (slice_split (λ b. b == slash) link)
    → plain_link (codes "/dev/" ++ link) ≡ Some link
plain_is_below link s f =
    let m = plain_parts link s f in
    ap (λ t. plain_link (codes "/dev/" ++ t)) m.is ∙ kept_below m.first m.others m.plain ∙ ap (λ t. Some t) (sym m.is)
