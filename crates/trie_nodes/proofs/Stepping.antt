-- One byte more: which nodes take it, stay, or are stars under such nodes.
use Rattle.std.proofs.Common.{◌≡◌, ℕ, suc, zero, ◌+◌, ◌-◌, ◌<◌, ◌≤◌, min, Bool, true, false, ◌||◌, ◌&&◌, cond, List, ◌∷◌, [], ◌++◌, length, filter, take, drop, get_or, refl, sym, inl, inr, ◌∙◌, ap, subst, arith, zero-add, add-one, length-append}
use Rattle.std.proofs.Math.Seq.{drop-cons, get_or-append_seam}
use Rattle.std.specs.List.{range_with_len, flat_map, sum_by, AllByRecursion, All}
use Rattle.std.proofs.Math.ListN.{get_or-eq_default, drop_of_length-le}
use Rattle.std.proofs.lemmas.List.{take-append-drop, append-nil, take_more, drop-append-le, take-append-le}
use Rattle.std.proofs.lemmas.List.Sums.{length-filter, count_by-le-length, sum_by_more, sum_by-drop_more}
use Rattle.std.proofs.lemmas.Bool.Decides.{leb_tells}
use Rattle.std.proofs.lemmas.List.Elements.{All-filter}
use Rattle.std.proofs.lemmas.List.FromFn.{length-range_with_len, get_or-range_with_len}
use Rattle.text_core.specs.declared.item.Item.{Item}
use Rattle.text_core.specs.declared.item.Item.TheVariants.{Byte, One, Many, Among}
use Rattle.text_core.specs.Items.{takes}
use Rattle.text_core.specs.Fits.{fits}
use Rattle.trie_nodes.proofs.Snoc.{not_whole, fits_start_single, fits_start_many}
use Rattle.trie_nodes.specs.declared.node.Node.{Node}
use Rattle.trie_nodes.specs.Tree.{Shape, nowhere, node_at, children, numbers, path, is_active, active_after, is_star}
use Rattle.trie_nodes.specs.Steps.{proceeds, stars, takers}
use Rattle.trie_nodes.proofs.Growing.{fits_next}
use Rattle.trie_nodes.proofs.Pieces.{filter_range_same, filter_gated, filter_pieces, filter_twice, range-append}
use Rattle.trie_nodes.proofs.Merging.{Going, Met, passing, passing_beyond, not_met, next, finish, inside, past_here}
use Rattle.trie_nodes.specs.Merge.{first_or, past}
use Rattle.trie_nodes.proofs.Shaped.{before, up, up_is, path_on, path_root, some}

single : (p t o n : Bool) → (p && t) ≡ ((p && t) || (o && false)) || (n && false)
single true true true true = refl
single true true true false = refl
single true true false n = elim n as (λ v. true ≡ true || (v && false)) [ true ↦ refl | false ↦ refl ]
single true false o n = elim o as (λ w. false ≡ (false || (w && false)) || (n && false)) [ true ↦ none n | false ↦ none n ] where
  none : (v : Bool) → false ≡ (v && false)
  none true = refl
  none false = refl
single false t o n = elim o as (λ w. false ≡ (false || (w && false)) || (n && false)) [ true ↦ none n | false ↦ none n ] where
  none : (v : Bool) → false ≡ (v && false)
  none true = refl
  none false = refl

go_cases : (x : Item) (p n o : Bool) (b : ℕ) → proceeds x p n o b ≡ ((p && takes x b) || (o && is_star x)) || (n && is_star x)
go_cases Many true n true b = elim n as (λ v. v || true ≡ true || (v && true)) [ true ↦ refl | false ↦ refl ]
go_cases Many true n false b = elim n as (λ v. v || false ≡ (false || false) || (v && true)) [ true ↦ refl | false ↦ refl ]
go_cases Many false true true b = refl
go_cases Many false false true b = refl
go_cases Many false true false b = refl
go_cases Many false false false b = refl
go_cases (Byte c) p n o b = single p (takes (Byte c) b) o n
go_cases One p n o b = single p (takes One b) o n
go_cases (Among set) p n o b = single p (takes (Among set) b) o n

module _ (nodes : List Node) (m : List ℕ) (i : ℕ) where
  abbrev pub byte : ℕ
  byte = get_or m i 0

  abbrev pub taking : ℕ → Bool
  taking c = is_active nodes (take i m) (up nodes c) && takes (node_at nodes c).label byte

  abbrev pub staying : ℕ → Bool
  staying c = is_active nodes (take i m) c && is_star (node_at nodes c).label

  abbrev pub starring : ℕ → Bool
  starring c = is_active nodes (take (i + 1) m) (up nodes c) && is_star (node_at nodes c).label

  abbrev pub going : ℕ → Bool
  going c = is_active nodes (take (i + 1) m) c

  abbrev pub more : ℕ → List ℕ
  more p = stars nodes (children nodes p)

-- the number after the last node that was met; at the start that after the root
abbrev pub after_last : List ℕ → ℕ
after_last met = get_or met (length met - 1) 0 + 1

pub after_pushed : (met met2 : List ℕ) (node : ℕ) → met2 ≡ met ++ node ∷ [] → after_last met2 ≡ node + 1
after_pushed met met2 node e =
    let len : length met2 ≡ length met + 1 = ap length e ∙ length-append met (node ∷ []) in
    let last : length met2 - 1 ≡ length met = omega arith in
    ap (λ k. get_or met2 k 0 + 1) last ∙ ap (λ (l : List ℕ). get_or l (length met) 0 + 1) e ∙ ap (λ k. k + 1) (get_or-append_seam met node [] 0)

-- how far a walk has come
abbrev pub Walked : List Node → List ℕ → ℕ → List ℕ → List ℕ → List ℕ → List ℕ → ℕ → Type 0
Walked nodes m i met xs ys zs from =
    Met (length nodes) (taking nodes m i) (staying nodes m i) (starring nodes m i) (going nodes m i) (more nodes m i) met xs ys zs from (length nodes - from)

module _ (nodes : List Node) (s : Shape nodes) where
  -- beyond the nodes there are no children
  no_children : (p : ℕ) → length nodes ≤ p → children nodes p ≡ []
  no_children p h = let e : node_at nodes p ≡ nowhere = get_or-eq_default nodes nowhere h in ap (λ (n : Node). range_with_len n.first n.count) e

  -- all nodes from a parent's first child on
  children_from : (a r : ℕ) → a + r ≡ length nodes → flat_map (children nodes) (range_with_len a r) ≡ range_with_len (1 + before nodes a) (sum_by (λ n. n.count) (drop a nodes))
  children_from a zero h =
      let over : length nodes ≤ a = omega arith in
      ap (λ (l : List Node). range_with_len (1 + before nodes a) (sum_by (λ n. n.count) l)) (sym (drop_of_length-le nodes over))
  children_from a (suc r) h =
      let within : a < length nodes = omega arith in
      let own : Node = node_at nodes a in
      let up_to : before nodes (a + 1) ≡ before nodes a + own.count = sum_by_more (λ (n : Node). n.count) nodes a nowhere within in
      let down : sum_by (λ (n : Node). n.count) (drop a nodes) ≡ own.count + sum_by (λ (n : Node). n.count) (drop (a + 1) nodes) = sum_by-drop_more (λ (n : Node). n.count) nodes a nowhere within in
      let next : 1 + before nodes (a + 1) ≡ (1 + before nodes a) + own.count = omega (arith, up_to) in
      ap (λ k. range_with_len k own.count ++ flat_map (children nodes) (range_with_len (a + 1) r)) (s.first a within)
      ∙ ap (λ (l : List ℕ). range_with_len (1 + before nodes a) own.count ++ l) (children_from (a + 1) r (omega arith))
      ∙ ap (λ k. range_with_len (1 + before nodes a) own.count ++ range_with_len k (sum_by (λ (n : Node). n.count) (drop (a + 1) nodes))) next
      ∙ range-append (1 + before nodes a) own.count (sum_by (λ (n : Node). n.count) (drop (a + 1) nodes))
      ∙ ap (range_with_len (1 + before nodes a)) (sym down)

  pub all_children : flat_map (children nodes) (numbers nodes) ≡ range_with_len 1 (length nodes - 1)
  all_children =
      let e : sum_by (λ (n : Node). n.count) nodes ≡ length nodes - 1 = omega (arith, s.all) in
      children_from 0 (length nodes) (zero-add (length nodes)) ∙ ap (range_with_len 1) e

  -- a test of children that first asks for the parent
  gated : (a r : ℕ → Bool) (p : ℕ) → filter (λ c. a (up nodes c) && r c) (children nodes p) ≡ cond (a p) (filter r (children nodes p)) []
  gated a r p = elim (leb_tells (length nodes) p) [
    | inl t ↦ outside (no_children p t.1)
    | inr t ↦
        filter_range_same (λ c. a (up nodes c) && r c) (λ c. a p && r c) (node_at nodes p).first (node_at nodes p).count
        (λ j h. ap (λ k. a k && r ((node_at nodes p).first + j)) (up_is nodes s ((node_at nodes p).first + j) p j (record { parent = t.1; inside = h; place = refl })))
        ∙ filter_gated (a p) r (children nodes p)
  ] where
    outside : children nodes p ≡ [] → filter (λ c. a (up nodes c) && r c) (children nodes p) ≡ cond (a p) (filter r (children nodes p)) []
    outside e = rw e (elim (a p) as (λ v. ◌≡◌ {A = List ℕ} [] (cond v [] [])) [ true ↦ refl | false ↦ refl ])

  pub under_pieces : (a r : ℕ → Bool) → flat_map (λ p. filter r (children nodes p)) (filter a (numbers nodes)) ≡ filter (λ c. a (up nodes c) && r c) (range_with_len 1 (length nodes - 1))
  under_pieces a r =
      filter_pieces (children nodes) a (λ c. a (up nodes c) && r c) r (gated a r) (numbers nodes)
      ∙ ap (filter (λ c. a (up nodes c) && r c)) all_children

  following : (m : List ℕ) (i p : ℕ) → AllByRecursion (λ c. p < c) (more nodes m i p)
  following m i p = elim (leb_tells (length nodes) p) [
    | inl t ↦ let e : children nodes p ≡ [] = no_children p t.1 in subst (λ (l : List ℕ). AllByRecursion (λ c. p < c) (stars nodes l)) (sym e) tt
    | inr t ↦ passing_beyond (λ c. is_star (node_at nodes c).label) p (node_at nodes p).first (node_at nodes p).count (s.later p t.1)
  ]

  module _ (m : List ℕ) (i : ℕ) (within : i < length m) where
    text_more : take (i + 1) m ≡ take i m ++ byte nodes m i ∷ []
    text_more = take_more m i 0 within

    root_stops : going nodes m i 0 ≡ false
    root_stops = ap (λ (p : List Item). fits p (take (i + 1) m)) (path_root nodes) ∙ ap (fits []) text_more ∙ not_whole (take i m) (byte nodes m i)

    each : (c : ℕ) → 0 < c → c < length nodes → going nodes m i c ≡ (taking nodes m i c || staying nodes m i c) || starring nodes m i c
    each c h k =
        let p : List Item = path nodes (up nodes c) in
        let x : Item = (node_at nodes c).label in
        let t : List ℕ = take i m in
        let b : ℕ = byte nodes m i in
        let own : path nodes c ≡ p ++ x ∷ [] = path_on nodes s c h k in
        ap (λ (q : List Item). fits q (take (i + 1) m)) own
        ∙ ap (fits (p ++ x ∷ [])) text_more
        ∙ fits_next p x t b
        ∙ ap (λ (u : List ℕ). proceeds x (fits p t) (fits p u) (fits (p ++ x ∷ []) t) b) (sym text_more)
        ∙ ap (λ (q : List Item). proceeds x (fits p t) (fits p (take (i + 1) m)) (fits q t) b) (sym own)
        ∙ go_cases x (fits p t) (fits p (take (i + 1) m)) (is_active nodes t c) b

    pub advances : Going (length nodes) (taking nodes m i) (staying nodes m i) (starring nodes m i) (going nodes m i) (more nodes m i)
    advances = record {
      each = each;
      following = following m i;
    }

    taken_is : flat_map (λ p. takers nodes (byte nodes m i) (children nodes p)) (active_after nodes (take i m)) ≡ passing (taking nodes m i) 1 (length nodes - 1)
    taken_is = under_pieces (is_active nodes (take i m)) (λ c. takes (node_at nodes c).label (byte nodes m i))

    stays_are : stars nodes (active_after nodes (take i m)) ≡ passing (staying nodes m i) 1 (length nodes - 1)
    stays_are =
        let e : length nodes ≡ suc (length nodes - 1) = omega (arith, some nodes s) in
        let not : staying nodes m i 0 ≡ false = ap (λ (x : Item). is_active nodes (take i m) 0 && is_star x) s.root ∙ and_false (is_active nodes (take i m) 0) in
        filter_twice (is_active nodes (take i m)) (λ c. is_star (node_at nodes c).label) (numbers nodes)
        ∙ ap (passing (staying nodes m i) 0) e
        ∙ ap (λ v. cond v (0 ∷ passing (staying nodes m i) 1 (length nodes - 1)) (passing (staying nodes m i) 1 (length nodes - 1))) not where
          and_false : (a : Bool) → (a && false) ≡ false
          and_false true = refl
          and_false false = refl

    -- before the first node is met
    pub start : Walked nodes m i [] (flat_map (λ p. takers nodes (byte nodes m i) (children nodes p)) (active_after nodes (take i m))) (stars nodes (active_after nodes (take i m))) [] 1
    start =
        let e : length nodes ≡ suc (length nodes - 1) = omega (arith, some nodes s) in
        let r : ℕ = length nodes - 1 in
        record {
          place = omega arith;
          left = omega (arith, e);
          all = sym (ap (passing (going nodes m i) 0) e ∙ ap (λ v. cond v (0 ∷ passing (going nodes m i) 1 r) (passing (going nodes m i) 1 r)) root_stops);
          xs_are = taken_is;
          ys_are = stays_are;
          zs_are =
              ap (flat_map (more nodes m i)) (sym (ap (passing (going nodes m i) 0) e ∙ ap (λ v. cond v (0 ∷ passing (going nodes m i) 1 r) (passing (going nodes m i) 1 r)) root_stops))
              ∙ under_pieces (going nodes m i) (λ c. is_star (node_at nodes c).label);
        }

pub active_within : (nodes : List Node) (t : List ℕ) → All (λ i. i < length nodes) (active_after nodes t)
active_within nodes t = All-filter (is_active nodes t) (λ i. i < length nodes) (numbers nodes) (λ k d h.
    let here : k < length nodes = rw (length-range_with_len 0 (length nodes)) at h in
    rw (get_or-range_with_len 0 (length nodes) k d here) (omega arith))

module _ (nodes : List Node) (s : Shape nodes) (m : List ℕ) (i : ℕ) (within : i < length m) where
  module _ (met xs ys zs : List ℕ) (from node : ℕ) (w : Walked nodes m i met xs ys zs from)
      (least : node ≡ min (first_or (length nodes) xs) (min (first_or (length nodes) ys) (first_or (length nodes) zs))) where
    g : Going (length nodes) (taking nodes m i) (staying nodes m i) (starring nodes m i) (going nodes m i) (more nodes m i)
    g = advances nodes s m i within

    pub nearer : node < length nodes → length nodes - (node + 1) < length nodes - from
    nearer h = omega (arith, not_met (length nodes) (taking nodes m i) (staying nodes m i) (starring nodes m i) (going nodes m i) (more nodes m i) g met xs ys zs from node w least)

    pub all_met : length nodes ≤ node → met ≡ active_after nodes (take (i + 1) m)
    all_met h = finish (length nodes) (taking nodes m i) (staying nodes m i) (starring nodes m i) (going nodes m i) (more nodes m i) g met xs ys zs from node w least h

    one_more : node < length nodes → Walked nodes m i (met ++ node ∷ []) (past node xs) (past node ys) (past node zs ++ stars nodes (children nodes node)) (node + 1)
    one_more h = next (length nodes) (taking nodes m i) (staying nodes m i) (starring nodes m i) (going nodes m i) (more nodes m i) g met xs ys zs from node w least h

  pub walk_on : (met met2 xs xs2 ys ys2 starred starred2 : List ℕ) (at at2 from node : ℕ) → Walked nodes m i met xs ys (drop at starred) from
      → node ≡ min (first_or (length nodes) xs) (min (first_or (length nodes) ys) (first_or (length nodes) (drop at starred))) → node < length nodes
      → met2 ≡ met ++ node ∷ [] → xs2 ≡ past node xs → ys2 ≡ past node ys → at2 ≤ length starred → drop at2 starred ≡ past node (drop at starred)
      → starred2 ≡ starred ++ stars nodes (children nodes node)
      → Walked nodes m i met2 xs2 ys2 (drop at2 starred2) (node + 1)
  walk_on met met2 xs xs2 ys ys2 starred starred2 at at2 from node w least h e1 e2 e3 le e4 e5 =
      let e6 : drop at2 starred2 ≡ past node (drop at starred) ++ stars nodes (children nodes node) =
      ap (drop at2) e5 ∙ drop-append-le at2 starred (stars nodes (children nodes node)) le ∙ ap (λ (l : List ℕ). l ++ stars nodes (children nodes node)) e4 in
      rw (e1, e2, e3, e6) (one_more met xs ys (drop at starred) from node w least h)

-- before the text: the root, and stars under what is active
abbrev pub none : ℕ → Bool
none c = false

abbrev pub starring_first : List Node → ℕ → Bool
starring_first nodes c = is_active nodes [] (up nodes c) && is_star (node_at nodes c).label

abbrev pub stars_under : List Node → ℕ → List ℕ
stars_under nodes p = stars nodes (children nodes p)

-- how far the first nodes are met
abbrev pub Started : List Node → List ℕ → List ℕ → ℕ → Type 0
Started nodes met zs from = Met (length nodes) none none (starring_first nodes) (is_active nodes []) (stars_under nodes) met [] [] zs from (length nodes - from)

first_cases : (p : List Item) (x : Item) → fits (p ++ x ∷ []) [] ≡ (false || false) || (fits p [] && is_star x)
first_cases p Many = fits_start_many p ∙ elim (fits p []) as (λ v. v ≡ (v && true)) [ true ↦ refl | false ↦ refl ]
first_cases p (Byte c) = fits_start_single p (Byte c) tt ∙ elim (fits p []) as (λ v. false ≡ (v && false)) [ true ↦ refl | false ↦ refl ]
first_cases p One = fits_start_single p One tt ∙ elim (fits p []) as (λ v. false ≡ (v && false)) [ true ↦ refl | false ↦ refl ]
first_cases p (Among set) = fits_start_single p (Among set) tt ∙ elim (fits p []) as (λ v. false ≡ (v && false)) [ true ↦ refl | false ↦ refl ]

module _ (nodes : List Node) (s : Shape nodes) where
  first_advances : Going (length nodes) none none (starring_first nodes) (is_active nodes []) (stars_under nodes)
  first_advances = record {
    each = λ c h k. ap (λ (q : List Item). fits q []) (path_on nodes s c h k) ∙ first_cases (path nodes (up nodes c)) (node_at nodes c).label;
    following = following nodes s [] 0;
  }

  nothing : (a r : ℕ) → [] ≡ passing none a r
  nothing a zero = refl
  nothing a (suc r) = nothing (a + 1) r

  root_starts : is_active nodes [] 0 ≡ true
  root_starts = ap (λ (p : List Item). fits p []) (path_root nodes)

  split_first : passing (is_active nodes []) 0 (length nodes) ≡ 0 ∷ passing (is_active nodes []) 1 (length nodes - 1)
  split_first =
      let e : length nodes ≡ suc (length nodes - 1) = omega (arith, some nodes s) in
      let r : ℕ = length nodes - 1 in
      ap (passing (is_active nodes []) 0) e ∙ ap (λ v. cond v (0 ∷ passing (is_active nodes []) 1 r) (passing (is_active nodes []) 1 r)) root_starts

  pub started : Started nodes (0 ∷ []) (stars_under nodes 0) 1
  started =
      let r : ℕ = length nodes - 1 in
      record {
        place = omega arith;
        left = omega (arith, some nodes s);
        all = sym split_first;
        xs_are = nothing 1 r;
        ys_are = nothing 1 r;
        zs_are = ap (flat_map (stars_under nodes)) (sym split_first) ∙ under_pieces nodes s (is_active nodes []) (λ c. is_star (node_at nodes c).label);
      }

  module _ (list : List ℕ) (at from : ℕ) (w : Started nodes (take at list) (drop at list) from) (within : at < length list) where
    node : ℕ
    node = get_or list at 0

    split : drop at list ≡ node ∷ drop (at + 1) list
    unfolding node
    split = rw add-one (drop-cons list at 0 within)

    here : Started nodes (take at list) (node ∷ drop (at + 1) list) from
    here = subst (λ (l : List ℕ). Started nodes (take at list) l from) split w

    pub is_node : get_or list at 0 < length nodes
    unfolding node
    is_node = inside (length nodes) none none (starring_first nodes) (is_active nodes []) (stars_under nodes) first_advances (take at list) [] [] (drop (at + 1) list) from (length nodes - from) node here

    least : node ≡ min (length nodes) (min (length nodes) node)
    unfolding node
    least = omega (arith, is_node)

    pub first_nearer : from ≤ get_or list at 0
    unfolding node
    first_nearer = not_met (length nodes) none none (starring_first nodes) (is_active nodes []) (stars_under nodes) first_advances (take at list) [] [] (node ∷ drop (at + 1) list) from node here least

    pub start_on : (list2 : List ℕ) → list2 ≡ list ++ stars_under nodes (get_or list at 0) → Started nodes (take (at + 1) list2) (drop (at + 1) list2) (get_or list at 0 + 1)
    unfolding node
    start_on list2 e =
        let extra : List ℕ = stars_under nodes node in
        let inside_list : at + 1 ≤ length list = omega arith in
        let prefix : take (at + 1) list2 ≡ take at list ++ node ∷ [] = ap (take (at + 1)) e ∙ take-append-le (at + 1) list extra inside_list ∙ take_more list at 0 within in
        let back : drop (at + 1) list2 ≡ past node (node ∷ drop (at + 1) list) ++ extra =
        ap (drop (at + 1)) e ∙ drop-append-le (at + 1) list extra inside_list ∙ ap (λ (l : List ℕ). l ++ extra) (sym (past_here node (drop (at + 1) list))) in
        rw (prefix, back) (next (length nodes) none none (starring_first nodes) (is_active nodes []) (stars_under nodes) first_advances (take at list) [] [] (node ∷ drop (at + 1) list) from node here least is_node)

  pub all_started : (list : List ℕ) (at from : ℕ) → Started nodes (take at list) (drop at list) from → length list ≤ at → list ≡ active_after nodes []
  all_started list at from w h =
      let whole : take at list ≡ list = (sym (append-nil (take at list)) ∙ ap (λ (l : List ℕ). take at list ++ l) (sym (drop_of_length-le list h)) ∙ take-append-drop at list) in
      let over : drop at list ≡ [] = drop_of_length-le list h in
      let w2 : Started nodes list [] from = subst (λ (l : List ℕ). Started nodes list l from) over (subst (λ (l : List ℕ). Started nodes l (drop at list) from) whole w) in
      let n : ℕ = length nodes in
      let least : n ≡ min n (min n n) = omega arith in
      finish n none none (starring_first nodes) (is_active nodes []) (stars_under nodes) first_advances list [] [] [] from n w2 least (omega arith)

-- at most all nodes are active
pub at_most_all : (nodes : List Node) (t : List ℕ) → length (active_after nodes t) ≤ length nodes
at_most_all nodes t = rw (length-filter) (omega (arith, count_by-le-length (is_active nodes t) (numbers nodes), length-range_with_len 0 (length nodes)))
