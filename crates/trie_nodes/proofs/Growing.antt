-- Paths, one node more.
use Rattle.std.proofs.Common.{◌≡◌, ℕ, ◌+◌, ◌<◌, ◌≤◌, List, ◌∷◌, [], ◌++◌, length, take, drop, fold, get_or, refl, sym, ◌∙◌, ap, arith, length-append, length-take}
use Rattle.std.proofs.Math.ListN.{get_or-append}
use Rattle.std.proofs.Math.Seq.{get_or-append_seam}
use Rattle.std.proofs.lemmas.List.{take-append-drop}
use Rattle.std.proofs.lemmas.List.Sums.{fold_more, fold-append}
use Rattle.text_core.specs.declared.item.Item.{Item}
use Rattle.text_core.specs.declared.item.Item.TheVariants.{Byte, One, Many, Among}
use Rattle.text_core.specs.Fits.{fits}
use Rattle.trie_nodes.proofs.Snoc.{fits_next_single, fits_next_many}
use Rattle.trie_nodes.specs.Paths.{Link}
use Rattle.trie_nodes.specs.Paths.{grow, paths}
use Rattle.trie_nodes.specs.Steps.{proceeds}

-- the paths that there are stay
kept : (links : List Link) (ps : List (List Item)) (k : ℕ) → k < length ps → get_or (fold grow ps links) k [] ≡ get_or ps k []
kept [] ps k h = refl
kept (l ∷ links) ps k h =
    let longer : k < length (grow ps l) = simp length-append (omega arith) in
    kept links (grow ps l) k longer ∙ get_or-append ps ((get_or ps l.parent [] ++ l.label ∷ []) ∷ []) [] k h

grown : (links : List Link) (ps : List (List Item)) → length (fold grow ps links) ≡ length ps + length links
grown [] ps = omega arith
grown (l ∷ links) ps =
    let one : length (grow ps l) ≡ length ps + 1 = length-append ps ((get_or ps l.parent [] ++ l.label ∷ []) ∷ []) in
    let rest : length (fold grow (grow ps l) links) ≡ length (grow ps l) + length links = grown links (grow ps l) in
    omega arith

pub length-paths : (links : List Link) → length (paths links) ≡ length links + 1
unfolding paths
length-paths links =
    let all : length (fold grow ([] ∷ []) links) ≡ 1 + length links = grown links ([] ∷ []) in
    omega arith

pub path-kept : (links : List Link) (i k : ℕ) → k < length (paths (take i links)) → get_or (paths links) k [] ≡ get_or (paths (take i links)) k []
unfolding paths
path-kept links i k h =
    ap (λ (ls : List Link). get_or (fold grow ([] ∷ []) ls) k []) (sym (take-append-drop i links))
    ∙ ap (λ (ps : List (List Item)). get_or ps k []) (fold-append grow ([] ∷ []) (take i links) (drop i links))
    ∙ kept (drop i links) (fold grow ([] ∷ []) (take i links)) k h

pub paths_more : (links : List Link) (i : ℕ) (link start : Link) → i < length links → link ≡ get_or links i start
    → paths (take (i + 1) links) ≡ paths (take i links) ++ (get_or (paths (take i links)) link.parent [] ++ link.label ∷ []) ∷ []
unfolding paths
paths_more links i link start h is = fold_more grow ([] ∷ []) links i start h ∙ ap (λ (l : Link). grow (fold grow ([] ∷ []) (take i links)) l) (sym is)

-- how a path goes on with a byte
pub fits_next : (p : List Item) (x : Item) (t : List ℕ) (b : ℕ)
    → fits (p ++ x ∷ []) (t ++ b ∷ []) ≡ proceeds x (fits p t) (fits p (t ++ b ∷ [])) (fits (p ++ x ∷ []) t) b
fits_next p Many t b = fits_next_many b p t
fits_next p (Byte c) t b = fits_next_single (Byte c) b tt p t
fits_next p One t b = fits_next_single One b tt p t
fits_next p (Among set) t b = fits_next_single (Among set) b tt p t

-- a path is that of the parent and one label more
pub path_step : (links : List Link) (i : ℕ) (start : Link) → i < length links → (get_or links i start).parent ≤ i
    → get_or (paths links) (i + 1) [] ≡ get_or (paths links) (get_or links i start).parent [] ++ (get_or links i start).label ∷ []
path_step links i start h following =
    let own : Link = get_or links i start in
    let parent_path : List Item = get_or (paths (take i links)) own.parent [] in
    let prefix : length (paths (take i links)) ≡ i + 1 = length-paths (take i links) ∙ (simp length-take (omega arith)) in
    let grows : paths (take (i + 1) links) ≡ paths (take i links) ++ (parent_path ++ own.label ∷ []) ∷ [] = paths_more links i own start h refl in
    let longer : length (paths (take (i + 1) links)) ≡ length (paths (take i links)) + 1 = ap length grows ∙ length-append (paths (take i links)) ((parent_path ++ own.label ∷ []) ∷ []) in
    path-kept links (i + 1) (i + 1) (omega (arith, longer, prefix))
    ∙ ap (λ (ps : List (List Item)). get_or ps (i + 1) []) grows
    ∙ ap (λ (n : ℕ). get_or (paths (take i links) ++ (parent_path ++ own.label ∷ []) ∷ []) n []) (sym prefix)
    ∙ get_or-append_seam (paths (take i links)) (parent_path ++ own.label ∷ []) [] []
    ∙ ap (λ (p : List Item). p ++ own.label ∷ []) (sym (path-kept links i own.parent (omega (arith, prefix))))
