-- A walk from the root stays inside it.
use Rattle.std.proofs.Common.{◌≡◌, ◌∙◌, ◌++◌, ◌∷◌, ◌||◌, ◌-◌, [], ℕ, Bool, List, ap, append-nil, append_assoc, bytes_eq, codes, cond, false, length, refl, String, string_bytes, subst, suc, sym, take, true, zero}
use Rattle.std.specs.declared.alloc.Global.{Global}
use Rattle.devdry_files.specs.Answers.{Answer}
use Rattle.devdry_files.specs.Answers.Answer.{Stepped}
use Rattle.devdry_files.specs.Walks.{EntersBy, GoesOn, Leads, Walks, Way, is_absolute, is_here, is_up, names_in, next_by, place_by, place_in, settled}
use Rattle.devdry_files.specs.declared.look.Look.{Look}
use Rattle.devdry_files.specs.declared.step.End.{End}
use Rattle.devdry_files.specs.declared.step.End.TheVariants as end
use Rattle.devdry_files.specs.declared.step.Identity.{Identity}
use Rattle.devdry_files.specs.declared.step.Step.{Step}
use Rattle.devdry_files.specs.declared.step.Step.TheVariants as step
use Rattle.devdry_files.specs.declared.walking.Next.{Next}
use Rattle.devdry_files.specs.declared.walking.Next.TheVariants as next
use Rattle.devdry_folders.specs.Staying.{AreFolders, IsForward, IsInside}

-- one more folder at the end of a way
one_further : (may : Answer → Type 0) (root : List ℕ) (before way : Way) (name : List ℕ) → AreFolders may root before way → IsForward name
    → may (Stepped (place_in root ((before ++ way) ++ name ∷ [])) step.Folder) → AreFolders may root before (way ++ name ∷ [])
one_further may root before [] name along forward here =
    (forward, subst (λ w. may (Stepped (place_in root (w ++ name ∷ [])) step.Folder)) (append-nil before) here, tt)
one_further may root before (own ∷ way) name along forward here = (
  along.0,
  along.1,
  one_further may root (before ++ own ∷ []) way name along.2 forward
      (subst (λ w. may (Stepped (place_in root (w ++ name ∷ [])) step.Folder)) (sym (append_assoc before (own ∷ []) way)) here),
)

-- the front of a way
front_of : (may : Answer → Type 0) (root : List ℕ) (before : Way) (n : ℕ) (way : Way) → AreFolders may root before way → AreFolders may root before (take n way)
front_of may root before zero way along = tt
front_of may root before (suc n) [] along = tt
front_of may root before (suc n) (own ∷ way) along = (along.0, along.1, front_of may root (before ++ own ∷ []) n way along.2)

module _ (may : Answer → Type 0) (root : List ℕ) (Onward : Way → Way → End → Way → Type 0) (it : End) (at : Way) (onward : (way names : Way) → AreFolders may root [] way → Onward way names it at → IsInside may root it at) where
  -- nothing is inside where a way stops at nothing
  at_null : (names : Way) → it ≡ settled names end.Null → IsInside may root it at
  at_null [] is = subst (λ i. IsInside may root i at) (sym is) tt
  at_null (name ∷ names) is = subst (λ i. IsInside may root i at) (sym is) tt

  at_odd : (names : Way) → it ≡ settled names end.OddLink → IsInside may root it at
  at_odd [] is = subst (λ i. IsInside may root i at) (sym is) tt
  at_odd (name ∷ names) is = subst (λ i. IsInside may root i at) (sym is) tt

  at_no_way : (names : Way) (shown : Look) → it ≡ settled names (end.NoWay shown) → IsInside may root it at
  at_no_way [] shown is = subst (λ i. IsInside may root i at) (sym is) tt
  at_no_way (name ∷ names) shown is = subst (λ i. IsInside may root i at) (sym is) tt

  at_file : (names way : Way) (name : List ℕ) (identity : Identity) → AreFolders may root [] way → IsForward name
      → may (Stepped (place_in root (way ++ name ∷ [])) (step.File identity)) → it ≡ settled names (end.File identity) → at ≡ way ++ name ∷ [] → IsInside may root it at
  at_file [] way name identity along forward here is place = subst (λ i. IsInside may root i at) (sym is) (way, name, place, along, forward, here)
  at_file (next ∷ names) way name identity along forward here is place = subst (λ i. IsInside may root i at) (sym is) tt

  module _ (names : Way) (further : (on : Way) → AreFolders may root [] on → Walks may root Onward on names it at → IsInside may root it at) (way : Way) (along : AreFolders may root [] way) (name : List ℕ) where
    abbrev Goes : Next → Way → Type 0
    Goes then_next to = GoesOn then_next (λ on. Walks may root Onward on names it at) (λ target on. Onward on (names_in target ++ names) it at) (λ stop on. (it ≡ settled names stop) × (at ≡ on)) to

    by_link : (target : String Global) (null absolute : Bool) → Goes (cond null (next.Stop end.Null) (next.Follow target)) (cond absolute [] way) → IsInside may root it at
    by_link target true absolute goes = at_null names goes.0
    by_link target false true goes = onward [] _ tt goes
    by_link target false false goes = onward way _ along goes

    by_step : (shown : Step) → IsForward name → may (Stepped (place_in root (way ++ name ∷ [])) shown) → Goes (next_by shown) (place_by shown way name) → IsInside may root it at
    by_step step.Folder forward here goes = further (way ++ name ∷ []) (one_further may root [] way name along forward here) goes
    by_step (step.File identity) forward here goes = at_file names way name identity along forward here goes.0 goes.1
    by_step (step.Link target) forward here goes = by_link target (bytes_eq (string_bytes target) (codes "/dev/null")) (is_absolute (string_bytes target)) goes
    by_step step.OddLink forward here goes = at_odd names goes.0
    by_step (step.NoWay shown) forward here goes = at_no_way names shown goes.0

    by_kind : (here up : Bool) → is_here name ≡ here → is_up name ≡ up → (then_next : Next) (to : Way) → EntersBy here up may root way name then_next to → Goes then_next to → IsInside may root it at
    by_kind true up is_h is_u then_next to enters goes =
        further to (subst (λ w. AreFolders may root [] w) (sym enters.1) along) (subst (λ n. Goes n to) enters.0 goes)
    by_kind false true is_h is_u then_next to enters goes =
        further to (subst (λ w. AreFolders may root [] w) (sym enters.1) (front_of may root [] (length way - 1) way along)) (subst (λ n. Goes n to) enters.0 goes)
    by_kind false false is_h is_u then_next to enters goes =
        by_step enters.0 (ap (λ b. b || is_up name) is_h ∙ is_u) enters.1 (subst (λ w. Goes (next_by enters.0) w) enters.3 (subst (λ n. Goes n to) enters.2 goes))

  walks_inside : (names way : Way) → AreFolders may root [] way → Walks may root Onward way names it at → IsInside may root it at
  walks_inside [] way along h = subst (λ i. IsInside may root i at) (sym h.0) (subst (λ w. AreFolders may root [] w) (sym h.1) along)
  walks_inside (name ∷ names) way along h = by_kind names (λ on. walks_inside names on) way along name (is_here name) (is_up name) refl refl h.0 h.1 h.2 h.3

-- names lead from a place inside to one inside
leads_on : (may : Answer → Type 0) (root : List ℕ) (links : ℕ) (way names : Way) (it : End) (at : Way) → AreFolders may root [] way → Leads may root links way names it at → IsInside may root it at
leads_on may root zero way names it at along h = subst (λ i. IsInside may root i at) (sym h.0) tt
leads_on may root (suc links) way names it at along h = walks_inside may root (Leads may root links) it at (λ w ns a l. leads_on may root links w ns it at a l) names way along h

-- names lead from the root to a place inside
pub leads_inside : (may : Answer → Type 0) (root : List ℕ) (links : ℕ) (names : Way) (it : End) (at : Way) → Leads may root links [] names it at → IsInside may root it at
leads_inside may root links names it at h = leads_on may root links [] names it at tt h
