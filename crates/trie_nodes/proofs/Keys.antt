-- How keys compare.
use Rattle.std.proofs.Common.{◌≡◌, ℕ, ◌<◌, ◌≤◌, List, [], ◌∷◌, refl, sym, ◌∙◌, ap, arith, subst}
use Rattle.std.proofs.lemmas.Cmp.{nat_list_cmp_total, tied_itself, alike_right, ranked}
use Rattle.std.specs.Ordering.{ordering_index, ordering_reverse, ordering_then, nat_cmp, MatchOrdering}
use Rattle.std.specs.declared.cmp.Ordering.{Ordering}
use Rattle.std.specs.declared.cmp.Ordering.TheVariants.{Less, Equal, Greater}
use Rattle.text_bytes.specs.Insertion.{text_order}

pub before_trans : (a b c : List ℕ) → text_order a b ≡ Less → text_order b c ≡ Less → text_order a c ≡ Less
before_trans a b c h k = nat_list_cmp_total.trans a b c h k

-- a key that comes after another has that one before it
pub reversed : (a b : List ℕ) → text_order a b ≡ Greater → text_order b a ≡ Less
reversed a b h = nat_list_cmp_total.antisymm b a ∙ ap ordering_reverse h

pub itself : (a : List ℕ) → text_order a a ≡ Equal
itself a = tied_itself nat_list_cmp_total a

-- a rank that cannot fall
rank : (o next : Ordering) → (next ≡ Less → o ≡ Less) → (next ≡ Equal → o ≡ Less) → ordering_index o ≤ ordering_index next
rank o Less l e = rw (l refl) (omega arith)
rank o Equal l e = rw (e refl) (omega arith)
rank Less Greater l e = omega arith
rank Equal Greater l e = omega arith
rank Greater Greater l e = omega arith

-- of two keys that rise, the second compares with a third no lower than the first
pub rank_rises : (a b key : List ℕ) → text_order a b ≡ Less → ordering_index (text_order a key) ≤ ordering_index (text_order b key)
rank_rises a b key h = rank (text_order a key) (text_order b key) (λ l. before_trans a b key h l) (λ e. sym (alike_right nat_list_cmp_total b key a e) ∙ h)

-- the two orders of which the first decides, or they tie
both_tie : (o next : Ordering) → ordering_then o next ≡ Equal → (o ≡ Equal) × (next ≡ Equal)
both_tie Less next h = cc
both_tie Equal next h = (refl, h)
both_tie Greater next h = cc

same_byte : (b c : ℕ) → nat_cmp b c ≡ Equal → b ≡ c
same_byte b c h = subst (λ o. MatchOrdering o (b < c) (b ≡ c) (c < b)) h (ranked b c (nat_cmp b c) refl)

-- keys that tie are the same
pub same_key : (a b : List ℕ) → text_order a b ≡ Equal → a ≡ b
same_key [] [] h = refl
same_key [] (c ∷ b) h = cc
same_key (x ∷ a) [] h = cc
same_key (x ∷ a) (c ∷ b) h =
    let tie : (nat_cmp x c ≡ Equal) × (text_order a b ≡ Equal) = both_tie (nat_cmp x c) (text_order a b) h in
    let head : x ≡ c = same_byte x c tie.0 in
    let rest : a ≡ b = same_key a b tie.1 in
    cc
