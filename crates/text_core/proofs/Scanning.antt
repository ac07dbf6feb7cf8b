-- What is read so far, and what the rest spells.
use Rattle.std.proofs.Common.{◌≡◌, ℕ, zero, suc, ◌+◌, ◌≤◌, List, ◌∷◌, [], ◌++◌, length, take, drop, map, Result, Ok, Err, refl, sym, ◌∙◌, ap, arith, append_assoc, add-zero, append-nil, Bool, true, false, not, cond, ◌==◌, ◌<◌}
use Rattle.std.specs.List.{prefix_len}
use Rattle.std.proofs.lemmas.Bool.{lt-ltb, le-ltb, and_parts, not-true}
use Rattle.text_bytes.specs.Names.{open_bracket, question_mark, star}
use Rattle.text_core.specs.declared.item.Item.TheVariants.{Byte}
use Rattle.text_core.specs.declared.reading.Reading.TheVariants.{Exact, Blind}
use Rattle.text_core.specs.declared.glob_fault.GlobFault.TheVariants.{TooLong}
use Rattle.text_core.specs.Spell.{max_len, spell_by, items_at, with_item, with_first, first_item, is_plain}
use Rattle.text_core.specs.declared.reading.Reading.{Reading}
use Rattle.text_core.specs.declared.item.Item.{Item}
use Rattle.text_core.specs.declared.glob_fault.GlobFault.{GlobFault}

-- items, and after them those that the rest spells
abbrev pub with_items : List Item → Result (List Item) GlobFault → Result (List Item) GlobFault
with_items items (Ok more) = Ok (items ++ more)
with_items items (Err e) = Err e

pub with_items-none : (r : Result (List Item) GlobFault) → with_items [] r ≡ r
with_items-none (Ok more) = refl
with_items-none (Err e) = refl

pub with_items-push : (items : List Item) (x : Item) (r : Result (List Item) GlobFault) → with_items (items ++ x ∷ []) r ≡ with_items items (with_item x r)
with_items-push items x (Ok more) = ap Ok (append_assoc items (x ∷ []) more)
with_items-push items x (Err e) = refl

-- bytes that are skipped are dropped
pub items_at-drop : (reading : Reading) (t : List ℕ) (n at : ℕ) → n ≤ length t → items_at reading t n at ≡ items_at reading (drop n t) zero (at + n)
items_at-drop reading t zero at h = ap (λ (k : ℕ). items_at reading t zero k) (sym (add-zero at))
items_at-drop reading [] (suc n) at h = absurd (omega arith)
items_at-drop reading (b ∷ t) (suc n) at h =
    let fits : n ≤ length t = omega arith in
    let place : at + 1 + n ≡ at + suc n = omega arith in
    items_at-drop reading t n (at + 1) fits ∙ ap (λ (k : ℕ). items_at reading (drop n t) zero k) place

-- one item more has been read
pub read_more : (reading : Reading) (items : List Item) (x : Item) (n at next : ℕ) (b : ℕ) (t rest more : List ℕ)
    → rest ≡ b ∷ t → first_item reading at b t ≡ Ok (record { item = x; following = n }) → more ≡ drop n t → n ≤ length t → at + 1 + n ≡ next
    → with_items (items ++ x ∷ []) (items_at reading more 0 next) ≡ with_items items (items_at reading rest 0 at)
read_more reading items x n at next b t rest more e found back fits place =
    with_items-push items x (items_at reading more 0 next)
    ∙ ap (with_items items) (
    ap (λ (m : List ℕ). with_item x (items_at reading m 0 next)) back
    ∙ ap (λ (k : ℕ). with_item x (items_at reading (drop n t) 0 k)) (sym place)
    ∙ ap (with_item x) (sym (items_at-drop reading t n (at + 1) fits))
    ∙ sym (ap (λ r. with_first r (λ k. items_at reading t k (at + 1))) found)
    ∙ ap (λ (r : List ℕ). items_at reading r 0 at) (sym e))

with_items-more : (x : Item) (items : List Item) (r : Result (List Item) GlobFault) → with_items (x ∷ items) r ≡ with_item x (with_items items r)
with_items-more x items (Ok more) = refl
with_items-more x items (Err e) = refl

-- a byte of its own is read as that
plain_first : (b : ℕ) (t : List ℕ) (at : ℕ) → is_plain Exact b ≡ true → first_item Exact at b t ≡ Ok (record { item = Byte b; following = 0 })
unfolding first_item
plain_first b t at e =
    let p = and_parts (not (b == star)) _ e in
    let q = and_parts (not (b == question_mark)) _ p.1 in
    rw (not-true (b == star) p.0, not-true (b == question_mark) q.0, not-true (b == open_bracket) q.1) refl

one-more : (n : ℕ) → 1 + n ≡ suc n
one-more n = omega arith

-- the bytes of their own at the front have been read
plain_read : (reading : Reading) (t : List ℕ) (at next : ℕ) → at + prefix_len (is_plain reading) t ≡ next
    → with_items (map Byte (take (prefix_len (is_plain reading) t) t)) (items_at reading (drop (prefix_len (is_plain reading) t) t) 0 next) ≡ items_at reading t 0 at
plain_read reading [] at next e = refl
plain_read Blind (b ∷ t) at next e =
    let same : next ≡ at = omega arith in
    rw same (with_items-none (items_at Blind (b ∷ t) 0 at))
plain_read Exact (b ∷ t) at next e = by_test (is_plain Exact b) refl (plain_read Exact t (at + 1) next) e
  where
    by_test : (test : Bool) → is_plain Exact b ≡ test
        → (at + 1 + prefix_len (is_plain Exact) t ≡ next → with_items (map Byte (take (prefix_len (is_plain Exact) t) t)) (items_at Exact (drop (prefix_len (is_plain Exact) t) t) 0 next) ≡ items_at Exact t 0 (at + 1))
        → at + cond test (1 + prefix_len (is_plain Exact) t) 0 ≡ next
        → with_items (map Byte (take (cond test (1 + prefix_len (is_plain Exact) t) 0) (b ∷ t))) (items_at Exact (drop (cond test (1 + prefix_len (is_plain Exact) t) 0) (b ∷ t)) 0 next) ≡ items_at Exact (b ∷ t) 0 at
    by_test true f more g =
        let n = prefix_len (is_plain Exact) t in
        let place : at + 1 + n ≡ next = omega arith in
        rw (one-more n) (
        with_items-more (Byte b) (map Byte (take n t)) (items_at Exact (drop n t) 0 next)
        ∙ ap (with_item (Byte b)) (more place)
        ∙ sym (ap (λ r. with_first r (λ k. items_at Exact t k (at + 1))) (plain_first b t at f)))
    by_test false f more g =
        let same : next ≡ at = omega arith in
        rw same (with_items-none (items_at Exact (b ∷ t) 0 at))

pub plain_done : (reading : Reading) (text front rest : List ℕ) (at n next : ℕ) → n ≡ prefix_len (is_plain reading) text → front ≡ take n text → rest ≡ drop n text → at + n ≡ next
    → with_items (map Byte front) (items_at reading rest 0 next) ≡ items_at reading text 0 at
plain_done reading text front rest at n next e f b h = rw (f, b, e) (plain_read reading text at next (rw e at h))

-- a fault is found
pub read_fault : (reading : Reading) (items : List Item) (f : GlobFault) (at : ℕ) (b : ℕ) (t rest : List ℕ)
    → rest ≡ b ∷ t → first_item reading at b t ≡ Err f → with_items items (items_at reading rest 0 at) ≡ Err f
read_fault reading items f at b t rest e found =
    ap (with_items items) (ap (λ (r : List ℕ). items_at reading r 0 at) e ∙ ap (λ r. with_first r (λ k. items_at reading t k (at + 1))) found)

-- a text that is too long, and one that is not
pub spell_by_long : (reading : Reading) (t : List ℕ) → max_len < length t → spell_by reading t ≡ Err TooLong
unfolding spell_by
spell_by_long reading t h = ap (λ (b : Bool). cond b (Err TooLong) (items_at reading t 0 0)) (lt-ltb max_len (length t) h)

pub spell_by_short : (reading : Reading) (t : List ℕ) → length t ≤ max_len → spell_by reading t ≡ items_at reading t 0 0
unfolding spell_by
spell_by_short reading t h = ap (λ (b : Bool). cond b (Err TooLong) (items_at reading t 0 0)) (le-ltb max_len (length t) h)

-- nothing is left
pub read_all : (reading : Reading) (items : List Item) (rest : List ℕ) (at : ℕ) → length rest ≡ 0 → with_items items (items_at reading rest 0 at) ≡ Ok items
read_all reading items [] at h = ap Ok (append-nil items)
read_all reading items (b ∷ t) at h = absurd (omega arith)
