-- What the reading of a text gives is what the grammar says.
use Rattle.std.proofs.Common.{◌≡◌, ℕ, zero, suc, ◌+◌, ◌≤◌, List, ◌∷◌, [], length, map, drop, Result, Ok, Err, refl, sym, ◌∙◌, ap, subst, arith, append-nil}
use Rattle.std.proofs.lemmas.List.{length-drop}
use Rattle.text_bytes.specs.Names.{open_bracket}
use Rattle.rule_laws.specs.Grammar.{print_sign, Sign, IsSet, IsClassAt, Piece, ArePieces, item_of, Spells, HasClassAt}
use Rattle.text_core.specs.Spell.{items_at, first_item, with_item, with_first}
use Rattle.text_core.specs.declared.glob_fault.GlobFault.{GlobFault}
use Rattle.text_core.specs.declared.glob_fault.GlobFault.TheVariants.{Class}
use Rattle.text_core.specs.declared.item.Item.{Item}
use Rattle.text_core.specs.declared.reading.Reading.{Reading}
use Rattle.text_core.specs.declared.spell.Head.{Head}
use Rattle.rule_laws.proofs.Pieces.{Begins, Faulty, prefix_reports, Starts, piece_starts, inner_of, class_fails}
use Rattle.text_core.proofs.Scanning.{with_items, with_items-none, items_at-drop}

-- a class at a place of a text that is at a place of a longer one
pub record HasClassFrom (t : List ℕ) (from at : ℕ) : Type 0 where
  pub pieces : List Piece
  pub following : List ℕ
  pub written : ArePieces pieces t following
  pub sign : Sign
  pub members : List ℕ
  pub rest : List ℕ
  pub a_set : IsSet following sign members rest
  pub place : ℕ
  pub a_class : IsClassAt members place
  pub first : (n : ℕ) → IsClassAt members n → place ≤ n
  pub start : ℕ
  pub starts : start + length following ≡ from + length t
  pub at_place : at ≡ start + 1 + length (print_sign sign) + place

-- a fault of a text is a class
pub record IsClass (t : List ℕ) (from : ℕ) (e : GlobFault) : Type 0 where
  pub at : ℕ
  pub is : e ≡ Class at
  pub there : HasClassFrom t from at

-- what the reading of a text says of it
abbrev pub Says : Reading → List ℕ → ℕ → Result (List Item) GlobFault → Type 0
Says reading t from (Ok items) = Spells reading t items
Says reading t from (Err e) = IsClass t from e

-- a piece in front of what was read
says_more : (reading : Reading) (b : ℕ) (t : List ℕ) (from next : ℕ) (x : Item) (n : ℕ) (r : Result (List Item) GlobFault)
    → Begins reading b t x n → from + 1 + n ≡ next → Says reading (drop n t) next r → Says reading (b ∷ t) from (with_item x r)
says_more reading b t from next x n (Ok items) begins place said =
    record {
      pieces = begins.piece ∷ said.pieces;
      written = (drop n t, begins.is, said.written);
      meant = ap (λ (y : Item). y ∷ items) begins.means ∙ ap (λ (ys : List Item). item_of reading begins.piece ∷ ys) said.meant;
    }
says_more reading b t from next x n (Err e) begins place said =
    let there = said.there in
    let left : length (drop n t) + n ≡ length t = let less = length-drop n t in let within : n ≤ length t = begins.within in omega arith in
    record {
      at = said.at;
      is = said.is;
      there = record {
        pieces = begins.piece ∷ there.pieces;
        following = there.following;
        sign = there.sign;
        members = there.members;
        rest = there.rest;
        place = there.place;
        written = (drop n t, begins.is, there.written);
        a_set = there.a_set;
        a_class = there.a_class;
        first = there.first;
        start = there.start;
        starts = omega (arith, there.starts);
        at_place = there.at_place;
      };
    }

-- a set with a class in front
says_fault : (reading : Reading) (b : ℕ) (t : List ℕ) (from : ℕ) (e : GlobFault) → Faulty b t from e → IsClass (b ∷ t) from e
says_fault reading b t from e f =
    record {
      at = from + 1 + length (print_sign f.sign) + f.place;
      is = f.fault;
      there = record {
        pieces = [];
        following = b ∷ t;
        sign = f.sign;
        members = f.members;
        rest = f.rest;
        place = f.place;
        written = refl;
        a_set = f.a_set;
        a_class = f.a_class;
        first = f.first;
        start = from;
        starts = refl;
        at_place = refl;
      };
    }

pub says : (reading : Reading) (t : List ℕ) (passed at next : ℕ) → at + passed ≡ next → Says reading (drop passed t) next (items_at reading t passed at)
says reading [] zero at next place = record { pieces = []; written = refl; meant = refl }
says reading [] (suc n) at next place = record { pieces = []; written = refl; meant = refl }
says reading (b ∷ t) (suc n) at next place = says reading t n (at + 1) next (omega arith)
says reading (b ∷ t) zero at next place =
    by_first_item (first_item reading at b t) (prefix_reports reading at b t) (λ n. says reading t n (at + 1) (at + 1 + n) refl) where
      here : at ≡ next
      here = omega arith

      Reports : Result Head GlobFault → Type 0
      Reports r = elim r as (λ _. Type 0) [ Ok head ↦ Begins reading b t head.item head.following | Err e ↦ Faulty b t at e ]

      by_first_item : (r : Result Head GlobFault) → Reports r → ((n : ℕ) → Says reading (drop n t) (at + 1 + n) (items_at reading t n (at + 1)))
          → Says reading (b ∷ t) next (with_first r (λ n. items_at reading t n (at + 1)))
      by_first_item (Ok head) begins again =
          says_more reading b t next (at + 1 + head.following) head.item head.following (items_at reading t head.following (at + 1)) begins (omega arith) (again head.following)
      by_first_item (Err e) faulty again = says_fault reading b t next e (subst (λ (k : ℕ). Faulty b t k e) here faulty)

-- what a text says in whole
pub said_items : (reading : Reading) (t : List ℕ) (items : List Item) → items_at reading t 0 0 ≡ Ok items → Spells reading t items
said_items reading t items e = subst (Says reading t 0) e (says reading t 0 0 0 refl)

pub said_class : (reading : Reading) (t : List ℕ) (at : ℕ) → items_at reading t 0 0 ≡ Err (Class at) → HasClassAt t at
said_class reading t at e =
    let c : IsClass t 0 (Class at) = subst (Says reading t 0) e (says reading t 0 0 0 refl) in
    let there = c.there in
    let is = c.is in
    let same : at ≡ c.at = cc in
    record {
      pieces = there.pieces;
      following = there.following;
      sign = there.sign;
      members = there.members;
      rest = there.rest;
      place = there.place;
      written = there.written;
      a_set = there.a_set;
      a_class = there.a_class;
      first = there.first;
      start = there.start;
      starts = omega (arith, there.starts);
      at_place = same ∙ there.at_place;
    }

with_item-items : (x : Item) (items : List Item) (r : Result (List Item) GlobFault) → with_item x (with_items items r) ≡ with_items (x ∷ items) r
with_item-items x items (Ok more) = refl
with_item-items x items (Err e) = refl

-- pieces of a text are read one after the other
pub pieces_read : (reading : Reading) (pieces : List Piece) (t following : List ℕ) (at next : ℕ) → ArePieces pieces t following → next + length following ≡ at + length t
    → items_at reading t 0 at ≡ with_items (map (item_of reading) pieces) (items_at reading following 0 next)
pieces_read reading [] t following at next same place =
    let lengths : length t ≡ length following = ap length same in
    let here : at ≡ next = omega arith in
    ap (λ (u : List ℕ). items_at reading u 0 at) same ∙ ap (λ (k : ℕ). items_at reading following 0 k) here
    ∙ sym (with_items-none (items_at reading following 0 next))
pieces_read reading (piece ∷ pieces) t following at next written place =
    let more : List ℕ = written.0 in
    let s : Starts reading at t (item_of reading piece) more = piece_starts reading at piece t more written.1 in
    let tail : List ℕ = s.following in
    let n : ℕ = s.passed in
    let left : length more + n ≡ length tail =
    let less : length (drop n tail) + n ≡ length tail = let cut = length-drop n tail in let within : n ≤ length tail = s.within in omega arith in
    let same : length (drop n tail) ≡ length more = ap length s.back in
    omega arith in
    let whole : length t ≡ suc (length tail) = ap length s.text in
    let there : next + length following ≡ at + 1 + n + length more = omega arith in
    ap (λ (u : List ℕ). items_at reading u 0 at) s.text
    ∙ ap (λ r. with_first r (λ k. items_at reading tail k (at + 1))) s.found
    ∙ ap (with_item (item_of reading piece)) (
    items_at-drop reading tail n (at + 1) s.within
    ∙ ap (λ (u : List ℕ). items_at reading u 0 (at + 1 + n)) s.back
    ∙ pieces_read reading pieces more following (at + 1 + n) next written.2 there)
    ∙ with_item-items (item_of reading piece) (map (item_of reading) pieces) (items_at reading following 0 next)

pub spelled_read : (reading : Reading) (t : List ℕ) (items : List Item) → Spells reading t items → items_at reading t 0 0 ≡ Ok items
spelled_read reading t items s =
    let end : length t + 0 ≡ 0 + length t = omega arith in
    pieces_read reading s.pieces t [] 0 (length t) s.written end ∙ ap Ok (append-nil (map (item_of reading) s.pieces) ∙ sym s.meant)

pub class_read : (reading : Reading) (t : List ℕ) (at : ℕ) → HasClassAt t at → items_at reading t 0 0 ≡ Err (Class at)
class_read reading t at h = by_inner (inner_of h.following h.sign h.members h.rest h.a_set) where
  by_inner : (inner : List ℕ) × (h.following ≡ open_bracket ∷ inner) → items_at reading t 0 0 ≡ Err (Class at)
  by_inner pair =
      let inner : List ℕ = pair.0 in
      let here : IsSet (open_bracket ∷ inner) h.sign h.members h.rest = subst (λ (u : List ℕ). IsSet u h.sign h.members h.rest) pair.1 h.a_set in
      let end : h.start + length h.following ≡ 0 + length t = omega (arith, h.starts) in
      pieces_read reading h.pieces t h.following 0 h.start h.written end
      ∙ ap (with_items (map (item_of reading) h.pieces)) (
      ap (λ (u : List ℕ). items_at reading u 0 h.start) pair.1
      ∙ ap (λ r. with_first r (λ k. items_at reading inner k (h.start + 1))) (class_fails reading h.start inner h.sign h.members h.rest h.place here h.a_class h.first))
      ∙ ap (λ (k : ℕ). let r : Result (List Item) GlobFault = Err (Class k) in r) (sym h.at_place)
