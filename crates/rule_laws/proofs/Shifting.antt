-- What a text spells that is further back: the same, with its fault further back.
use Rattle.std.proofs.Common.{◌≡◌, ℕ, zero, suc, ◌+◌, Bool, true, false, cond, List, ◌∷◌, [], drop, take, Option, Some, None, Result, Ok, Err, eqb, refl, ◌∙◌, ap, arith}
use Rattle.std.specs.Option.{option_map}
use Rattle.text_bytes.specs.Names.{open_bracket, question_mark, star}
use Rattle.text_core.specs.Spell.{sign_len, members_len, class_place, set_or_byte, set_unless_class, bracket, first_item, itself, with_item, with_first, items_at}
use Rattle.text_core.specs.declared.glob_fault.GlobFault.{GlobFault}
use Rattle.text_core.specs.declared.glob_fault.GlobFault.TheVariants.{Class, TooLong, Memory}
use Rattle.text_core.specs.declared.item.Item.{Item}
use Rattle.text_core.specs.declared.item.Item.TheVariants.{One, Many}
use Rattle.text_core.specs.declared.reading.Reading.{Reading}
use Rattle.text_core.specs.declared.spell.Head.{Head}
use Rattle.text_core.proofs.Opened.{written}
use Rattle.rule_laws.proofs.Pieces.{alone}

-- a fault, n bytes further back
abbrev pub later_fault : ℕ → GlobFault → GlobFault
later_fault n (Class at) = Class (n + at)
later_fault n TooLong = TooLong
later_fault n Memory = Memory

abbrev later_head : ℕ → Result Head GlobFault → Result Head GlobFault
later_head n (Ok head) = Ok head
later_head n (Err e) = Err (later_fault n e)

-- what was spelled, n bytes further back
abbrev pub later : ℕ → Result (List Item) GlobFault → Result (List Item) GlobFault
later n (Ok items) = Ok items
later n (Err e) = Err (later_fault n e)

bracket_later : (reading : Reading) (n at there : ℕ) (t : List ℕ) → there ≡ n + at → bracket reading there t ≡ later_head n (bracket reading at t)
unfolding bracket
bracket_later reading n at there t place = by_end (members_len (drop (sign_len t) t)) where
  body : List ℕ
  body = drop (sign_len t) t

  by_class : (k : ℕ) (o : Option ℕ) → set_unless_class reading (written there t (take k body) k) o ≡ later_head n (set_unless_class reading (written at t (take k body) k) o)
  by_class k None = refl
  by_class k (Some j) =
      let same : there + 1 + sign_len t + j ≡ n + (at + 1 + sign_len t + j) = omega arith in
      ap (λ (m : ℕ). let r : Result Head GlobFault = Err (Class m) in r) same

  by_end : (o : Option ℕ) → set_or_byte reading (option_map (λ k. written there t (take k body) k) o) ≡ later_head n (set_or_byte reading (option_map (λ k. written at t (take k body) k) o))
  by_end None = refl
  by_end (Some k) = by_class k (class_place (take k body))

prefix_later : (reading : Reading) (n at there b : ℕ) (t : List ℕ) → there ≡ n + at → first_item reading there b t ≡ later_head n (first_item reading at b t)
unfolding first_item
prefix_later reading n at there b t place = by_byte (eqb b star) (eqb b question_mark) (eqb b open_bracket) where
  by_byte : (v w u : Bool) → cond v (Ok (alone Many)) (cond w (Ok (alone One)) (cond u (bracket reading there t) (Ok (alone (itself reading b)))))
      ≡ later_head n (cond v (Ok (alone Many)) (cond w (Ok (alone One)) (cond u (bracket reading at t) (Ok (alone (itself reading b))))))
  by_byte true w u = refl
  by_byte false true u = refl
  by_byte false false true = bracket_later reading n at there t place
  by_byte false false false = refl

later_item : (n : ℕ) (x : Item) (r : Result (List Item) GlobFault) → with_item x (later n r) ≡ later n (with_item x r)
later_item n x (Ok items) = refl
later_item n x (Err e) = refl

pub items_at-later : (reading : Reading) (t : List ℕ) (passed n at there : ℕ) → there ≡ n + at → items_at reading t passed there ≡ later n (items_at reading t passed at)
items_at-later reading [] zero n at there place = refl
items_at-later reading [] (suc k) n at there place = refl
items_at-later reading (b ∷ t) (suc k) n at there place = items_at-later reading t k n (at + 1) (there + 1) (omega arith)
items_at-later reading (b ∷ t) zero n at there place =
    ap (λ (r : Result Head GlobFault). with_first r (λ k. items_at reading t k (there + 1))) (prefix_later reading n at there b t place)
    ∙ by_first_item (first_item reading at b t) (λ k. items_at-later reading t k n (at + 1) (there + 1) (omega arith)) where
      by_first_item : (r : Result Head GlobFault) → ((k : ℕ) → items_at reading t k (there + 1) ≡ later n (items_at reading t k (at + 1)))
          → with_first (later_head n r) (λ k. items_at reading t k (there + 1)) ≡ later n (with_first r (λ k. items_at reading t k (at + 1)))
      by_first_item (Ok head) rest =
          ap (with_item head.item) (rest head.following)
          ∙ later_item n head.item (items_at reading t head.following (at + 1))
      by_first_item (Err e) rest = refl
