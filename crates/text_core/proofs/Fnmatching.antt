-- Patterns of fnmatch(3), read so far and to come.
use Rattle.std.proofs.Common.{◌≡◌, ℕ, zero, suc, ◌+◌, ◌-◌, ◌<◌, ◌≤◌, Bool, true, cond, List, ◌∷◌, [], ◌++◌, map, length, take, drop, Option, Some, None, Result, Ok, Err, refl, sym, ◌∙◌, ap, arith, append_assoc, append-nil}
use Rattle.std.specs.List.{list_any, position, slice_split}
use Rattle.std.proofs.lemmas.Bool.{lt-ltb, le-ltb}
use Rattle.text_core.specs.Brackets.{Closed, elements_at}
use Rattle.text_core.specs.Choices.{is_bar}
use Rattle.text_core.specs.Fnmatch.{fnmatch_bracket, fnmatch_choice, fnmatch_first, fnmatch_items, fnmatch_part, is_special, set_or_bracket, with_head}
use Rattle.text_core.specs.Elements.{takes_among}
use Rattle.text_core.specs.Sets.{set_of}
use Rattle.text_core.specs.Spell.{max_len, negated, sign_len}
use Rattle.text_core.specs.declared.byte_set.ByteSet.{ByteSet}
use Rattle.text_core.specs.declared.elements.Element.{Element}
use Rattle.text_core.specs.declared.glob_fault.GlobFault.{GlobFault}
use Rattle.text_core.specs.declared.glob_fault.GlobFault.TheVariants.{TooLong}
use Rattle.text_core.specs.declared.item.Item.{Item}
use Rattle.text_core.specs.declared.item.Item.TheVariants.{Among}
use Rattle.text_core.specs.declared.reading.Reading.{Reading}
use Rattle.text_core.specs.declared.spell.Head.{Head}
use Rattle.text_core.proofs.Cutting.{split_none, split_some}

-- what a `[` begins, by the elements after it
pub bracket_by : (reading : Reading) (t unsigned : List ℕ) (closed : Option Closed) → unsigned ≡ drop (sign_len t) t → closed ≡ elements_at reading true unsigned 0
    → set_or_bracket reading t closed ≡ fnmatch_bracket reading t
unfolding fnmatch_bracket
bracket_by reading t unsigned closed back read =
    ap (set_or_bracket reading t) (read ∙ ap (λ (u : List ℕ). elements_at reading true u 0) back)

-- the head of a set
abbrev pub set_head : ByteSet → ℕ → Head
set_head set n = record { item = Among set; following = n }

pub bracket_set : (reading : Reading) (t unsigned : List ℕ) (closed : Closed) (set : ByteSet) (sign : Bool) (elements : List Element)
    → unsigned ≡ drop (sign_len t) t → Some closed ≡ elements_at reading true unsigned 0
    → set ≡ set_of (takes_among reading sign elements) → sign ≡ negated t → elements ≡ closed.elements
    → set_head set (length t - closed.left) ≡ fnmatch_bracket reading t
bracket_set reading t unsigned closed set sign elements back read made is_sign same =
    ap (λ (s : ByteSet). set_head s (length t - closed.left)) (
    made
    ∙ ap (λ (n : Bool). set_of (takes_among reading n elements)) is_sign
    ∙ ap (λ (xs : List Element). set_of (takes_among reading (negated t) xs)) same)
    ∙ bracket_by reading t unsigned (Some closed) back read

-- bytes that are skipped are dropped
items-drop : (reading : Reading) (t : List ℕ) (n : ℕ) → fnmatch_items reading t n ≡ fnmatch_items reading (drop n t) zero
items-drop reading t zero = refl
items-drop reading [] (suc n) = refl
items-drop reading (b ∷ t) (suc n) = items-drop reading t n

-- one item more has been read
pub items_more : (reading : Reading) (items : List Item) (head : Head) (b : ℕ) (t rest more : List ℕ)
    → rest ≡ b ∷ t → head ≡ fnmatch_first reading b t → more ≡ drop head.following t
    → (items ++ head.item ∷ []) ++ fnmatch_items reading more 0 ≡ items ++ fnmatch_items reading rest 0
items_more reading items head b t rest more e found back =
    append_assoc items (head.item ∷ []) (fnmatch_items reading more 0)
    ∙ ap (λ (r : List Item). items ++ r) (
    ap (λ (m : List ℕ). head.item ∷ fnmatch_items reading m 0) back
    ∙ ap (λ (r : List Item). head.item ∷ r) (sym (items-drop reading t head.following))
    ∙ ap (λ (h : Head). with_head h (λ n. fnmatch_items reading t n)) found
    ∙ sym (ap (λ (r : List ℕ). fnmatch_items reading r 0) e))

-- nothing is left
pub items_all : (reading : Reading) (items : List Item) (rest : List ℕ) → length rest ≡ 0 → items ++ fnmatch_items reading rest 0 ≡ items
items_all reading items [] h = append-nil items
items_all reading items (b ∷ t) h = absurd (omega arith)

module _ (f : List ℕ → List Item) (parts : List (List Item)) (x : List Item) (rest : List ℕ) where
  -- one part more has been read
  pub parts_more : (k : ℕ) (prefix following : List ℕ) → position is_bar rest ≡ Some k → prefix ≡ take k rest → following ≡ drop (k + 1) rest → x ≡ f prefix
      → (parts ++ x ∷ []) ++ map f (slice_split is_bar following) ≡ parts ++ map f (slice_split is_bar rest)
  parts_more k prefix following found cut back read =
      append_assoc parts (x ∷ []) (map f (slice_split is_bar following))
      ∙ ap (λ (ps : List (List Item)). parts ++ ps) (
      ap (λ (y : List Item). y ∷ map f (slice_split is_bar following)) (read ∙ ap f cut)
      ∙ ap (λ (t : List ℕ). f (take k rest) ∷ map f (slice_split is_bar t)) back
      ∙ sym (ap (map f) (split_some is_bar rest k found)))

  -- the last part has been read
  pub parts_last : position is_bar rest ≡ None → x ≡ f rest → parts ++ x ∷ [] ≡ parts ++ map f (slice_split is_bar rest)
  parts_last found read =
      ap (λ (ps : List (List Item)). parts ++ ps) (ap (λ (y : List Item). y ∷ []) read ∙ sym (ap (map f) (split_none is_bar rest found)))

-- what a choice gives that is not too long
abbrev pub short_choice : Reading → List ℕ → Result (List (List Item)) GlobFault
short_choice reading t = Ok (map (fnmatch_part reading (list_any is_special t)) (slice_split is_bar t))

pub fnmatch_long : (reading : Reading) (t : List ℕ) → max_len < length t → fnmatch_choice reading t ≡ Err TooLong
unfolding fnmatch_choice
fnmatch_long reading t h = ap (λ (b : Bool). cond b (Err TooLong) (short_choice reading t)) (lt-ltb max_len (length t) h)

pub fnmatch_short : (reading : Reading) (t : List ℕ) → length t ≤ max_len → fnmatch_choice reading t ≡ short_choice reading t
unfolding fnmatch_choice
fnmatch_short reading t h = ap (λ (b : Bool). cond b (Err TooLong) (short_choice reading t)) (le-ltb max_len (length t) h)
