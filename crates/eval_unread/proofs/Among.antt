-- What is among some notes, and among more.
use Rattle.std.proofs.Common.{◌≡◌, ◌⊎◌, inl, inr, List, [], ◌∷◌, ◌++◌, append_assoc, ap, sym, ◌∙◌}
use Rattle.eval_state.specs.declared.notes.Note.{Note}
use Rattle.eval_unread.specs.Laws.{IsAmong}

pub uncons : {X : Type 0} (x y : X) (xs ys : List X) → x ∷ xs ≡ y ∷ ys → (x ≡ y) × (xs ≡ ys)
uncons x y xs ys e = (cc, cc)

module _ (note : Note) where
  pub among_none : IsAmong note [] → ⊥
  among_none h = by h.before h.are
    where
      by : (before : List Note) → [] ≡ before ++ note ∷ h.following → ⊥
      by [] e = absurd (cc)
      by (n ∷ before) e = absurd (cc)

  pub among_first : (xs ys : List Note) → IsAmong note xs → IsAmong note (xs ++ ys)
  among_first xs ys h = record {
    before = h.before;
    following = h.following ++ ys;
    are = ap (λ (l : List Note). l ++ ys) h.are ∙ append_assoc h.before (note ∷ h.following) ys;
  }

  pub among_second : (xs ys : List Note) → IsAmong note ys → IsAmong note (xs ++ ys)
  among_second xs ys h = record {
    before = xs ++ h.before;
    following = h.following;
    are = ap (λ (l : List Note). xs ++ l) h.are ∙ sym (append_assoc xs h.before (note ∷ h.following));
  }

  abbrev Either : List Note → List Note → Type 0
  Either xs ys = IsAmong note xs ⊎ IsAmong note ys

  one_more : (x : Note) (xs ys : List Note) → Either xs ys → Either (x ∷ xs) ys
  one_more x xs ys (inl h) = inl (record { before = x ∷ h.before; following = h.following; are = ap (λ (l : List Note). x ∷ l) h.are })
  one_more x xs ys (inr h) = inr h

  cut : (xs ys before following : List Note) → xs ++ ys ≡ before ++ note ∷ following → Either xs ys
  cut [] ys before following e = inr (record { before = before; following = following; are = e })
  cut (x ∷ xs) ys [] following e =
      inl (record { before = []; following = xs; are = ap (λ (n : Note). n ∷ xs) (uncons x note (xs ++ ys) following e).0 })
  cut (x ∷ xs) ys (n ∷ before) following e =
      one_more x xs ys (cut xs ys before following (uncons x n (xs ++ ys) (before ++ note ∷ following) e).1)

  pub among_either : (xs ys : List Note) → IsAmong note (xs ++ ys) → Either xs ys
  among_either xs ys h = cut xs ys h.before h.following h.are

  pub among_one : (other : Note) → IsAmong note (other ∷ []) → note ≡ other
  among_one other h = by h.before h.are
    where
      by : (before : List Note) → other ∷ [] ≡ before ++ note ∷ h.following → note ≡ other
      by [] e = sym (uncons other note [] h.following e).0
      by (n ∷ []) e = absurd (cc)
      by (n ∷ m ∷ before) e = absurd (cc)
