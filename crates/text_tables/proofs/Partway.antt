-- The state of a fold over a list after a first part of the list.
use Rattle.std.proofs.Common.{◌≡◌, ℕ, ◌+◌, ◌<◌, List, [], ◌∷◌, ◌++◌, length, take, drop, get_or, map, refl, ap, sym, ◌∙◌, append_assoc, add-one, drop-cons}
use Rattle.std.proofs.Math.Seq.{take-append_seam}
use Rattle.std.proofs.lemmas.List.Sums.{fold-append}
use Rattle.std.specs.Prelude.{fold}

module _ {A B : Type 0} where
  -- the rest of the whole list is left, and what came before it was taken in
  pub record Partway (f : B → A → B) (old : B) (whole : List A) (now : B) (rest : List A) : Type 0 where
    pub past : List A
    pub cut : past ++ rest ≡ whole
    pub done : now ≡ fold f old past
    pub due : fold f now rest ≡ fold f old whole

  pub one_on : (f : B → A → B) (old : B) (whole : List A) (now new : B) (x : A) (rest left : List A) → Partway f old whole now left → left ≡ x ∷ rest → new ≡ f now x → Partway f old whole new rest
  one_on f old whole now new x rest left w e n = record {
    past = w.past ++ x ∷ [];
    cut = append_assoc w.past (x ∷ []) rest ∙ ap (λ l. w.past ++ l) (sym e) ∙ w.cut;
    done = n ∙ ap (λ b. f b x) w.done ∙ sym (fold-append f old w.past (x ∷ []));
    due = ap (λ b. fold f b rest) n ∙ ap (fold f now) (sym e) ∙ w.due;
  }

  pub stopped : (f : B → A → B) (old : B) (whole : List A) (now new : B) (rest : List A) → Partway f old whole now rest → new ≡ now → (n : ℕ) × (new ≡ fold f old (take n whole))
  stopped f old whole now new rest w e = (length w.past, e ∙ w.done ∙ ap (fold f old) (sym (take-append_seam w.past rest) ∙ ap (take (length w.past)) w.cut))

-- what is left at a place is what is there, and what is left after it
pub left_at : {A B : Type 0} (f : A → B) (xs : List A) (i : ℕ) (d : A) → i < length xs → map f (drop i xs) ≡ f (get_or xs i d) ∷ map f (drop (i + 1) xs)
left_at f xs i d h = rw (add-one, drop-cons xs i d) refl
