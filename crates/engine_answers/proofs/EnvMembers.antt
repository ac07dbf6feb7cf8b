-- The tokens of properties, one after another.
use Rattle.std.proofs.Common.{◌≡◌, ℕ, ◌+◌, ◌<◌, Bool, true, false, not, cond, List, [], ◌∷◌, ◌++◌, codes, drop, filter, flat_map, get_or, length, refl, ap, sym, ◌∙◌, append-nil, append_assoc, drop-cons, add-one}
use Rattle.text_tables.specs.Pairs.{Pair}
use Rattle.json.specs.Token as token
use Rattle.json.specs.Token.{Token}
use Rattle.json.specs.Tree.{json_tokens}
use Rattle.text_json.specs.Listed.{member_tokens}
use Rattle.text_json.specs.Told.{told, told_text}
use Rattle.eval_effects.specs.Items.{item_name}
use Rattle.engine_answers.specs.Lines.{is_hidden}
use Rattle.engine_answers.specs.Members.{Shape, env_members, value_members}

-- one more part is there, and one less is left
pub one_on : {A : Type 0} (tokens : A → List Token) (all : List A) (place : ℕ) (x d : A) (before now whole : List Token) → place < length all → x ≡ get_or all place d → now ≡ before ++ tokens x → before ++ flat_map tokens (drop place all) ≡ whole
    → now ++ flat_map tokens (drop (place + 1) all) ≡ whole
one_on tokens all place x d before now whole within is wrote h =
    let left : drop place all ≡ get_or all place d ∷ drop (place + 1) all = rw (add-one, drop-cons all place d within) refl in
    ap (λ l. l ++ flat_map tokens (drop (place + 1) all)) wrote
    ∙ append_assoc before (tokens x) (flat_map tokens (drop (place + 1) all))
    ∙ ap (λ y. before ++ (tokens y ++ flat_map tokens (drop (place + 1) all))) is
    ∙ sym (ap (λ xs. before ++ flat_map tokens xs) left)
    ∙ h

module _ (shape : Shape) where
  -- the tokens of one property, if it is shown
  abbrev pub env_one : Pair → List Token
  env_one pair = member_tokens (env_members shape (pair ∷ []))

  -- the tokens of a property that is shown
  abbrev value : Pair → List Token
  value pair = token.key (told_text pair.0) ∷ json_tokens (shape (item_name (codes "env") pair.0, pair.1) (told pair.1))

  one_more : (hidden : Bool) (pair : Pair) (rest : List Pair) → member_tokens (value_members shape (codes "env") (cond (not hidden) (pair ∷ rest) rest))
      ≡ member_tokens (value_members shape (codes "env") (cond (not hidden) (pair ∷ []) [])) ++ member_tokens (value_members shape (codes "env") rest)
  one_more true pair rest = refl
  one_more false pair rest = ap (λ ts. ts ++ member_tokens (value_members shape (codes "env") rest)) (sym (append-nil (value pair)))

  pub each_env : (pairs : List Pair) → member_tokens (env_members shape pairs) ≡ flat_map env_one pairs
  each_env [] = refl
  each_env (pair ∷ pairs) =
      one_more (is_hidden pair.0) pair (filter (λ p. not (is_hidden p.0)) pairs) ∙ ap (λ rest. env_one pair ++ rest) (each_env pairs)
