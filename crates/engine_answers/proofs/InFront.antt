-- The lines of properties one by one, and with nothing in front of them.
use Rattle.std.proofs.Common.{◌≡◌, Bool, true, false, true≢false, is_some, Option, Some, None, option_map, not, cond, List, [], ◌∷◌, ◌++◌, codes, filter, flat_map, map, refl, ap, ap₂, sym, ◌∙◌, append-nil, append_assoc}
use Rattle.std.proofs.lemmas.List.Concat.{flat_map-append, flat_map-cons}
use Rattle.text_bytes.specs.Text.{Text}
use Rattle.text_tables.specs.Pairs.{Pair}
use Rattle.eval_effects.specs.Items.{item_name}
use Rattle.eval_sources.specs.Sources.{Held}
use Rattle.engine_answers.specs.Answers.{lines_after}
use Rattle.engine_answers.specs.Inner.{front_of, shown_line}
use Rattle.engine_answers.specs.Items.{ItemLine, env_lines, value_lines}
use Rattle.engine_answers.specs.Lines.{is_hidden, pair_line}

-- the line of a property, with its item
abbrev value : Pair → ItemLine
value pair = ((item_name (codes "env") pair.0, pair.1), pair_line (codes "env") pair)

-- the properties that have a line
abbrev shown : List Pair → List Pair
shown pairs = filter (λ pair. not (is_hidden pair.0)) pairs

-- nothing is in front of a line if no sources are asked for
pub nothing_in_front : {A : Type 0} (held_by : A → Held) (sources : Option A) → is_some sources ≡ false → (item : Pair) → front_of (option_map held_by sources) item ≡ []
nothing_in_front held_by None h item = refl
nothing_in_front held_by (Some held) h item = absurd (true≢false h)

-- a line about one thing, after what is in front of it
pub one_after : {A : Type 0} (front : A → Text) (first next now said : Text) (about : A) → next ≡ first ++ front about → now ≡ next ++ said → now ≡ first ++ lines_after front ((about, said) ∷ [])
one_after front first next now said about p q =
    q ∙ ap (λ l. l ++ said) p ∙ append_assoc first (front about) said ∙ ap (λ l. first ++ l) (sym (append-nil (front about ++ said)))

-- lines after others
pub more_after : {A : Type 0} (front : A → Text) (first next now : Text) (some more : List (A × Text)) → next ≡ first ++ lines_after front some → now ≡ next ++ lines_after front more → now ≡ first ++ lines_after front (some ++ more)
more_after front first next now some more p q =
    q ∙ ap (λ l. l ++ lines_after front more) p ∙ append_assoc first (lines_after front some) (lines_after front more)
    ∙ ap (λ l. first ++ l) (sym (flat_map-append (λ l. front l.0 ++ l.1) some more))

module _ (front : Pair → Text) where
  abbrev with_front : ItemLine → Text
  with_front l = front l.0 ++ l.1

  -- the line of one property, if it has one
  abbrev pub env_line : Pair → Text
  env_line pair = lines_after front (env_lines (pair ∷ []))

  one_more : (hidden : Bool) (pair : Pair) (rest : List Pair) → lines_after front (map value (cond (not hidden) (pair ∷ rest) rest)) ≡ lines_after front (map value (cond (not hidden) (pair ∷ []) [])) ++ lines_after front (map value rest)
  one_more true pair rest = refl
  one_more false pair rest =
      flat_map-cons with_front (value pair) (map value rest)
      ∙ ap (λ first. first ++ lines_after front (map value rest)) (sym (flat_map-cons with_front (value pair) [] ∙ append-nil (with_front (value pair))))

  pub each_env : (pairs : List Pair) → lines_after front (env_lines pairs) ≡ flat_map env_line pairs
  each_env [] = refl
  each_env (pair ∷ pairs) =
      one_more (is_hidden pair.0) pair (shown pairs) ∙ ap (λ rest. env_line pair ++ rest) (each_env pairs) ∙ sym (flat_map-cons env_line pair pairs)

  module _ (none : (item : Pair) → front item ≡ []) where
    one_alone : (hidden : Bool) (pair : Pair) → lines_after front (map value (cond (not hidden) (pair ∷ []) [])) ≡ cond hidden [] (pair_line (codes "env") pair)
    one_alone true pair = refl
    one_alone false pair =
        flat_map-cons with_front (value pair) [] ∙ append-nil (with_front (value pair)) ∙ ap (λ first. first ++ pair_line (codes "env") pair) (none (value pair).0)

    -- with nothing in front
    pub env_alone : (pairs : List Pair) → lines_after front (env_lines pairs) ≡ flat_map shown_line pairs
    env_alone [] = refl
    env_alone (pair ∷ pairs) =
        one_more (is_hidden pair.0) pair (shown pairs) ∙ ap₂ (λ first rest. first ++ rest) (one_alone (is_hidden pair.0) pair) (env_alone pairs) ∙ sym (flat_map-cons shown_line pair pairs)
