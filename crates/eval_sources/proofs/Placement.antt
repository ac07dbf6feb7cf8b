-- Where an item comes from after one more stage.
use Rattle.std.proofs.Common.{◌≡◌, Bool, true, false, ◌&&◌, List, [], ◌∷◌, ◌++◌, None, cond, refl, ap, ◌∙◌}
use Rattle.text_tables.specs.Pairs.{Pair}
use Rattle.eval_sources.specs.Sources.{Source, Stage, is_present_throughout, source_of}
use Rattle.eval_effects.specs.Items.{is_present}

and_false : (b : Bool) → (b && false) ≡ false
and_false true = refl
and_false false = refl

module _ (item : Pair) where
  -- if it is not at the last stage, it is not there throughout
  not_throughout : (before : List Stage) (last : Stage) → is_present item last.1 ≡ false → is_present_throughout item (before ++ last ∷ []) ≡ false
  not_throughout [] last h = ap (λ b. b && true) h
  not_throughout (stage ∷ before) last h = ap (λ b. is_present item stage.1 && b) (not_throughout before last h) ∙ and_false (is_present item stage.1)

  -- an item that is not in the end comes from nowhere
  pub source_none : (before : List Stage) (last : Stage) → is_present item last.1 ≡ false → source_of (before ++ last ∷ []) item ≡ None
  unfolding source_of
  source_none [] last h = ap (λ b. cond (b && true) last.0 None) h
  source_none (stage ∷ before) last h =
      ap (λ b. cond b stage.0 (source_of (before ++ last ∷ []) item)) (not_throughout (stage ∷ before) last h) ∙ source_none before last h

  throughout_more : (before : List Stage) (last next : Stage) → is_present item next.1 ≡ true → is_present_throughout item (before ++ last ∷ next ∷ []) ≡ is_present_throughout item (before ++ last ∷ [])
  throughout_more [] last next h = ap (λ b. is_present item last.1 && (b && true)) h
  throughout_more (stage ∷ before) last next h = ap (λ b. is_present item stage.1 && b) (throughout_more before last next h)

  -- an item that is at one more stage comes from where it came from, if it was at the last one, and otherwise from the new one
  pub source_more : (before : List Stage) (last next : Stage) → is_present item next.1 ≡ true
      → source_of (before ++ last ∷ next ∷ []) item ≡ cond (is_present item last.1) (source_of (before ++ last ∷ []) item) next.0
  unfolding source_of
  source_more [] last next h = by (is_present item last.1) (is_present item next.1) h
    where
      by : (a b : Bool) → b ≡ true → cond (a && (b && true)) last.0 (cond (b && true) next.0 None) ≡ cond a (cond (a && true) last.0 None) next.0
      by true true e = refl
      by false true e = refl
      by a false e = cc
  source_more (stage ∷ before) last next h =
      ap (λ b. cond b stage.0 (source_of (before ++ last ∷ next ∷ []) item)) (throughout_more (stage ∷ before) last next h)
      ∙ ap (cond (is_present_throughout item (stage ∷ before ++ last ∷ [])) stage.0) (source_more before last next h)
      ∙ by (is_present_throughout item (stage ∷ before ++ last ∷ [])) (is_present item last.1) (not_throughout (stage ∷ before) last)
    where
      came : Source
      came = source_of (before ++ last ∷ []) item

      by : (t l : Bool) → (l ≡ false → t ≡ false) → cond t stage.0 (cond l came next.0) ≡ cond l (cond t stage.0 came) next.0
      by true true e = refl
      by true false e = let no : true ≡ false = e refl in cc
      by false true e = refl
      by false false e = refl
