-- Names of attributes in brackets are read as they are written.
use Rattle.std.proofs.Common.{◌≡◌, ◌⊎◌, inl, inr, ℕ, zero, suc, ◌+◌, ◌<◌, ◌==◌, Bool, true, false, not, ◌||◌, cond, [], ◌∷◌, ◌++◌, drop, take, get_or, length, nat_lt, position, option_map, Option, Some, None, is_some, unwrap_or, refl, sym, ap, ◌∙◌, subst, true≢false, arith, length-append}
use Rattle.std.specs.List.{list_any, position_or_len, prefix_len}
use Rattle.std.proofs.lemmas.Bool.{eqb-true, eq-eqb, lt-ltb}
use Rattle.std.proofs.lemmas.List.{drop_more, drop_at, take_at, take-append-drop, append_assoc}
use Rattle.std.proofs.lemmas.List.Quantifiers.{position-Some}
use Rattle.text_bytes.specs.Names.{close_bracket, open_bracket, slash}
use Rattle.text_bytes.specs.Texts.{begins_with, split_once}
use Rattle.text_bytes.specs.Text.{Text}
use Rattle.eval_state.specs.Named.{NamedValue, after_slash, named, named_after, named_by}
use Rattle.eval_laws.specs.Naming.{HasNone, IsWrittenSo, bracketed}

-- ---- a text that is cut at its first byte of a kind

module _ (byte : ℕ) where
  length_of_prefix : (beginning rest : Text) → HasNone byte beginning → prefix_len (λ b. not (b == byte)) (beginning ++ byte ∷ rest) ≡ length beginning
  length_of_prefix [] rest e = ap (λ t. cond (not t) (1 + prefix_len (λ b. not (b == byte)) rest) 0) same
    where
      same : (byte == byte) ≡ true
      same = eq-eqb byte byte refl
  length_of_prefix (b ∷ beginning) rest e = by (b == byte) e (length_of_prefix beginning rest)
    where
      by : (w : Bool) → (w || list_any (λ c. c == byte) beginning) ≡ false → (HasNone byte beginning → prefix_len (λ c. not (c == byte)) (beginning ++ byte ∷ rest) ≡ length beginning)
          → cond (not w) (1 + prefix_len (λ c. not (c == byte)) (beginning ++ byte ∷ rest)) 0 ≡ suc (length beginning)
      by true e more = absurd (true≢false e)
      by false e more = let same : prefix_len (λ c. not (c == byte)) (beginning ++ byte ∷ rest) ≡ length beginning = more e in omega (arith, same)

  pub cut_at : (beginning rest : Text) → HasNone byte beginning → split_once byte (beginning ++ byte ∷ rest) ≡ Some (beginning, rest)
  unfolding split_once
  cut_at beginning rest none =
      let whole : Text = beginning ++ byte ∷ rest in
      let at : position_or_len (λ b. b == byte) whole ≡ length beginning = length_of_prefix beginning rest none in
      let long : length whole ≡ length beginning + suc (length rest) = length-append beginning (byte ∷ rest) in
      let within : length beginning < length whole = omega (arith, long) in
      let place : position (λ b. b == byte) whole ≡ Some (length beginning) =
      ap (λ (k : ℕ). cond (nat_lt k (length whole)) (Some k) None) at ∙ ap (λ (b : Bool). cond b (Some (length beginning)) None) (lt-ltb (length beginning) (length whole) within) in
      let before : take (length beginning) whole ≡ beginning = take_at beginning (byte ∷ rest) (length beginning) refl in
      let following : drop (length beginning + 1) whole ≡ rest =
      ap (drop (length beginning + 1)) (sym (append_assoc beginning (byte ∷ []) rest)) ∙ drop_at (beginning ++ byte ∷ []) rest (length beginning + 1) (length-append beginning (byte ∷ [])) in
      ap (option_map (λ (n : ℕ). (take n whole, drop (n + 1) whole))) place
      ∙ ap (λ (l : Text). Some (l, drop (length beginning + 1) whole)) before
      ∙ ap (λ (l : Text). Some (beginning, l)) following

  -- What a cut gives: the byte is between the two parts, and not in the first.
  pub record IsCut (text : Text) (cut : Text × Text) : Type 0 where
    pub whole : text ≡ cut.0 ++ byte ∷ cut.1
    pub none : HasNone byte cut.0

  none_before : (text : Text) (n : ℕ) → ((k : ℕ) → k < n → (get_or text k 0 == byte) ≡ false) → HasNone byte (take n text)
  none_before text zero each = refl
  none_before [] (suc n) each = refl
  none_before (b ∷ text) (suc n) each =
      ap (λ w. w || list_any (λ c. c == byte) (take n text)) (each 0 (omega arith)) ∙ none_before text n (λ k less. each (suc k) (omega (arith, less)))

  pub cut_is : (text : Text) (cut : Text × Text) → split_once byte text ≡ Some cut → IsCut text cut
  unfolding split_once
  cut_is text cut e = by (position (λ b. b == byte) text) refl e
    where
      by : (o : Option ℕ) → position (λ b. b == byte) text ≡ o → option_map {U = Text × Text} (λ n. (take n text, drop (n + 1) text)) o ≡ Some cut → IsCut text cut
      by None at e = absurd (true≢false (sym (ap is_some e)))
      by (Some n) at e =
          let h = position-Some (λ b. b == byte) text n 0 at in
          let here : get_or text n 0 ≡ byte = eqb-true (get_or text n 0) byte h.1 in
          subst (IsCut text) (ap (λ o. unwrap_or o cut) e) (record {
            whole = sym (take-append-drop n text) ∙ ap (λ t. take n text ++ t) (drop_more text n 0 h.0 ∙ ap (λ b. b ∷ drop (n + 1) text) here);
            none = none_before text n h.2;
          })

-- ---- names in brackets

named_cut : (subsystem kernel following : Text) → HasNone slash subsystem → HasNone close_bracket kernel
    → named (bracketed subsystem kernel following) ≡ Some (record { subsystem = subsystem; kernel = kernel; attribute = after_slash following })
unfolding named
named_cut subsystem kernel following a b =
    ap named_after (cut_at slash subsystem (kernel ++ close_bracket ∷ following) a) ∙ ap (named_by subsystem) (cut_at close_bracket kernel following b)

pub plainly_named : (subsystem kernel attribute : Text) → HasNone slash subsystem → HasNone close_bracket kernel → begins_with slash attribute ≡ false
    → named (bracketed subsystem kernel attribute) ≡ Some (record { subsystem = subsystem; kernel = kernel; attribute = attribute })
plainly_named subsystem kernel attribute a b plain =
    named_cut subsystem kernel attribute a b
    ∙ ap (λ w. Some (record { subsystem = subsystem; kernel = kernel; attribute = cond w (drop 1 attribute) attribute })) plain

pub slash_named : (subsystem kernel attribute : Text) → HasNone slash subsystem → HasNone close_bracket kernel
    → named (bracketed subsystem kernel (slash ∷ attribute)) ≡ Some (record { subsystem = subsystem; kernel = kernel; attribute = attribute })
slash_named subsystem kernel attribute a b = named_cut subsystem kernel (slash ∷ attribute) a b

after_is : (t : Text) → (t ≡ after_slash t) ⊎ (t ≡ slash ∷ after_slash t)
after_is [] = inl refl
after_is (b ∷ t) = by (b == slash) refl
  where
    by : (w : Bool) → (b == slash) ≡ w → (b ∷ t ≡ cond w t (b ∷ t)) ⊎ (b ∷ t ≡ slash ∷ cond w t (b ∷ t))
    by true e = inr (ap (λ c. c ∷ t) (eqb-true b slash e))
    by false e = inl refl

pub written_so : (name : Text) (is : NamedValue) → named name ≡ Some is → IsWrittenSo name is
unfolding named
written_so [] is e = absurd (true≢false (sym (ap is_some e)))
written_so (b ∷ text) is e = by_sign (b == open_bracket) refl e
  where
    by_end : (beginning rest : Text) → b ≡ open_bracket → text ≡ beginning ++ slash ∷ rest → HasNone slash beginning → (o : Option (Text × Text)) → split_once close_bracket rest ≡ o → named_by beginning o ≡ Some is → IsWrittenSo (b ∷ text) is
    by_end beginning rest sign cut none None e h = absurd (true≢false (sym (ap is_some h)))
    by_end beginning rest sign cut none (Some following) e h =
        let k = cut_is close_bracket rest following e in
        let whole : b ∷ text ≡ bracketed beginning following.0 following.1 = ap (λ c. c ∷ text) sign ∙ ap (λ t. open_bracket ∷ t) cut ∙ ap (λ t. open_bracket ∷ (beginning ++ slash ∷ t)) k.whole in
        subst (IsWrittenSo (b ∷ text)) (ap (λ o. unwrap_or o is) h) (record {
          subsystem = none;
          kernel = k.none;
          whole = either following whole (after_is following.1);
        })
      where
        either : (following : Text × Text) → b ∷ text ≡ bracketed beginning following.0 following.1 → (following.1 ≡ after_slash following.1) ⊎ (following.1 ≡ slash ∷ after_slash following.1)
            → (b ∷ text ≡ bracketed beginning following.0 (after_slash following.1)) ⊎ (b ∷ text ≡ bracketed beginning following.0 (slash ∷ after_slash following.1))
        either following w (inl x) = inl (w ∙ ap (bracketed beginning following.0) x)
        either following w (inr x) = inr (w ∙ ap (bracketed beginning following.0) x)

    by_slash : b ≡ open_bracket → (o : Option (Text × Text)) → split_once slash text ≡ o → named_after o ≡ Some is → IsWrittenSo (b ∷ text) is
    by_slash sign None e h = absurd (true≢false (sym (ap is_some h)))
    by_slash sign (Some cut) e h =
        let c = cut_is slash text cut e in
        by_end cut.0 cut.1 sign c.whole c.none (split_once close_bracket cut.1) refl h

    by_sign : (w : Bool) → (b == open_bracket) ≡ w → cond w (named_after (split_once slash text)) None ≡ Some is → IsWrittenSo (b ∷ text) is
    by_sign true sign h = by_slash (eqb-true b open_bracket sign) (split_once slash text) refl h
    by_sign false sign h = absurd (true≢false (sym (ap is_some h)))
