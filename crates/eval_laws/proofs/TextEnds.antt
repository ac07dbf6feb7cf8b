-- Whitespace at the ends of texts and of choices.
use Rattle.std.proofs.Common.{◌≡◌, ℕ, ◌+◌, ◌-◌, ◌<◌, ◌≤◌, Bool, true, false, List, [], ◌∷◌, ◌++◌, length, get_or, take, slice_get, Option, Some, None, refl, ap, sym, ◌∙◌, true≢false, arith, length-append}
use Rattle.std.specs.List.{suffix_len}
use Rattle.std.proofs.Math.Seq.{take-append_seam, get_or-append_seam}
use Rattle.std.proofs.lemmas.List.{take_all, take_more, get_or_append_left, get_or-append_right}
use Rattle.std.proofs.lemmas.List.Sums.{suffix_len_is}
use Rattle.std.proofs.lemmas.Option.{get_or_from_slice_get, slice_get-get_or, slice_get_read, slice_get_within}
use Rattle.text_bytes.specs.Names.{is_whitespace}
use Rattle.text_bytes.specs.Text.{Text}
use Rattle.text_core.specs.declared.item.Item.{Item}
use Rattle.text_core.specs.declared.item.Item.TheVariants as item
use Rattle.text_bytes.specs.Texts.{trimmed}
use Rattle.eval_rendering.specs.Holding.{ends_in_whitespace, is_whitespace_item}
use Rattle.eval_rendering.specs.Udev.{last_is, passes}
use Rattle.eval_laws.specs.Comparing.{EndsInWhitespace, HasLast, IsWhitespace, IsWhitespaceItem, IsWithoutItsEnd}

-- ---- last elements

last_of : {A : Type 0} (beginning : List A) (x : A) → slice_get (beginning ++ x ∷ []) (length (beginning ++ x ∷ []) - 1) ≡ Some x
last_of beginning x =
    let long : length (beginning ++ x ∷ []) ≡ length beginning + 1 = length-append beginning (x ∷ []) in
    let place : length (beginning ++ x ∷ []) - 1 ≡ length beginning = omega (arith, long) in
    ap (slice_get (beginning ++ x ∷ [])) place
    ∙ slice_get_read (beginning ++ x ∷ []) (length beginning + 1) (length beginning) x (sym long) (omega arith) (sym (get_or-append_seam beginning x [] x))

module _ {A : Type 0} (test : A → Bool) (Meets : A → Type 0) where
  -- if the last element passes, there is one, and it meets what the test shows
  last_found : ((x : A) → test x ≡ true → Meets x) → (xs : List A) → last_is test xs ≡ true → HasLast Meets xs
  last_found reports xs e = by (slice_get xs (length xs - 1)) refl e
    where
      by : (o : Option A) → slice_get xs (length xs - 1) ≡ o → passes test o ≡ true → HasLast Meets xs
      by None at e = absurd (true≢false (sym e))
      by (Some x) at e =
          let within : length xs - 1 < length xs = slice_get_within xs (length xs - 1) x at in
          let whole : xs ≡ take (length xs - 1) xs ++ x ∷ [] =
          sym (take_all (length xs - 1 + 1) xs (omega (arith, within))) ∙ take_more xs (length xs - 1) x within
          ∙ ap (λ y. take (length xs - 1) xs ++ y ∷ []) (get_or_from_slice_get xs (length xs - 1) x x at) in
          record { beginning = take (length xs - 1) xs; last = x; whole = whole; meets = reports x e }

  -- the last element passes if there is one that meets what the test shows
  last_seen : ((x : A) → Meets x → test x ≡ true) → (xs : List A) → HasLast Meets xs → last_is test xs ≡ true
  last_seen shows xs h =
      ap (λ l. passes test (slice_get l (length l - 1))) h.whole ∙ ap (passes test) (last_of h.beginning h.last) ∙ shows h.last h.meets

-- ---- choices

item_found : (i : Item) → is_whitespace_item i ≡ true → IsWhitespaceItem i
item_found (item.Byte b) e = (b, refl, e)
item_found item.One e = absurd (true≢false (sym e))
item_found item.Many e = absurd (true≢false (sym e))
item_found (item.Among set) e = absurd (true≢false (sym e))

item_seen : (i : Item) → IsWhitespaceItem i → is_whitespace_item i ≡ true
item_seen i h = ap is_whitespace_item h.1 ∙ h.2

-- a choice that ends in whitespace is seen to do so
pub choice_seen : (choice : List (List Item)) → EndsInWhitespace choice → ends_in_whitespace choice ≡ true
choice_seen choice h = last_seen (last_is is_whitespace_item) (HasLast IsWhitespaceItem) (last_seen is_whitespace_item IsWhitespaceItem item_seen) choice h

-- a choice that does not end in whitespace is seen not to
pub choice_unseen : (choice : List (List Item)) → ¬ EndsInWhitespace choice → ends_in_whitespace choice ≡ false
choice_unseen choice ends_not = by (ends_in_whitespace choice) refl
  where
    by : (b : Bool) → ends_in_whitespace choice ≡ b → ends_in_whitespace choice ≡ false
    by true e = absurd (ends_not (last_found (last_is is_whitespace_item) (HasLast IsWhitespaceItem) (last_found is_whitespace_item IsWhitespaceItem item_found) choice e))
    by false e = e

-- ---- texts

-- a text that is cut is the one without the whitespace at its end
pub trimmed_is : (text short : Text) → IsWithoutItsEnd text short → trimmed text ≡ short
trimmed_is text short h =
    ap (λ n. take n text) kept ∙ ap (take (length short)) h.whole ∙ take-append_seam short h.end
  where
    size : length text ≡ length short + length h.end
    size = ap length h.whole ∙ length-append short h.end

    blank : (k : ℕ) → length short ≤ k → k < length text → is_whitespace (get_or text k 0) ≡ true
    blank k low high =
        ap (λ t. is_whitespace (get_or t k 0)) h.whole ∙ ap is_whitespace (get_or-append_right short h.end (length short) k 0 refl low)
        ∙ h.blank (k - length short) 0 (omega (arith, size, low, high))

    not_last : 0 < length short → (b : Bool) → is_whitespace (get_or short (length short - 1) 0) ≡ b → b ≡ false
    not_last some true e = absurd (h.cut (last_found is_whitespace IsWhitespace (λ b w. w) short
        (ap (passes is_whitespace) (slice_get-get_or short (length short - 1) 0 (omega (arith, some))) ∙ e)))
    not_last some false e = refl

    stops : 0 < length short → is_whitespace (get_or text (length short - 1) 0) ≡ false
    stops some =
        ap (λ t. is_whitespace (get_or t (length short - 1) 0)) h.whole
        ∙ ap is_whitespace (get_or_append_left short h.end 0 (length short - 1) (omega (arith, some)))
        ∙ not_last some (is_whitespace (get_or short (length short - 1) 0)) refl

    count : suffix_len is_whitespace text ≡ length text - length short
    count = suffix_len_is is_whitespace text (length short) 0 (omega (arith, size)) blank stops

    kept : length text - suffix_len is_whitespace text ≡ length short
    kept = omega (arith, size, count)
