-- How often lines are in lists.
use Rattle.std.proofs.Common.{◌≡◌, ◌↔◌, ℕ, ◌+◌, ◌-◌, ◌<◌, ◌≤◌, Bool, true, false, cond, ◌||◌, nat_lt, List, [], ◌∷◌, ◌++◌, map, refl, ap, ap₂, sym, ◌∙◌, arith, add-zero, zero-add, append_assoc, append-nil}
use Rattle.std.proofs.lemmas.List.{map-append}
use Rattle.std.proofs.lemmas.Bool.{ltb-true, ltb-false, lt-ltb, le-ltb}
use Rattle.std.proofs.lemmas.List.Sums.{sum_by-cons, sum_by-append, sum_by_push}
use Rattle.std.specs.Cmp.Lexicographic.{bytes_decides}
use Rattle.text_bytes.specs.Text.{Text}
use Rattle.text_tables.specs.Texts.{same_text, is_among}
use Rattle.text_tables.specs.Surplus.{times, unless_fewer, surplus_after, surplus}

-- one if a text is the same as another
abbrev pub one_if : Bool → ℕ
one_if b = cond b 1 0

pub is_same : (a b : Text) → same_text a b ≡ true → a ≡ b
is_same a b h = (bytes_decides a b).0 h

pub are_same : (a : Text) → same_text a a ≡ true
are_same a = (bytes_decides a a).1 refl

pub times-cons : (text other : Text) (texts : List Text) → times text (other ∷ texts) ≡ one_if (same_text text other) + times text texts
times-cons text other texts = sum_by-cons (λ t. cond (same_text text t) 1 0) other texts

pub times-append : (text : Text) (first second : List Text) → times text (first ++ second) ≡ times text first + times text second
times-append text first second = sum_by-append (λ t. cond (same_text text t) 1 0) first second

pub times-push : (text other : Text) (texts : List Text) → times text (texts ++ other ∷ []) ≡ times text texts + one_if (same_text text other)
times-push text other texts = sum_by_push (λ t. cond (same_text text t) 1 0) texts other

-- a text that may be left out
picked : (text other : Text) (left_out : Bool) → times text (cond left_out [] (other ∷ [])) ≡ cond left_out 0 (one_if (same_text text other))
picked text other true = refl
picked text other false = times-cons text other [] ∙ add-zero (one_if (same_text text other))

picked_same : (text other : Text) (before others : List Text) → same_text text other ≡ true → times text (unless_fewer before other other others) ≡ cond (nat_lt (times text before) (times text others)) 0 1
picked_same text other before others h =
    picked text other (nat_lt (times other before) (times other others))
    ∙ ap (λ b. cond (nat_lt (times other before) (times other others)) 0 (one_if b)) h
    ∙ ap (λ t. cond (nat_lt (times t before) (times t others)) 0 1) (sym (is_same text other h))

either_way : (b : Bool) (n : ℕ) → cond b n n ≡ n
either_way true n = refl
either_way false n = refl

picked_other : (text other : Text) (before others : List Text) → same_text text other ≡ false → times text (unless_fewer before other other others) ≡ 0
picked_other text other before others h =
    picked text other (nat_lt (times other before) (times other others))
    ∙ ap (λ b. cond (nat_lt (times other before) (times other others)) 0 (one_if b)) h
    ∙ either_way (nat_lt (times other before) (times other others)) 0

-- one text more
step_same : (before others following : ℕ) → cond (nat_lt before others) 0 1 + (following - (others - (before + 1))) ≡ (1 + following) - (others - before)
step_same before others following = by (nat_lt before others) refl
  where
    by : (b : Bool) → nat_lt before others ≡ b → cond b 0 1 + (following - (others - (before + 1))) ≡ (1 + following) - (others - before)
    by true e = let h = ltb-true before others e in omega (arith, h)
    by false e = let h = ltb-false before others e in omega (arith, h)

step_other : (before others following : ℕ) → 0 + (following - (others - (before + 0))) ≡ (0 + following) - (others - before)
step_other before others following = omega arith

-- texts after others are more as often as all of them are more than those of the other list
pub counted_after : (before texts others : List Text) (text : Text) → times text (surplus_after (λ t. t) before texts others) ≡ times text texts - (times text others - times text before)
counted_after before [] others text = omega arith
counted_after before (other ∷ texts) others text = by (same_text text other) refl
    (counted_after (before ++ other ∷ []) texts others text ∙ ap (λ n. times text texts - (times text others - n)) (times-push text other before))
  where
    split : times text (surplus_after (λ t. t) (before ++ other ∷ []) texts others) ≡ times text texts - (times text others - (times text before + one_if (same_text text other)))
        → times text (surplus_after (λ t. t) before (other ∷ texts) others) ≡ times text (unless_fewer before other other others) + (times text texts - (times text others - (times text before + one_if (same_text text other))))
    split rest = times-append text (unless_fewer before other other others) (surplus_after (λ t. t) (before ++ other ∷ []) texts others) ∙ ap (λ n. times text (unless_fewer before other other others) + n) rest

    by : (b : Bool) → same_text text other ≡ b → times text (surplus_after (λ t. t) (before ++ other ∷ []) texts others) ≡ times text texts - (times text others - (times text before + one_if (same_text text other)))
        → times text (surplus_after (λ t. t) before (other ∷ texts) others) ≡ times text (other ∷ texts) - (times text others - times text before)
    by true h rest =
        split rest ∙ ap (λ b. times text (unless_fewer before other other others) + (times text texts - (times text others - (times text before + one_if b)))) h
        ∙ ap (λ n. n + (times text texts - (times text others - (times text before + 1)))) (picked_same text other before others h)
        ∙ step_same (times text before) (times text others) (times text texts)
        ∙ ap (λ n. n - (times text others - times text before)) (sym (times-cons text other texts ∙ ap (λ b. one_if b + times text texts) h))
    by false h rest =
        split rest ∙ ap (λ b. times text (unless_fewer before other other others) + (times text texts - (times text others - (times text before + one_if b)))) h
        ∙ ap (λ n. n + (times text texts - (times text others - (times text before + 0)))) (picked_other text other before others h)
        ∙ step_other (times text before) (times text others) (times text texts)
        ∙ ap (λ n. n - (times text others - times text before)) (sym (times-cons text other texts ∙ ap (λ b. one_if b + times text texts) h))

none_before : (texts others : ℕ) → texts - (others - 0) ≡ texts - others
none_before texts others = omega arith

pub counted : (texts others : List Text) (text : Text) → times text (surplus texts others) ≡ times text texts - times text others
counted texts others text = counted_after [] texts others text ∙ none_before (times text texts) (times text others)

pub fewer : (old new : List Text) (text : Text) → times text (surplus old new) ≤ times text old
fewer old new text = omega (arith, counted old new text)

put_in : (old new gone come : ℕ) → gone ≡ old - new → come ≡ new - old → (old - gone) + come ≡ new
put_in old new gone come g h = omega (arith, g, h)

pub led : (old new : List Text) (text : Text) → (times text old - times text (surplus old new)) + times text (surplus new old) ≡ times text new
led old new text = put_in (times text old) (times text new) (times text (surplus old new)) (times text (surplus new old)) (counted old new text) (counted new old text)

-- a text is among others exactly if it is there at least once
pub among_some : (texts : List Text) (text : Text) → is_among texts text ≡ nat_lt 0 (times text texts)
among_some [] text = refl
among_some (other ∷ texts) text = by (same_text text other) (among_some texts text) ∙ ap (λ n. nat_lt 0 n) (sym (times-cons text other texts))
  where
    by : (b : Bool) → is_among texts text ≡ nat_lt 0 (times text texts) → (b || is_among texts text) ≡ nat_lt 0 (one_if b + times text texts)
    by true h = sym (lt-ltb 0 (1 + times text texts) (omega arith))
    by false h = h ∙ ap (λ n. nat_lt 0 n) (sym (zero-add (times text texts)))

pub never_both : (old new : List Text) (text : Text) → is_among (surplus old new) text ≡ true → is_among (surplus new old) text ≡ false
never_both old new text h =
    let gone : 0 < times text (surplus old new) = ltb-true 0 (times text (surplus old new)) (sym (among_some (surplus old new) text) ∙ h) in
    among_some (surplus new old) text ∙ le-ltb 0 (times text (surplus new old)) (none_left gone)
  where
    none_left : 0 < times text (surplus old new) → times text (surplus new old) ≤ 0
    none_left g = omega (arith, g, counted old new text, counted new old text)

-- a list that contains no text is empty
none_there : (texts : List Text) → ((text : Text) → times text texts ≡ 0) → texts ≡ []
none_there [] none = refl
none_there (text ∷ texts) none =
    let once : 1 + times text texts ≡ 0 = ap (λ b. one_if b + times text texts) (sym (are_same text)) ∙ sym (times-cons text text texts) ∙ none text in
    absurd (omega (arith, once))

same_lines : (old new : List Text) → ((text : Text) → times text old ≡ times text new) → surplus old new ≡ []
same_lines old new same = none_there (surplus old new) (λ text. omega (arith, counted old new text, same text))

both_empty : (old new : List Text) → (surplus old new ≡ []) × (surplus new old ≡ []) → (text : Text) → times text old ≡ times text new
both_empty old new e text =
    let gone : times text (surplus old new) ≡ 0 = ap (times text) e.0 in
    let come : times text (surplus new old) ≡ 0 = ap (times text) e.1 in
    omega (arith, gone, come, counted old new text, counted new old text)

pub nothing_differs : (old new : List Text) → ((surplus old new ≡ []) × (surplus new old ≡ [])) ↔ ((text : Text) → times text old ≡ times text new)
nothing_differs old new = (both_empty old new, λ same. (same_lines old new same, same_lines new old (λ text. sym (same text))))

-- a text at the end
pub following-push : (before texts others : List Text) (text : Text) → surplus_after (λ t. t) before (texts ++ text ∷ []) others ≡ surplus_after (λ t. t) before texts others ++ unless_fewer (before ++ texts) text text others
following-push before [] others text = append-nil (unless_fewer before text text others) ∙ ap (λ t. unless_fewer t text text others) (sym (append-nil before))
following-push before (other ∷ texts) others text =
    ap (λ more. unless_fewer before other other others ++ more) (following-push (before ++ other ∷ []) texts others text)
    ∙ sym (append_assoc (unless_fewer before other other others) (surplus_after (λ t. t) (before ++ other ∷ []) texts others) (unless_fewer ((before ++ other ∷ []) ++ texts) text text others))
    ∙ ap (λ all. (unless_fewer before other other others ++ surplus_after (λ t. t) (before ++ other ∷ []) texts others) ++ unless_fewer all text text others) (append_assoc before (other ∷ []) texts)

-- the items whose texts are more have the texts that are more
pub chosen : {A : Type 0} (text : A → Text) (before : List Text) (items : List A) (others : List Text) → map text (surplus_after text before items others) ≡ surplus_after (λ t. t) before (map text items) others
chosen text before [] others = refl
chosen text before (item ∷ items) others =
    map-append text (unless_fewer before (text item) item others) (surplus_after text (before ++ text item ∷ []) items others)
    ∙ ap₂ (λ first later. first ++ later) (by (nat_lt (times (text item) before) (times (text item) others))) (chosen text (before ++ text item ∷ []) items others)
  where
    by : (b : Bool) → map text (cond b [] (item ∷ [])) ≡ cond b [] (text item ∷ [])
    by true = refl
    by false = refl
