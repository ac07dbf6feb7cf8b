-- Runs of bytes at the start and at the end of a text.
use Rattle.std.proofs.Common.{◌≡◌, ℕ, zero, suc, ◌+◌, ◌-◌, ◌<◌, ◌≤◌, Bool, true, false, cond, not, ◌&&◌, ◌||◌, [], ◌∷◌, ◌++◌, length, drop, take, get_or, refl, ap, sym, ◌∙◌, true≢false, arith, length-append}
use Rattle.std.specs.List.{list_all, list_any, prefix_len, suffix_len}
use Rattle.std.proofs.Math.Seq.{take-append_seam}
use Rattle.std.proofs.lemmas.List.{get_or_append_left, get_or-append_right}
use Rattle.std.proofs.lemmas.List.Sums.{suffix_len_is}
use Rattle.std.proofs.lemmas.Option.{slice_get-get_or}
use Rattle.text_bytes.specs.Names.{bar}
use Rattle.text_bytes.specs.Texts.{is_empty}
use Rattle.text_bytes.specs.Text.{Text}
use Rattle.text_core.specs.Choices.{is_bar}
use Rattle.eval_rendering.specs.Udev.{first_part, last_is, passes}

no_byte : {A : Type 0} → false ≡ true → A
no_byte h = absurd (true≢false (sym h))

-- a run of bytes that pass, and what follows
passing : (p : ℕ → Bool) (run rest : Text) → list_all p run ≡ true → prefix_len p rest ≡ 0 → prefix_len p (run ++ rest) ≡ length run
passing p [] rest h stops = stops
passing p (b ∷ run) rest h stops = by (p b) h (λ h. passing p run rest h stops)
  where
    by : (c : Bool) → (c && list_all p run) ≡ true → (list_all p run ≡ true → prefix_len p (run ++ rest) ≡ length run) → cond c (1 + prefix_len p (run ++ rest)) 0 ≡ suc (length run)
    by true h following = let more : prefix_len p (run ++ rest) ≡ length run = following h in omega (arith, more)
    by false h following = no_byte h

-- bytes of which none is a bar
others : (part : Text) → list_any is_bar part ≡ false → list_all (λ b. not (is_bar b)) part ≡ true
others [] h = refl
others (b ∷ part) h = by (is_bar b) h (others part)
  where
    by : (c : Bool) → (c || list_any is_bar part) ≡ false → (list_any is_bar part ≡ false → list_all (λ b. not (is_bar b)) part ≡ true) → (not c && list_all (λ b. not (is_bar b)) part) ≡ true
    by true h following = no_byte (sym h)
    by false h following = following h

drop_run : (run rest : Text) → drop (length run) (run ++ rest) ≡ rest
drop_run [] rest = refl
drop_run (b ∷ run) rest = drop_run run rest

append_none : (text : Text) → text ++ [] ≡ text
append_none [] = refl
append_none (b ∷ text) = ap (λ t. b ∷ t) (append_none text)

-- no bar is at the start
no_bar : (part rest : Text) → list_any is_bar part ≡ false → is_empty part ≡ false → prefix_len is_bar (part ++ rest) ≡ 0
no_bar [] rest h some = no_byte (sym some)
no_bar (b ∷ part) rest h some = by (is_bar b) h
  where
    by : (c : Bool) → (c || list_any is_bar part) ≡ false → cond c (1 + prefix_len is_bar (part ++ rest)) 0 ≡ 0
    by true h = no_byte (sym h)
    by false h = refl

-- the bytes before a bar, or the end
before : (part rest : Text) → list_any is_bar part ≡ false → prefix_len (λ b. not (is_bar b)) rest ≡ 0 → take (prefix_len (λ b. not (is_bar b)) (part ++ rest)) (part ++ rest) ≡ part
before part rest h stops =
    ap (λ n. take n (part ++ rest)) (passing (λ b. not (is_bar b)) part rest (others part h) stops) ∙ take-append_seam part rest

-- what follows bars
following : (bars rest : Text) → list_all is_bar bars ≡ true → prefix_len is_bar rest ≡ 0 → drop (prefix_len is_bar (bars ++ rest)) (bars ++ rest) ≡ rest
following bars rest h stops = ap (λ n. drop n (bars ++ rest)) (passing is_bar bars rest h stops) ∙ drop_run bars rest

between : (bars part rest : Text) → list_all is_bar bars ≡ true → list_any is_bar part ≡ false → prefix_len is_bar (part ++ rest) ≡ 0 → prefix_len (λ b. not (is_bar b)) rest ≡ 0
    → first_part (bars ++ (part ++ rest)) ≡ part
between bars part rest all none some stops =
    ap (λ t. take (prefix_len (λ b. not (is_bar b)) t) t) (following bars (part ++ rest) all some) ∙ before part rest none stops

pub first_of_several : (bars part rest : Text) → list_all is_bar bars ≡ true → list_any is_bar part ≡ false → is_empty part ≡ false → first_part (bars ++ (part ++ bar ∷ rest)) ≡ part
first_of_several bars part rest all none some = between bars part (bar ∷ rest) all none (no_bar part (bar ∷ rest) none some) refl

pub first_alone : (bars part : Text) → list_all is_bar bars ≡ true → list_any is_bar part ≡ false → first_part (bars ++ part) ≡ part
first_alone bars part all none = ap (λ t. first_part (bars ++ t)) (sym (append_none part)) ∙ between bars part [] all none (starts part none) refl
  where
    starts : (part : Text) → list_any is_bar part ≡ false → prefix_len is_bar (part ++ []) ≡ 0
    starts [] h = refl
    starts (b ∷ part) h = no_bar (b ∷ part) [] h refl

-- ---- ends

not_last : (p : ℕ → Bool) (text : Text) → last_is p text ≡ false → 0 < length text → p (get_or text (length text - 1) 0) ≡ false
not_last p text h some =
    ap (passes p) (sym (slice_get-get_or text (length text - 1) 0 (omega (arith, some)))) ∙ h

-- a text without the bytes at its end that pass
pub cut_off : (p : ℕ → Bool) (text end : Text) → list_all p end ≡ true → last_is p text ≡ false
    → take (length (text ++ end) - suffix_len p (text ++ end)) (text ++ end) ≡ text
cut_off p text end all last = ap (λ n. take n (text ++ end)) kept ∙ take-append_seam text end
  where
    size : length (text ++ end) ≡ length text + length end
    size = length-append text end

    cut : (k : ℕ) → length text ≤ k → k < length (text ++ end) → p (get_or (text ++ end) k 0) ≡ true
    cut k low high =
        ap p (get_or-append_right text end (length text) k 0 refl low) ∙ each (k - length text) (omega (arith, size, low, high))
      where
        at : (xs : Text) (i : ℕ) → list_all p xs ≡ true → i < length xs → p (get_or xs i 0) ≡ true
        at [] i h few = absurd (omega (arith, few))
        at (b ∷ xs) zero h few = first (p b) h
          where
            first : (c : Bool) → (c && list_all p xs) ≡ true → c ≡ true
            first true h = refl
            first false h = no_byte h
        at (b ∷ xs) (suc i) h few = at xs i (rest (p b) h) (omega (arith, few))
          where
            rest : (c : Bool) → (c && list_all p xs) ≡ true → list_all p xs ≡ true
            rest true h = h
            rest false h = no_byte h

        each : (i : ℕ) → i < length end → p (get_or end i 0) ≡ true
        each i few = at end i all few

    stops : 0 < length text → p (get_or (text ++ end) (length text - 1) 0) ≡ false
    stops some = ap p (get_or_append_left text end 0 (length text - 1) (omega (arith, some))) ∙ not_last p text last some

    count : suffix_len p (text ++ end) ≡ length (text ++ end) - length text
    count = suffix_len_is p (text ++ end) (length text) 0 (omega (arith, size)) cut stops

    kept : length (text ++ end) - suffix_len p (text ++ end) ≡ length text
    kept = omega (arith, size, count)
