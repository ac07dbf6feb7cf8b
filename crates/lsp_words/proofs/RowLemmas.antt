-- What a row gives to its rule.
use Rattle.std.proofs.Common.{◌≡◌, ℕ, ◌+◌, ◌-◌, ◌≤◌, Bool, true, false, [], ◌∷◌, ◌++◌, refl, sym, ap, ◌∙◌, length, take, drop, arith, cond}
use Rattle.std.specs.Prelude.{if◌then◌else◌}
use Rattle.std.specs.List.{list_all, prefix_len}
use Rattle.std.proofs.lemmas.Bool.{and_parts}
use Rattle.std.proofs.lemmas.List.{append-nil, drop_all, length-drop, take-append-drop, take-append-le, drop-append-le}
use Rattle.std.proofs.lemmas.List.Folds.{list_all-append}
use Rattle.text_bytes.specs.Names.{backslash, is_blank}
use Rattle.text_bytes.specs.Texts.{ends_in, unindented}
use Rattle.text_bytes.specs.Text.{Text}
use Rattle.lsp_words.specs.Rows.{body, is_comment}

-- what may stay of a row is its front
begins : (comment goes_on : Bool) (row : Text) → (rest : Text) × (row ≡ (if comment then [] else if goes_on then take (length row - 1) row else row) ++ rest)
begins true goes_on row = (row, refl)
begins false true row = (drop (length row - 1) row, sym (take-append-drop (length row - 1) row))
begins false false row = ([], sym (append-nil row))

-- a row begins with what it gives to its rule
pub row_begins : (row : Text) → (rest : Text) × (row ≡ body row ++ rest)
row_begins row = begins (is_comment row) (ends_in backslash row) row

-- a comment gives nothing
pub comment_empty : (row : Text) → is_comment row ≡ true → body row ≡ []
comment_empty row e = ap (λ b. if b then [] else if ends_in backslash row then take (length row - 1) row else row) e

-- a slice of the front of a text is one of the text
pub slice_longer : (text rest : Text) (p k : ℕ) → p + k ≤ length text → take k (drop p (text ++ rest)) ≡ take k (drop p text)
slice_longer text rest p k h =
    ap (λ t. take k t) (drop-append-le p text rest (omega arith)) ∙ take-append-le k (drop p text) rest (simp length-drop (omega arith))

-- blanks alone are all there is
all_blank : (text : Text) → list_all is_blank text ≡ true → prefix_len is_blank text ≡ length text
all_blank [] e = refl
all_blank (b ∷ text) e =
    let p = and_parts (is_blank b) (list_all is_blank text) e in
    let n : prefix_len is_blank text ≡ length text = all_blank text p.1 in
    ap (λ t. cond t (1 + prefix_len is_blank text) 0) p.0 ∙ omega arith

-- blanks alone are gone without the blanks at their start
pub blanks_gone : (text : Text) → list_all is_blank text ≡ true → unindented text ≡ []
blanks_gone text e = drop_all (prefix_len is_blank text) text (let n : prefix_len is_blank text ≡ length text = all_blank text e in omega arith)

-- what a row of blanks gives is blanks
pub body_blank : (row : Text) → list_all is_blank row ≡ true → list_all is_blank (body row) ≡ true
body_blank row e =
    let b = row_begins row in
    (and_parts (list_all is_blank (body row)) (list_all is_blank b.0)
    (sym (list_all-append is_blank (body row) b.0) ∙ (ap (λ t. list_all is_blank t) (sym b.1) ∙ e))).0
