-- The line that a comment on the next rule is about.
use Rattle.std.proofs.Common.{◌≡◌, ℕ, ◌+◌, ◌≤◌, Bool, true, false, cond, List, [], ◌∷◌, codes, length, All, Option, Some, None, nat_lt, refl, ap, sym, subst}
use Rattle.std.proofs.lemmas.Bool.{ltb-true, ltb-false}
use Rattle.std.proofs.lemmas.List.Elements.{All-append, All-cons, All-nil, All-weaker}
use Rattle.text_bytes.specs.declared.profile.Profile.{Profile}
use Rattle.text_bytes.specs.Lines.{NumberedLine, numbered_lines}
use Rattle.text_bytes.specs.Numbers.{capped}
use Rattle.text_bytes.specs.declared.source_file.FileKind.{FileKind}
use Rattle.text_bytes.specs.declared.source_file.SourceFile.{SourceFile}
use Rattle.text_bytes.specs.Text.{Text}
use Rattle.text_bytes.specs.Texts.{following}
use Rattle.engine_checks.specs.Ignores.{Ignore, asked_by, asked_or, comment_of, ignore_at, ignores_after, ignores_among, ignores_at, ignores_in, ignores_of_line, next_after, starts_of, texts_of}
use Rattle.engine_checks.specs.Laws.{IsAboutNext, IsFirstAfter}
use Rattle.engine_checks.specs.declared.ignores.Scope.{Scope}
use Rattle.engine_checks.specs.declared.ignores.Scope.TheVariants.{Next}

first_after : (starts : List ℕ) (line : ℕ) → IsFirstAfter starts line (next_after starts line)
first_after [] line = All-nil (λ start. start ≤ line)
first_after (s ∷ starts) line = by (nat_lt line s) refl (next_after starts line) (first_after starts line)
  where
    by : (b : Bool) → nat_lt line s ≡ b → (next : Option ℕ) → IsFirstAfter starts line next → IsFirstAfter (s ∷ starts) line (cond b (Some s) next)
    by true e next more = ([], (starts, (refl, (All-nil (λ start. start ≤ line), ltb-true line s e))))
    by false e None more = All-cons (λ start. start ≤ line) s starts (ltb-false line s e) more
    by false e (Some next) (passed, (rest, (is, (all, later)))) =
        (s ∷ passed, (rest, (ap (λ ss. s ∷ ss) is, (All-cons (λ start. start ≤ line) s passed (ltb-false line s e) all, later))))

-- A code is one of a comment in this line, and if the comment is on the next rule, this is its line.
pub record IsAsked (at : ℕ) (about : Option ℕ) (ignore : Ignore) : Type 0 where
  pub line : ignore.line ≡ at
  pub next : (n : Option ℕ) → ignore.scope ≡ Next n → n ≡ about

all_at : (line : ℕ) (next : Option ℕ) (scope : Scope) → ((n : Option ℕ) → scope ≡ Next n → n ≡ next) → (column : ℕ) (texts : List Text) → All (IsAsked line next) (ignores_at line scope column texts)
all_at line next scope h column [] = All-nil (IsAsked line next)
all_at line next scope h column (t ∷ ts) =
    All-cons (IsAsked line next) (ignore_at line scope column t) (ignores_at line scope (column + length t + 1) ts) (record { line = refl; next = h }) (all_at line next scope h (column + length t + 1) ts)

scope_asked : (next : Option ℕ) (one two : Option Text) (text : Text) (n : Option ℕ) → (asked_or next one two text).0 ≡ Next n → n ≡ next
scope_asked next (Some list) two text n e = cc
scope_asked next None (Some list) text n e = cc
scope_asked next None None text n e = cc

after_asked : (l : NumberedLine) (next : Option ℕ) (text : Option Text) → All (IsAsked (capped l.number) next) (ignores_after l next text)
after_asked l next None = All-nil (IsAsked (capped l.number) next)
after_asked l next (Some text) =
    all_at (capped l.number) next (asked_by next text).0 (scope_asked next (following (codes " ignore ") text) (following (codes " ignore-file ") text) text) _ (texts_of (asked_by next text).0 (asked_by next text).1)

about_next : (starts : List ℕ) (line : ℕ) (i : Ignore) → IsAsked line (next_after starts line) i → IsAboutNext starts i
about_next starts line i h n e =
    subst (λ at. IsFirstAfter starts at n) (sym h.line) (subst (λ next. IsFirstAfter starts line next) (sym (h.next n e)) (first_after starts line))

lines_about : (kind : FileKind) (starts : List ℕ) (ls : List NumberedLine) → All (IsAboutNext starts) (ignores_among kind starts ls)
lines_about kind starts [] = All-nil (IsAboutNext starts)
lines_about kind starts (l ∷ ls) =
    All-append (IsAboutNext starts) (ignores_of_line kind (next_after starts (capped l.number)) l) (ignores_among kind starts ls)
    (All-weaker (IsAsked (capped l.number) (next_after starts (capped l.number))) (IsAboutNext starts) (λ i h. about_next starts (capped l.number) i h)
    (ignores_of_line kind (next_after starts (capped l.number)) l) (after_asked l (next_after starts (capped l.number)) (following (codes "# devdry:") (comment_of kind l.text))))
    (lines_about kind starts ls)

-- the comments of a file
pub all_about : (by : Profile) (file : SourceFile) → All (IsAboutNext (starts_of by file.kind file.bytes)) (ignores_in by file)
unfolding ignores_in
all_about by file = lines_about file.kind (starts_of by file.kind file.bytes) (numbered_lines file.bytes)
