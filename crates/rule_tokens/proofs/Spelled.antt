-- What is read is spelled so, and what is refused is faulty.
use Rattle.std.proofs.Common.{◌≡◌, ℕ, zero, suc, ◌+◌, ◌<◌, ◌≤◌, inl, inr, Bool, true, false, cond, ◌==◌, List, [], ◌∷◌, ◌++◌, length, drop, Option, Some, None, Result, Ok, Err, MatchOption, MatchResult, refl, sym, ◌∙◌, ap, subst, arith, append_assoc, append-nil, eqb-true, length-append, length-take}
use Rattle.std.specs.List.{AllPass, prefix_len, take_while}
use Rattle.std.proofs.lemmas.List.{get_or-take, take-append-drop}
use Rattle.std.proofs.lemmas.List.Sums.{prefix_len_passes}
use Rattle.text_bytes.specs.Names.{dollar, percent, open_brace, close_brace}
use Rattle.text_bytes.specs.Texts.{skip_while, split_once}
use Rattle.rule_tokens.specs.Braces.{braced}
use Rattle.rule_tokens.specs.TemplateGrammar.{BeginsNotPlain, HasNoClose, IsNoNumber, IsFaulty, IsSign, IsSignWith, Spells, in_braces}
use Rattle.rule_tokens.specs.Names.{long_names, named, short_names}
use Rattle.rule_tokens.specs.Number.{word_of}
use Rattle.rule_tokens.specs.TemplateReading.{FirstPiece, argument_of, bracketed, is_no_sign, numbered, first_at, result_piece, substituted_by, with_name}
use Rattle.rule_tokens.specs.declared.fault.TemplateFault.{TemplateFault}
use Rattle.rule_tokens.specs.declared.fault.TemplateFault.TheVariants as fault
use Rattle.rule_tokens.specs.declared.names.Substitution.{Substitution}
use Rattle.rule_tokens.specs.declared.names.Substitution.TheVariants as name
use Rattle.rule_tokens.specs.declared.piece.Piece.{Piece}
use Rattle.rule_tokens.specs.declared.piece.Piece.TheVariants as piece
use Rattle.rule_tokens.proofs.Closing.{BracedWell, SplitWell, braced_well, braces_are, split_well}
use Rattle.rule_tokens.proofs.TemplateNumbers.{WritesWord, word_well}
use Rattle.rule_tokens.proofs.Signs.{NameWell, named_well}

-- the piece that the name after a sign asks for
abbrev pub substituted : Option (Substitution × List ℕ) → FirstPiece
substituted = substituted_by argument_of

-- after a sign a piece is found, which the sign and what is taken spell, or a fault
abbrev pub AskedWell : List ℕ → List ℕ → FirstPiece → Type 0
AskedWell sign t r = MatchResult r (λ x. (taken : List ℕ) × (t ≡ taken ++ x.1) × Spells x.0 (sign ++ taken) x.1) (λ e. IsFaulty e (sign ++ t))

-- a sign alone
alone : (s : Substitution) (sign t : List ℕ) → IsSign s sign t → IsSign s (sign ++ []) t
alone s sign t h = subst (λ (l : List ℕ). IsSign s l t) (sym (append-nil sign)) h

-- a sign with braces after it
with_braces : (s : Substitution) (sign t content rest : List ℕ) → IsSign s sign t → t ≡ in_braces content ++ rest → HasNoClose content → IsSignWith s content (sign ++ in_braces content) rest
with_braces s sign t content rest h parts none = record { sign = sign; is_sign = subst (IsSign s sign) parts h; no_close = none; spelled = refl }

attr_by : (sign t : List ℕ) → IsSign name.Attr sign t → (r : Result (List ℕ × List ℕ) TemplateFault) → BracedWell t r → AskedWell sign t (with_name (λ n. piece.Attr n) r)
attr_by sign t h (Ok x) b = (in_braces x.0, b.parts, (b.some, with_braces name.Attr sign t x.0 x.1 h b.parts b.no_close))
attr_by sign t h (Err e) b = subst (λ (f : TemplateFault). IsFaulty f (sign ++ t)) (sym b.0) (sign, t, refl, inl (inl h, b.1))

env_by : (sign t : List ℕ) → IsSign name.Env sign t → (r : Result (List ℕ × List ℕ) TemplateFault) → BracedWell t r → AskedWell sign t (with_name (λ n. piece.Env n) r)
env_by sign t h (Ok x) b = (in_braces x.0, b.parts, (b.some, with_braces name.Env sign t x.0 x.1 h b.parts b.no_close))
env_by sign t h (Err e) b = subst (λ (f : TemplateFault). IsFaulty f (sign ++ t)) (sym b.0) (sign, t, refl, inl (inr h, b.1))

-- a number in braces
numbered_by : (sign t : List ℕ) (x : List ℕ × List ℕ) → IsSign name.Result sign t → t ≡ in_braces x.0 ++ x.1 → HasNoClose x.0
    → (o : Option Piece) → MatchOption o (IsNoNumber x.0) (λ p. WritesWord x.0 p) → AskedWell sign t (numbered o x.1)
numbered_by sign t x h parts none (Some p) (inl w) =
    (in_braces x.0, parts, subst (λ (q : Piece). Spells q (sign ++ in_braces x.0) x.1) (sym w.1) (x.0, w.2, with_braces name.Result sign t x.0 x.1 h parts none))
numbered_by sign t x h parts none (Some p) (inr w) =
    let signed : IsSignWith name.Result x.0 (sign ++ in_braces x.0) x.1 = with_braces name.Result sign t x.0 x.1 h parts none in
    (in_braces x.0, parts, subst (λ (q : Piece). Spells q (sign ++ in_braces x.0) x.1) (sym w.2) (w.1, w.3, subst (λ (c : List ℕ). IsSignWith name.Result c (sign ++ in_braces x.0) x.1) w.4 signed))
numbered_by sign t x h parts none None w =
    (sign ++ in_braces x.0, x.0, x.1, ap (λ (l : List ℕ). sign ++ l) parts ∙ sym (append_assoc sign (in_braces x.0) x.1), with_braces name.Result sign t x.0 x.1 h parts none, w)

bracketed_by : (sign t : List ℕ) → IsSign name.Result sign (open_brace ∷ t) → (o : Option (List ℕ × List ℕ)) → SplitWell t o → AskedWell sign (open_brace ∷ t) (bracketed o)
bracketed_by sign t h None none = (sign, open_brace ∷ t, refl, inr (h, (t, refl, none)))
bracketed_by sign t h (Some x) s =
    numbered_by sign (open_brace ∷ t) x h (ap (λ (l : List ℕ). open_brace ∷ l) s.1 ∙ sym (braces_are x.0 x.1)) s.0 (word_of x.0) (word_well x.0)

result_by : (sign : List ℕ) (b : ℕ) (t : List ℕ) → IsSign name.Result sign (b ∷ t) → (v : Bool) → (b == open_brace) ≡ v
    → AskedWell sign (b ∷ t) (cond v (bracketed (split_once close_brace t)) (Ok (piece.Result, b ∷ t)))
result_by sign b t h true e =
    let same : b ≡ open_brace = eqb-true b open_brace e in
    subst (λ (c : ℕ). AskedWell sign (c ∷ t) (bracketed (split_once close_brace t))) (sym same)
    (bracketed_by sign t (subst (λ (c : ℕ). IsSign name.Result sign (c ∷ t)) same h) (split_once close_brace t) (split_well t))
result_by sign b t h false e = ([], refl, (alone name.Result sign (b ∷ t) h, e))

result_well : (sign t : List ℕ) → IsSign name.Result sign t → AskedWell sign t (result_piece t)
unfolding result_piece
result_well sign [] h = ([], refl, (alone name.Result sign [] h, refl))
result_well sign (b ∷ t) h = result_by sign b t h (b == open_brace) refl

-- a name that is refused
refused : (sign t : List ℕ) → IsSign name.Refused sign t → IsFaulty fault.Unknown (sign ++ t)
refused sign t (inl h) = inl (h.0 ++ t, ap (λ (l : List ℕ). l ++ t) h.1, inr (h.0, t, refl, h.2))
refused sign t (inr h) = inr (h.0 ++ t, ap (λ (l : List ℕ). l ++ t) h.1, inr (h.0, t, refl, h.2))

asked_well : (s : Substitution) (sign t : List ℕ) → IsSign s sign t → AskedWell sign t (argument_of s t)
unfolding argument_of
asked_well name.Kernel sign t h = ([], refl, alone name.Kernel sign t h)
asked_well name.Number sign t h = ([], refl, alone name.Number sign t h)
asked_well name.Devpath sign t h = ([], refl, alone name.Devpath sign t h)
asked_well name.Id sign t h = ([], refl, alone name.Id sign t h)
asked_well name.Driver sign t h = ([], refl, alone name.Driver sign t h)
asked_well name.Attr sign t h = attr_by sign t h (braced t) (braced_well t)
asked_well name.Env sign t h = env_by sign t h (braced t) (braced_well t)
asked_well name.Major sign t h = ([], refl, alone name.Major sign t h)
asked_well name.Minor sign t h = ([], refl, alone name.Minor sign t h)
asked_well name.Result sign t h = result_well sign t h
asked_well name.Parent sign t h = ([], refl, alone name.Parent sign t h)
asked_well name.Name sign t h = ([], refl, alone name.Name sign t h)
asked_well name.Links sign t h = ([], refl, alone name.Links sign t h)
asked_well name.Root sign t h = ([], refl, alone name.Root sign t h)
asked_well name.Sys sign t h = ([], refl, alone name.Sys sign t h)
asked_well name.Devnode sign t h = ([], refl, alone name.Devnode sign t h)
asked_well name.Dollar sign t h = ([], refl, inr (inl (refl, alone name.Dollar sign t h)))
asked_well name.Percent sign t h = ([], refl, inr (inr (refl, alone name.Percent sign t h)))
asked_well name.Refused sign t h = refused sign t h

-- of a text after its first byte
abbrev pub PieceWell : ℕ → List ℕ → FirstPiece → Type 0
PieceWell b t r = MatchResult r (λ x. (taken : List ℕ) × (t ≡ taken ++ x.1) × Spells x.0 (b ∷ taken) x.1) (λ e. IsFaulty e (b ∷ t))

-- what follows a name, and the name
after_by : (b : ℕ) (n t rest : List ℕ) → t ≡ n ++ rest → (r : FirstPiece) → AskedWell (b ∷ n) rest r → PieceWell b t r
after_by b n t rest parts (Ok x) h = (n ++ h.0, parts ∙ ap (λ (l : List ℕ). n ++ l) h.1 ∙ sym (append_assoc n h.0 x.1), h.2)
after_by b n t rest parts (Err e) h = subst (λ (l : List ℕ). IsFaulty e (b ∷ l)) (sym parts) h

long_by : (t : List ℕ) (o : Option (Substitution × List ℕ)) → NameWell long_names t o → PieceWell dollar t (substituted o)
long_by t None none = inl (t, refl, inl none)
long_by t (Some x) h = after_by dollar h.0 t x.1 h.1 (argument_of x.0 x.1) (asked_well x.0 (dollar ∷ h.0) x.1 (inl (h.0, refl, h.2)))

short_by : (t : List ℕ) (o : Option (Substitution × List ℕ)) → NameWell short_names t o → PieceWell percent t (substituted o)
short_by t None none = inr (t, refl, inl none)
short_by t (Some x) h = after_by percent h.0 t x.1 h.1 (argument_of x.0 x.1) (asked_well x.0 (percent ∷ h.0) x.1 (inr (h.0, refl, h.2)))

pass_first : (p : ℕ → Bool) (b : ℕ) (t : List ℕ) → p b ≡ true → AllPass p t → AllPass p (b ∷ t)
pass_first p b t h all zero d lt = h
pass_first p b t h all (suc k) d lt = all k d (omega arith)

-- the bytes up to the next sign are plain
run_plain : (t : List ℕ) → AllPass is_no_sign (take_while is_no_sign t)
run_plain t k d lt =
    let small : k < prefix_len is_no_sign t = omega (arith, length-take (prefix_len is_no_sign t) t) in
    rw (get_or-take (prefix_len is_no_sign t) t k d small) (prefix_len_passes is_no_sign t k d small)

one-add : (n : ℕ) → 1 + n ≡ suc n
one-add n = omega arith

-- and the next byte is not
run_stops : (t : List ℕ) → BeginsNotPlain (skip_while is_no_sign t)
run_stops [] = tt
run_stops (b ∷ t) = by_test (run_stops t) (is_no_sign b) refl where
  by_test : BeginsNotPlain (skip_while is_no_sign t) → (v : Bool) → is_no_sign b ≡ v → BeginsNotPlain (drop (cond v (1 + prefix_len is_no_sign t) 0) (b ∷ t))
  by_test h true e = rw (one-add (prefix_len is_no_sign t)) h
  by_test h false e = e

-- plain bytes
plain_well : (b : ℕ) (t : List ℕ) → is_no_sign b ≡ true → Spells (piece.Plain (b ∷ take_while is_no_sign t)) (b ∷ take_while is_no_sign t) (skip_while is_no_sign t)
plain_well b t h = inl record {
  same = refl;
  some = λ none. let long : length (b ∷ take_while is_no_sign t) ≡ 0 = ap (λ (l : List ℕ). length l) none in omega arith;
  plain = pass_first is_no_sign b (take_while is_no_sign t) h (run_plain t);
  longest = run_stops t;
}

piece_by : (b : ℕ) (t : List ℕ) (v : Bool) → (b == dollar) ≡ v → (w : Bool) → (b == percent) ≡ w
    → PieceWell b t (cond v (substituted (named long_names t)) (cond w (substituted (named short_names t)) (Ok (piece.Plain (b ∷ take_while is_no_sign t), skip_while is_no_sign t))))
piece_by b t true e w f = subst (λ (c : ℕ). PieceWell c t (substituted (named long_names t))) (sym (eqb-true b dollar e)) (long_by t (named long_names t) (named_well long_names t refl))
piece_by b t false e true f = subst (λ (c : ℕ). PieceWell c t (substituted (named short_names t))) (sym (eqb-true b percent f)) (short_by t (named short_names t) (named_well short_names t refl))
piece_by b t false e false f = (take_while is_no_sign t, sym (take-append-drop (prefix_len is_no_sign t) t), plain_well b t (rw e (rw f refl)))

pub piece_well : (b : ℕ) (t : List ℕ) → PieceWell b t (first_at b t)
unfolding first_at
piece_well b t = piece_by b t (b == dollar) refl (b == percent) refl

shorter_by : (b : ℕ) (t : List ℕ) (x : Piece × List ℕ) (r : FirstPiece) → PieceWell b t r → r ≡ Ok x → length x.1 ≤ length t
shorter_by b t x (Ok y) h e =
    let same : y.1 ≡ x.1 = ap (λ (r : FirstPiece). rest_of r) e in
    let long : length t ≡ length h.0 + length y.1 = ap (λ (l : List ℕ). length l) h.1 ∙ length-append h.0 y.1 in
    let equal : length y.1 ≡ length x.1 = ap (λ (l : List ℕ). length l) same in
    omega arith
  where
    rest_of : FirstPiece → List ℕ
    rest_of (Ok y) = y.1
    rest_of (Err e) = []
shorter_by b t x (Err f) h e = cc

-- what is left is no longer
pub left_shorter : (b : ℕ) (t : List ℕ) (x : Piece × List ℕ) → first_at b t ≡ Ok x → length x.1 ≤ length t
left_shorter b t x e = shorter_by b t x (first_at b t) (piece_well b t) e
