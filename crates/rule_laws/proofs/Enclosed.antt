-- A set at the front of a text, and what the reading of its brackets finds.
use Rattle.std.proofs.Common.{◌≡◌, ℕ, suc, ◌+◌, ◌<◌, Bool, true, false, cond, ◌||◌, List, ◌∷◌, [], ◌++◌, length, take, drop, Option, Some, None, eqb, refl, sym, ◌∙◌, ap, arith, add-one, length-append}
use Rattle.std.specs.List.{position}
use Rattle.std.specs.Option.{option_map}
use Rattle.std.proofs.lemmas.Bool.{eqb-true}
use Rattle.std.proofs.Math.Seq.{take-append_seam, drop-append-add}
use Rattle.text_bytes.specs.Names.{bang, caret, close_bracket, open_bracket}
use Rattle.rule_laws.specs.Grammar.{Sign, no_sign, bang_sign, caret_sign, print_sign, negates, IsSet, NoSet}
use Rattle.text_core.specs.Spell.{closes, is_sign, negated, sign_len, members_len}
use Rattle.rule_laws.proofs.Places.{Found, found, joined}

-- the place of the first `]` that is not the first byte, counted from the second
abbrev pub close_of : List ℕ → Option ℕ
close_of m = position closes (drop 1 m)

pub members_len-some : (m : List ℕ) (k : ℕ) → close_of m ≡ Some k → members_len m ≡ Some (k + 1)
members_len-some m k e = ap (option_map (λ n. n + 1)) e

pub members_len-none : (m : List ℕ) → close_of m ≡ None → members_len m ≡ None
members_len-none m e = ap (option_map (λ n. n + 1)) e

-- the sign at the front of a text
abbrev pub sign_of : List ℕ → Sign
sign_of [] = no_sign
sign_of (b ∷ t) = cond (eqb b bang) bang_sign (cond (eqb b caret) caret_sign no_sign)

-- a sign is written at the front, as long as it is counted, and negates if it is said to
record Signed (t : List ℕ) : Type 0 where
  pub whole : t ≡ print_sign (sign_of t) ++ drop (sign_len t) t
  pub len : length (print_sign (sign_of t)) ≡ sign_len t
  pub negated : negates (sign_of t) ≡ negated t

-- the same for a text that begins with a byte, by whether that is one sign or the other
abbrev SignedBy : ℕ → List ℕ → Bool → Bool → Type 0
SignedBy b t v w =
    (b ∷ t ≡ print_sign (cond v bang_sign (cond w caret_sign no_sign)) ++ drop (cond (v || w) 1 0) (b ∷ t))
    × (length (print_sign (cond v bang_sign (cond w caret_sign no_sign))) ≡ cond (v || w) 1 0)
    × (negates (cond v bang_sign (cond w caret_sign no_sign)) ≡ (v || w))

signed_by : (b : ℕ) (t : List ℕ) (v w : Bool) → eqb b bang ≡ v → eqb b caret ≡ w → SignedBy b t v w
signed_by b t true w e f = (ap (λ (c : ℕ). c ∷ t) (eqb-true b bang e), refl, refl)
signed_by b t false true e f = (ap (λ (c : ℕ). c ∷ t) (eqb-true b caret f), refl, refl)
signed_by b t false false e f = (refl, refl, refl)

signed : (t : List ℕ) → Signed t
signed [] = record { whole = refl; len = refl; negated = refl }
signed (b ∷ t) =
    let parts : SignedBy b t (eqb b bang) (eqb b caret) = signed_by b t (eqb b bang) (eqb b caret) refl refl in
    record { whole = parts.0; len = parts.1; negated = parts.2 }

-- what is counted of a set: a text that is ps, the members x and before, and a `]` before the rest
record Counted (t body : List ℕ) (members rest : List ℕ) (s k : ℕ) : Type 0 where
  pub prefix : take (k + 1) body ≡ members
  pub following : drop (s + (k + 1) + 1) t ≡ rest
  pub whole : length t ≡ s + (k + 1) + 1 + length rest

counted : (t ps body : List ℕ) (x : ℕ) (before rest : List ℕ) (s k : ℕ) → t ≡ ps ++ body → length ps ≡ s
    → body ≡ (x ∷ before) ++ close_bracket ∷ rest → length before ≡ k → Counted t body (x ∷ before) rest s k
counted t ps body x before rest s k text sign inner len =
    let whole : t ≡ ps ++ (x ∷ (before ++ close_bracket ∷ rest)) = text ∙ ap (λ (b : List ℕ). ps ++ b) inner in
    let past : s + (k + 1) + 1 ≡ length ps + suc (length before + 1) = omega arith in
    record {
      prefix =
          ap (take (k + 1)) inner ∙ ap (λ (n : ℕ). take n (x ∷ (before ++ close_bracket ∷ rest))) (add-one k)
          ∙ ap (λ (ys : List ℕ). x ∷ ys) (ap (λ (n : ℕ). take n (before ++ close_bracket ∷ rest)) (sym len) ∙ take-append_seam before (close_bracket ∷ rest));
      following =
          ap (drop (s + (k + 1) + 1)) whole ∙ ap (λ (n : ℕ). drop n (ps ++ (x ∷ (before ++ close_bracket ∷ rest)))) past
          ∙ drop-append-add ps (x ∷ (before ++ close_bracket ∷ rest)) (suc (length before + 1))
          ∙ drop-append-add before (close_bracket ∷ rest) 1;
      whole =
          let first : length t ≡ length ps + length (x ∷ (before ++ close_bracket ∷ rest)) = ap length whole ∙ length-append ps (x ∷ (before ++ close_bracket ∷ rest)) in
          let second : length (before ++ close_bracket ∷ rest) ≡ length before + length (close_bracket ∷ rest) = length-append before (close_bracket ∷ rest) in
          omega arith;
    }

-- a set read from the text t after a `[`, whose end was found at k
pub record Closed (t : List ℕ) (k : ℕ) : Type 0 where
  pub members : List ℕ
  pub rest : List ℕ
  pub a_set : IsSet (open_bracket ∷ t) (sign_of t) members rest
  pub prefix : take (k + 1) (drop (sign_len t) t) ≡ members
  pub following : drop (sign_len t + (k + 1) + 1) t ≡ rest
  pub whole : length t ≡ sign_len t + (k + 1) + 1 + length rest
  pub sign : length (print_sign (sign_of t)) ≡ sign_len t
  pub negates : negates (sign_of t) ≡ negated t

nothing_found : (before : List ℕ) (here : ℕ) (following : List ℕ) → [] ≡ before ++ here ∷ following → ⊥
nothing_found [] here following e = cc
nothing_found (x ∷ before) here following e = cc

pub set_found : (t : List ℕ) (k : ℕ) → close_of (drop (sign_len t) t) ≡ Some k → Closed t k
set_found t k close = by_body (drop (sign_len t) t) refl close where
  by_body : (m : List ℕ) → drop (sign_len t) t ≡ m → close_of m ≡ Some k → Closed t k
  by_body [] body e = let f : Found closes [] 0 k = found closes k [] e in absurd (nothing_found f.before f.here f.following f.whole)
  by_body (x ∷ m) body e =
      let f : Found closes m 0 k = found closes k m e in
      let s : Signed t = signed t in
      let end : f.here ≡ close_bracket = eqb-true f.here close_bracket f.passes in
      let cut : m ≡ f.before ++ close_bracket ∷ f.following = f.whole ∙ ap (λ (b : ℕ). f.before ++ b ∷ f.following) end in
      let inner : drop (sign_len t) t ≡ (x ∷ f.before) ++ close_bracket ∷ f.following = body ∙ ap (λ (ys : List ℕ). x ∷ ys) cut in
      let len : length f.before ≡ k = omega (arith, f.place) in
      let parts = counted t (print_sign (sign_of t)) (drop (sign_len t) t) x f.before f.following (sign_len t) k s.whole s.len inner len in
      record {
        members = x ∷ f.before;
        rest = f.following;
        a_set = record {
          text = ap (λ (ys : List ℕ). open_bracket ∷ ys) (s.whole ∙ ap (λ (ys : List ℕ). print_sign (sign_of t) ++ ys) inner);
          some = omega arith;
          unclosed = f.none_before;
          unsigned = λ h.
              let plain : t ≡ x ∷ m = s.whole ∙ ap (λ (g : Sign). print_sign g ++ drop (sign_len t) t) h ∙ body in
              sym (ap negated plain) ∙ sym s.negated ∙ ap negates h;
        };
        prefix = parts.prefix;
        following = parts.following;
        whole = parts.whole;
        sign = s.len;
        negates = sym (sym s.negated);
      }

-- a set that is at the front is found
pub record Again (t : List ℕ) (sign : Sign) (members rest : List ℕ) : Type 0 where
  pub last : ℕ
  pub close : close_of (drop (sign_len t) t) ≡ Some last
  pub prefix : take (last + 1) (drop (sign_len t) t) ≡ members
  pub following : drop (sign_len t + (last + 1) + 1) t ≡ rest
  pub whole : length t ≡ sign_len t + (last + 1) + 1 + length rest
  pub sign_is : sign_len t ≡ length (print_sign sign)
  pub negated_is : negated t ≡ negates sign

record Body (t : List ℕ) (sign : Sign) (inner : List ℕ) : Type 0 where
  pub text : t ≡ print_sign sign ++ inner
  pub body : drop (sign_len t) t ≡ inner
  pub sign_is : sign_len t ≡ length (print_sign sign)
  pub negated_is : negated t ≡ negates sign

body_of : (t : List ℕ) (sign : Sign) (x : ℕ) (inner : List ℕ) → t ≡ print_sign sign ++ (x ∷ inner) → (sign ≡ no_sign → is_sign x ≡ false) → Body t sign (x ∷ inner)
body_of t no_sign x inner e unsigned =
    let not : negated t ≡ false = ap negated e ∙ unsigned refl in
    let none : sign_len t ≡ 0 = ap (λ (v : Bool). cond v 1 0) not in
    record { text = e; body = ap (λ (n : ℕ). drop n t) none ∙ e; sign_is = none; negated_is = not }
body_of t bang_sign x inner e unsigned =
    record { text = e; body = ap (λ (u : List ℕ). drop (sign_len u) u) e; sign_is = ap sign_len e; negated_is = ap negated e }
body_of t caret_sign x inner e unsigned =
    record { text = e; body = ap (λ (u : List ℕ). drop (sign_len u) u) e; sign_is = ap sign_len e; negated_is = ap negated e }

pub set_again : (t : List ℕ) (sign : Sign) (members rest : List ℕ) → IsSet (open_bracket ∷ t) sign members rest → Again t sign members rest
set_again t sign [] rest a = absurd (let some : 0 < length {A = ℕ} [] = a.some in omega arith)
set_again t sign (x ∷ before) rest a =
    let text : t ≡ print_sign sign ++ (x ∷ (before ++ close_bracket ∷ rest)) = let whole = a.text in cc in
    let b : Body t sign (x ∷ (before ++ close_bracket ∷ rest)) = body_of t sign x (before ++ close_bracket ∷ rest) text a.unsigned in
    let parts = counted t (print_sign sign) (drop (sign_len t) t) x before rest (sign_len t) (length before)
    (text ∙ ap (λ (ys : List ℕ). print_sign sign ++ ys) (sym b.body)) (sym b.sign_is) b.body refl in
    record {
      last = length before;
      close = ap close_of b.body ∙ joined closes before close_bracket rest a.unclosed refl;
      prefix = parts.prefix;
      following = parts.following;
      whole = parts.whole;
      sign_is = b.sign_is;
      negated_is = b.negated_is;
    }

-- if no end is found no set is at the front
pub no_set : (t : List ℕ) → close_of (drop (sign_len t) t) ≡ None → NoSet (open_bracket ∷ t)
no_set t none sign members rest a = let again : Again t sign members rest = set_again t sign members rest a in absurd (let some = again.close in cc)

-- and if there is no set no end is found
pub close_none : (t : List ℕ) → NoSet (open_bracket ∷ t) → close_of (drop (sign_len t) t) ≡ None
close_none t none = by_close (close_of (drop (sign_len t) t)) refl where
  by_close : (o : Option ℕ) → close_of (drop (sign_len t) t) ≡ o → o ≡ None
  by_close None e = refl
  by_close (Some k) e = let f : Closed t k = set_found t k e in absurd (none (sign_of t) f.members f.rest f.a_set)
