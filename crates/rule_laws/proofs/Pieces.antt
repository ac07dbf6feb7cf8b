-- One piece of a text, and what the reading finds in front.
use Rattle.std.proofs.Common.{◌≡◌, ℕ, ◌+◌, ◌≤◌, Bool, true, false, cond, List, ◌∷◌, [], length, drop, Option, Some, None, Result, Ok, Err, eqb, refl, sym, ◌∙◌, ap, subst, arith}
use Rattle.std.proofs.lemmas.Bool.{eqb-true, eq-eqb, ne_eqb}
use Rattle.text_bytes.specs.Names.{open_bracket, question_mark, star}
use Rattle.rule_laws.specs.Grammar.{Sign, print_sign, IsSet, IsClassAt, NoClass, NoSet, Piece, many, one, set, byte, IsPiece, item_of}
use Rattle.text_core.specs.Sets.{set_of, set_takes}
use Rattle.text_core.specs.Spell.{sign_len, class_place, bracket, itself, first_item}
use Rattle.text_core.specs.declared.glob_fault.GlobFault.{GlobFault}
use Rattle.text_core.specs.declared.glob_fault.GlobFault.TheVariants.{Class}
use Rattle.text_core.specs.declared.item.Item.{Item}
use Rattle.text_core.specs.declared.item.Item.TheVariants.{Byte, One, Many, Among}
use Rattle.text_core.specs.declared.reading.Reading.{Reading}
use Rattle.text_core.specs.declared.reading.Reading.TheVariants.{Exact, Blind}
use Rattle.text_core.specs.declared.spell.Head.{Head}
use Rattle.rule_laws.proofs.Enclosed.{close_of, members_len-none, members_len-some, Closed, set_found, Again, set_again, no_set, close_none, sign_of}
use Rattle.rule_laws.proofs.Classes.{First, no_class, first_class, class_none, class_some}
use Rattle.text_core.proofs.Opened.{bracket_open, bracket_class, bracket_set}

-- an item of one byte
abbrev pub alone : Item → Head
alone x = record { item = x; following = 0 }

-- a text is a piece that means an item, followed by what is n bytes after its first byte
pub record Begins (reading : Reading) (b : ℕ) (t : List ℕ) (x : Item) (n : ℕ) : Type 0 where
  pub piece : Piece
  pub is : IsPiece piece (b ∷ t) (drop n t)
  pub means : x ≡ item_of reading piece
  pub within : n ≤ length t

-- a text begins with a set that has a class at a place, counted from the text's own
pub record Faulty (b : ℕ) (t : List ℕ) (at : ℕ) (e : GlobFault) : Type 0 where
  pub sign : Sign
  pub members : List ℕ
  pub rest : List ℕ
  pub place : ℕ
  pub a_set : IsSet (b ∷ t) sign members rest
  pub a_class : IsClassAt members place
  pub first : (n : ℕ) → IsClassAt members n → place ≤ n
  pub fault : e ≡ Class (at + 1 + length (print_sign sign) + place)

-- what is found in front of a text says how the text begins
abbrev Reports : Reading → ℕ → ℕ → List ℕ → Result Head GlobFault → Type 0
Reports reading at b t (Ok head) = Begins reading b t head.item head.following
Reports reading at b t (Err e) = Faulty b t at e

byte_91 : (reading : Reading) (b : ℕ) → b ≡ open_bracket → itself reading b ≡ Byte open_bracket
byte_91 Exact b e = ap Byte e
byte_91 Blind b e = ap (itself Blind) e

bracket_reports : (reading : Reading) (at b : ℕ) (t : List ℕ) → b ≡ open_bracket → Reports reading at b t (bracket reading at t)
bracket_reports reading at b t is = by_close (close_of (drop (sign_len t) t)) refl where
  by_close : (o : Option ℕ) → close_of (drop (sign_len t) t) ≡ o → Reports reading at b t (bracket reading at t)
  by_close None e =
      subst (Reports reading at b t) (sym (bracket_open reading at t (drop (sign_len t) t) refl (members_len-none (drop (sign_len t) t) e))) (record {
        piece = byte b;
        is = (
          refl,
          (λ h. let wrong : open_bracket ≡ star = sym is ∙ h in omega arith),
          (λ h. let wrong : open_bracket ≡ question_mark = sym is ∙ h in omega arith),
          subst (λ (c : ℕ). NoSet (c ∷ t)) (sym is) (no_set t e),
        );
        means = sym (byte_91 reading b is);
        within = omega arith;
      })
  by_close (Some k) e = by_class (class_place f.members) refl where
    f : Closed t k
    f = set_found t k e

    here : IsSet (b ∷ t) (sign_of t) f.members f.rest
    here = subst (λ (c : ℕ). IsSet (c ∷ t) (sign_of t) f.members f.rest) (sym is) f.a_set

    by_class : (o : Option ℕ) → class_place f.members ≡ o → Reports reading at b t (bracket reading at t)
    by_class None c =
        let none : NoClass f.members = no_class f.members c in
        subst (Reports reading at b t) (sym (bracket_set reading at t (drop (sign_len t) t) refl (k + 1) f.members (members_len-some (drop (sign_len t) t) k e) (sym f.prefix) c)) (record {
          piece = set (sign_of t) f.members;
          is = (subst (λ (r : List ℕ). IsSet (b ∷ t) (sign_of t) f.members r) (sym f.following) here, none);
          means = ap (λ (v : Bool). Among (set_of (set_takes reading v f.members))) (sym f.negates);
          within = omega (arith, f.whole);
        })
    by_class (Some n) c =
        let g : First f.members 0 n = first_class f.members n c in
        let same : at + 1 + sign_len t + n ≡ at + 1 + length (print_sign (sign_of t)) + g.place = omega (arith, g.from, f.sign) in
        subst (Reports reading at b t) (sym (bracket_class reading at t (drop (sign_len t) t) refl (k + 1) f.members (members_len-some (drop (sign_len t) t) k e) (sym f.prefix) n c)) (record {
          sign = sign_of t;
          members = f.members;
          rest = f.rest;
          place = g.place;
          a_set = here;
          a_class = g.is;
          first = g.first;
          fault = ap Class same;
        })

-- the same, by whether the first byte is a star, a question mark or a bracket
abbrev ReportsBy : Reading → ℕ → ℕ → List ℕ → Bool → Bool → Bool → Type 0
ReportsBy reading at b t v w u =
    Reports reading at b t (cond v (Ok (alone Many)) (cond w (Ok (alone One)) (cond u (bracket reading at t) (Ok (alone (itself reading b))))))

not_equal : (b c : ℕ) → eqb b c ≡ false → b ≡ c → ⊥
not_equal b c e h = let right : eqb b c ≡ true = eq-eqb b c h in cc

reports_by : (reading : Reading) (at b : ℕ) (t : List ℕ) (v w u : Bool) → eqb b star ≡ v → eqb b question_mark ≡ w → eqb b open_bracket ≡ u → ReportsBy reading at b t v w u
reports_by reading at b t true w u e f g = record { piece = many; is = ap (λ (c : ℕ). c ∷ t) (eqb-true b star e); means = refl; within = omega arith }
reports_by reading at b t false true u e f g = record { piece = one; is = ap (λ (c : ℕ). c ∷ t) (eqb-true b question_mark f); means = refl; within = omega arith }
reports_by reading at b t false false true e f g = bracket_reports reading at b t (eqb-true b open_bracket g)
reports_by reading at b t false false false e f g =
    record {
      piece = byte b;
      is = (refl, not_equal b star e, not_equal b question_mark f, λ sign members rest a. let text = a.text in not_equal b open_bracket g cc);
      means = refl;
      within = omega arith;
    }

pub prefix_reports : (reading : Reading) (at b : ℕ) (t : List ℕ) → Reports reading at b t (first_item reading at b t)
unfolding first_item
prefix_reports reading at b t = reports_by reading at b t (eqb b star) (eqb b question_mark) (eqb b open_bracket) refl refl refl

-- a piece that is in front is found there
pub record Starts (reading : Reading) (at : ℕ) (t : List ℕ) (x : Item) (rest : List ℕ) : Type 0 where
  pub first : ℕ
  pub following : List ℕ
  pub passed : ℕ
  pub text : t ≡ first ∷ following
  pub found : first_item reading at first following ≡ Ok (record { item = x; following = passed })
  pub back : drop passed following ≡ rest
  pub within : passed ≤ length following

-- the text after the bracket of a set
pub inner_of : (t : List ℕ) (sign : Sign) (members rest : List ℕ) → IsSet t sign members rest → (inner : List ℕ) × (t ≡ open_bracket ∷ inner)
inner_of [] sign members rest a = absurd (let text = a.text in cc)
inner_of (b ∷ t) sign members rest a = (t, ap (λ (c : ℕ). c ∷ t) (let text = a.text in cc))

set_starts : (reading : Reading) (at : ℕ) (t inner : List ℕ) (sign : Sign) (members rest : List ℕ) → t ≡ open_bracket ∷ inner → IsSet t sign members rest → NoClass members
    → Starts reading at t (item_of reading (set sign members)) rest
unfolding first_item
set_starts reading at t inner sign members rest e a none =
    let here : IsSet (open_bracket ∷ inner) sign members rest = subst (λ (u : List ℕ). IsSet u sign members rest) e a in
    let g : Again inner sign members rest = set_again inner sign members rest here in
    record {
      first = open_bracket;
      following = inner;
      passed = sign_len inner + (g.last + 1) + 1;
      text = e;
      found =
          bracket_set reading at inner (drop (sign_len inner) inner) refl (g.last + 1) members (members_len-some (drop (sign_len inner) inner) g.last g.close) (sym g.prefix) (class_none members none)
          ∙ ap (λ (v : Bool). let r : Result Head GlobFault = Ok (record { item = Among (set_of (set_takes reading v members)); following = sign_len inner + (g.last + 1) + 1 }) in r) g.negated_is;
      back = g.following;
      within = omega (arith, g.whole);
    }

byte_starts : (reading : Reading) (at : ℕ) (t : List ℕ) (b : ℕ) (rest : List ℕ) → t ≡ b ∷ rest → (b ≡ star → ⊥) → (b ≡ question_mark → ⊥) → NoSet t
    → Starts reading at t (itself reading b) rest
unfolding first_item
byte_starts reading at t b rest e s q none =
    record {
      first = b;
      following = rest;
      passed = 0;
      text = e;
      back = refl;
      within = omega arith;
      found =
          ap (λ (v : Bool). cond v (Ok (alone Many)) (cond (eqb b question_mark) (Ok (alone One)) (cond (eqb b open_bracket) (bracket reading at rest) (Ok (alone (itself reading b)))))) (ne_eqb b star s)
          ∙ ap (λ (v : Bool). cond v (Ok (alone One)) (cond (eqb b open_bracket) (bracket reading at rest) (Ok (alone (itself reading b))))) (ne_eqb b question_mark q)
          ∙ by_bracket (eqb b open_bracket) refl;
    } where
      by_bracket : (u : Bool) → eqb b open_bracket ≡ u → cond u (bracket reading at rest) (Ok (alone (itself reading b))) ≡ Ok (alone (itself reading b))
      by_bracket true h =
          let is : b ≡ open_bracket = eqb-true b open_bracket h in
          let here : NoSet (open_bracket ∷ rest) = subst (λ (u : List ℕ). NoSet u) (e ∙ ap (λ (c : ℕ). c ∷ rest) is) none in
          bracket_open reading at rest (drop (sign_len rest) rest) refl (members_len-none (drop (sign_len rest) rest) (close_none rest here))
          ∙ ap (λ (x : Item). let r : Result Head GlobFault = Ok (alone x) in r) (sym (byte_91 reading b is))
      by_bracket false h = refl

pub piece_starts : (reading : Reading) (at : ℕ) (piece : Piece) (t rest : List ℕ) → IsPiece piece t rest → Starts reading at t (item_of reading piece) rest
unfolding first_item
piece_starts reading at many t rest is = record { first = star; following = rest; passed = 0; text = is; found = refl; back = refl; within = omega arith }
piece_starts reading at one t rest is = record { first = question_mark; following = rest; passed = 0; text = is; found = refl; back = refl; within = omega arith }
piece_starts reading at (set sign members) t rest is = let inner = inner_of t sign members rest is.0 in set_starts reading at t inner.0 sign members rest inner.1 is.0 is.1
piece_starts reading at (byte b) t rest is = byte_starts reading at t b rest is.0 is.1 is.2 is.3

-- a set with a class is a fault
pub class_fails : (reading : Reading) (at : ℕ) (inner : List ℕ) (sign : Sign) (members rest : List ℕ) (n : ℕ) → IsSet (open_bracket ∷ inner) sign members rest
    → IsClassAt members n → ((k : ℕ) → IsClassAt members k → n ≤ k) → first_item reading at open_bracket inner ≡ Err (Class (at + 1 + length (print_sign sign) + n))
unfolding first_item
class_fails reading at inner sign members rest n a c least =
    let g : Again inner sign members rest = set_again inner sign members rest a in
    bracket_class reading at inner (drop (sign_len inner) inner) refl (g.last + 1) members (members_len-some (drop (sign_len inner) inner) g.last g.close) (sym g.prefix) n (class_some members n c least)
    ∙ ap (λ (k : ℕ). let r : Result Head GlobFault = Err (Class (at + 1 + k + n)) in r) g.sign_is
