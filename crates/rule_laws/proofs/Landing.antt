-- The jumps of the rules of files land in their own files.
use Rattle.std.proofs.Common.{◌≡◌, ℕ, ◌+◌, ◌||◌, Bool, true, false, List, [], ◌∷◌, ◌++◌, map, Some, refl, sym, ◌∙◌, ap, append_assoc, subst, ◌⊎◌, inl, inr}
use Rattle.std.proofs.lemmas.Bool.{false≢true}
use Rattle.std.specs.List.{flat_map}
use Rattle.text_bytes.specs.declared.source_file.SourceFile.{SourceFile}
use Rattle.text_bytes.specs.declared.profile.Profile.TheVariants.{Manual}
use Rattle.rule_core.specs.Lines.{NumberedLine, joined_lines}
use Rattle.rule_types.specs.Jumps.{is_named}
use Rattle.rule_laws.specs.Jumps.{JumpsStayInTheirFiles, LandsIn, numbered_rules, rules_in}
use Rattle.rule_laws.specs.Outcomes.{AllBecome, HasLabel, LineOutcome, one_message, one_rule, rules_in as rules_of_outcome}
use Rattle.rule_types.specs.Rules.{Rule}
use Rattle.rule_core.specs.Rules.{file_rules, set_of_as}
use Rattle.rule_laws.proofs.Outcomes.{bears, named_so, read_by_line, so_bears}

-- ---- in a file

-- each of these rules that jumps has its label after it
abbrev AllEnd : List Rule → Type 0
AllEnd [] = Unit {0}
AllEnd (r ∷ rules) = ((name : List ℕ) → r.goto ≡ Some name → HasLabel name rules) × AllEnd rules

all_end : (file : List ℕ) (ls : List NumberedLine) (os : List LineOutcome) → AllBecome Manual file ls os → AllEnd (flat_map rules_of_outcome os)
all_end file [] [] c = tt
all_end file [] (o ∷ os) c = absurd c
all_end file (l ∷ ls) [] c = absurd c
all_end file (l ∷ ls) (one_rule r messages ∷ os) c = (λ name g. ((c.0.jump name).0 g).1, all_end file ls os c.1)
all_end file (l ∷ ls) (one_message m ∷ os) c = all_end file ls os c.1

label_after : (before : List Rule) (r : Rule) (following : List Rule) (name : List ℕ) → r.goto ≡ Some name → AllEnd (before ++ r ∷ following) → HasLabel name following
label_after [] r following name g a = a.0 name g
label_after (b ∷ before) r following name g a = label_after before r following name g a.1

jump_ends : (f : SourceFile) (before : List Rule) (r : Rule) (following : List Rule) (name : List ℕ) → file_rules Manual f ≡ before ++ r ∷ following → r.goto ≡ Some name → HasLabel name following
jump_ends f before r following name e g =
    let read = read_by_line Manual f refl in
    label_after before r following name g (subst AllEnd (sym read.rules ∙ e) (all_end f.name (joined_lines Manual f.bytes).lines read.outcomes read.each))

-- the first of these rules that has the label
record Nearest (name : List ℕ) (rules : List Rule) : Type 0 where
  between : List Rule
  landing : Rule
  following : List Rule
  is_present : rules ≡ between ++ landing ∷ following
  label : landing.label ≡ Some name
  next : bears name between ≡ false

nearest : (name : List ℕ) (rules : List Rule) → bears name rules ≡ true → Nearest name rules
nearest name [] h = absurd (false≢true h)
nearest name (r ∷ rules) h = by (is_named name r.label) refl (nearest name rules) h
  where
    by : (b : Bool) → is_named name r.label ≡ b → (bears name rules ≡ true → Nearest name rules) → (b || bears name rules) ≡ true → Nearest name (r ∷ rules)
    by true e farther h = record { between = []; landing = r; following = rules; is_present = refl; label = named_so name r.label e; next = refl }
    by false e farther h =
        let more = farther h in
        record {
          between = r ∷ more.between;
          landing = more.landing;
          following = more.following;
          is_present = ap (λ rs. r ∷ rs) more.is_present;
          label = more.label;
          next = ap (λ b. b || bears name more.between) e ∙ more.next;
        }

-- ---- in several files

-- rules, each beside this number
abbrev with_number : ℕ → List Rule → List (ℕ × Rule)
with_number n rules = map (λ r. (n, r)) rules

-- an element of two lists is in the first
abbrev InFirst : List (ℕ × Rule) → List (ℕ × Rule) → List (ℕ × Rule) → ℕ × Rule → List (ℕ × Rule) → Type 0
InFirst xs ys above x below = (near : List (ℕ × Rule)) × (xs ≡ above ++ x ∷ near) × (below ≡ near ++ ys)

-- an element of two lists is in the second
abbrev InSecond : List (ℕ × Rule) → List (ℕ × Rule) → ℕ × Rule → List (ℕ × Rule) → Type 0
InSecond xs ys x below = (near : List (ℕ × Rule)) × (ys ≡ near ++ x ∷ below)

uncons : {X : Type 0} (x y : X) (xs ys : List X) → x ∷ xs ≡ y ∷ ys → (x ≡ y) × (xs ≡ ys)
uncons x y xs ys e = (cc, cc)

cut : (xs ys above : List (ℕ × Rule)) (x : ℕ × Rule) (below : List (ℕ × Rule)) → xs ++ ys ≡ above ++ x ∷ below → InFirst xs ys above x below ⊎ InSecond xs ys x below
cut [] ys above x below e = inr (above, e)
cut (z ∷ xs) ys [] x below e =
    let both = uncons z x (xs ++ ys) below e in
    inl (xs, ap (λ (y : ℕ × Rule). y ∷ xs) both.0, sym both.1)
cut (z ∷ xs) ys (a ∷ above) x below e =
    let both = uncons z a (xs ++ ys) (above ++ x ∷ below) e in
    by both.0 (cut xs ys above x below both.1)
  where
    by : z ≡ a → InFirst xs ys above x below ⊎ InSecond xs ys x below → InFirst (z ∷ xs) ys (a ∷ above) x below ⊎ InSecond (z ∷ xs) ys x below
    by same (inl p) = inl (p.0, (λ i. same i ∷ p.1 i), p.2)
    by same (inr p) = inr p

-- a rule of a file, with those of the file that are above it and below it
record InFile (n file : ℕ) (rules : List Rule) (r : Rule) (near : List (ℕ × Rule)) : Type 0 where
  before : List Rule
  following : List Rule
  same : file ≡ n
  rules_are : rules ≡ before ++ r ∷ following
  near_is : near ≡ with_number n following

none_there : (above : List (ℕ × Rule)) (x : ℕ × Rule) (below : List (ℕ × Rule)) → [] ≡ above ++ x ∷ below → ⊥
none_there [] x below e = cc
none_there (a ∷ above) x below e = cc

in_file : (n file : ℕ) (rules : List Rule) (above : List (ℕ × Rule)) (r : Rule) (near : List (ℕ × Rule)) → with_number n rules ≡ above ++ (file, r) ∷ near → InFile n file rules r near
in_file n file [] above r near e = absurd (none_there above (file, r) near e)
in_file n file (q ∷ rules) [] r near e =
    let both = uncons (n, q) (file, r) (with_number n rules) near e in
    record {
      before = [];
      following = rules;
      same = sym (ap (λ (x : ℕ × Rule). x.0) both.0);
      rules_are = ap (λ (x : ℕ × Rule). x.1 ∷ rules) both.0;
      near_is = sym both.1;
    }
in_file n file (q ∷ rules) (a ∷ above) r near e =
    let both = uncons (n, q) a (with_number n rules) (above ++ (file, r) ∷ near) e in
    let farther = in_file n file rules above r near both.1 in
    record {
      before = q ∷ farther.before;
      following = farther.following;
      same = farther.same;
      rules_are = ap (λ (rs : List Rule). q ∷ rs) farther.rules_are;
      near_is = farther.near_is;
    }

-- rules are what they are without the numbers that are put beside them
unnumbered : (n : ℕ) (rules : List Rule) → rules_in (with_number n rules) ≡ rules
unnumbered n [] = refl
unnumbered n (r ∷ rules) = ap (λ (rs : List Rule). r ∷ rs) (unnumbered n rules)

numbered_append : (n : ℕ) (xs ys : List Rule) → with_number n (xs ++ ys) ≡ with_number n xs ++ with_number n ys
numbered_append n [] ys = refl
numbered_append n (x ∷ xs) ys = ap (λ (rs : List (ℕ × Rule)). (n, x) ∷ rs) (numbered_append n xs ys)

rules_append : (xs ys : List (ℕ × Rule)) → rules_in (xs ++ ys) ≡ rules_in xs ++ rules_in ys
rules_append [] ys = refl
rules_append (x ∷ xs) ys = ap (λ (rs : List Rule). x.1 ∷ rs) (rules_append xs ys)

same_rules : (n : ℕ) (files : List SourceFile) → rules_in (numbered_rules n files) ≡ flat_map (file_rules Manual) files
same_rules n [] = refl
same_rules n (f ∷ files) =
    rules_append (with_number n (file_rules Manual f)) (numbered_rules (n + 1) files)
    ∙ ap (λ (rs : List Rule). rs ++ rules_in (numbered_rules (n + 1) files)) (unnumbered n (file_rules Manual f))
    ∙ ap (λ (rs : List Rule). file_rules Manual f ++ rs) (same_rules (n + 1) files)

stays : (n : ℕ) (files : List SourceFile) (above : List (ℕ × Rule)) (file : ℕ) (r : Rule) (below : List (ℕ × Rule)) (name : List ℕ) → numbered_rules n files ≡ above ++ (file, r) ∷ below → r.goto ≡ Some name → LandsIn file name below
stays n [] above file r below name e g = absurd (none_there above (file, r) below e)
stays n (f ∷ files) above file r below name e g = by (λ near e. stays (n + 1) files near file r below name e g) (cut (with_number n (file_rules Manual f)) (numbered_rules (n + 1) files) above (file, r) below e)
  where
    by : ((near : List (ℕ × Rule)) → numbered_rules (n + 1) files ≡ near ++ (file, r) ∷ below → LandsIn file name below)
        → InFirst (with_number n (file_rules Manual f)) (numbered_rules (n + 1) files) above (file, r) below
        ⊎ InSecond (with_number n (file_rules Manual f)) (numbered_rules (n + 1) files) (file, r) below
        → LandsIn file name below
    by next (inr p) = next p.0 p.1
    by next (inl p) =
        let q = in_file n file (file_rules Manual f) above r p.0 p.1 in
        let l = nearest name q.following (so_bears name q.following (jump_ends f q.before r q.following name q.rules_are g)) in
        let rest = with_number n l.following ++ numbered_rules (n + 1) files in
        record {
          between = with_number n l.between;
          landing = l.landing;
          following = rest;
          below_is =
              p.2
              ∙ ap (λ (xs : List (ℕ × Rule)). xs ++ numbered_rules (n + 1) files) (q.near_is ∙ ap (with_number n) l.is_present ∙ numbered_append n l.between (l.landing ∷ l.following))
              ∙ append_assoc (with_number n l.between) ((n, l.landing) ∷ with_number n l.following) (numbered_rules (n + 1) files)
              ∙ ap (λ (m : ℕ). with_number n l.between ++ (m, l.landing) ∷ rest) (sym q.same);
          label = l.label;
          next = λ a. false≢true (sym l.next ∙ so_bears name l.between (subst (HasLabel name) (unnumbered n l.between) a));
        }

pub jumps_stay : (files : List SourceFile) → JumpsStayInTheirFiles files
unfolding set_of_as
jumps_stay files = record { rules = same_rules 0 files; stay = stays 0 files }
