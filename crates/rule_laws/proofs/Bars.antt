-- The texts between the bars of a text, and what they spell.
use Rattle.std.proofs.Common.{◌≡◌, ℕ, suc, ◌+◌, ◌<◌, ◌≤◌, Bool, true, false, cond, List, ◌∷◌, [], ◌++◌, length, map, All, get_or, Result, Ok, Err, is_ok, eqb, ltb, refl, sym, ◌∙◌, ap, subst, arith, length-append}
use Rattle.std.specs.List.{AllByRecursion, slice_split, onto_first, join_with_byte, sum_by, count_by}
use Rattle.std.specs.Result.{IsOk}
use Rattle.std.proofs.lemmas.Bool.{eq-eqb, ne_eqb, ltb-true, ltb-false}
use Rattle.std.proofs.lemmas.List.Elements.{All-nil, All-cons}
use Rattle.std.proofs.lemmas.List.Sums.{sum_by-cons}
use Rattle.std.proofs.lemmas.List.Splits.{join_with_byte-slice_split, length-slice_split, slice_split_none, slice_split_at}
use Rattle.text_bytes.specs.Names.{bar}
use Rattle.text_core.specs.Choices.{is_bar, choice_by, parts_at, with_part}
use Rattle.rule_laws.specs.ChoiceGrammar.{AreParts, SpellParts, HasFaultyPart, ReadsParts}
use Rattle.text_core.specs.Spell.{items_at, max_len, spell_by}
use Rattle.text_core.specs.declared.glob_fault.GlobFault.{GlobFault}
use Rattle.text_core.specs.declared.glob_fault.GlobFault.TheVariants.{Class, TooLong, Memory}
use Rattle.text_core.specs.declared.item.Item.{Item}
use Rattle.text_core.specs.declared.reading.Reading.{Reading}
use Rattle.text_core.proofs.Cutting.{choice_long, choice_short, with_fault}
use Rattle.rule_laws.proofs.Lawful.{never_long}
use Rattle.text_core.proofs.Scanning.{spell_by_short}
use Rattle.rule_laws.proofs.Shifting.{items_at-later, later, later_fault}

-- a part has no bar
abbrev Barless : List ℕ → Type 0
Barless part = All (λ b. is_bar b ≡ false) part

barless_onto : (x : ℕ) (parts : List (List ℕ)) → is_bar x ≡ false → AllByRecursion Barless parts → AllByRecursion Barless (onto_first x parts)
barless_onto x [] e h = (All-cons (λ b. is_bar b ≡ false) x [] e (All-nil (λ b. is_bar b ≡ false)), tt)
barless_onto x (part ∷ parts) e h = (All-cons (λ b. is_bar b ≡ false) x part e h.0, h.1)

split_barless : (t : List ℕ) → AllByRecursion Barless (slice_split is_bar t)
split_barless [] = (All-nil (λ b. is_bar b ≡ false), tt)
split_barless (x ∷ t) = by_test (is_bar x) refl (split_barless t) where
  by_test : (v : Bool) → is_bar x ≡ v → AllByRecursion Barless (slice_split is_bar t) → AllByRecursion Barless (cond v ([] ∷ slice_split is_bar t) (onto_first x (slice_split is_bar t)))
  by_test true e h = (All-nil (λ b. is_bar b ≡ false), h)
  by_test false e h = barless_onto x (slice_split is_bar t) e h

unequal : (b : ℕ) → is_bar b ≡ false → b ≡ bar → ⊥
unequal b e h = let right : eqb b bar ≡ true = eq-eqb b bar h in cc

all_parts : (P Q : List ℕ → Type 0) (parts : List (List ℕ)) → ((part : List ℕ) → P part → Q part) → AllByRecursion P parts → All Q parts
all_parts P Q [] f h = All-nil Q
all_parts P Q (part ∷ parts) f h = All-cons Q part parts (f part h.0) (all_parts P Q parts f h.1)

each_part : (P Q : List ℕ → Type 0) (parts : List (List ℕ)) → ((part : List ℕ) → P part → Q part) → All P parts → AllByRecursion Q parts
each_part P Q [] f h = tt
each_part P Q (part ∷ parts) f h = (f part (h 0 part (omega arith)), each_part P Q parts f (λ k d l. h (suc k) d (omega arith)))

no_split : (t : List ℕ) → slice_split is_bar t ≡ [] → ⊥
no_split t e =
    let one : length (slice_split is_bar t) ≡ count_by is_bar t + 1 = length-slice_split is_bar t in
    let none : length (slice_split is_bar t) ≡ 0 = ap length e in
    omega arith

-- the parts at which a text is cut are its parts
pub split_parts : (t : List ℕ) → AreParts (slice_split is_bar t) t
split_parts t = record {
  some = no_split t;
  joined = sym (join_with_byte-slice_split bar t);
  no_bar = all_parts Barless (λ part. All (λ b. b ≡ bar → ⊥) part) (slice_split is_bar t) (λ part h k d l. unequal (get_or part k d) (h k d l)) (split_barless t);
}

only_split : (parts : List (List ℕ)) (t : List ℕ) → (parts ≡ [] → ⊥) → t ≡ join_with_byte bar parts → AllByRecursion Barless parts → parts ≡ slice_split is_bar t
only_split [] t some e h = absurd (some refl)
only_split (part ∷ []) t some e h = sym (ap (slice_split is_bar) e ∙ slice_split_none is_bar part h.0)
only_split (part ∷ next ∷ parts) t some e h =
    let rest : next ∷ parts ≡ slice_split is_bar (join_with_byte bar (next ∷ parts)) = only_split (next ∷ parts) (join_with_byte bar (next ∷ parts)) (λ n. cc) refl h.1 in
    sym (ap (slice_split is_bar) e ∙ slice_split_at is_bar part bar (join_with_byte bar (next ∷ parts)) h.0 refl ∙ ap (λ (ps : List (List ℕ)). part ∷ ps) (sym rest))

-- and there are no others
pub parts_split : (parts : List (List ℕ)) (t : List ℕ) → AreParts parts t → parts ≡ slice_split is_bar t
parts_split parts t a =
    only_split parts t a.some a.joined (each_part (λ part. All (λ b. b ≡ bar → ⊥) part) Barless parts (λ part h k d l. ne_eqb (get_or part k d) bar (h k d l)) a.no_bar)

-- a part is no longer than the text
abbrev Short : List ℕ → Type 0
Short part = length part ≤ max_len

joined_short : (parts : List (List ℕ)) → length (join_with_byte bar parts) ≤ max_len → AllByRecursion Short parts
joined_short [] h = tt
joined_short (part ∷ []) h = (h, tt)
joined_short (part ∷ next ∷ parts) h =
    let whole : length (part ++ bar ∷ join_with_byte bar (next ∷ parts)) ≡ length part + length (bar ∷ join_with_byte bar (next ∷ parts)) = length-append part (bar ∷ join_with_byte bar (next ∷ parts)) in
    let here : length part ≤ max_len = omega arith in
    let rest : length (join_with_byte bar (next ∷ parts)) ≤ max_len = omega arith in
    (here, joined_short (next ∷ parts) rest)

parts_short : (parts : List (List ℕ)) (t : List ℕ) → AreParts parts t → length t ≤ max_len → AllByRecursion Short parts
parts_short parts t a h = joined_short parts (subst (λ (u : List ℕ). length u ≤ max_len) a.joined h)

module _ (reading : Reading) where
  spelled_short : (parts : List (List ℕ)) → AllByRecursion Short parts → map (spell_by reading) parts ≡ map (λ p. items_at reading p 0 0) parts
  spelled_short [] h = refl
  spelled_short (part ∷ parts) h =
      ap (λ (r : Result (List Item) GlobFault). r ∷ map (spell_by reading) parts) (spell_by_short reading part h.0)
      ∙ ap (λ (rs : List (Result (List Item) GlobFault)). items_at reading part 0 0 ∷ rs) (spelled_short parts h.1)

  placed : (part : List ℕ) (at : ℕ) → items_at reading part 0 at ≡ later at (items_at reading part 0 0)
  placed part at = items_at-later reading part 0 at 0 at (omega arith)

  ok_parts : (parts : List (List ℕ)) (at : ℕ) (patterns : List (List Item)) → parts_at reading parts at ≡ Ok patterns → map (λ p. items_at reading p 0 0) parts ≡ map Ok patterns
  ok_parts [] at patterns e = let same : [] ≡ patterns = cc in ap (map (λ (x : List Item). let r : Result (List Item) GlobFault = Ok x in r)) same
  ok_parts (part ∷ parts) at patterns e =
      by_part (items_at reading part 0 0) (parts_at reading parts (at + length part + 1)) refl (ok_parts parts (at + length part + 1))
      (sym (ap (λ (r : Result (List Item) GlobFault). with_part r (parts_at reading parts (at + length part + 1))) (placed part at)) ∙ e) where
        by_part : (r : Result (List Item) GlobFault) (s : Result (List (List Item)) GlobFault) → parts_at reading parts (at + length part + 1) ≡ s
            → ((patterns : List (List Item)) → parts_at reading parts (at + length part + 1) ≡ Ok patterns → map (λ p. items_at reading p 0 0) parts ≡ map Ok patterns)
            → with_part (later at r) s ≡ Ok patterns → r ∷ map (λ p. items_at reading p 0 0) parts ≡ map Ok patterns
        by_part (Ok x) (Ok xs) is again h =
            let same : x ∷ xs ≡ patterns = cc in
            ap (λ (rs : List (Result (List Item) GlobFault)). Ok x ∷ rs) (again xs is) ∙ ap (map (λ (x : List Item). let r : Result (List Item) GlobFault = Ok x in r)) same
        by_part (Ok x) (Err f) is again h = absurd cc
        by_part (Err f) s is again h = let wrong = with_fault (later_fault at f) s in absurd cc

  parts_ok : (parts : List (List ℕ)) (at : ℕ) (patterns : List (List Item)) → map (λ p. items_at reading p 0 0) parts ≡ map Ok patterns → parts_at reading parts at ≡ Ok patterns
  parts_ok [] at [] e = refl
  parts_ok [] at (x ∷ xs) e = absurd cc
  parts_ok (part ∷ parts) at [] e = absurd cc
  parts_ok (part ∷ parts) at (x ∷ xs) e =
      let first : items_at reading part 0 0 ≡ Ok x = cc in
      let rest : map (λ p. items_at reading p 0 0) parts ≡ map Ok xs = cc in
      ap (λ (r : Result (List Item) GlobFault). with_part r (parts_at reading parts (at + length part + 1))) (placed part at ∙ ap (later at) first)
      ∙ ap (with_part (Ok x)) (parts_ok parts (at + length part + 1) xs rest)

  -- the first part with a class, if the parts are at a place
  record Faulted (parts : List (List ℕ)) (at c : ℕ) : Type 0 where
    pub before : List (List ℕ)
    pub part : List ℕ
    pub following : List (List ℕ)
    pub whole : parts ≡ before ++ part ∷ following
    pub faultless : AllByRecursion (λ p. is_ok (items_at reading p 0 0) ≡ true) before
    pub place : ℕ
    pub fault : items_at reading part 0 0 ≡ Err (Class place)
    pub at_place : c ≡ at + sum_by (λ p. length p + 1) before + place

  class_parts : (parts : List (List ℕ)) (at c : ℕ) → parts_at reading parts at ≡ Err (Class c) → Faulted parts at c
  class_parts [] at c e = absurd cc
  class_parts (part ∷ parts) at c e =
      by_part (items_at reading part 0 0) (parts_at reading parts (at + length part + 1)) refl refl (class_parts parts (at + length part + 1) c)
      (sym (ap (λ (r : Result (List Item) GlobFault). with_part r (parts_at reading parts (at + length part + 1))) (placed part at)) ∙ e) where
        by_fault : (f : GlobFault) → items_at reading part 0 0 ≡ Err f → later_fault at f ≡ Class c → Faulted (part ∷ parts) at c
        by_fault (Class k) is same =
            let there : at + k ≡ c = cc in
            record { before = []; part = part; following = parts; whole = refl; faultless = tt; place = k; fault = is; at_place = omega arith }
        by_fault TooLong is same = absurd cc
        by_fault Memory is same = absurd cc

        by_part : (r : Result (List Item) GlobFault) (s : Result (List (List Item)) GlobFault) → items_at reading part 0 0 ≡ r → parts_at reading parts (at + length part + 1) ≡ s
            → (parts_at reading parts (at + length part + 1) ≡ Err (Class c) → Faulted parts (at + length part + 1) c)
            → with_part (later at r) s ≡ Err (Class c) → Faulted (part ∷ parts) at c
        by_part (Ok x) (Ok xs) here is again h = absurd cc
        by_part (Ok x) (Err f) here is again h =
            let rest : Faulted parts (at + length part + 1) c = again (is ∙ h) in
            let sum : sum_by (λ p. length p + 1) (part ∷ rest.before) ≡ length part + 1 + sum_by (λ p. length p + 1) rest.before = sum_by-cons (λ p. length p + 1) part rest.before in
            record {
              before = part ∷ rest.before;
              part = rest.part;
              following = rest.following;
              whole = ap (λ (ps : List (List ℕ)). part ∷ ps) rest.whole;
              faultless = (ap is_ok here, rest.faultless);
              place = rest.place;
              fault = rest.fault;
              at_place = omega (arith, rest.at_place);
            }
        by_part (Err f) s here is again h =
            let first = with_fault (later_fault at f) s in
            let same : later_fault at f ≡ Class c = cc in
            by_fault f here same

  parts_class : (before : List (List ℕ)) (part : List ℕ) (following : List (List ℕ)) (at place c : ℕ) → AllByRecursion (λ p. is_ok (items_at reading p 0 0) ≡ true) before
      → items_at reading part 0 0 ≡ Err (Class place) → c ≡ at + sum_by (λ p. length p + 1) before + place → parts_at reading (before ++ part ∷ following) at ≡ Err (Class c)
  parts_class [] part following at place c good fault there =
      let same : at + place ≡ c = omega arith in
      ap (λ (r : Result (List Item) GlobFault). with_part r (parts_at reading following (at + length part + 1))) (placed part at ∙ ap (later at) fault)
      ∙ with_fault (Class (at + place)) (parts_at reading following (at + length part + 1))
      ∙ ap (λ (k : ℕ). let r : Result (List (List Item)) GlobFault = Err (Class k) in r) same
  parts_class (p ∷ before) part following at place c good fault there =
      let sum : sum_by (λ q. length q + 1) (p ∷ before) ≡ length p + 1 + sum_by (λ q. length q + 1) before = sum_by-cons (λ q. length q + 1) p before in
      let next : c ≡ at + length p + 1 + sum_by (λ q. length q + 1) before + place = omega arith in
      by_first (items_at reading p 0 0) refl good.0 (parts_class before part following (at + length p + 1) place c good.1 fault next) where
        by_first : (r : Result (List Item) GlobFault) → items_at reading p 0 0 ≡ r → is_ok r ≡ true → parts_at reading (before ++ part ∷ following) (at + length p + 1) ≡ Err (Class c) → parts_at reading (p ∷ (before ++ part ∷ following)) at ≡ Err (Class c)
        by_first (Ok x) is ok again =
            ap (λ (r : Result (List Item) GlobFault). with_part r (parts_at reading (before ++ part ∷ following) (at + length p + 1))) (placed p at ∙ ap (later at) is)
            ∙ ap (with_part (Ok x)) again
        by_first (Err f) is ok again = absurd cc

  never_long_parts : (parts : List (List ℕ)) (at : ℕ) → parts_at reading parts at ≡ Err TooLong → ⊥
  never_long_parts [] at e = cc
  never_long_parts (part ∷ parts) at e =
      by_part (items_at reading part 0 0) (parts_at reading parts (at + length part + 1)) refl refl (never_long_parts parts (at + length part + 1))
      (sym (ap (λ (r : Result (List Item) GlobFault). with_part r (parts_at reading parts (at + length part + 1))) (placed part at)) ∙ e) where
        by_fault : (f : GlobFault) → items_at reading part 0 0 ≡ Err f → later_fault at f ≡ TooLong → ⊥
        by_fault (Class k) is same = cc
        by_fault TooLong is same = never_long reading part is
        by_fault Memory is same = cc

        by_part : (r : Result (List Item) GlobFault) (s : Result (List (List Item)) GlobFault) → items_at reading part 0 0 ≡ r → parts_at reading parts (at + length part + 1) ≡ s
            → (parts_at reading parts (at + length part + 1) ≡ Err TooLong → ⊥) → with_part (later at r) s ≡ Err TooLong → ⊥
        by_part (Ok x) (Ok xs) here is again h = cc
        by_part (Ok x) (Err f) here is again h = again (is ∙ h)
        by_part (Err f) s here is again h =
            let first = with_fault (later_fault at f) s in
            let same : later_fault at f ≡ TooLong = cc in
            by_fault f here same

  short_of : (t : List ℕ) (r : Result (List (List Item)) GlobFault) → choice_by reading t ≡ r → (r ≡ Err TooLong → ⊥) → length t ≤ max_len
  short_of t r e other = by_test (ltb max_len (length t)) refl where
    by_test : (v : Bool) → ltb max_len (length t) ≡ v → length t ≤ max_len
    by_test true h = absurd (other (sym e ∙ choice_long reading t (ltb-true max_len (length t) h)))
    by_test false h = ltb-false max_len (length t) h

  long_of : (t : List ℕ) → choice_by reading t ≡ Err TooLong → max_len < length t
  long_of t e = by_test (ltb max_len (length t)) refl where
    by_test : (v : Bool) → ltb max_len (length t) ≡ v → max_len < length t
    by_test true h = ltb-true max_len (length t) h
    by_test false h = absurd (never_long_parts (slice_split is_bar t) 0 (sym (choice_short reading t (ltb-false max_len (length t) h)) ∙ e))

  said_patterns : (t : List ℕ) (patterns : List (List Item)) → length t ≤ max_len → choice_by reading t ≡ Ok patterns → SpellParts (spell_by reading) t patterns
  said_patterns t patterns short e = record {
    parts = slice_split is_bar t;
    are_parts = split_parts t;
    each =
        spelled_short (slice_split is_bar t) (parts_short (slice_split is_bar t) t (split_parts t) short)
        ∙ ok_parts (slice_split is_bar t) 0 patterns (sym (choice_short reading t short) ∙ e);
  }

  read_patterns : (t : List ℕ) (patterns : List (List Item)) → length t ≤ max_len → SpellParts (spell_by reading) t patterns → choice_by reading t ≡ Ok patterns
  read_patterns t patterns short s =
      choice_short reading t short ∙ ap (λ (ps : List (List ℕ)). parts_at reading ps 0) (sym (parts_split s.parts t s.are_parts))
      ∙ parts_ok s.parts 0 patterns (sym (spelled_short s.parts (parts_short s.parts t s.are_parts short)) ∙ s.each)

  -- what one part says in whole and from its own start on
  spelled_ok : (before : List (List ℕ)) → AllByRecursion Short before → AllByRecursion (λ p. is_ok (items_at reading p 0 0) ≡ true) before → All (λ p. IsOk (spell_by reading p)) before
  spelled_ok [] s h = All-nil (λ p. IsOk (spell_by reading p))
  spelled_ok (p ∷ before) s h = All-cons (λ p. IsOk (spell_by reading p)) p before (ap is_ok (spell_by_short reading p s.0) ∙ h.0) (spelled_ok before s.1 h.1)

  ok_spelled : (before : List (List ℕ)) → AllByRecursion Short before → All (λ p. IsOk (spell_by reading p)) before → AllByRecursion (λ p. is_ok (items_at reading p 0 0) ≡ true) before
  ok_spelled [] s h = tt
  ok_spelled (p ∷ before) s h = (sym (ap is_ok (spell_by_short reading p s.0)) ∙ h 0 p (omega arith), ok_spelled before s.1 (λ k d l. h (suc k) d (omega arith)))

  prefix_of : (before : List (List ℕ)) (part : List ℕ) (following : List (List ℕ)) → AllByRecursion Short (before ++ part ∷ following) → AllByRecursion Short before × Short part
  prefix_of [] part following s = (tt, s.0)
  prefix_of (p ∷ before) part following s = let rest = prefix_of before part following s.1 in ((s.0, rest.0), rest.1)

  said_class : (t : List ℕ) (at : ℕ) → length t ≤ max_len → choice_by reading t ≡ Err (Class at) → HasFaultyPart (spell_by reading) t at
  said_class t at short e =
      let f : Faulted (slice_split is_bar t) 0 at = class_parts (slice_split is_bar t) 0 at (sym (choice_short reading t short) ∙ e) in
      let are : AreParts (f.before ++ f.part ∷ f.following) t = subst (λ (ps : List (List ℕ)). AreParts ps t) f.whole (split_parts t) in
      let shorts = prefix_of f.before f.part f.following (parts_short (f.before ++ f.part ∷ f.following) t are short) in
      record {
        before = f.before;
        part = f.part;
        following = f.following;
        are_parts = are;
        faultless = spelled_ok f.before shorts.0 f.faultless;
        place = f.place;
        fault = spell_by_short reading f.part shorts.1 ∙ f.fault;
        at_place = omega (arith, f.at_place);
      }

  class_read : (t : List ℕ) (at : ℕ) → length t ≤ max_len → HasFaultyPart (spell_by reading) t at → choice_by reading t ≡ Err (Class at)
  class_read t at short h =
      let shorts = prefix_of h.before h.part h.following (parts_short (h.before ++ h.part ∷ h.following) t h.are_parts short) in
      let there : at ≡ 0 + sum_by (λ p. length p + 1) h.before + h.place = omega (arith, h.at_place) in
      choice_short reading t short
      ∙ ap (λ (ps : List (List ℕ)). parts_at reading ps 0) (sym (parts_split (h.before ++ h.part ∷ h.following) t h.are_parts))
      ∙ parts_class h.before h.part h.following 0 h.place at (ok_spelled h.before shorts.0 h.faultless) (sym (spell_by_short reading h.part shorts.1) ∙ h.fault) there

  pub reads_parts : ReadsParts (spell_by reading) (choice_by reading)
  reads_parts = record {
    patterns = λ t patterns. (
      λ e. let short : length t ≤ max_len = short_of t (Ok patterns) e (λ h. cc) in (short, said_patterns t patterns short e),
      λ s. read_patterns t patterns s.0 s.1,
    );
    class = λ t at. (
      λ e. let short : length t ≤ max_len = short_of t (Err (Class at)) e (λ h. cc) in (short, said_class t at short e),
      λ s. class_read t at s.0 s.1,
    );
    too_long = λ t. (long_of t, choice_long reading t);
  }
