-- What a command without quotes asks for is what its words ask for.
use Rattle.std.proofs.Common.{◌≡◌, ℕ, zero, suc, ◌+◌, ◌==◌, false, true, List, [], ◌∷◌, length, take, drop, subst, refl, ap, sym, ◌∙◌}
use Rattle.std.proofs.lemmas.Slice.Eq.{bytes_eq-Decides}
use Rattle.std.specs.Prelude.{Bool, Option, Some, None, nat_lt, position, option_map, codes}
use Rattle.std.specs.List.{cons_option, list_any}
use Rattle.std.specs.Option.{option_and_then, option_or, unwrap_or}
use Rattle.text_bytes.specs.Names.{equals, minus}
use Rattle.text_bytes.specs.Texts.{begins_with, first, split_once}
use Rattle.text_bytes.specs.declared.profile.Profile.{Profile}
use Rattle.text_bytes.specs.declared.profile.Profile.TheVariants.{Manual, Udev}
use Rattle.text_bytes.specs.Text.{Text}
use Rattle.text_tables.specs.Texts.{same_text}
use Rattle.eval_commands.specs.Builtins.{builtin, builtin_of, builtin_of_words, hwdb_asked}
use Rattle.eval_commands.specs.Hwdb.{filter_option, hwdb_of, is_option, is_unknown, last_value, operands, prefix_option, subsystem_option, value_beside, value_in}
use Rattle.eval_commands.specs.Unquoted.{asked_by, asked_of, first_and_others, no_request, other_name, other_of, request_from, spaced_words, with_modalias, with_option, with_value, with_word}
use Rattle.eval_commands.specs.Words.{is_quote}
use Rattle.eval_commands.specs.declared.builtin.Builtin.TheVariants as asked
use Rattle.eval_commands.specs.declared.hwdb.Hwdb.{Hwdb}
use Rattle.eval_commands.proofs.Spacing.{without_quotes}

abbrev joined : {X : Type 0} → Option (X × List X) → List X
joined None = []
joined (Some cut) = cut.0 ∷ cut.1

joined_is : {X : Type 0} (xs : List X) → joined (first_and_others xs) ≡ xs
joined_is [] = refl
joined_is (x ∷ xs) = refl

-- the words of a text, one after another
next_word : (r : Hwdb) (word : Text) (after rest : List Text) → Some (word, after) ≡ first_and_others rest → request_from r rest ≡ option_and_then (λ more. request_from more after) (with_word word r)
next_word r word after rest e = ap (request_from r) (sym (ap joined e ∙ joined_is rest))

pub next_some : (r next : Hwdb) (word : Text) (after rest : List Text) → Some (word, after) ≡ first_and_others rest → Some next ≡ with_word word r → request_from next after ≡ request_from r rest
next_some r next word after rest e some = sym (next_word r word after rest e ∙ ap (option_and_then (λ more. request_from more after)) (sym some))

pub next_none : (r : Hwdb) (word : Text) (after rest : List Text) → Some (word, after) ≡ first_and_others rest → None ≡ with_word word r → None ≡ request_from r rest
next_none r word after rest e none = sym (next_word r word after rest e ∙ ap (option_and_then (λ more. request_from more after)) (sym none))

pub at_end : (r : Hwdb) (rest : List Text) → None ≡ first_and_others rest → Some r ≡ request_from r rest
at_end r rest e = ap (request_from r) (ap joined e ∙ joined_is rest)

some_is : {X : Type 0} (x y : X) → Some x ≡ Some y → x ≡ y
some_is x y e = cc

-- a text begins with what its front begins with
front_take : (n : ℕ) (word : Text) → begins_with minus (take n word) ≡ true → begins_with minus word ≡ true
front_take zero word e = cc
front_take (suc n) [] e = cc
front_take (suc n) (b ∷ word) e = e

abbrev front_of : Option (Text × Text) → Text
front_of None = []
front_of (Some cut) = cut.0

front_at : (at : Option ℕ) (word : Text) (cut : Text × Text) → option_map (λ n. (take n word, drop (n + 1) word)) at ≡ Some cut → begins_with minus cut.0 ≡ true → begins_with minus word ≡ true
front_at None word cut e begins = cc
front_at (Some n) word cut e begins = front_take n word (ap (begins_with minus) (ap front_of e) ∙ begins)

front : (word : Text) (cut : Text × Text) → split_once equals word ≡ Some cut → begins_with minus cut.0 ≡ true → begins_with minus word ≡ true
unfolding split_once
front word cut e begins = front_at (position (λ b. b == equals) word) word cut e begins

same_is : (a b : Text) → same_text a b ≡ true → a ≡ b
same_is a b e = (bytes_eq-Decides a b).0 e

-- a word that is no option gives none of them a value
no_beside : (test : Bool) (name word : Text) (cut : Text × Text) → same_text cut.0 name ≡ test → split_once equals word ≡ Some cut → begins_with minus word ≡ false → begins_with minus name ≡ true → value_beside name cut ≡ None
no_beside false name word cut t s o n = rw t refl
no_beside true name word cut t s o n =
    let begins : begins_with minus word ≡ true = front word cut s (ap (begins_with minus) (same_is cut.0 name t) ∙ n) in
    let no : false ≡ true = sym o ∙ begins in cc

no_value_by : (found : Option (Text × Text)) (name word : Text) → split_once equals word ≡ found → begins_with minus word ≡ false → begins_with minus name ≡ true → option_and_then (value_beside name) found ≡ None
no_value_by None name word s o n = refl
no_value_by (Some cut) name word s o n = no_beside (same_text cut.0 name) name word cut refl s o n

no_value : (name word : Text) → begins_with minus word ≡ false → begins_with minus name ≡ true → value_in name word ≡ None
no_value name word o n = no_value_by (split_once equals word) name word refl o n

-- what a word does to a request that takes it
record Takes (word : Text) (before after : Hwdb) : Type 0 where
  subsystem : option_or (value_in subsystem_option word) before.subsystem ≡ after.subsystem
  prefix : unwrap_or (value_in prefix_option word) before.prefix ≡ after.prefix
  filter : value_in filter_option word ≡ None
  kept : before.filter ≡ after.filter
  known : is_unknown word ≡ false
  modalias : (words : List Text) → cons_option before.modalias (operands (word ∷ words)) ≡ cons_option after.modalias (operands words)

takes_subsystem : (word : Text) (r : Hwdb) (cut : Text × Text) → is_option word ≡ true → split_once equals word ≡ Some cut → same_text cut.0 subsystem_option ≡ true
    → Takes word r (record { subsystem = Some cut.1; prefix = r.prefix; filter = r.filter; modalias = r.modalias })
takes_subsystem word r cut o s t =
    let not_prefix : same_text cut.0 prefix_option ≡ false = ap (λ name. same_text name prefix_option) (same_is cut.0 subsystem_option t) in
    let not_filter : same_text cut.0 filter_option ≡ false = ap (λ name. same_text name filter_option) (same_is cut.0 subsystem_option t) in
    record {
      subsystem = rw (s, t) refl;
      prefix = rw (s, not_prefix) refl;
      filter = rw (s, not_filter) refl;
      kept = refl;
      known = rw (o, s, t) refl;
      modalias = λ words. rw o refl;
    }

takes_prefix : (word : Text) (r : Hwdb) (cut : Text × Text) → is_option word ≡ true → split_once equals word ≡ Some cut → same_text cut.0 subsystem_option ≡ false → same_text cut.0 prefix_option ≡ true
    → Takes word r (record { subsystem = r.subsystem; prefix = cut.1; filter = r.filter; modalias = r.modalias })
takes_prefix word r cut o s not_subsystem t =
    let not_filter : same_text cut.0 filter_option ≡ false = ap (λ name. same_text name filter_option) (same_is cut.0 prefix_option t) in
    record {
      subsystem = rw (s, not_subsystem) refl;
      prefix = rw (s, t) refl;
      filter = rw (s, not_filter) refl;
      kept = refl;
      known = rw (o, s, not_subsystem, t) refl;
      modalias = λ words. rw o refl;
    }

takes_modalias : (word : Text) (r : Hwdb) → is_option word ≡ false → r.modalias ≡ None
    → Takes word r (record { subsystem = r.subsystem; prefix = r.prefix; filter = r.filter; modalias = Some word })
takes_modalias word r o none = record {
  subsystem = rw (no_value subsystem_option word o refl) refl;
  prefix = rw (no_value prefix_option word o refl) refl;
  filter = no_value filter_option word o refl;
  kept = refl;
  known = rw o refl;
  modalias = λ words. rw (o, none) refl;
}

-- by what a word is
value_takes : (is_subsystem is_prefix : Bool) (word : Text) (r after : Hwdb) (cut : Text × Text) → same_text cut.0 subsystem_option ≡ is_subsystem → same_text cut.0 prefix_option ≡ is_prefix
    → is_option word ≡ true → split_once equals word ≡ Some cut → Some after ≡ with_value cut.0 cut.1 r → Takes word r after
value_takes true is_prefix word r after cut t p o s e =
    let is : Some after ≡ Some (record { subsystem = Some cut.1; prefix = r.prefix; filter = r.filter; modalias = r.modalias }) = rw t at e in
    subst (λ m. Takes word r m) (sym (some_is _ _ is)) (takes_subsystem word r cut o s t)
value_takes false true word r after cut t p o s e =
    let is : Some after ≡ Some (record { subsystem = r.subsystem; prefix = cut.1; filter = r.filter; modalias = r.modalias }) = rw (t, p) at e in
    subst (λ m. Takes word r m) (sym (some_is _ _ is)) (takes_prefix word r cut o s t p)
value_takes false false word r after cut t p o s e = let is : Some after ≡ None = rw (t, p) at e in cc

option_takes : (found : Option (Text × Text)) (word : Text) (r after : Hwdb) → is_option word ≡ true → split_once equals word ≡ found → Some after ≡ option_and_then (λ cut. with_value cut.0 cut.1 r) found → Takes word r after
option_takes None word r after o s e = cc
option_takes (Some cut) word r after o s e = value_takes (same_text cut.0 subsystem_option) (same_text cut.0 prefix_option) word r after cut refl refl o s e

modalias_takes : (held : Option Text) (word : Text) (r after : Hwdb) → is_option word ≡ false → r.modalias ≡ held → Some after ≡ with_modalias word r → Takes word r after
modalias_takes None word r after o h e =
    let is : Some after ≡ Some (record { subsystem = r.subsystem; prefix = r.prefix; filter = r.filter; modalias = Some word }) = rw h at e in
    subst (λ m. Takes word r m) (sym (some_is _ _ is)) (takes_modalias word r o h)
modalias_takes (Some modalias) word r after o h e = let is : Some after ≡ None = rw h at e in cc

word_takes : (test : Bool) (word : Text) (r after : Hwdb) → is_option word ≡ test → Some after ≡ with_word word r → Takes word r after
word_takes true word r after o e =
    let is : Some after ≡ with_option word r = rw o at e in option_takes (split_once equals word) word r after o refl is
word_takes false word r after o e =
    let is : Some after ≡ with_modalias word r = rw o at e in modalias_takes r.modalias word r after o refl is

-- what words do to a request that takes them all
record Asks (words : List Text) (before after : Hwdb) : Type 0 where
  subsystem : option_or (last_value subsystem_option words) before.subsystem ≡ after.subsystem
  prefix : unwrap_or (last_value prefix_option words) before.prefix ≡ after.prefix
  filter : last_value filter_option words ≡ None
  kept : before.filter ≡ after.filter
  known : list_any is_unknown words ≡ false
  modalias : cons_option before.modalias (operands words) ≡ cons_option after.modalias []

option_or_none : {X : Type 0} (a : Option X) → a ≡ option_or a None
option_or_none None = refl
option_or_none (Some x) = refl

or_or : {X : Type 0} (a b c : Option X) → option_or (option_or a b) c ≡ option_or a (option_or b c)
or_or None b c = refl
or_or (Some x) b c = refl

or_else : {X : Type 0} (a b : Option X) (c : X) → unwrap_or (option_or a b) c ≡ unwrap_or a (unwrap_or b c)
or_else None b c = refl
or_else (Some x) b c = refl

asks_more : (word : Text) (words : List Text) (r m after : Hwdb) → Takes word r m → Asks words m after → Asks (word ∷ words) r after
asks_more word words r m after t a = record {
  subsystem = or_or (last_value subsystem_option words) (value_in subsystem_option word) r.subsystem ∙ ap (option_or (last_value subsystem_option words)) t.subsystem ∙ a.subsystem;
  prefix = or_else (last_value prefix_option words) (value_in prefix_option word) r.prefix ∙ ap (unwrap_or (last_value prefix_option words)) t.prefix ∙ a.prefix;
  filter = rw (a.filter, t.filter) refl;
  kept = t.kept ∙ a.kept;
  known = rw (t.known, a.known) refl;
  modalias = t.modalias words ∙ a.modalias;
}

asks_on : (next : Option Hwdb) (word : Text) (words : List Text) (r after : Hwdb) → next ≡ with_word word r → Some after ≡ option_and_then (λ more. request_from more words) next
    → ((m : Hwdb) → Some after ≡ request_from m words → Asks words m after) → Asks (word ∷ words) r after
asks_on None word words r after w e more = cc
asks_on (Some m) word words r after w e more = asks_more word words r m after (word_takes (is_option word) word r m refl w) (more m e)

asks : (words : List Text) (r after : Hwdb) → Some after ≡ request_from r words → Asks words r after
asks [] r after e = subst (λ m. Asks [] r m) (sym (some_is _ _ e)) (record { subsystem = refl; prefix = refl; filter = refl; kept = refl; known = refl; modalias = refl })
asks (word ∷ words) r after e = asks_on (with_word word r) word words r after refl e (λ m next. asks words m after next)

-- the words of a request that is read are those of the options
few : (held : Option Text) (others : List Text) → others ≡ cons_option held [] → (nat_lt 1 (length others) ≡ false) × (first others ≡ held)
few None others e = (ap (λ xs. nat_lt 1 (length xs)) e, ap first e)
few (Some modalias) others e = (ap (λ xs. nat_lt 1 (length xs)) e, ap first e)

pub request_is : (words : List Text) (r : Hwdb) → Some r ≡ request_from no_request words → hwdb_of words ≡ Some r
unfolding hwdb_of
request_is words r e =
    let a = asks words no_request r e in
    let f = few r.modalias (operands words) a.modalias in
    rw (a.known, f.0, a.filter, f.1, option_or_none (last_value subsystem_option words) ∙ a.subsystem, a.prefix) (ap (λ filter. Some (record { subsystem = r.subsystem; prefix = r.prefix; filter = filter; modalias = r.modalias })) a.kept)

-- by its name, a command without quotes asks for another builtin or for the hardware database
manual_words : (text : Text) → list_any is_quote text ≡ false → builtin Manual text ≡ builtin_of_words (spaced_words text)
manual_words text e = ap builtin_of (without_quotes text e)

chosen_other : (test : Bool) (n name : Text) (words : List Text) → same_text n (codes "hwdb") ≡ test → Some name ≡ other_of n → builtin_of_words (n ∷ words) ≡ asked.Other name
chosen_other true n name words t e = let none : Some name ≡ None = rw t at e in cc
chosen_other false n name words t e = let is : Some name ≡ Some n = rw t at e in rw t (ap asked.Other (sym (some_is name n is)))

words_other : (words : List Text) (name : Text) → Some name ≡ option_and_then (λ cut. other_of cut.0) (first_and_others words) → builtin_of_words words ≡ asked.Other name
words_other [] name e = cc
words_other (n ∷ words) name e = chosen_other (same_text n (codes "hwdb")) n name words refl e

chosen_hwdb : (test : Bool) (n : Text) (words : List Text) (r : Hwdb) → same_text n (codes "hwdb") ≡ test → Some r ≡ asked_by n words → builtin_of_words (n ∷ words) ≡ asked.Hwdb r
chosen_hwdb true n words r t e = let is : Some r ≡ request_from no_request words = rw t at e in rw t (ap hwdb_asked (request_is words r is))
chosen_hwdb false n words r t e = let none : Some r ≡ None = rw t at e in cc

words_hwdb : (words : List Text) (r : Hwdb) → Some r ≡ option_and_then (λ cut. asked_by cut.0 cut.1) (first_and_others words) → builtin_of_words words ≡ asked.Hwdb r
words_hwdb [] r e = cc
words_hwdb (n ∷ words) r e = chosen_hwdb (same_text n (codes "hwdb")) n words r refl e

never : {X Y : Type 0} {P : Type 0} (found : Option X) (y : Y) → Some y ≡ option_and_then (λ x. None) found → P
never None y e = cc
never (Some x) y e = cc

other_by : (quoted : Bool) (text name : Text) → list_any is_quote text ≡ quoted → Some name ≡ other_name Manual text → builtin Manual text ≡ asked.Other name
other_by false text name q e =
    let is : Some name ≡ option_and_then (λ cut. other_of cut.0) (first_and_others (spaced_words text)) = rw q at e in
    manual_words text q ∙ words_other (spaced_words text) name is
other_by true text name q e =
    let none : Some name ≡ option_and_then (λ cut. None) (first_and_others (spaced_words text)) = rw q at e in never (first_and_others (spaced_words text)) name none

-- the name of another builtin is what the command asks for
pub other_is : (profile : Profile) (text name : Text) → Some name ≡ other_name profile text → builtin profile text ≡ asked.Other name
other_is Manual text name e = other_by (list_any is_quote text) text name refl e
other_is Udev text name e = never (first_and_others (spaced_words text)) name e

hwdb_by : (quoted : Bool) (text : Text) (r : Hwdb) → list_any is_quote text ≡ quoted → Some r ≡ asked_of Manual text → builtin Manual text ≡ asked.Hwdb r
hwdb_by false text r q e =
    let is : Some r ≡ option_and_then (λ cut. asked_by cut.0 cut.1) (first_and_others (spaced_words text)) = rw q at e in
    manual_words text q ∙ words_hwdb (spaced_words text) r is
hwdb_by true text r q e =
    let none : Some r ≡ option_and_then (λ cut. None) (first_and_others (spaced_words text)) = rw q at e in never (first_and_others (spaced_words text)) r none

-- a request that is read is what the command asks for
pub hwdb_is : (profile : Profile) (text : Text) (r : Hwdb) → Some r ≡ asked_of profile text → builtin profile text ≡ asked.Hwdb r
hwdb_is Manual text r e = hwdb_by (list_any is_quote text) text r refl e
hwdb_is Udev text r e = never (first_and_others (spaced_words text)) r e
