-- Words that are not at fault name a subcommand.
use Rattle.std.proofs.Common.{◌≡◌, ◌&&◌, ◌||◌, Bool, true, false, refl, sym, List, [], ◌∷◌, Option, Some, None, codes, true≢false, not, is_some, cond, find, option_map, subst}
use Rattle.std.specs.Prelude.{⊤}
use Rattle.std.specs.List.{list_any}
use Rattle.std.specs.Str.{bytes_eq}
use Rattle.std.proofs.lemmas.Slice.Eq.{bytes_eq-Decides}
use Rattle.clap.specs.Facts.{explicit_source}
use Rattle.clap.specs.Kinds.{Kinds, check_kinds, or_else}
use Rattle.clap.specs.Faults.{check_fault, defaults_fault, entered_fault, fault_of, is_simple_and_free, level_fault, settle_fault, walk_fault}
use Rattle.clap.specs.Takes.{is_given}
use Rattle.clap.specs.Walk.{Held, Names, Row, Text, answers_to, finished, nothing_held, settled, stop_after, walk, walk_from}
use Rattle.clap.specs.Simple.{Shape, built, entered, is_simple, label_of, names_of, rows_at, subcommand_of}
use Rattle.devdry_words.specs.Commands.{devdry}
use Rattle.devdry_words.specs.Named.{IsSubcommandName, NamesSubcommand}
use Rattle.devdry_words.specs.declared.subcommands.Subcommand.TheVariants.{Run, Files, Compare, Explain}
use Rattle.engine_sessions.specs.declared.line.Verb.TheVariants.{Update, Query, Verify, Events, Mend}
use Rattle.devdry_words.proofs.Stops.{StopsWell, neither, walk_stops}

pub devdry_is_simple : is_simple devdry ≡ true
unfolding devdry
devdry_is_simple = refl

pub devdry_is_simple_and_free : is_simple_and_free devdry ≡ true
unfolding devdry
devdry_is_simple_and_free = refl

wants_none : (a b c : Bool) → check_kinds a b c ≡ [] → b ≡ false
wants_none true b c e = absurd (cc)
wants_none false true c e = absurd (cc)
wants_none false false c e = refl

is_there : (there required : Bool) → required ≡ true → (not there && required) ≡ false → there ≡ true
is_there true required is e = refl
is_there false required is e = absurd (cc)

checks_pass : (s : Shape) (rows : List Row) (there : Bool) → s.subcommand_required ≡ true → check_fault s rows there ≡ [] → there ≡ true
checks_pass s rows there is e = is_there there s.subcommand_required is (wants_none
    (not there && (s.arg_required_else_help && not (list_any (λ r. explicit_source r.source) rows)))
    (not there && s.subcommand_required)
    (not (s.subcommand_negates_reqs && there) && list_any (λ a. a.required && not (is_given a.id rows)) s.rules) e)

-- a level without fault, by its parts
module _ (s : Shape) (names : Names) (h : Held) (words : List Text) (there : Bool) (below : Kinds) where
  abbrev end : Held
  end = (walk s.rules names h words).held

  after_walk : level_fault s names h words there below ≡ []
      → (walk_fault s names (walk_from h) words ≡ []) × (check_fault s (finished s.rules end) there ≡ [])
  after_walk e =
      let defaults = defaults_fault (settled s.rules end).rows s.rules in
      let checks = check_fault s (finished s.rules end) there in
      let settles = settle_fault s.rules s.args_override_self end in
      let first = neither (walk_fault s names (walk_from h) words) (or_else below (or_else settles (or_else defaults checks))) e in
      let second = neither below (or_else settles (or_else defaults checks)) first.1 in
      let third = neither settles (or_else defaults checks) second.1 in
      (first.0, (neither defaults checks third.1).1)

abbrev AllOf : (Shape → Type 0) → List Shape → Type 0
AllOf P [] = ⊤
AllOf P (s ∷ rest) = P s × AllOf P rest

found_named : (t : Text) (words : List Text) (subs : List Shape) → AllOf (λ s. answers_to t (label_of s) ≡ true → IsSubcommandName s.name) subs
    → is_some (option_map (λ s. rows_at s words) (find (λ s. answers_to t (label_of s)) subs)) ≡ true
    → NamesSubcommand (option_map (λ s. rows_at s words) (find (λ s. answers_to t (label_of s)) subs))
found_named t words [] all e = absurd (cc)
found_named t words (s ∷ rest) all e = go (found_named t words rest all.1) (answers_to t (label_of s)) refl e
  where
    go : (is_some (option_map (λ s. rows_at s words) (find (λ s. answers_to t (label_of s)) rest)) ≡ true
        → NamesSubcommand (option_map (λ s. rows_at s words) (find (λ s. answers_to t (label_of s)) rest))) → (b : Bool) → answers_to t (label_of s) ≡ b
        → is_some (option_map (λ s. rows_at s words) (cond b (Some s) (find (λ s. answers_to t (label_of s)) rest))) ≡ true
        → NamesSubcommand (option_map (λ s. rows_at s words) (cond b (Some s) (find (λ s. answers_to t (label_of s)) rest)))
    go later true is f = all.0 is
    go later false is f = later f

first_holds : (b : Bool) → (b || false) ≡ true → b ≡ true
first_holds true e = refl
first_holds false e = e

not_help : (t : Text) → bytes_eq t (codes "help") ≡ false → answers_to t (codes "help", []) ≡ true → IsSubcommandName (codes "help")
not_help t differs answers =
    let same : codes "help" ≡ t = (bytes_eq-Decides (codes "help") t).0 (first_holds _ answers) in
    absurd (true≢false (subst (λ u. bytes_eq u (codes "help") ≡ false) (sym same) differs))

pub names_a_subcommand : (words : List Text) → fault_of devdry words ≡ [] → NamesSubcommand (subcommand_of devdry words)
unfolding devdry
names_a_subcommand words e =
    let top = (built devdry).top in
    let names = names_of (built devdry) in
    let met = stop_after top.rules names words in
    let parts = after_walk top names nothing_held words (is_some (entered (built devdry) met)) (entered_fault (built devdry) met) e in
    let well : StopsWell met = walk_stops top names (walk_from nothing_held) words refl parts.0 tt in
    go met well (checks_pass top (finished top.rules (walk top.rules names nothing_held words).held) (is_some (entered (built devdry) met)) refl parts.1)
  where
    go : (stop : Option (Text × List Text)) → StopsWell stop → is_some (entered (built devdry) stop) ≡ true → NamesSubcommand (entered (built devdry) stop)
    go None well f = absurd (cc)
    go (Some p) well f = found_named p.0 p.1 (built devdry).subs (
      (λ _. (Run Verify, refl)),
      (
        (λ _. (Run Query, refl)),
        (
          (λ _. (Run Update, refl)),
          (
            (λ _. (Run Events, refl)),
            (
              (λ _. (Files, refl)),
              ((λ _. (Compare, refl)), ((λ _. (Run Mend, refl)), ((λ _. (Explain, refl)), (not_help p.0 well, tt)))),
            ),
          ),
        ),
      ),
    ) f
