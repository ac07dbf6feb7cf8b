-- The tests of the bounds, and the bounds as the reading of files states them.
use Rattle.std.proofs.Common.{◌≡◌, ℕ, ◌^◌, ◌<◌, ◌≤◌, false, List, [], ◌++◌, Ok, Err, refl, ap, sym, ◌∙◌, append_assoc, append-nil, subst, arith}
use Rattle.std.proofs.lemmas.Bool.{leb-true, le-leb, false_from_ne_true}
use Rattle.std.proofs.Math.Dec.{leb}
use Rattle.text_bytes.specs.declared.source_file.SourceFile.{SourceFile}
use Rattle.file_messages.specs.declared.message.Message.{Message}
use Rattle.text_bytes.specs.declared.profile.Profile.{Profile}
use Rattle.trie_nodes.specs.declared.entry.Entry.{Entry}
use Rattle.hwdb_core.specs.Sources.{WithinBounds, are_few, entries_of, messages_of}
use Rattle.hwdb_core.specs.declared.fault.HwdbFault.{HwdbFault}
use Rattle.hwdb_core.specs.declared.fault.HwdbFault.TheVariants as hwdb
use Rattle.rule_types.specs.Rules.{tokens_in}
use Rattle.rule_core.specs.Rules.{set_of_as}
use Rattle.rule_core.specs.declared.fault.RulesFault.{RulesFault}
use Rattle.rule_core.specs.declared.fault.RulesFault.TheVariants as rules
use Rattle.trie_build.specs.declared.index_fault.IndexFault.{IndexFault}
use Rattle.engine_sessions.specs.Delivery.{RunOutcome}
use Rattle.engine_reports.specs.Databases.{database_of}
use Rattle.engine_reports.specs.Messages.{message_lines}
use Rattle.engine_reports.specs.Outcomes.{database_outcome, too_many_entries, too_many_rules}
use Rattle.engine_reports.specs.Indexes.{refused_index}
use Rattle.engine_reports.specs.declared.refusal.Refusal.{Refusal}
use Rattle.engine_reports.specs.declared.refusal.Refusal.TheVariants.{TooManyEntries, TooManyRules, Index}
use Rattle.engine_reports.specs.Openings.{opening_by, opening_messages, opening_within}
use Rattle.engine_reports.specs.Reports.{IsRefused, IsSaid, refused_entries, refused_rules}

-- files past a bound don't pass it
few_beyond : (files : List SourceFile) → (WithinBounds files → ⊥) → are_few files ≡ false
few_beyond files beyond = false_from_ne_true (are_few files) beyond

pub outcome_few : (say : List Entry → List Message → RunOutcome) (files : List SourceFile) → WithinBounds files → database_outcome say files ≡ say (entries_of files) (messages_of files)
unfolding database_outcome
outcome_few say files w = rw w refl

outcome_many : (say : List Entry → List Message → RunOutcome) (files : List SourceFile) → (WithinBounds files → ⊥) → database_outcome say files ≡ too_many_entries
unfolding database_outcome
outcome_many say files beyond = rw (few_beyond files beyond) refl

-- what becomes of a fault of the database is what is said of its files
pub entries_refused : (say : List Entry → List Message → RunOutcome) (files : List SourceFile) (fault : HwdbFault) → (fault ≡ hwdb.TooMany → WithinBounds files → ⊥) → IsSaid (refused_entries fault) (database_outcome say files)
entries_refused say files hwdb.TooMany beyond = outcome_many say files (beyond refl)
entries_refused say files hwdb.Memory beyond = tt

-- the database of the files, by its bounds
pub database_few : (files : List SourceFile) → WithinBounds files → database_of files ≡ Ok (record { messages = message_lines (messages_of files); entries = entries_of files })
unfolding database_of
database_few files w = rw w refl

database_many : (files : List SourceFile) → (WithinBounds files → ⊥) → database_of files ≡ Err too_many_entries
unfolding database_of
database_many files beyond = rw (few_beyond files beyond) refl

pub database_refused : (files : List SourceFile) (fault : HwdbFault) → (fault ≡ hwdb.TooMany → WithinBounds files → ⊥) → IsRefused (refused_entries fault) (database_of files)
database_refused files hwdb.TooMany beyond = database_many files (beyond refl)
database_refused files hwdb.Memory beyond = tt

beyond : (n m : ℕ) → m < n → leb n m ≡ false
beyond n m h = false_from_ne_true (leb n m) (λ e. not_both n m h (leb-true n m e))
  where
    not_both : (n m : ℕ) → m < n → n ≤ m → ⊥
    not_both n m h k = omega (arith, h, k)

pub entries_said : (refusal : Refusal) (outcome : RunOutcome) → refusal ≡ TooManyEntries → IsSaid refusal outcome → outcome ≡ too_many_entries
entries_said refusal outcome e said = subst (λ r. IsSaid r outcome) e said

pub index_said : (refusal : Refusal) (fault : IndexFault) (outcome : RunOutcome) → refusal ≡ Index fault → IsSaid refusal outcome → outcome ≡ refused_index fault
index_said refusal fault outcome e said = subst (λ r. IsSaid r outcome) e said

-- a line in three pieces, one of which is known by another name
pub in_pieces : (first text whole last : List ℕ) → text ≡ whole → (first ++ whole) ++ last ≡ first ++ (text ++ (last ++ []))
in_pieces first text whole last e = append_assoc first whole last ∙ ap (λ t. first ++ t) (ap (λ t. t ++ last) (sym e) ∙ ap (λ t. text ++ t) (sym (append-nil last)))

-- messages and a line after them, in two pieces
pub two_pieces : (messages line : List ℕ) → messages ++ line ≡ messages ++ (line ++ [])
two_pieces messages line = ap (λ t. messages ++ t) (sym (append-nil line))

pub rules_said : (refusal : Refusal) (outcome : RunOutcome) → refusal ≡ TooManyRules → IsSaid refusal outcome → outcome ≡ too_many_rules
rules_said refusal outcome e said = subst (λ r. IsSaid r outcome) e said

-- what rules files and a database give, by the bound of rules
pub rules_opened : (by : Profile) (files : List SourceFile) (messages : List Message) (entries : List Entry) → tokens_in (set_of_as by files).rules ≤ 2 ^ 24 → opening_by by files messages entries ≡ Ok (record { messages = opening_messages (set_of_as by files).messages messages; about_rules = (set_of_as by files).messages; rules = (set_of_as by files).rules; entries = entries })
unfolding opening_by
rules_opened by files messages entries w = rw (le-leb (tokens_in (set_of_as by files).rules) (2 ^ 24) w) refl

rules_unopened : (by : Profile) (files : List SourceFile) (messages : List Message) (entries : List Entry) → 2 ^ 24 < tokens_in (set_of_as by files).rules → opening_by by files messages entries ≡ Err too_many_rules
unfolding opening_by
rules_unopened by files messages entries h = rw (beyond (tokens_in (set_of_as by files).rules) (2 ^ 24) h) refl

pub opening_rules_refused : (by : Profile) (files : List SourceFile) (messages : List Message) (entries : List Entry) (fault : RulesFault) → (fault ≡ rules.TooMany → 2 ^ 24 < tokens_in (set_of_as by files).rules) → IsRefused (refused_rules fault) (opening_by by files messages entries)
opening_rules_refused by files messages entries rules.TooMany h = rules_unopened by files messages entries (h refl)
opening_rules_refused by files messages entries rules.Memory h = tt

-- what both give, by the bounds of a database
pub opening_few : (by : Profile) (files database : List SourceFile) → WithinBounds database → opening_within by files database ≡ opening_by by files (messages_of database) (entries_of database)
unfolding opening_within
opening_few by files database few = rw few refl

opening_many_entries : (by : Profile) (files database : List SourceFile) → (WithinBounds database → ⊥) → opening_within by files database ≡ Err too_many_entries
unfolding opening_within
opening_many_entries by files database many = rw (few_beyond database many) refl

pub opening_entries_refused : (by : Profile) (files database : List SourceFile) (fault : HwdbFault) → (fault ≡ hwdb.TooMany → WithinBounds database → ⊥) → IsRefused (refused_entries fault) (opening_within by files database)
opening_entries_refused by files database hwdb.TooMany beyond = opening_many_entries by files database (beyond refl)
opening_entries_refused by files database hwdb.Memory beyond = tt
