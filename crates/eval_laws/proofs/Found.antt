-- What a database finds weighs no more than its entries.
use Rattle.std.proofs.Common.{◌≡◌, ℕ, ◌+◌, ◌≤◌, Bool, true, false, not, nat_lt, List, [], ◌∷◌, map, find, Some, unwrap_or, if◌then◌else◌, arith}
use Rattle.std.proofs.lemmas.List.Sums.{sum_by-cons}
use Rattle.text_bytes.specs.Texts.{is_empty}
use Rattle.text_bytes.specs.Text.{Text}
use Rattle.text_tables.specs.Pairs.{Pair}
use Rattle.text_core.specs.Fits.{fits}
use Rattle.trie_nodes.specs.Query.{fitting, property, put, query, winner, winners}
use Rattle.trie_nodes.specs.declared.entry.Entry.{Entry}
use Rattle.builtin_devices.specs.Knowledge.{Known}
use Rattle.eval_laws.specs.DeviceWeights.{pair_weight, pairs_weight}
use Rattle.eval_state.specs.declared.state.State.{State}
use Rattle.eval_commands.specs.LookUps.{counted_properties, counts, first_found, found, texts}
use Rattle.eval_commands.specs.declared.hwdb.Hwdb.{Hwdb}
use Rattle.eval_laws.specs.Allowances.{entries_weight, entry_weight}
use Rattle.eval_laws.proofs.Sums.{filter_light, fold_light, put_light}

winner_light : (x new : Entry) → entry_weight (winner x new) ≤ entry_weight x + entry_weight new
winner_light x new = by (nat_lt new.order x.order)
  where
    by : (b : Bool) → entry_weight (if b then x else new) ≤ entry_weight x + entry_weight new
    by true = omega arith
    by false = omega arith

winners_light : (entries : List Entry) (modalias : Text) → entries_weight (winners entries modalias) ≤ entries_weight entries
winners_light entries modalias =
    let a = filter_light entry_weight (λ e. fits e.pattern modalias) entries in
    let b = fold_light entry_weight entry_weight put (put_light entry_weight (λ e. e.key) winner winner_light) [] (fitting entries modalias) in
    omega (arith, a, b)

properties_light : (entries : List Entry) → pairs_weight (map property entries) ≡ entries_weight entries
properties_light [] = omega arith
properties_light (e ∷ entries) =
    let a = sum_by-cons pair_weight (property e) (map property entries) in
    let b = sum_by-cons entry_weight e entries in
    let c = properties_light entries in
    omega (arith, a, b, c)

pub query_light : (entries : List Entry) (text : Text) → pairs_weight (query entries text) ≤ entries_weight entries
query_light entries text =
    let a = properties_light (winners entries text) in
    let b = winners_light entries text in
    omega (arith, a, b)

answer_light : (known : Known) (hwdb : Hwdb) (text : Text) → pairs_weight (counted_properties known hwdb text) ≤ entries_weight known.entries
answer_light known hwdb text =
    let a = filter_light pair_weight (λ p. counts hwdb.filter p.0) (query known.entries text) in
    let b = query_light known.entries text in
    omega (arith, a, b)

first_light : (most : ℕ) (give : Text → List Pair) → ((text : Text) → pairs_weight (give text) ≤ most) → (texts : List Text) → pairs_weight (first_found (map give texts)) ≤ most
first_light most give each [] = omega arith
first_light most give each (text ∷ texts) = by (not (is_empty (give text))) (first_light most give each texts)
  where
    by : (b : Bool) → pairs_weight (first_found (map give texts)) ≤ most
        → pairs_weight (unwrap_or (if b then Some (give text) else find (λ properties. not (is_empty properties)) (map give texts)) []) ≤ most
    by true more = each text
    by false more = more

pub found_light : (known : Known) (hwdb : Hwdb) (state : State) → pairs_weight (found known hwdb state) ≤ entries_weight known.entries
unfolding found
found_light known hwdb state = first_light (entries_weight known.entries) (counted_properties known hwdb) (answer_light known hwdb) (texts hwdb state)
