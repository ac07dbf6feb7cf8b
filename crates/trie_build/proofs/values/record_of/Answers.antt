use Rattle.std.proofs.Common.{◌<◌, length, sym, subst, arith}
use Rattle.trie_build.specs.Distinct.{IsIn, number_in}
use Rattle.text_bytes.specs.Insertion.{text_order}
use Rattle.trie_build.proofs.Orders.{texts_order}
use Rattle.trie_build.proofs.Members.{number_within}
use Rattle.trie_build.specs.Content.{shown}
use Rattle.trie_build.proofs.Placing.{length_shown}
use Rattle.trie_build.proofs.values.record_of.Goals as goal

pub bounds-places-number_of : goal.bounds-places-number_of
bounds-places-number_of c =
    let there : IsIn c.as_slice-name.result.now (shown c.args.names.now) = subst (λ t. IsIn t (shown c.args.names.now)) (sym c.as_slice-name.ensures) c.requires.there in
    let within : number_in text_order (shown c.args.names.now) c.as_slice-name.result.now < length (shown c.args.names.now) = number_within text_order texts_order c.as_slice-name.result.now (shown c.args.names.now) there in
    omega (arith, within, c.number_of.ensures, length_shown c.args.names.now, c.requires.places)
