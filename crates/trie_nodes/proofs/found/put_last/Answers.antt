use Rattle.std.proofs.Common.{◌-◌, List, length, set, arith, ap, sym, ◌∙◌}
use Rattle.std.proofs.lemmas.Bool.Decides.{Decides-eqb}
use Rattle.std.proofs.lemmas.Slice.Eq.{slice_eq-Decides}
use Rattle.trie_nodes.specs.declared.found.Found.{Found}
use Rattle.trie_nodes.specs.Found.{found_entries}
use Rattle.trie_nodes.proofs.Places.{enters, last_has, loses, other_last, wins}
use Rattle.trie_nodes.proofs.found.put_last.Goals as goal
use Rattle.trie_nodes.proofs.found.put_last.Goals.{in_default-via-in-Some+else-eq, in_default-via-in_default}

pub returns-then-last-found : goal.returns-then-last-found
returns-then-last-found c =
    let items : List Found = c.args.won.now.items in
    let item = rw c.deref.ensures.value at c.in-Some.ensures.item in
    let same = (slice_eq-Decides Decides-eqb c.in-Some.last.now.key.now c.args.found.key.now c.eq.result c.eq.ensures).0 c.if-eq.true in
    ap (λ n. found_entries (set items (n - 1) c.args.found)) (c.len-place.ensures ∙ sym c.deref.ensures.len ∙ ap length c.deref.ensures.value)
    ∙ wins items (length items - 1) c.args.found c.in-Some.last.now c.requires.rise (last_has items c.in-Some.last.now c.args.found.key.now item.3.0 item.1 same) item.1 c.if-last-found.true

pub returns-else-last-found : goal.returns-else-last-found
returns-else-last-found c =
    let items : List Found = c.args.won.now.items in
    let item = rw c.deref.ensures.value at c.in-Some.ensures.item in
    let same = (slice_eq-Decides Decides-eqb c.in-Some.last.now.key.now c.args.found.key.now c.eq.result c.eq.ensures).0 c.if-eq.true in
    loses items (length items - 1) c.args.found c.in-Some.last.now c.requires.rise (last_has items c.in-Some.last.now c.args.found.key.now item.3.0 item.1 same) item.1 c.if-last-found.false

pub returns-in_ok-push-in_default : goal.returns-in_ok-push-in_default
returns-in_ok-push-in_default c =
    ap found_entries c.in_ok-push-in_default.ensures.items
    ∙ enters c.args.won.now.items c.args.found c.requires.rise c.requires.last (elim c.in_default.branch [
      | in_default-via-in-Some+else-eq w ↦
          let item = rw c.deref.ensures.value at w.in-Some.ensures.item in
          other_last c.args.won.now.items w.in-Some.last.now c.args.found.key.now item.1
          (λ same. let clash = sym w.if-eq.false ∙ (slice_eq-Decides Decides-eqb w.in-Some.last.now.key.now c.args.found.key.now w.eq.result w.eq.ensures).1 same in cc)
      | in_default-via-in_default w ↦ λ last some is same. absurd (let item = rw c.deref.ensures.value at w.in_default.ensures.item in omega (arith, item.3))
    ])
