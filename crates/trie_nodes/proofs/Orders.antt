-- Orders that rise, by a test of neighbours.
use Rattle.std.proofs.Common.{◌≡◌, ◌≢◌, ◌<◌, ℕ, length, ap, arith, Bool, true, false, nat_lt, ltb-true, lt-ltb, List, [], refl, sym, ◌∙◌, All}
use Rattle.std.specs.Bool.{IsTrue, MatchBool}
use Rattle.std.specs.List.{AllWithin, HoldsAt, IsAllAdjacentAnswer}
use Rattle.trie_nodes.specs.declared.entry.Entry.{Entry}
use Rattle.trie_nodes.specs.Orders.{Rising}

pub rising_by : (es : List Entry) (r : Bool) → IsAllAdjacentAnswer (λ (e next : Entry) (b : Bool). b ≡ nat_lt e.order next.order) es r → All (λ (e : Entry). e.key ≢ []) es
    → (IsTrue r → Rising es) × (Rising es → IsTrue r)
rising_by es true answer keys = (λ _. record { orders = λ k d within. ltb-true _ _ (sym (answer k d within)); keys = keys }, λ _. refl)
rising_by es false answer keys = (
  (λ no. cc),
  (λ rising.
      let some : Entry = record { pattern = []; key = []; value = []; order = 0; file = []; line = 0 } in
      let up : true ≡ nat_lt _ _ = sym (lt-ltb _ _ (rising.orders answer.0 some answer.1)) in
      answer.2 some ∙ sym up),
)

-- each key is not empty, if the test of them all says so
pub keys_kept : (es : List Entry) (r : Bool) → r ≡ true → MatchBool r (AllWithin (λ (e : Entry). 0 < length e.key) es 0 (length es)) ((k : ℕ) × (k < length es) × HoldsAt (λ (e : Entry). length e.key ≡ 0) es k)
    → All (λ (e : Entry). e.key ≢ []) es
keys_kept es true _ all = λ k d within is. absurd (omega (arith, all k d (omega arith) within, ap length is))
keys_kept es false wrong _ = cc
