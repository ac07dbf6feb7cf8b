-- Neighbours among the patterns of a group: how long they have one label.
use Rattle.std.proofs.Common.{◌≡◌, ℕ, ◌+◌, ◌-◌, ◌<◌, ◌≤◌, List, length, take, get_or, sym, ◌∙◌, ap, subst, arith, inl, inr}
use Rattle.std.proofs.lemmas.Bool.Decides.{leb_tells}
use Rattle.std.proofs.lemmas.List.{get_or-take, get_or_default}
use Rattle.std.specs.declared.cmp.Ordering.TheVariants.{Equal}
use Rattle.text_core.specs.declared.item.Item.{Item}
use Rattle.text_core.specs.declared.item.Item.TheVariants.{One}
use Rattle.trie_build.specs.Order.{label_cmp}
use Rattle.trie_build.proofs.Orders.{labels_order}
use Rattle.trie_build.specs.Groups.{IsRun, label_at}
use Rattle.trie_build.specs.Rows.{AreShared, IsCommon, pattern_at}

module _ (ps : List (List Item)) (shared : List ℕ) (are : AreShared ps shared) (start end depth : ℕ) (within : end ≤ length ps)
    (longer : (x : ℕ) → start ≤ x → x < end → depth < length (pattern_at ps x))
    (alike : (x : ℕ) → start ≤ x → x < end → take depth (pattern_at ps x) ≡ take depth (pattern_at ps start)) where
  abbrev label : ℕ → Item
  label x = label_at ps depth x

  abbrev OneLabel : ℕ → Type 0
  OneLabel at = (x : ℕ) → start ≤ x → x < at → label_cmp (label start) (label x) ≡ Equal

  module _ (at : ℕ) (more : start < at) (inside : at < end) (so_far : OneLabel at) where
    abbrev common : ℕ
    common = get_or shared at 0

    here : IsCommon (pattern_at ps (at - 1)) (pattern_at ps at) common
    here = are.each at (omega arith) (omega arith)

    before : label start ≡ label (at - 1)
    before = labels_order.same (label start) (label (at - 1)) (so_far (at - 1) (omega arith) (omega arith))

    pub run_more : depth < common → OneLabel (at + 1)
    run_more deeper x h k = elim (leb_tells at x) [
      | inl t ↦
          let e : at ≡ x = omega (arith, t.1) in
          let own : label start ≡ label x = before ∙ here.same depth deeper ∙ ap label e in
          ap (label_cmp (label start)) (sym own) ∙ labels_order.itself (label start)
      | inr t ↦ so_far x h t.1
    ]

    pub run_over : common ≤ depth → IsRun ps start end depth at
    run_over shallow = record {
      more = more;
      within = omega arith;
      same = so_far;
      next = λ _ tie. here.next (omega (arith, longer (at - 1) (omega arith) (omega arith))) (omega (arith, longer at (omega arith) inside)) (elim (leb_tells depth common) [
        | inl t ↦
            let e : depth ≡ common = omega (arith, t.1) in
            let own : label (at - 1) ≡ label at = sym before ∙ labels_order.same (label start) (label at) tie in
            subst (λ d. label_cmp (label_at ps d (at - 1)) (label_at ps d at) ≡ Equal) e (ap (λ z. label_cmp z (label at)) own ∙ labels_order.itself (label at))
        | inr t ↦
            let one : take depth (pattern_at ps (at - 1)) ≡ take depth (pattern_at ps at) = alike (at - 1) (omega arith) (omega arith) ∙ sym (alike at (omega arith) inside) in
            let own : label_at ps common (at - 1) ≡ label_at ps common at =
            sym (get_or-take depth (pattern_at ps (at - 1)) common One t.1) ∙ ap (λ l. get_or l common One) one ∙ get_or-take depth (pattern_at ps at) common One t.1 in
            ap (λ z. label_cmp z (label_at ps common at)) own ∙ labels_order.itself (label_at ps common at)
      ]);
    }

-- one label more that two patterns have in common
pub common_more : (p q : List Item) (at : ℕ) (none : Item) → at < length p → at < length q → ((d : ℕ) → d < at → get_or p d One ≡ get_or q d One)
    → label_cmp (get_or p at none) (get_or q at none) ≡ Equal → (d : ℕ) → d < at + 1 → get_or p d One ≡ get_or q d One
common_more p q at none inside within so_far tie d h = elim (leb_tells at d) [
  | inl t ↦
      let e : at ≡ d = omega (arith, t.1) in
      let own : get_or p at One ≡ get_or q at One =
      get_or_default p at One none inside ∙ labels_order.same (get_or p at none) (get_or q at none) tie ∙ get_or_default q at none One within in
      subst (λ k. get_or p k One ≡ get_or q k One) e own
  | inr t ↦ so_far d t.1
]
