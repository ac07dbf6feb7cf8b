-- What a node's kind says of its label.
use Rattle.std.proofs.Common.{◌≡◌, ℕ, Bool, false, eqb, cond, List, refl, sym, ◌∙◌, ap, inl, inr}
use Rattle.std.proofs.lemmas.Bool.{ne_eqb}
use Rattle.std.proofs.lemmas.Bool.Decides.{eqb_tells}
use Rattle.text_core.specs.declared.item.Item.TheVariants.{Byte, One, Many, Among}
use Rattle.trie_nodes.specs.Tree.{is_star}
use Rattle.trie_build.specs.Contents.{label_of}
use Rattle.trie_build.specs.Kinds.{byte_kind, many_kind, among_kind}
use Rattle.trie_build.specs.Records.{set}
use Rattle.trie_build.specs.declared.records.NodeRecord.{NodeRecord}

module _ (bytes : List ℕ) (n : NodeRecord) where
  label_is : (a b c : Bool) → eqb n.kind 1 ≡ a → eqb n.kind 3 ≡ b → eqb n.kind 4 ≡ c → label_of bytes n ≡ cond a (Byte n.byte) (cond b Many (cond c (Among (set bytes n.set)) One))
  label_is a b c e f g = rw (e, f, g) refl

  pub label_byte : n.kind ≡ byte_kind → label_of bytes n ≡ Byte n.byte
  label_byte e = rw e refl

  pub label_many : n.kind ≡ many_kind → label_of bytes n ≡ Many
  label_many e = rw e refl

  pub label_among : n.kind ≡ among_kind → label_of bytes n ≡ Among (set bytes n.set)
  label_among e = rw e refl

  pub label_one : (n.kind ≡ byte_kind → ⊥) → (n.kind ≡ many_kind → ⊥) → (n.kind ≡ among_kind → ⊥) → label_of bytes n ≡ One
  label_one e f g = label_is false false false (ne_eqb n.kind 1 e) (ne_eqb n.kind 3 f) (ne_eqb n.kind 4 g)

  pub star_is : eqb n.kind many_kind ≡ is_star (label_of bytes n)
  star_is = elim (eqb_tells n.kind 3) [
    | inl e ↦ e.0 ∙ ap is_star (sym (label_many e.1))
    | inr e ↦ e.0 ∙ elim (eqb_tells n.kind 1) [
      | inl f ↦ ap is_star (sym (label_byte f.1))
      | inr f ↦ elim (eqb_tells n.kind 4) [ inl g ↦ ap is_star (sym (label_among g.1)) | inr g ↦ ap is_star (sym (label_one f.1 e.1 g.1)) ]
    ]
  ]
