-- Walks along attributes that keep the least of what was asked for.
use Rattle.std.proofs.Common.{List, None, Option, Some, ap, get_or, length, refl, sym, ℕ, ◌+◌, ◌<◌, ◌∙◌, ◌≡◌, ◌≤◌}
use Rattle.kc_language.specs.{Expressions.{Form, lesser, value}, Statements.Numbered, declared.expressions.Tri.Tri}
use Rattle.kc_entries.specs.{StatementViews.attribute_view, declared.entries.AttributeLine.AttributeLine}
use Rattle.kc_values.specs.{AtTable.and_value, TableFacts.known_at, declared.table.Table.Table}
use Rattle.kc_values.proofs.{SaidFrom.{said-end, said-next, said_from}, TriLemmas.{lesser_assoc, lesser_y}}

module _ (t : Table) (read : Numbered → Option Form) (ls : List AttributeLine) where
  -- what is asked for from a line on, up to a value
  abbrev pub least_from : Tri → ℕ → Tri
  least_from least i = lesser least (and_value t (said_from read ls i))

  pub least-asked : (i : ℕ) (x : AttributeLine) (f : Form) (least next asked whole : Tri) → i < length ls → x ≡ get_or ls i x → Some f ≡ read (attribute_view x.attribute) →
      next ≡ lesser least asked → asked ≡ value (known_at t) t.tree.now.modules f → least_from least i ≡ whole → least_from next (i + 1) ≡ whole
  least-asked i x f least next asked whole h at e is worth before =
      ap (λ n. least_from n (i + 1)) (is ∙ ap (lesser least) worth)
      ∙ lesser_assoc least (value (known_at t) t.tree.now.modules f) (and_value t (said_from read ls (i + 1)))
      ∙ sym (ap (λ r. lesser least (and_value t r)) (said-next read ls i x (Some f) h at (sym e)))
      ∙ before

  pub least-quiet : (i : ℕ) (x : AttributeLine) (least next whole : Tri) → i < length ls → x ≡ get_or ls i x → None ≡ read (attribute_view x.attribute) →
      next ≡ least → least_from least i ≡ whole → least_from next (i + 1) ≡ whole
  least-quiet i x least next whole h at e is before =
      ap (λ n. least_from n (i + 1)) is
      ∙ sym (ap (λ r. lesser least (and_value t r)) (said-next read ls i x None h at (sym e)))
      ∙ before

  pub least-end : (i : ℕ) (least whole : Tri) → length ls ≤ i → least_from least i ≡ whole → least ≡ whole
  least-end i least whole h before = sym (ap (λ r. lesser least (and_value t r)) (said-end read ls i h) ∙ lesser_y least) ∙ before
