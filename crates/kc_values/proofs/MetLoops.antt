-- Walks along the attributes of an entry to the first default or range whose condition is not n.
use Rattle.std.proofs.Common.{Bool, List, None, Option, Some, ap, cond, false, get_or, length, map, not, refl, sym, true, ℕ, ◌+◌, ◌<◌, ◌∙◌, ◌≡◌, ◌≤◌}
use Rattle.kc_language.specs.{Statements.Numbered, Symbols.Guarded, Values.is_n}
use Rattle.kc_entries.specs.{StatementViews.attribute_view, declared.entries.AttributeLine.AttributeLine}
use Rattle.kc_values.specs.AtTable as table
use Rattle.kc_values.specs.declared.table.Table.{Table}
use Rattle.kc_values.proofs.SaidFrom.{said-end, said-next, said_from}

module _ {X Y : Type 0} (t : Table) (read : Numbered → Option X) (view : X → Guarded Y) (ls : List AttributeLine) where
  -- the first from a line on
  abbrev pub met_from : ℕ → Option (Guarded Y)
  met_from i = table.first_met t (map view (said_from read ls i))

  pub met-quiet : (i : ℕ) (x : AttributeLine) → i < length ls → x ≡ get_or ls i x → None ≡ read (attribute_view x.attribute) → met_from i ≡ met_from (i + 1)
  met-quiet i x h at e = ap (λ r. table.first_met t (map view r)) (said-next read ls i x None h at (sym e))

  pub met-line : (i : ℕ) (x : AttributeLine) (d : X) (b : Bool) → i < length ls → x ≡ get_or ls i x → Some d ≡ read (attribute_view x.attribute) →
      is_n (table.condition t (view d).when) ≡ b → met_from i ≡ cond (not b) (Some (view d)) (met_from (i + 1))
  met-line i x d b h at e is =
      ap (λ r. table.first_met t (map view r)) (said-next read ls i x (Some d) h at (sym e))
      ∙ ap (λ n. cond (not n) (Some (view d)) (met_from (i + 1))) is

  pub met-end : (i : ℕ) → length ls ≤ i → met_from i ≡ None
  met-end i h = ap (λ r. table.first_met t (map view r)) (said-end read ls i h)
