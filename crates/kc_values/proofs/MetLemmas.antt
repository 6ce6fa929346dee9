-- What was found is the first whose condition is not n.
use Rattle.std.proofs.Common.{None, Option, Some, ap, refl, ◌∙◌, ◌≡◌}
use Rattle.std.specs.{Borrow.Bor, Option.option_or}
use Rattle.kc_language.specs.{Expressions.{Form, Leaf, lesser, text, value}, Symbols.{Bounds, Condition, Guarded}, Values.{default_value, number_or_zero}, declared.{expressions.{SymbolType.SymbolType, Tri.Tri}, values.Interval.Interval}}
use Rattle.kc_expr.specs.Form.{form_of, leaf_of}
use Rattle.kc_entries.specs.declared.statement.{SymbolDefault.SymbolDefault, SymbolRange.SymbolRange}
use Rattle.kc_tree.specs.{Layouts.range_view, LineParts.range_said}
use Rattle.kc_values.specs.{FoundRows.{IsMetDefault, IsMetRange}, PartsOfValues.interval, TableFacts.known_at, declared.table.Table.Table}

module _ (t : Table) where
  -- then what else there is does not count
  pub default-some : (o others : Option (Guarded Form)) (found : Bor SymbolDefault × Tri) → IsMetDefault t o (Some found) → o ≡ option_or o others
  default-some None others found h = absurd cc
  default-some (Some g) others found h = refl

  pub default-none : (o others : Option (Guarded Form)) → IsMetDefault t o None → option_or o others ≡ others
  default-none None others h = refl
  default-none (Some g) others h = absurd h

  -- and what it is worth
  pub default-worth : (o : Option (Guarded Form)) (found : Bor SymbolDefault × Tri) (x : Tri) → IsMetDefault t o (Some found) → x ≡ value (known_at t) t.tree.now.modules (form_of found.0.now.value.value) →
      lesser x (found.1) ≡ default_value t.tree.now (known_at t) o
  default-worth None found x h e = absurd cc
  default-worth (Some g) found x h e = λ j. lesser ((e ∙ ap (value (known_at t) t.tree.now.modules) (h.0)) j) ((h.1) j)

  pub range-some : (o others : Option (Guarded Bounds)) (found : Bor SymbolRange) → IsMetRange t o (Some found) → o ≡ option_or o others
  range-some None others found h = absurd cc
  range-some (Some g) others found h = refl

  pub range-none : (o others : Option (Guarded Bounds)) → IsMetRange t o None → option_or o others ≡ others
  range-none None others h = refl
  range-none (Some g) others h = absurd h

  -- and its bounds are those of the row that was found
  pub range-bounds : (symbol_type : SymbolType) (o : Option (Guarded Bounds)) (found : Bor SymbolRange) (dep : Condition) → IsMetRange t o (Some found) →
      interval (known_at t) symbol_type (Some (range_view dep (range_said found.now))) ≡ interval (known_at t) symbol_type o
  range-bounds symbol_type None found dep h = absurd cc
  range-bounds symbol_type (Some g) found dep h =
      let F : Leaf → Leaf → Option Interval = λ x y. Some (record { low = number_or_zero symbol_type (text (known_at t) x); high = number_or_zero symbol_type (text (known_at t) y) }) in
      ap (λ x. F x (leaf_of found.now.high)) h.0 ∙ ap (F g.what.low) h.1
