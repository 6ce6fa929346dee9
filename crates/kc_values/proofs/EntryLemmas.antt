-- What the entries of a tree depend on, as the language says it.
use Rattle.std.proofs.Common.{Bool, None, Option, Some, ap, false, refl, suc, sym, true, ℕ, ◌<◌, ◌∙◌, ◌≡◌}
use Rattle.kc_language.specs.{Statements.{ChoiceLine, IfLine, Numbered}, Symbols.{choice_number, dependency}, declared.expressions.Tri.Tri}
use Rattle.kc_tree.specs.{EntryViews.{begins_choice, entry_count, head_at, index_of, is_choice_line, statements_in}, Layouts.place_of, declared.layout.Layout.Layout}
use Rattle.kc_tree.proofs.{ChoiceAtLemmas.{choice-at-entry, choice-at-none}, ChoiceLemmas.{choice-at, choice-dependency, choice-there}, DefinitionLemmas.{is_plain, plain-dependency}}
use Rattle.kc_values.specs.AtTable as table
use Rattle.kc_values.specs.{Computed.dependency_of, TableFacts.known_at, declared.table.Table.Table}

-- whether a line is an `if`
abbrev pub is_if : Option Numbered → Bool
is_if (Some (IfLine e)) = true
is_if _ = false

plain-by : (o : Option Numbered) → is_if o ≡ false → is_choice_line o ≡ false → is_plain o ≡ true
plain-by (Some (IfLine e)) i c = absurd cc
plain-by (Some ChoiceLine) i c = absurd cc
plain-by _ i c = refl

module _ (t : Table) (e : ℕ) (h : e < entry_count t.layout.now.entries) where
  abbrev l : Layout
  l = t.layout.now

  dependency-by : (b : Bool) → begins_choice l.entries e ≡ b → is_if (head_at l.entries e) ≡ false →
      table.dependency t (suc e) ≡ table.condition t (dependency (statements_in l.entries) (index_of l.entries e))
  dependency-by true b i =
      let is = choice-there l e h b in
      let k = choice_number (statements_in l.entries) (index_of l.entries e) in
      let f = choice-at l k is.row is.at in
      let same : f.0 ≡ e = (let both : suc (f.0) ≡ suc e = sym (f.1).entry ∙ is.entry in cc) in
      ap (λ (o : Option ℕ). elim o as (λ _. Tri) [ Some n ↦ table.choice_dependency t n | None ↦ table.context t (place_of l (suc e)).context.0 ]) (choice-at-entry l e h b)
      ∙ ap (dependency_of t.tree.now l (known_at t)) is.at
      ∙ ap (table.condition t) (choice-dependency l k is.row (f.0) (f.1) ∙ ap (λ n. dependency (statements_in l.entries) (index_of l.entries n)) same)
  dependency-by false b i =
      ap (λ (o : Option ℕ). elim o as (λ _. Tri) [ Some k ↦ table.choice_dependency t k | None ↦ table.context t (place_of l (suc e)).context.0 ]) (choice-at-none l e b)
      ∙ ap (table.condition t) (plain-dependency l e h (plain-by (head_at l.entries e) i b))

  -- what an entry that is no `if` depends on is the language's dependency of its line, of a choice too
  pub entry-dependency : is_if (head_at l.entries e) ≡ false → table.dependency t (suc e) ≡ table.condition t (dependency (statements_in l.entries) (index_of l.entries e))
  entry-dependency i = dependency-by (begins_choice l.entries e) refl i
