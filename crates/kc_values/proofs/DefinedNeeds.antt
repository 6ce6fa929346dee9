-- A symbol that needs something is defined.
use Rattle.std.proofs.{Common.{None, Option, Some, [], ap, arith, length, map, refl, subst, ℕ, ◌∙◌, ◌≡◌}, Math.ListN.get_or-map, lemmas.List.length-map}
use Rattle.std.specs.List.{Contains}
use Rattle.kc_language.specs.{Expressions.symbol, Needs.{named_by, names_by_type, needs, needs_in}, Symbols.{SymbolFacts, TreeFacts}, Values.facts, declared.expressions.{SymId.SymId, SymbolType.TheVariants.Undefined}}
use Rattle.kc_values.specs.{Laws.NeedingAreDefined, PartsOfNeeds.{mentioned_numbers, names_by_choice}}
use Rattle.kc_entries.specs.WellFormed.{IsWellFormed}
use Rattle.kc_values.proofs.{ModeLaws.members_are_bools, TreeNeeds.needs_at}

module _ (tree : TreeFacts) (formed : IsWellFormed tree) where
  -- a symbol that has a choice or a type is defined
  pub typed : (s : SymId) (f : SymbolFacts) → facts tree s ≡ Some f → (f.choice ≡ None → f.symbol_type ≡ Undefined → ⊥) → Contains (map (λ (t : SymId). t.0) tree.defined) s.0
  typed s f at some =
      let there = formed.typed_defined s f at (by f.choice refl) in
      (there.0, omega (arith, there.1, length-map tree.defined (λ (t : SymId). t.0)), get_or-map (λ (t : SymId). t.0) tree.defined there.0 s ∙ ap (λ (t : SymId). t.0) there.2)
    where
      by : (c : Option ℕ) → f.choice ≡ c → f.symbol_type ≡ Undefined → ⊥
      by None e u = some e u
      by (Some c) e u = let b = members_are_bools tree formed s f c at e in absurd cc

  -- a symbol without a choice and a type names nothing
  no_names : (f : SymbolFacts) → f.choice ≡ None → f.symbol_type ≡ Undefined → names_by_choice tree f f.choice ≡ []
  no_names f none u = ap (names_by_choice tree f) none ∙ ap (names_by_type tree f) u

  by_facts : (s t : ℕ) (o : Option SymbolFacts) → facts tree (symbol s) ≡ o → Contains (mentioned_numbers tree (named_by tree o)) t → Contains (map (λ (t : SymId). t.0) tree.defined) s
  by_facts s t None e c = absurd (omega (arith, c.1))
  by_facts s t (Some f) e c =
      typed (symbol s) f e (λ none u.
      let no = ap (λ ns. length (mentioned_numbers tree ns)) (no_names f none u) in
      absurd (omega (arith, c.1, no)))

  needing_defined : (s t : ℕ) → Contains (needs_in (needs tree) s) t → Contains (map (λ (t : SymId). t.0) tree.defined) s
  needing_defined s t c = by_facts s t (facts tree (symbol s)) refl (subst (λ row. Contains row t) (needs_at tree s) c)

pub needing_are_defined : NeedingAreDefined
needing_are_defined tree formed s t c = needing_defined tree formed s t c
