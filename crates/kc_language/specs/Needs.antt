-- Trusted: 9. Needs: which symbols the equation of a symbol names, which trees are accepted, and which dependency loop is reported.
-- Source: the kernel's kconfig-language document refuses recursive dependencies. Which symbols count, and which loop is reported, is our own.
use Rattle.std.specs.{List.{IsDistinct, filter, flat_map, list_any, range_with_len}, Prelude.{Bool, List, None, Option, Some, [], codes, false, find, length, map, nat_eq, nat_lt, slice_index, slice_index_or, suc, take, true, zero, ℕ, ◌&&◌, ◌++◌, ◌+◌, ◌<◌, ◌∷◌, ◌≡◌}}
use Rattle.kc_language.specs.{Expansion.{Refused}, Expressions.{leaf_symbols, symbol, symbols}, Symbols.{Bounds, ChoiceFacts, Condition, Guarded, SymbolFacts, TreeFacts, listed}, Values.{choice_at, facts, name, name_count}, declared.{diagnostics.Cause.Cause, expressions.{SymId.SymId, SymbolType.{SymbolType, TheVariants.{Bool as IsBool, Str, Tristate, Undefined}}}}}

module _ (tree : TreeFacts) where
  -- A condition names what its conjuncts name and, inside a choice, what the conjuncts of the choice's prompt name.
  abbrev pub conjunct_names : Option Condition → List SymId
  conjunct_names c = elim c [ None ↦ [] | Some c ↦ flat_map (symbols tree.modules) c.conjuncts ]

  abbrev pub condition_names : Condition → List SymId
  condition_names c = conjunct_names (Some c) ++ elim c.mode [ None ↦ [] | Some k ↦ elim (choice_at tree k) [ None ↦ [] | Some c ↦ conjunct_names c.prompt ] ]

  abbrev pub guarded_names : {X : Type 0} → (X → List SymId) → List (Guarded X) → List SymId
  guarded_names names gs = flat_map (λ g. names g.what ++ condition_names g.when) gs

  -- A symbol with a type names what its prompts and defaults name. A bool or tristate also names its dependencies, each symbol that selects or
  -- implies it, with the condition, and, if a tristate, the modules symbol. An int or hex also names the bounds and conditions of its ranges.
  abbrev pub names_of_all : SymbolFacts → List SymId
  names_of_all f = flat_map condition_names f.prompts ++ guarded_names (symbols tree.modules) f.defaults

  abbrev pub names_of_truth : SymbolFacts → List SymId
  names_of_truth f = names_of_all f ++ (flat_map condition_names f.dependencies ++ (guarded_names (λ s. s ∷ []) f.selectors ++
      (guarded_names (λ s. s ∷ []) f.impliers ++ elim f.symbol_type [ Tristate ↦ listed tree.modules | _ ↦ [] ])))

  abbrev pub names_of_number : SymbolFacts → List SymId
  names_of_number f = names_of_all f ++ guarded_names (λ (r : Bounds). leaf_symbols r.low ++ leaf_symbols r.high) f.ranges

  abbrev pub names_by_type : SymbolFacts → SymbolType → List SymId
  names_by_type f k = elim k [ Undefined ↦ [] | IsBool ↦ names_of_truth f | Tristate ↦ names_of_truth f | Str ↦ names_of_all f | _ ↦ names_of_number f ]

  -- A member of a choice instead names what these name: the prompts of all members, the choice's prompt, and the conditions of its defaults.
  abbrev pub names_of_choice : Option ChoiceFacts → List SymId
  names_of_choice None = []
  names_of_choice (Some c) = flat_map (λ m. elim (facts tree m) [ None ↦ [] | Some f ↦ flat_map condition_names f.prompts ]) c.members ++
      (conjunct_names c.prompt ++ guarded_names (λ s. []) c.defaults)

  abbrev pub named_by : Option SymbolFacts → List SymId
  named_by o = elim o [ None ↦ [] | Some f ↦ elim f.choice [ None ↦ names_by_type f f.symbol_type | Some c ↦ names_of_choice (choice_at tree c) ] ]

  -- What the symbol of a number needs: the symbols that its equation names, by number.
  abbrev pub needs_of : ℕ → List ℕ
  needs_of i = map (λ (s : SymId). s.0) (filter (λ s. nat_lt s.0 (name_count tree)) (named_by (facts tree (symbol i))))

  abbrev pub needs : List (List ℕ)
  needs = map needs_of (range_with_len 0 (length tree.symbols))

-- At first every symbol is unordered. Each step keeps those that need a symbol still unordered: after k steps, those with a chain of k needs.
-- A tree is accepted if after as many steps as there are symbols none is unordered: then no chain of needs comes back to its first symbol.
abbrev pub needs_in : List (List ℕ) → ℕ → List ℕ
needs_in needs s = slice_index_or needs s []

abbrev pub unordered_after : (ℕ → List ℕ) → ℕ → ℕ → Bool
unordered_after graph zero s = true
unordered_after graph (suc k) s = list_any (unordered_after graph k) (graph s)

abbrev pub IsAccepted : TreeFacts → Type 0
IsAccepted tree = (s : ℕ) → s < length (needs tree) → unordered_after (needs_in (needs tree)) (length (needs tree)) s ≡ false

-- A walk begins at the first unordered symbol of the sequence. Each next symbol is the first unordered one that the symbol before it needs.
pub record IsUnorderedWalk (sequence : List ℕ) (n : ℕ) (needs : ℕ → List ℕ) (walk : List ℕ) : Type 0 where
  pub begins : find (unordered_after needs n) sequence ≡ Some (slice_index walk 0)
  pub goes_on : (k : ℕ) → k + 1 < length walk →
      find (λ u. unordered_after needs n u && list_any (nat_eq u) (needs (slice_index walk k))) sequence ≡ Some (slice_index walk (k + 1))

-- The loop that is reported: a walk leads to it, goes round it once, and ends at the loop's first symbol. Before that no symbol comes twice.
pub record IsNamedLoop (sequence : List ℕ) (n : ℕ) (needs : ℕ → List ℕ) (loop : List ℕ) : Type 0 where
  pub lead : List ℕ
  pub some : 0 < length loop
  pub walk : IsUnorderedWalk sequence n needs (lead ++ loop ++ take 1 loop)
  pub apart : IsDistinct nat_eq (lead ++ loop)

-- `A -> B -> A`: the loop's names, the first one again at the end.
abbrev pub arrows : TreeFacts → List ℕ → List ℕ
arrows tree ss = flat_map (λ s. codes " -> " ++ name tree (symbol s)) ss

abbrev pub loop_text : TreeFacts → List ℕ → List ℕ
loop_text tree loop = elim loop [ [] ↦ [] | s ∷ ss ↦ name tree (symbol s) ++ arrows tree ss ++ arrows tree (s ∷ []) ]

-- The text of the tree's loop. If the walk can go on to several symbols, it takes the one that is defined first. The refusal has no location.
abbrev pub IsLoopText : TreeFacts → List ℕ → Type 0
IsLoopText tree text = (loop : List ℕ) ×
    IsNamedLoop (map (λ (s : SymId). s.0) tree.defined) (length (needs tree)) (needs_in (needs tree)) loop × (text ≡ loop_text tree loop)

abbrev pub loop_refused : List ℕ → Refused
loop_refused text = record { cause = Cause.Loop text; location = None }
