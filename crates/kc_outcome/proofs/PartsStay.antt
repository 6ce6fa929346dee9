-- While the symbols of a part of a condition keep their values, the part does not rise.
use Rattle.std.proofs.Common.{◌≡◌, refl, ap, ◌∙◌, inl, inr, ℕ}
use Rattle.std.proofs.lemmas.Bool.{cases_Bool}
use Rattle.std.specs.List.{AllByRecursion, cons_option, flat_map}
use Rattle.std.specs.Prelude.{List, None, Option, Some, [], filter, if◌then◌else◌, map, option_map, slice_get, ◌++◌, ◌∷◌}
use Rattle.kc_language.specs.{Expansion.{enclosing}, Expressions.{Form, SymbolValue, symbols, value}, Statements.{IfLine, InputPrompt, Located, MenuLine, Numbered, statements}, Symbols.{Condition, TreeFacts, choice_facts, facts_with, listed, of_block, prompt_at, dependency_in, visible_in}, Values.{and_value, choice_at, mode_of, upgrade}, declared.{expressions.{SymId.{SymId}, Tri.{TheVariants.{N}, Tri}}, statements.Block.{Block}}}
use Rattle.kc_outcome.specs.Explanations.{Asked, AtMost, ConditionPart, ModeOf, PartIs, Said, Worth, block_parts, dependency_parts, is_y, mode_names, mode_parts, names_of_fact, own_names, part_value, parts_at, parts_value, prompt_lines, shown_parts, worth, worth_names}
use Rattle.kc_outcome.proofs.TriLemmas.{at_most_lesser, at_most_same, at_most_upgrade, at_most_y, y_of}
use Rattle.kc_outcome.proofs.DependsOnSymbols.{value_same}
use Rattle.kc_outcome.proofs.ExplanationParts.{prompt_worths}
use Rattle.kc_outcome.proofs.FactLists.{back, both, changed, flat, front, mapped, of_flat}
use Rattle.kc_outcome.proofs.SaidLines.{prompt_entries, prompts_are, shown}
use Rattle.kc_outcome.proofs.TreeParts.{choice_is, choice_start}

-- ---- The parts of a condition that are expressions: all but the mode of a choice
module _ (ss : List Numbered) where
  abbrev IsWorth : ConditionPart → Type 0
  IsWorth p = elim p.asks [ Worth e ↦ Unit {0} | ModeOf k ↦ ⊥ ]

  abbrev pub own_parts : ℕ → List ConditionPart
  own_parts i = flat_map (block_parts ss) (enclosing ss i) ++ parts_at ss dependency_in i

  lines_ask : (read : Numbered → Option Form) (i : ℕ) → AllByRecursion IsWorth (parts_at ss read i)
  lines_ask read i = mapped IsWorth (λ l. worth l.at l.what) _ (λ l. tt)

  blocks_ask : (j : ℕ) → AllByRecursion IsWorth (block_parts ss j)
  blocks_ask j = of (slice_get ss j)
    where
      of : (o : Option Numbered) → AllByRecursion IsWorth (elim o [ Some (IfLine e) ↦ worth j e ∷ [] | Some (MenuLine t) ↦ parts_at ss dependency_in j | _ ↦ [] ])
      of (Some (IfLine e)) = (tt, tt)
      of (Some (MenuLine t)) = lines_ask dependency_in j
      of _ = tt

  own_ask : (i : ℕ) → AllByRecursion IsWorth (own_parts i)
  own_ask i = both IsWorth (flat_map (block_parts ss) (enclosing ss i)) _ (flat IsWorth (block_parts ss) (enclosing ss i) blocks_ask) (lines_ask dependency_in i)

  shown_ask : (p : Said (InputPrompt Form)) → AllByRecursion IsWorth (shown_parts ss p)
  shown_ask p = let menus = filter (of_block ss Block.Menu) (enclosing ss p.entry) in
      both IsWorth (flat_map (parts_at ss visible_in) menus) _ (flat IsWorth (parts_at ss visible_in) menus (lines_ask visible_in))
      (mapped IsWorth (worth p.at) (listed (p.what).when) (λ e. tt))

module _ (names : List (List ℕ)) (lines : List (Located Numbered)) (known v : SymId → SymbolValue) where
  abbrev ss : List Numbered
  ss = statements lines

  abbrev tree : TreeFacts
  tree = facts_with names lines

  abbrev pub Keeps : List SymId → Type 0
  Keeps = AllByRecursion (λ t. v t ≡ known t)

  -- ---- A part whose symbols keep their values does not rise.
  abbrev pub Stays : ConditionPart → Type 0
  Stays p = AtMost (part_value tree v p) (part_value tree known p)

  abbrev pub AllStay : List ConditionPart → Type 0
  AllStay = AllByRecursion Stays

  pub least_stays : (ps : List ConditionPart) → AllStay ps → AtMost (parts_value tree v ps) (parts_value tree known ps)
  least_stays [] h = refl
  least_stays (p ∷ ps) h = at_most_lesser _ _ _ _ h.0 (least_stays ps h.1)

  form_stays : (e : Form) → Keeps (if is_y (value known tree.modules e) then [] else symbols tree.modules e) → AtMost (value v tree.modules e) (value known tree.modules e)
  form_stays e h = elim (cases_Bool (is_y (value known tree.modules e))) [
    | inl y ↦ at_most_y _ _ (y_of (value known tree.modules e) y)
    | inr y ↦ let kept : Keeps (symbols tree.modules e) = rw y at h in at_most_same _ _ (value_same v known tree.modules e kept)
  ]

  pub own_stays : (at : ℕ) (w : Option Form) → Keeps (own_names ss tree known w) → AllStay (map (worth at) (listed w))
  own_stays at None h = tt
  own_stays at (Some e) h = (form_stays e (front (λ t. v t ≡ known t) _ [] h), tt)

  worth_stays : (at : ℕ) (a : Asked) → IsWorth ss (record { at = at; asks = a }) → Keeps (worth_names ss tree known (record { at = at; asks = a })) →
      Stays (record { at = at; asks = a })
  worth_stays at (Worth e) is h = form_stays e (front (λ t. v t ≡ known t) _ [] h)
  worth_stays at (ModeOf k) is h = absurd is

  worths_stay : (ps : List ConditionPart) → AllByRecursion (IsWorth ss) ps → AllByRecursion (λ p. Keeps (worth_names ss tree known p)) ps → AllStay ps
  worths_stay [] are h = tt
  worths_stay (p ∷ ps) are h = (worth_stays p.at p.asks are.0 h.0, worths_stay ps are.1 h.1)

  -- ---- The mode of a choice
  abbrev pub ModeStays : ℕ → Type 0
  ModeStays k = AtMost (mode_of tree v (choice_at tree k)) (mode_of tree known (choice_at tree k))

  abbrev mode_by : (SymId → SymbolValue) → List Condition → Tri
  mode_by u cs = upgrade (elim cs [ [] ↦ N | c ∷ more ↦ and_value tree u c.conjuncts ])

  mode_is : (u : SymId → SymbolValue) (k j : ℕ) → choice_start ss k ≡ Some j → mode_of tree u (choice_at tree k) ≡ mode_by u (map (shown ss) (prompt_lines ss (j ∷ [])))
  mode_is u k j e =
      let at : choice_at tree k ≡ Some (choice_facts ss j) = choice_is names lines k ∙ ap (option_map (choice_facts ss)) e in
      ap (mode_of tree u) at ∙ of (prompt_at ss j) ∙ ap (mode_by u) (prompts_are ss (j ∷ []))
    where
      of : (o : Option Condition) → upgrade (elim o [ None ↦ N | Some p ↦ and_value tree u p.conjuncts ]) ≡ mode_by u (cons_option o [])
      of None = refl
      of (Some p) = refl

  shown_stays : (p : Said (InputPrompt Form)) → AllStay (own_parts ss p.entry) → AllStay (shown_parts ss p) →
      AtMost (and_value tree v (shown ss p).conjuncts) (and_value tree known (shown ss p).conjuncts)
  shown_stays p own h = rw (prompt_worths ss tree v p, prompt_worths ss tree known p)
      (least_stays (own_parts ss p.entry ++ shown_parts ss p) (both Stays (own_parts ss p.entry) (shown_parts ss p) own h))

  pub mode_of_parts : (k j : ℕ) → choice_start ss k ≡ Some j → AllStay (own_parts ss j) → AllByRecursion (λ p. AllStay (shown_parts ss p)) (prompt_lines ss (j ∷ [])) → ModeStays k
  mode_of_parts k j e own h = rw (mode_is v k j e, mode_is known k j e)
      (of (prompt_lines ss (j ∷ [])) (prompt_entries ss (λ i. AllStay (own_parts ss i)) (j ∷ []) (own, tt)) h)
    where
      of : (ps : List (Said (InputPrompt Form))) → AllByRecursion (λ p. AllStay (own_parts ss p.entry)) ps → AllByRecursion (λ p. AllStay (shown_parts ss p)) ps →
          AtMost (mode_by v (map (shown ss) ps)) (mode_by known (map (shown ss) ps))
      of [] own h = refl
      of (p ∷ ps) own h = at_most_upgrade _ _ (shown_stays p own.0 h.0)

  abbrev worths_of : List ConditionPart → List SymId
  worths_of ps = flat_map (worth_names ss tree known) ps

  abbrev mode_names_at : ℕ → List SymId
  mode_names_at j = worths_of (dependency_parts ss j) ++ flat_map (λ p. worths_of (shown_parts ss p)) (prompt_lines ss (j ∷ []))

  mode_stays : (k : ℕ) → Keeps (mode_names ss tree known k) → ModeStays k
  mode_stays k h = of (choice_start ss k) refl h
    where
      of : (o : Option ℕ) → choice_start ss k ≡ o → Keeps (flat_map mode_names_at (listed o)) → ModeStays k
      of None e h = let at : choice_at tree k ≡ None = choice_is names lines k ∙ ap (option_map (choice_facts ss)) e in rw at refl
      of (Some j) e h =
          let P = λ (t : SymId). v t ≡ known t in
          let W = worth_names ss tree known in
          let ps = prompt_lines ss (j ∷ []) in
          let own = worths_of (dependency_parts ss j) in
          let others = flat_map (λ p. worths_of (shown_parts ss p)) ps in
          let all = front P (own ++ others) [] h in
          let kept = of_flat P W (dependency_parts ss j) (front P own others all) in
          mode_of_parts k j e (worths_stay (own_parts ss j) (own_ask ss j) (front (λ p. Keeps (W p)) (own_parts ss j) (mode_parts ss j) kept))
          (changed _ _ ps (λ p g. worths_stay (shown_parts ss p) (shown_ask ss p) (of_flat P W (shown_parts ss p) g)) (of_flat P (λ p. worths_of (shown_parts ss p)) ps (back P own others all)))

  pub part_stays : (at : ℕ) (a : Asked) → Keeps (names_of_fact ss tree known (PartIs (record { at = at; asks = a }) (part_value tree known (record { at = at; asks = a })))) →
      Stays (record { at = at; asks = a })
  part_stays at (Worth e) h = form_stays e h
  part_stays at (ModeOf k) h = elim (cases_Bool (is_y (mode_of tree known (choice_at tree k)))) [
    | inl y ↦ at_most_y _ _ (y_of (mode_of tree known (choice_at tree k)) y)
    | inr y ↦ let kept : Keeps (mode_names ss tree known k) = rw y at h in mode_stays k kept
  ]
