-- The nodes of a row are there, and those of a group's row stand before it.
use Rattle.std.proofs.{Common.{Bool, List, None, Option, Some, [], ap, arith, cond, false, inl, inr, length, nat_le, nat_lt, refl, reverse, subst, suc, sym, true, zero, ℕ, ◌&&◌, ◌<◌, ◌==◌, ◌||◌, ◌∙◌, ◌∷◌, ◌≡◌, ◌≤◌}, lemmas.{Bool.{cases_lt, true≢false}, List.Folds.{list_any-append, list_any_at}, Option.slice_get_past}}
use Rattle.std.specs.{List.{Contains, flat_map, list_any}, Prelude.{filter, slice_get}}
use Rattle.kc_language.specs.{Expressions.Form, Statements.{ChoiceLine, InputPrompt, Numbered}, Symbols.TreeFacts, declared.{expressions.{SymId.SymId, SymbolType.{SymbolType, TheVariants.{Bool as IsBool, Hex, Int, Str, Tristate, Undefined}}}, symbols.{ChoiceId.ChoiceId, SelectOrImply.SelectOrImply}}}
use Rattle.kc_language.specs.declared.symbols.SelectOrImply.TheVariants as word
use Rattle.kc_entries.specs.{StatementViews.head_view, declared.entries.Entry.Entry}
use Rattle.kc_tree.specs.{EntryViews.entry_count, Layouts.{definitions_at, entry_at, lines_up_to, member_named, outer_context, outer_visible, place_of, prompt_in, said_at, symbol_at, target_in, visible_menu}, Places.says, declared.{layout.Layout.Layout, rows.{Choice.Choice, Selector.Selector, Symbol.Symbol}}}
use Rattle.kc_tree.proofs.{OuterLemmas.outer_context-before, VisibleLemmas.{menu-at, outer_visible-before}}
use Rattle.kc_values.specs.NeedRows as rows
use Rattle.kc_values.specs.{NeedRows.{Needed, both, each, named, node, where_true}, Nodes.{choice_number, context_number, dependency_number, first_context, first_dependency, visible_number}, PartsOfNeeds.type_names}
use Rattle.kc_values.proofs.{AnyLemmas.{any_filter, any_flat, any_map, any_none}, PlacesThere.{context_there, visible_there}}

-- no number of a list is at the bound or beyond
abbrev pub far : ℕ → ℕ → Bool
far b t = nat_le b t

abbrev pub none : ℕ → List ℕ → Type 0
none b ns = list_any (far b) ns ≡ false

near : (b t : ℕ) → t < b → far b t ≡ false
near b t h = grind arith

far_true : (b t : ℕ) → b ≤ t → far b t ≡ true
far_true b t h = grind arith

pub below : (b : ℕ) (ns : List ℕ) (t : ℕ) → none b ns → Contains ns t → t < b
below b ns t e c =
    elim (cases_lt t b) [
      | inl h ↦ h
      | inr h ↦ absurd (true≢false (sym (list_any_at (far b) ns c.0 t c.1 (ap (far b) c.2 ∙ far_true b t h)) ∙ e))
    ]

-- what a row holds
module _ (b : ℕ) where
  abbrev pub low : Needed → Type 0
  low n = none b n.nodes

  low_both : (m n : Needed) → low m → low n → low (both m n)
  low_both m n e f = list_any-append (far b) m.nodes n.nodes ∙ ap (λ x. x || list_any (far b) n.nodes) e ∙ f

  low_where : (t : Bool) (n : Needed) → low n → low (where_true t n)
  low_where true n e = e
  low_where false n e = refl

  low_each : {X : Type 0} (f : X → Needed) → ((x : X) → low (f x)) → (xs : List X) → low (each f xs)
  low_each {X} f h xs =
      let nodes : X → List ℕ = λ x. (f x).nodes in
      any_flat (far b) nodes xs ∙ any_none (λ x. list_any (far b) (f x).nodes) h xs

  low_node : (t : ℕ) → t < b → low (node t)
  low_node t h = ap (λ x. x || false) (near b t h)

  low_unless : (t : Bool) (n : ℕ) → n < b → none b (cond t [] (n ∷ []))
  low_unless true n h = refl
  low_unless false n h = ap (λ x. x || false) (near b n h)

module _ (l : Layout) (b : ℕ) where
  context_low : (at : ℕ) → context_number l at < b → low b (rows.context l at)
  context_low at h = low_unless b (at == 0) (context_number l at) h

  visible_low : (v : ℕ) → visible_number l v < b → low b (rows.visible l v)
  visible_low v h = low_unless b (v == 0) (visible_number l v) h

  -- the names are symbols
  pub row_low : (n : Needed) → length l.symbols.items ≤ b → low b n → none b (rows.row_of l n)
  row_low n fits h =
      list_any-append (far b) n.nodes (rows.numbers l n.names) ∙ ap (λ x. x || list_any (far b) (rows.numbers l n.names)) h
      ∙ any_map (far b) (λ (s : SymId). s.0) (filter (λ (s : SymId). nat_lt s.0 (length l.symbols.items)) n.names)
      ∙ any_filter (λ (s : SymId). far b s.0) (λ (s : SymId). nat_lt s.0 (length l.symbols.items)) n.names
      ∙ any_none (λ (s : SymId). nat_lt s.0 (length l.symbols.items) && far b s.0) (λ s. one s.0) n.names
    where
      one : (k : ℕ) → (nat_lt k (length l.symbols.items) && far b k) ≡ false
      one k = grind arith

  -- where the menus stand below the bound
  module _ (menus : first_context l ≤ b) where
    prompt_low : (at : ℕ) (q : InputPrompt Form) → low b (rows.prompt l (place_of l at) q)
    prompt_low at q =
        let there = visible_there l at in
        low_both b (rows.visible l (place_of l at).visible.0) (named (rows.when_names l.modules q.when)) (visible_low (place_of l at).visible.0 (omega (arith, there, menus))) refl

    mode_low : (at : ℕ) (own : List Numbered) (o : Option (InputPrompt Form)) → low b (rows.mode_by l (place_of l at) own o)
    mode_low at own None = refl
    mode_low at own (Some q) = low_both b (rows.depends l own) (rows.prompt l (place_of l at) q) refl (prompt_low at q)

    asked_low : (at : ℕ) (s : Numbered) (own : List Numbered) → low b (rows.asked l (place_of l at) s own)
    asked_low at ChoiceLine own = mode_low at own (prompt_in l (place_of l at))
    asked_low at _ own = refl

    entry_low : (at : ℕ) (o : Option Entry) → context_number l (outer_context l at) < b → low b (rows.context_by l at o)
    entry_low at None h = refl
    entry_low at (Some x) h =
        low_both b (rows.context l (outer_context l at)) (rows.asked l (place_of l at) (head_view x.head) (said_at l at))
        (context_low (outer_context l at) h) (asked_low at (head_view x.head) (said_at l at))

  -- and where the entries do
  module _ (entries : first_dependency l ≤ b) where
    place_low : (at : ℕ) → low b (rows.context l (place_of l at).context.0)
    place_low at = let there = context_there l at in context_low (place_of l at).context.0 (omega (arith, there, entries))

    own_prompt_low : (at : ℕ) (o : Option (InputPrompt Form)) → low b (rows.own_prompt l (place_of l at) o)
    own_prompt_low at None = refl
    own_prompt_low at (Some q) = low_both b (rows.context l (place_of l at).context.0) (rows.prompt l (place_of l at) q) (place_low at) (prompt_low (omega (arith, entries)) at q)

    asking_low : (t : Bool) (at : ℕ) (o : Option (InputPrompt Form)) → low b (rows.asking l t (place_of l at) o)
    asking_low t at None = low_where b t (rows.context l (place_of l at).context.0) (place_low at)
    asking_low t at (Some q) = own_prompt_low at (Some q)

    definition_low : (t : SymbolType) (at : ℕ) → low b (rows.definition l t at)
    definition_low t at =
        low_both b (rows.asking l (rows.is_read l t (said_at l at)) (place_of l at) (prompt_in l (place_of l at))) (named (flat_map (rows.line_names l.modules (rows.is_number t)) (said_at l at)))
        (asking_low (rows.is_read l t (said_at l at)) at (prompt_in l (place_of l at))) refl

    definitions_low : (t : SymbolType) (s : SymId) (at : ℕ) → low b (rows.definitions l t s at)
    definitions_low t s at = low_each b (λ e. rows.definition l t (suc e)) (λ e. definition_low t (suc e)) (definitions_at l s at)

    prompts_low : (s : SymId) (at : ℕ) → low b (rows.prompts l s at)
    prompts_low s at =
        low_each b (λ e. rows.own_prompt l (place_of l (suc e)) (prompt_in l (place_of l (suc e)))) (λ e. own_prompt_low (suc e) (prompt_in l (place_of l (suc e)))) (definitions_at l s at)

    selector_low : (o : Option Selector) → low b (rows.selector_at l o)
    selector_low None = refl
    selector_low (Some r) = by (symbol_at l r.entry.0) (target_in l r)
      where
        by : (s : Option SymId) (t : Option (SelectOrImply × SymId × Option Form)) → low b (rows.selector_by l (place_of l r.entry.0) s t)
        by None t = refl
        by (Some s) None = refl
        by (Some s) (Some t) =
            low_both b (both (named (s ∷ [])) (rows.context l (place_of l r.entry.0).context.0)) (named (rows.when_names l.modules (t.2)))
            (low_both b (named (s ∷ [])) (rows.context l (place_of l r.entry.0).context.0) refl (place_low r.entry.0)) refl

    selectors_low : (w : SelectOrImply) (s : SymId) (at : ℕ) → low b (rows.selectors l w s at)
    selectors_low w s at = low_each b (λ j. rows.selector_at l (slice_get l.selectors.items j)) (λ j. selector_low (slice_get l.selectors.items j)) (reverse (lines_up_to l w s at))

    members_low : (ms : List SymId) → low b (rows.members l ms)
    members_low ms = low_each b (λ m. rows.member_by l m (slice_get l.symbols.items m.0)) (λ m. one m (slice_get l.symbols.items m.0)) ms
      where
        one : (m : SymId) (o : Option Symbol) → low b (rows.member_by l m o)
        one m None = refl
        one m (Some row) = prompts_low m row.first.0

    pub choice_low : (k : ℕ) (c : Choice) → dependency_number l k < b → low b (rows.choice l k c)
    choice_low k c h =
        low_both b (both (rows.members l c.members.items) (rows.choice_mode l k (place_of l c.entry.0) (prompt_in l (place_of l c.entry.0)))) (rows.choice_defaults l k (said_at l c.entry.0))
        (low_both b (rows.members l c.members.items) (rows.choice_mode l k (place_of l c.entry.0) (prompt_in l (place_of l c.entry.0))) (members_low c.members.items) (mode (prompt_in l (place_of l c.entry.0))))
        (low_where b (says (member_named l k) (said_at l c.entry.0)) (node (dependency_number l k)) (low_node b (dependency_number l k) h))
      where
        mode : (o : Option (InputPrompt Form)) → low b (rows.choice_mode l k (place_of l c.entry.0) o)
        mode None = refl
        mode (Some q) = low_both b (node (dependency_number l k)) (rows.prompt l (place_of l c.entry.0) q) (low_node b (dependency_number l k) h) (prompt_low (omega (arith, entries)) c.entry.0 q)

    pub dependency_low : (c : Choice) → low b (rows.dependency_row l c)
    dependency_low c = low_both b (rows.context l (outer_context l c.entry.0)) (rows.depends l (said_at l c.entry.0)) (place_low (place_of l c.entry.0).outer.0) refl

    truth_low : (tree : TreeFacts) (s : SymId) (row : Symbol) → low b (rows.truth tree l s row)
    truth_low tree s row =
        let defs = rows.definitions l row.symbol_type s row.first.0 in
        let selects = rows.selectors l word.Select s row.last_select.0 in
        let implies = rows.selectors l word.Imply s row.last_imply.0 in
        low_both b (both (both defs selects) implies) (named (type_names tree row.symbol_type))
        (low_both b (both defs selects) implies (low_both b defs selects (definitions_low row.symbol_type s row.first.0) (selectors_low word.Select s row.last_select.0)) (selectors_low word.Imply s row.last_imply.0)) refl

    type_low : (tree : TreeFacts) (s : SymId) (row : Symbol) (t : SymbolType) → low b (rows.by_type tree l s row t)
    type_low tree s row Undefined = refl
    type_low tree s row IsBool = truth_low tree s row
    type_low tree s row Tristate = truth_low tree s row
    type_low tree s row Str = definitions_low row.symbol_type s row.first.0
    type_low tree s row Int = definitions_low row.symbol_type s row.first.0
    type_low tree s row Hex = definitions_low row.symbol_type s row.first.0

    pub symbol_low : (tree : TreeFacts) (s : SymId) (row : Symbol) (o : Option ChoiceId) → ((k : ChoiceId) → o ≡ Some k → choice_number l k.0 < b) → low b (rows.by_choice tree l s row o)
    symbol_low tree s row None h = type_low tree s row row.symbol_type
    symbol_low tree s row (Some k) h = low_node b (choice_number l k.0) (h k refl)

-- An entry needs entries before it, and a menu menus before it.
module _ (l : Layout) where
  pub context_row_low : (at : ℕ) → low (context_number l at) (rows.context_row l at)
  context_row_low zero = refl
  context_row_low (suc e) =
      low_where (context_number l (suc e)) ((place_of l (suc e)).context.0 == suc e) (rows.context_by l (suc e) (entry_at l (suc e)))
      (elim (cases_lt e (entry_count l.entries)) [
        | inl h ↦
            let before = outer_context-before l e h in
            entry_low l (context_number l (suc e)) (omega arith) (suc e) (entry_at l (suc e)) (omega (arith, before))
        | inr h ↦ subst (λ o. low (context_number l (suc e)) (rows.context_by l (suc e) o)) (sym (slice_get_past l.entries.first_lines.items e h)) refl
      ])

  pub visible_row_low : (v : ℕ) → v ≤ length l.visibles.items → low (visible_number l v) (rows.visible_row l (visible_menu l v))
  visible_row_low zero h = refl
  visible_row_low (suc u) h =
      let m = menu-at l u (omega (arith, h)) in
      let before = outer_visible-before l u (m.0) (m.1) in
      subst (λ menu. low (visible_number l (suc u)) (rows.visible_row l menu)) (sym ((m.1).is))
      (low_both (visible_number l (suc u)) (rows.visible l (outer_visible l (suc (m.0)))) (named (rows.visible_row l (suc (m.0))).names)
      (visible_low l (visible_number l (suc u)) (outer_visible l (suc (m.0))) (omega (arith, before))) refl)
