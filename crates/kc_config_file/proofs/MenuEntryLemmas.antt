-- The entries of a layout that the menu has, and the text that they give.
use Rattle.std.proofs.{Common.{Bool, List, None, Option, Some, [], ap, arith, cond, false, length, refl, subst, suc, sym, true, zero, ℕ, ◌++◌, ◌+◌, ◌-◌, ◌<◌, ◌∙◌, ◌≡◌, ◌≤◌}, Math.{Bridge.le_prop, Logic.∥∥₁_elim}, lemmas.Option.slice_get_within}
use Rattle.std.specs.{List.{cons_option, filter_map, list_any, range_with_len}, Option.{is_some, option_and_then}, Prelude.{codes, if◌then◌else◌, option_map, slice_get, ◌==◌}}
use Rattle.kc_language.specs.{ConfigFile.Notation, Statements.{ConfigLine, EndMenuLine, MenuLine, Numbered}, Symbols.{EndShown, MenuShown, Shown, SymbolShown, TreeFacts, listed}, Texts.{Solution, SolutionView, shown_title}, declared.expressions.SymId.SymId}
use Rattle.kc_entries.specs.{ListFacts.is_menu_line, StatementViews.head_view, declared.{entries.{Entries.Entries, Entry.Entry}, statement.Head.Head}}
use Rattle.kc_entries.specs.declared.statement.Head.TheVariants as head
use Rattle.kc_read.proofs.MenuEndLemmas.{stands_at}
use Rattle.kc_tree.specs.{EntryViews.{entry_count, head_at, index_at, index_of, statements_in}, Layouts.{entries_in, is_first, is_shown, place_of, shown_before, shown_of, title_condition}, Stored.unstored, declared.{layout.Layout.Layout, rows.Symbol.Symbol}}
use Rattle.kc_tree.proofs.{IndexLemmas.head-is, ListLemmas.numbers-range, OuterLemmas.place-is}
use Rattle.kc_solve.specs.Tables.{IsTableOf}
use Rattle.kc_values.specs.declared.table.Table.{Table}
use Rattle.kc_config_file.specs.{EntryTexts.{ends_behind, entries_after, shown_at, text_of}, PartsOfTexts.end_if}

module _ (l : Layout) where
  abbrev es : Entries
  es = l.entries

  abbrev pub entry_shown : ℕ → Option Shown
  entry_shown e = shown_of l (suc e) (head_at es e)

  pub within : (i : ℕ) (x : Entry) → slice_get es.first_lines.items i ≡ Some x → i < entry_count es
  within i x e = slice_get_within es.first_lines.items i x e

  pub end-line : (i : ℕ) (x : Entry) → slice_get es.first_lines.items i ≡ Some x → x.head ≡ head.EndMenu → head_at es i ≡ Some EndMenuLine
  end-line i x e h = ap (option_map (λ (y : Entry). head_view y.head)) e ∙ ap (λ (y : Head). Some (head_view y)) h

  -- the title of the menu that an entry closes, by the number of the entry
  pub title-at : (solution : SolutionView) (i at outer : ℕ) → at ≡ suc i → outer ≡ (place_of l at).outer.0 → shown_title solution (shown_at l outer) ≡ shown_title solution (shown_at l (place_of l (suc i)).outer.0)
  title-at solution i at outer e f = ap (λ o. shown_title solution (shown_at l o)) (f ∙ ap (λ n. (place_of l n).outer.0) e)

  -- the menu that an end of a menu closes
  pub record Closes (outer : ℕ) : Type 0 where
    pub menu : ℕ
    pub is : outer ≡ suc menu
    pub there : menu < entry_count es
    pub title : List ℕ
    pub head : head_at es menu ≡ Some (MenuLine title)

  menu_line : (m : ℕ) (o : Option Numbered) → head_at es m ≡ o → is_menu_line o ≡ true → m < entry_count es → Closes (suc m)
  menu_line m (Some (MenuLine t)) e h there = record { menu = m; is = refl; there = there; title = t; head = e }
  menu_line m _ e h there = absurd cc

  closes-by : (m : ℕ) (o : Option Entry) → slice_get es.first_lines.items m ≡ o →
      is_menu_line (option_and_then (slice_get (statements_in es)) (option_map (λ (x : Entry). index_of es m) o)) ≡ true → Closes (suc m)
  closes-by m None e h = absurd cc
  closes-by m (Some x) e h = menu_line m (head_at es m) refl (ap is_menu_line (sym (head-is es m)) ∙ h) (slice_get_within es.first_lines.items m x e)

  closes-at : (outer : ℕ) → is_menu_line (option_and_then (slice_get (statements_in es)) (index_at es outer)) ≡ true → Closes outer
  closes-at zero h = absurd cc
  closes-at (suc m) h = closes-by m (slice_get es.first_lines.items m) refl h

  pub closes : (e : ℕ) → e < entry_count es → head_at es e ≡ Some EndMenuLine → Closes (place_of l (suc e)).outer.0
  closes e h end =
      closes-at (place_of l (suc e)).outer.0
      (ap (λ o. is_menu_line (option_and_then (slice_get (statements_in es)) o)) (place-is l e h).outer ∙ l.laid.menus_closed (index_of es e) (head-is es e ∙ end))

  -- whether an entry is in the menu
  first : (b : Bool) (s : SymId) → b ≡ is_some (if b then Some (SymbolShown s) else None)
  first true s = refl
  first false s = refl

  tells-by : (e : ℕ) (o : Option Numbered) → e < entry_count es → head_at es e ≡ o → is_shown l (suc e) o ≡ is_some (shown_of l (suc e) o)
  tells-by e (Some (ConfigLine s)) h x = first (is_first l (suc e) s) s
  tells-by e (Some EndMenuLine) h x =
      let c = closes e h x in
      sym (ap (λ o. is_some (option_map (λ menu. EndShown (shown_before l menu)) (unstored o))) c.is)
  tells-by e _ h x = refl

  tells : (e : ℕ) → e < entry_count es → is_shown l (suc e) (head_at es e) ≡ is_some (entry_shown e)
  tells e h = tells-by e (head_at es e) h refl

  -- a menu by its number among the entries of the menu
  menu-number : (m : ℕ) (t : List ℕ) → m < entry_count es → head_at es m ≡ Some (MenuLine t) → slice_get (entries_in l) (shown_before l m) ≡ entry_shown m
  menu-number m t h e =
      let shown : entry_shown m ≡ Some (MenuShown t (title_condition l (suc m))) = ap (shown_of l (suc m)) e in
      stands_at entry_shown (λ k. is_shown l (suc k) (head_at es k)) (entry_count es) m (MenuShown t (title_condition l (suc m))) tells h shown ∙ sym shown

  module _ (tree : TreeFacts) (prefix : Notation) (solution : SolutionView) (same : tree.entries ≡ entries_in l) (after_end : Bool) where
    abbrev end_text : Option (List ℕ) → List ℕ
    end_text o = elim o [ None ↦ [] | Some text ↦ codes "# end of " ++ text ++ codes "\n" ]

    end-title : (o : Option (List ℕ)) → end_if o ≡ end_text o
    end-title None = refl
    end-title (Some text) = refl

    -- the end of a menu gives the end line of that menu
    abbrev ClosesAs : ℕ → Type 0
    ClosesAs outer = slice_get tree.entries (elim (unstored outer) [ None ↦ 0 | Some m ↦ shown_before l m ]) ≡ shown_at l outer

    menu-at : (outer : ℕ) → Closes outer → ClosesAs outer
    menu-at outer c =
        subst ClosesAs (sym c.is)
        (ap (λ (entries : List Shown). slice_get entries (shown_before l c.menu)) same ∙ menu-number c.menu c.title c.there c.head)

    text-by : (outer : ℕ) → Closes outer → ClosesAs outer →
        end_if (shown_title solution (shown_at l outer)) ≡ text_of tree prefix solution after_end (option_map (λ menu. EndShown (shown_before l menu)) (unstored outer))
    text-by zero c at = let no = c.is in absurd cc
    text-by (suc m) c at = end-title (shown_title solution (shown_at l (suc m))) ∙ ap (λ o. end_text (shown_title solution o)) (sym at)

    ends-by : (outer : ℕ) → Closes outer → ClosesAs outer →
        (if is_some (shown_title solution (shown_at l outer)) then true else after_end) ≡ ends_behind tree solution after_end (option_map (λ menu. EndShown (shown_before l menu)) (unstored outer))
    ends-by zero c at = let no = c.is in absurd cc
    ends-by (suc m) c at = ap (λ o. cond (is_some (shown_title solution o)) true after_end) (sym at)

    module _ (e : ℕ) (there : e < entry_count es) (end : head_at es e ≡ Some EndMenuLine) where
      abbrev outer : ℕ
      outer = (place_of l (suc e)).outer.0

      pub end-text : end_if (shown_title solution (shown_at l outer)) ≡ text_of tree prefix solution after_end (shown_at l (suc e))
      end-text =
          let c = closes e there end in
          text-by outer c (menu-at outer c) ∙ sym (ap (λ o. text_of tree prefix solution after_end (shown_of l (suc e) o)) end)

      pub end-ends : (if is_some (shown_title solution (shown_at l outer)) then true else after_end) ≡ ends_behind tree solution after_end (shown_at l (suc e))
      end-ends =
          let c = closes e there end in
          ends-by outer c (menu-at outer c) ∙ sym (ap (λ o. ends_behind tree solution after_end (shown_of l (suc e) o)) end)

  -- Entry by entry.
  -- the entries of the menu from an entry on
  abbrev pub shown_from : ℕ → List Shown
  shown_from i = filter_map entry_shown (range_with_len i (entry_count es - i))

  pub shown-from : entries_in l ≡ shown_from 0
  shown-from = ap (filter_map entry_shown) (sym (numbers-range (entry_count es)))

  module _ (tree : TreeFacts) (prefix : Notation) (solution : SolutionView) where
    next-by : (o : Option Shown) (after_end : Bool) (more : List Shown) → entries_after tree prefix solution after_end (cons_option o more)
        ≡ text_of tree prefix solution after_end o ++ entries_after tree prefix solution (ends_behind tree solution after_end o) more
    next-by None after_end more = refl
    next-by (Some entry) after_end more = refl

    pub entries-next : (i : ℕ) (after_end next : Bool) → i < entry_count es → next ≡ ends_behind tree solution after_end (shown_at l (suc i)) →
        entries_after tree prefix solution after_end (shown_from i)
        ≡ text_of tree prefix solution after_end (shown_at l (suc i)) ++ entries_after tree prefix solution next (shown_from (i + 1))
    entries-next i after_end next lt is =
        let z : entry_count es - i ≡ suc (entry_count es - (i + 1)) = omega (arith, lt) in
        ap (λ n. entries_after tree prefix solution after_end (filter_map entry_shown (range_with_len i n))) z
        ∙ next-by (entry_shown i) after_end (shown_from (i + 1))
        ∙ ap (λ b. text_of tree prefix solution after_end (entry_shown i) ++ entries_after tree prefix solution b (shown_from (i + 1))) (sym is)

    pub entries-end : (i : ℕ) (after_end : Bool) → entry_count es ≤ i → entries_after tree prefix solution after_end (shown_from i) ≡ []
    entries-end i after_end end = let z : entry_count es - i ≡ 0 = omega (arith, end) in ap (λ n. entries_after tree prefix solution after_end (filter_map entry_shown (range_with_len i n))) z

-- the entries of a solution's tree are those of the layout beside its table
pub same-entries : (s : Solution) (t : Table) → IsTableOf s t → s.tree.entries ≡ entries_in t.layout.now
same-entries s t is = ap (λ (x : TreeFacts). x.entries) (sym is.tree) ∙ t.laid.entries

-- a symbol that has a first definition has a name
pub first-named : (s : Solution) (t : Table) → IsTableOf s t → (at : ℕ) (id : SymId) → is_first t.layout.now at id ≡ true → id.0 < length s.tree.names
first-named s t is at id e = by (slice_get t.layout.now.symbols.items id.0) refl e
  where
    by : (o : Option Symbol) → slice_get t.layout.now.symbols.items id.0 ≡ o → list_any (λ (row : Symbol). row.first.0 == at) (listed o) ≡ true → id.0 < length s.tree.names
    by None f h = absurd cc
    by (Some row) f h =
        let there = slice_get_within t.layout.now.symbols.items id.0 row f in
        ∥∥₁_elim {P = id.0 < length s.tree.names} t.formed le_prop (λ formed.
        let named : length t.tree.now.names ≡ length s.tree.names = ap (λ (x : TreeFacts). length x.names) is.tree in
        omega (arith, there, t.laid.symbol_count, formed.symbols_named, named))
