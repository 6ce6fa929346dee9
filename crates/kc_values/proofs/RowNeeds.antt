-- What the nodes and names of a row stand for: a symbol is among them where the equation of the row's symbol, or a condition, names it.
use Rattle.std.proofs.{Common.{Bool, List, None, Option, Some, [], ap, append-nil, arith, cond, false, is_some, length, map, nat_lt, refl, reverse, suc, sym, true, ℕ, ◌&&◌, ◌++◌, ◌<◌, ◌==◌, ◌||◌, ◌∙◌, ◌∷◌, ◌≡◌, ◌≤◌}, lemmas.{Grind.flat_map-append, List.Folds.list_any-append}}
use Rattle.std.specs.{List.{cons_option, filter_map, flat_map, list_any}, Option.option_and_then, Prelude.{option_map, slice_get}}
use Rattle.kc_language.specs.{Expressions.{Form, leaf_symbols, symbol, symbols}, Statements.{ChoiceLine, IfLine, InputPrompt, Numbered, RangeLine}, Symbols.{Bounds, Condition, Guarded, StatedDefault, TreeFacts, choice_number as number_of, dependency_in, listed, range_in, single_symbol, stated_default, visible_in}, Values.{choice_at, facts}, declared.{expressions.{SymId.SymId, SymbolType.{SymbolType, TheVariants.{Bool as IsBool, Hex, Int, Str, Tristate, Undefined}}}, symbols.{ChoiceId.ChoiceId, SelectOrImply.SelectOrImply}}}
use Rattle.kc_language.specs.declared.symbols.SelectOrImply.TheVariants as word
use Rattle.kc_language.specs.Needs as spec
use Rattle.kc_entries.specs.{StatementViews.head_view, declared.entries.Entry.Entry}
use Rattle.kc_tree.specs.{EntryViews.{definitions_from, entry_count, head_at, index_of, is_choice_line, said_by, statements_in}, Layouts.{DefinitionFacts, IsLayoutOf, choice_dependency, choice_facts, condition_at, default_view, definition_facts, facts_of, is_member, lines_up_to, member_default, member_named, outer_context, outer_visible, place_of, prompt_in, prompt_view, range_view, said_at, selector_facts, selectors_up_to, symbol_at, target_in, visible_at, with_conjuncts, with_when}, Places.{mode_view, says}, declared.{layout.Layout.Layout, rows.{Choice.Choice, Selector.Selector, Symbol.Symbol}}}
use Rattle.kc_tree.proofs.{ChoiceLemmas.{IsBegun, choice-alone, choice-at, choice-there}, LayoutWalks.{definitions-first, implies-last, selects-last}, OuterLemmas.{condition-step, in_entry}, VisibleLemmas.{IsMenu, visible-step}}
use Rattle.kc_values.specs.NeedRows as rows
use Rattle.kc_values.specs.{NeedRows.{Needed, both, each, named, node, where_true}, Nodes.{choice_number, dependency_number}, PartsOfNeeds.mode_names}
use Rattle.kc_values.specs.PartsOfNeeds as spec_parts
use Rattle.kc_values.proofs.{AnyLemmas.{any_beside, any_flat, any_found, any_map, any_or, any_reverse, any_same, has_some, passes}, PlacesThere.visible_there}

-- whether something is found in a list
some_option : {Y : Type 0} (o : Option Y) (ys : List Y) (b : Bool) → has_some ys ≡ b → has_some (cons_option o ys) ≡ (is_some o || b)
some_option None ys b e = e
some_option (Some y) ys b e = refl

some_found : {X Y : Type 0} (f : X → Option Y) (xs : List X) → has_some (filter_map f xs) ≡ list_any (λ x. is_some (f x)) xs
some_found f [] = refl
some_found f (x ∷ xs) = some_option (f x) (filter_map f xs) (list_any (λ y. is_some (f y)) xs) (some_found f xs)

-- a test that counts under a condition, and another one
any_two : {X : Type 0} (a : Bool) (p q : X → Bool) (xs : List X) → list_any (λ x. (p x && a) || q x) xs ≡ ((list_any p xs && a) || list_any q xs)
any_two a p q [] = refl
any_two a p q (x ∷ xs) = ap (λ b. ((p x && a) || q x) || b) (any_two a p q xs) ∙ regroup a (p x) (q x) (list_any p xs) (list_any q xs)
  where
    regroup : (a p q b c : Bool) → (((p && a) || q) || ((b && a) || c)) ≡ (((p || b) && a) || (q || c))
    regroup a p q b c = grind arith

-- four tests of the elements, two of which count under a condition
any_four : {X : Type 0} (t n : Bool) (a p q r : X → Bool) (xs : List X) →
    list_any (λ x. (t && a x) || ((p x || q x) || (n && r x))) xs ≡ ((t && list_any a xs) || ((list_any p xs || list_any q xs) || (n && list_any r xs)))
any_four t n a p q r [] = none t n
  where
    none : (t n : Bool) → false ≡ ((t && false) || ((false || false) || (n && false)))
    none t n = grind arith
any_four t n a p q r (x ∷ xs) =
    ap (λ b. ((t && a x) || ((p x || q x) || (n && r x))) || b) (any_four t n a p q r xs)
    ∙ regroup t n (a x) (p x) (q x) (r x) (list_any a xs) (list_any p xs) (list_any q xs) (list_any r xs)
  where
    regroup : (t n a p q r b c d e : Bool) →
        (((t && a) || ((p || q) || (n && r))) || ((t && b) || ((c || d) || (n && e)))) ≡ ((t && (a || b)) || (((p || c) || (q || d)) || (n && (r || e))))
    regroup t n a p q r b c d e = grind arith

-- a line with a default has no range
pub apart : (x : Numbered) → is_some (stated_default x) ≡ true → range_in x ≡ None
apart (RangeLine a b w) h = absurd cc
apart _ h = refl

or_false : (b : Bool) → (b || false) ≡ b
or_false b = grind arith

module _ (tree : TreeFacts) (l : Layout) (v : ℕ) where
  -- a name is that of the symbol v
  abbrev pub hit : SymId → Bool
  hit s = nat_lt s.0 (length l.symbols.items) && (s.0 == v)

  abbrev pub names : List SymId → Bool
  names ss = list_any hit ss

  abbrev pub forms : List Form → Bool
  forms fs = names (flat_map (symbols tree.modules) fs)

  abbrev pub mode : Option ℕ → Bool
  mode o = names (mode_names tree o)

  abbrev pub condition_hits : Condition → Bool
  condition_hits c = names (spec.condition_names tree c)

  pub hits_conjuncts : (c : Condition) → condition_hits c ≡ (forms c.conjuncts || mode c.mode)
  hits_conjuncts c = list_any-append hit (flat_map (symbols tree.modules) c.conjuncts) (mode_names tree c.mode)

  forms_more : (fs gs : List Form) → forms (fs ++ gs) ≡ (forms fs || forms gs)
  forms_more fs gs = ap names (flat_map-append (symbols tree.modules) fs gs) ∙ list_any-append hit (flat_map (symbols tree.modules) fs) (flat_map (symbols tree.modules) gs)

  -- where no mode counts, the conjuncts alone
  plain : (c : Condition) → c.mode ≡ None → condition_hits c ≡ forms c.conjuncts
  plain c e = hits_conjuncts c ∙ ap (λ m. forms c.conjuncts || mode m) e ∙ or_false (forms c.conjuncts)

  -- a condition and what is asked for besides
  hits_more : (c : Condition) (fs : List Form) → condition_hits (with_conjuncts c fs) ≡ (condition_hits c || forms fs)
  hits_more c fs =
      hits_conjuncts (with_conjuncts c fs) ∙ ap (λ b. b || mode c.mode) (forms_more c.conjuncts fs) ∙ turned (forms c.conjuncts) (forms fs) (mode c.mode)
      ∙ ap (λ b. b || forms fs) (sym (hits_conjuncts c))
    where
      turned : (a b c : Bool) → ((a || b) || c) ≡ ((a || c) || b)
      turned a b c = grind arith

  module _ (alike : l.modules ≡ tree.modules) where
    forms_when : (o : Option Form) → forms (listed o) ≡ names (rows.when_names l.modules o)
    forms_when None = refl
    forms_when (Some f) = ap names (append-nil (symbols tree.modules f)) ∙ ap (λ m. names (symbols m f)) (sym alike)

    hits_when : (c : Condition) (w : Option Form) → condition_hits (with_when c w) ≡ (condition_hits c || names (rows.when_names l.modules w))
    hits_when c w = hits_more c (listed w) ∙ ap (λ b. condition_hits c || b) (forms_when w)

    -- what lines ask for
    form_said : (o : Option Form) → passes (λ f. names (symbols tree.modules f)) o ≡ names (rows.when_names l.modules o)
    form_said None = refl
    form_said (Some f) = ap (λ m. names (symbols m f)) (sym alike)

    forms_said : (f : Numbered → Option Form) (own : List Numbered) → forms (filter_map f own) ≡ names (flat_map (λ line. rows.when_names l.modules (f line)) own)
    forms_said f own =
        any_flat hit (symbols tree.modules) (filter_map f own)
        ∙ any_found (λ g. names (symbols tree.modules g)) f own
        ∙ any_same (λ x. passes (λ g. names (symbols tree.modules g)) (f x)) (λ x. names (rows.when_names l.modules (f x))) (λ x. form_said (f x)) own
        ∙ sym (any_flat hit (λ line. rows.when_names l.modules (f line)) own)

    -- things under the same condition, each with names of its own
    guarded : {X Y : Type 0} (view : Y → Guarded X) (what : X → List SymId) (own : Y → List SymId) (a : Bool) →
        ((y : Y) → (names (what (view y).what) || condition_hits (view y).when) ≡ (a || names (own y))) →
        (ys : List Y) → names (spec.guarded_names tree what (map view ys)) ≡ ((has_some ys && a) || names (flat_map own ys))
    guarded {X} view what own a h ys =
        let each : Guarded X → List SymId = λ g. what g.what ++ spec.condition_names tree g.when in
        any_flat hit each (map view ys)
        ∙ any_map (λ g. names (each g)) view ys
        ∙ any_same (λ y. names (each (view y))) (λ y. a || names (own y)) (λ y. list_any-append hit (what (view y).what) (spec.condition_names tree (view y).when) ∙ h y) ys
        ∙ any_beside a (λ y. names (own y)) ys
        ∙ ap (λ b. (has_some ys && a) || b) (sym (any_flat hit own ys))

    defaults_names : (c : Condition) (ds : List StatedDefault) →
        names (spec.guarded_names tree (symbols tree.modules) (map (default_view c) ds)) ≡ ((has_some ds && condition_hits c) || names (flat_map (rows.default_names l.modules) ds))
    defaults_names c = guarded (default_view c) (symbols tree.modules) (rows.default_names l.modules) (condition_hits c) one
      where
        turned : (x a w : Bool) → (x || (a || w)) ≡ (a || (x || w))
        turned x a w = grind arith

        one : (d : StatedDefault) → (names (symbols tree.modules d.value) || condition_hits (with_when c d.when)) ≡ (condition_hits c || names (rows.default_names l.modules d))
        one d =
            ap (λ b. names (symbols tree.modules d.value) || b) (hits_when c d.when)
            ∙ turned (names (symbols tree.modules d.value)) (condition_hits c) (names (rows.when_names l.modules d.when))
            ∙ ap (λ m. condition_hits c || (names (symbols m d.value) || names (rows.when_names l.modules d.when))) (sym alike)
            ∙ ap (λ b. condition_hits c || b) (sym (list_any-append hit (symbols l.modules d.value) (rows.when_names l.modules d.when)))

    ranges_names : (c : Condition) (rs : List (Bounds × Option Form)) →
        names (spec.guarded_names tree spec_parts.bounds_names (map (range_view c) rs)) ≡ ((has_some rs && condition_hits c) || names (flat_map (rows.range_names l.modules) rs))
    ranges_names c = guarded (range_view c) spec_parts.bounds_names (rows.range_names l.modules) (condition_hits c) one
      where
        turned : (x a w : Bool) → (x || (a || w)) ≡ (a || (x || w))
        turned x a w = grind arith

        one : (r : Bounds × Option Form) → (names (leaf_symbols r.0.low ++ leaf_symbols r.0.high) || condition_hits (with_when c (r.1))) ≡ (condition_hits c || names (rows.range_names l.modules r))
        one r =
            let bounds = leaf_symbols r.0.low ++ leaf_symbols r.0.high in
            ap (λ b. names bounds || b) (hits_when c (r.1)) ∙ turned (names bounds) (condition_hits c) (names (rows.when_names l.modules (r.1)))
            ∙ ap (λ b. condition_hits c || b) (sym (list_any-append hit bounds (rows.when_names l.modules (r.1))))

    -- the lines of a definition name what its defaults and its ranges do
    abbrev defaults_in : List StatedDefault → Bool
    defaults_in ds = names (flat_map (rows.default_names l.modules) ds)

    abbrev ranges_in : List (Bounds × Option Form) → Bool
    ranges_in rs = names (flat_map (rows.range_names l.modules) rs)

    line_hits : (n : Bool) (d : Option StatedDefault) (r : Option (Bounds × Option Form)) (rest : List SymId) (ds : List StatedDefault) (rs : List (Bounds × Option Form)) →
        (is_some d ≡ true → r ≡ None) → names rest ≡ (defaults_in ds || (n && ranges_in rs)) →
        names (rows.names_of_line l.modules n d r ++ rest) ≡ (defaults_in (cons_option d ds) || (n && ranges_in (cons_option r rs)))
    line_hits n None None rest ds rs h ih = ih
    line_hits n (Some d) (Some r) rest ds rs h ih = absurd (let no = h refl in cc)
    line_hits n (Some d) None rest ds rs h ih =
        list_any-append hit (rows.default_names l.modules d) rest ∙ ap (λ b. names (rows.default_names l.modules d) || b) ih
        ∙ regroup (names (rows.default_names l.modules d)) (defaults_in ds) (n && ranges_in rs)
        ∙ ap (λ b. b || (n && ranges_in rs)) (sym (list_any-append hit (rows.default_names l.modules d) (flat_map (rows.default_names l.modules) ds)))
      where
        regroup : (a b c : Bool) → (a || (b || c)) ≡ ((a || b) || c)
        regroup a b c = grind arith
    line_hits true None (Some r) rest ds rs h ih =
        list_any-append hit (rows.range_names l.modules r) rest ∙ ap (λ b. names (rows.range_names l.modules r) || b) ih
        ∙ regroup (names (rows.range_names l.modules r)) (defaults_in ds) (ranges_in rs)
        ∙ ap (λ b. defaults_in ds || b) (sym (list_any-append hit (rows.range_names l.modules r) (flat_map (rows.range_names l.modules) rs)))
      where
        regroup : (a b c : Bool) → (a || (b || c)) ≡ (b || (a || c))
        regroup a b c = grind arith
    line_hits false None (Some r) rest ds rs h ih = ih

    lines_hits : (n : Bool) (own : List Numbered) → names (flat_map (rows.line_names l.modules n) own) ≡ (defaults_in (filter_map stated_default own) || (n && ranges_in (filter_map range_in own)))
    lines_hits n [] = none n
      where
        none : (n : Bool) → false ≡ (false || (n && false))
        none n = grind arith
    lines_hits n (x ∷ own) =
        line_hits n (stated_default x) (range_in x) (flat_map (rows.line_names l.modules n) own) (filter_map stated_default own) (filter_map range_in own) (apart x) (lines_hits n own)

-- What a row's parts stand for, where `st` says of which nodes the symbol v is among what they stand for.
module _ (tree : TreeFacts) (l : Layout) (v : ℕ) (alike : l.modules ≡ tree.modules) (st : ℕ → Bool) where
  abbrev name : List SymId → Bool
  name ss = names tree l v ss

  abbrev ch : Condition → Bool
  ch c = condition_hits tree l v c

  abbrev pub hits : Needed → Bool
  hits n = list_any st n.nodes || names tree l v n.names

  hits_both : (a b : Needed) → hits (both a b) ≡ (hits a || hits b)
  hits_both a b =
      ap (λ x. x || names tree l v (a.names ++ b.names)) (list_any-append st a.nodes b.nodes)
      ∙ ap (λ x. (list_any st a.nodes || list_any st b.nodes) || x) (list_any-append (hit tree l v) a.names b.names)
      ∙ regroup (list_any st a.nodes) (list_any st b.nodes) (names tree l v a.names) (names tree l v b.names)
    where
      regroup : (a b c d : Bool) → ((a || b) || (c || d)) ≡ ((a || c) || (b || d))
      regroup a b c d = grind arith

  hits_where : (t : Bool) (n : Needed) → hits (where_true t n) ≡ (t && hits n)
  hits_where true n = refl
  hits_where false n = refl

  hits_each : {X : Type 0} (f : X → Needed) (xs : List X) → hits (each f xs) ≡ list_any (λ x. hits (f x)) xs
  hits_each {X} f xs =
      let nodes : X → List ℕ = λ x. (f x).nodes in
      let own : X → List SymId = λ x. (f x).names in
      ap (λ b. b || names tree l v (flat_map own xs)) (any_flat st nodes xs)
      ∙ ap (λ b. list_any (λ x. list_any st (f x).nodes) xs || b) (any_flat (hit tree l v) own xs)
      ∙ sym (any_or (λ x. list_any st (f x).nodes) (λ x. names tree l v (f x).names) xs)

  hits_node : (t : ℕ) → hits (node t) ≡ st t
  hits_node t = or_false (st t || false) ∙ or_false (st t)

  -- the node of an entry, and of a menu, stands for what is asked for there
  abbrev pub Known : ℕ → Type 0
  Known at = hits (rows.context l at) ≡ condition_hits tree l v (condition_at l at)

  abbrev pub Visible : ℕ → Type 0
  Visible n = hits (rows.visible l n) ≡ forms tree l v (visible_at l n)

  depends_hits : (own : List Numbered) → hits (rows.depends l own) ≡ forms tree l v (filter_map dependency_in own)
  depends_hits own = sym (forms_said tree l v alike dependency_in own)

  -- one menu
  pub visible_row_hits : (u m : ℕ) → IsMenu l u m → Visible (outer_visible l (suc m)) → hits (rows.visible_row l (suc m)) ≡ forms tree l v (visible_at l (suc u))
  visible_row_hits u m is known =
      hits_both (rows.visible l (outer_visible l (suc m))) (named (flat_map (λ line. rows.when_names l.modules (visible_in line)) (said_at l (suc m))))
      ∙ ap (λ b. b || names tree l v (flat_map (λ line. rows.when_names l.modules (visible_in line)) (said_at l (suc m)))) known
      ∙ ap (λ b. forms tree l v (visible_at l (outer_visible l (suc m))) || b) (sym (forms_said tree l v alike visible_in (said_by l.entries m)))
      ∙ sym (forms_more tree l v (visible_at l (outer_visible l (suc m))) (filter_map visible_in (said_by l.entries m)))
      ∙ ap (forms tree l v) (sym (visible-step l u m is))

  module _ (vis : (n : ℕ) → n ≤ length l.visibles.items → Visible n) where
    -- a prompt
    prompt_hits : (c : Condition) (at : ℕ) (q : InputPrompt Form) → ch (prompt_view c (visible_at l (place_of l at).visible.0) q) ≡ (ch c || hits (rows.prompt l (place_of l at) q))
    prompt_hits c at q =
        let n = (place_of l at).visible.0 in
        let when = name (rows.when_names l.modules q.when) in
        hits_when tree l v alike (with_conjuncts c (visible_at l n)) q.when ∙ ap (λ b. b || when) (hits_more tree l v c (visible_at l n))
        ∙ ap (λ b. (ch c || b) || when) (sym (vis n (visible_there l at)))
        ∙ regroup (ch c) (hits (rows.visible l n)) when
        ∙ ap (λ b. ch c || b) (sym (hits_both (rows.visible l n) (named (rows.when_names l.modules q.when))))
      where
        regroup : (a b c : Bool) → ((a || b) || c) ≡ (a || (b || c))
        regroup a b c = grind arith

    -- of a choice, whose conjuncts alone count
    choice_prompt_hits : (c : Condition) (at : ℕ) (q : InputPrompt Form) → c.mode ≡ None →
        name (spec.conjunct_names tree (Some (prompt_view c (visible_at l (place_of l at).visible.0) q))) ≡ (ch c || hits (rows.prompt l (place_of l at) q))
    choice_prompt_hits c at q e = sym (plain tree l v (prompt_view c (visible_at l (place_of l at).visible.0) q) e) ∙ prompt_hits c at q

    -- one entry
    asked_hits : (laid : IsLayoutOf tree l) (e : ℕ) (s : Numbered) → e < entry_count l.entries → head_at l.entries e ≡ Some s → Known (outer_context l (suc e)) →
        (hits (rows.context l (outer_context l (suc e))) || hits (rows.asked l (place_of l (suc e)) s (said_by l.entries e)))
        ≡ ch (in_entry (condition_at l (outer_context l (suc e))) (Some s) (said_by l.entries e) (number_of (statements_in l.entries) (index_of l.entries e)))
    asked_hits laid e (IfLine f) h q known =
        let c = condition_at l (outer_context l (suc e)) in
        ap (λ b. b || name (symbols l.modules f)) known ∙ ap (λ b. ch c || b) (sym (forms_when tree l v alike (Some f))) ∙ sym (hits_more tree l v c (f ∷ []))
    asked_hits laid e ChoiceLine h q known = by (prompt_in l (place_of l (suc e))) refl
      where
        c : Condition
        c = condition_at l (outer_context l (suc e))

        own : List Numbered
        own = said_by l.entries e

        k : ℕ
        k = number_of (statements_in l.entries) (index_of l.entries e)

        begun : IsBegun l e
        begun = choice-there l e h (ap is_choice_line q)

        alone : c.mode ≡ None
        alone = choice-alone l e h (ap is_choice_line q)

        -- what the choice depends on itself
        d : Condition
        d = record { conjuncts = c.conjuncts ++ filter_map dependency_in (said_by l.entries e); mode = None }

        prompt_of : Option (InputPrompt Form) → Option Condition
        prompt_of o = option_map (prompt_view d (visible_at l (place_of l (suc e)).visible.0)) o

        mode_is : mode tree l v (Some k) ≡ name (spec.conjunct_names tree (prompt_of (prompt_in l (place_of l (suc e)))))
        mode_is =
            ap (λ o. name (elim o [ None ↦ [] | Some f ↦ spec.conjunct_names tree f.prompt ])) (laid.choices k ∙ ap (option_map (choice_facts l k)) begun.at)
            ∙ ap (λ at. name (spec.conjunct_names tree (option_map (prompt_view (record { conjuncts = (condition_at l (outer_context l at)).conjuncts ++ filter_map dependency_in (said_at l at); mode = None })
            (visible_at l (place_of l at).visible.0)) (prompt_in l (place_of l at))))) begun.entry

        first : hits (rows.context l (outer_context l (suc e))) ≡ forms tree l v c.conjuncts
        first = known ∙ plain tree l v c alone

        whole : ch (record { conjuncts = c.conjuncts ++ []; mode = Some k }) ≡ (forms tree l v c.conjuncts || mode tree l v (Some k))
        whole =
            hits_conjuncts tree l v (record { conjuncts = c.conjuncts ++ []; mode = Some k })
            ∙ ap (λ b. b || mode tree l v (Some k)) (ap (forms tree l v) (append-nil c.conjuncts))

        by : (o : Option (InputPrompt Form)) → prompt_in l (place_of l (suc e)) ≡ o →
            (hits (rows.context l (outer_context l (suc e))) || hits (rows.mode_by l (place_of l (suc e)) (said_by l.entries e) (prompt_in l (place_of l (suc e)))))
            ≡ ch (record { conjuncts = c.conjuncts ++ []; mode = Some k })
        by None t =
            ap (λ b. b || hits (rows.mode_by l (place_of l (suc e)) own (prompt_in l (place_of l (suc e))))) first
            ∙ ap (λ o. forms tree l v c.conjuncts || hits (rows.mode_by l (place_of l (suc e)) own o)) t
            ∙ ap (λ b. forms tree l v c.conjuncts || b) (sym (mode_is ∙ ap (λ o. name (spec.conjunct_names tree (prompt_of o))) t))
            ∙ sym whole
        by (Some p) t =
            let own_prompt = hits (rows.prompt l (place_of l (suc e)) p) in
            let deps = forms tree l v (filter_map dependency_in (said_by l.entries e)) in
            let asked : hits (rows.mode_by l (place_of l (suc e)) own (Some p)) ≡ (deps || own_prompt) =
            hits_both (rows.depends l own) (rows.prompt l (place_of l (suc e)) p) ∙ ap (λ b. b || own_prompt) (depends_hits own) in
            let m : mode tree l v (Some k) ≡ ((forms tree l v c.conjuncts || deps) || own_prompt) =
            mode_is ∙ ap (λ o. name (spec.conjunct_names tree (prompt_of o))) t ∙ choice_prompt_hits d (suc e) p refl
            ∙ ap (λ b. b || own_prompt) (plain tree l v d refl ∙ forms_more tree l v c.conjuncts (filter_map dependency_in (said_by l.entries e))) in
            ap (λ b. b || hits (rows.mode_by l (place_of l (suc e)) own (prompt_in l (place_of l (suc e))))) first
            ∙ ap (λ o. forms tree l v c.conjuncts || hits (rows.mode_by l (place_of l (suc e)) own o)) t
            ∙ ap (λ b. forms tree l v c.conjuncts || b) asked
            ∙ again (forms tree l v c.conjuncts) deps own_prompt
            ∙ ap (λ b. forms tree l v c.conjuncts || b) (sym m)
            ∙ sym whole
          where
            again : (a b c : Bool) → (a || (b || c)) ≡ (a || ((a || b) || c))
            again a b c = grind arith
    asked_hits laid e _ h q known =
        let c = condition_at l (outer_context l (suc e)) in
        ap (λ b. b || hits (rows.depends l (said_by l.entries e))) known ∙ ap (λ b. ch c || b) (depends_hits (said_by l.entries e))
        ∙ sym (hits_more tree l v c (filter_map dependency_in (said_by l.entries e)))

    pub context_row_hits : (laid : IsLayoutOf tree l) (e : ℕ) (x : Entry) → e < entry_count l.entries → slice_get l.entries.first_lines.items e ≡ Some x → Known (outer_context l (suc e)) →
        hits (rows.context_by l (suc e) (Some x)) ≡ ch (condition_at l (suc e))
    context_row_hits laid e x h at known =
        let head : head_at l.entries e ≡ Some (head_view x.head) = ap (option_map (λ (y : Entry). head_view y.head)) at in
        hits_both (rows.context l (outer_context l (suc e))) (rows.asked l (place_of l (suc e)) (head_view x.head) (said_at l (suc e)))
        ∙ asked_hits laid e (head_view x.head) h head known
        ∙ ap (λ o. ch (in_entry (condition_at l (outer_context l (suc e))) o (said_by l.entries e) (number_of (statements_in l.entries) (index_of l.entries e)))) (sym head)
        ∙ ap ch (sym (condition-step l e h))

    -- what a choice depends on itself
    pub dependency_row_hits : (k : ℕ) (c : Choice) → slice_get l.choices.items k ≡ Some c → Known (outer_context l c.entry.0) → hits (rows.dependency_row l c) ≡ ch (choice_dependency l c)
    dependency_row_hits k c h known =
        let is = choice-at l k c h in
        let o = condition_at l (outer_context l c.entry.0) in
        let own = said_at l c.entry.0 in
        let alone : o.mode ≡ None = ap (λ at. (condition_at l (outer_context l at)).mode) ((is.1).entry) ∙ choice-alone l (is.0) ((is.1).there) ((is.1).begins) in
        hits_both (rows.context l (outer_context l c.entry.0)) (rows.depends l own)
        ∙ ap (λ b. b || hits (rows.depends l own)) (known ∙ plain tree l v o alone)
        ∙ ap (λ b. forms tree l v o.conjuncts || b) (depends_hits own)
        ∙ sym (plain tree l v (choice_dependency l c) refl ∙ forms_more tree l v o.conjuncts (filter_map dependency_in own))

    -- Where each entry that is a context stands for its condition.
    module _ (ctx : (at : ℕ) → Known (place_of l at).context.0) where
      abbrev dep_of : ℕ → Bool
      dep_of e = ch (definition_facts l e).dependency

      abbrev prompt_at : ℕ → Bool
      prompt_at e = passes ch (definition_facts l e).prompt

      abbrev defaults_of : ℕ → Bool
      defaults_of e = name (spec.guarded_names tree (symbols tree.modules) (definition_facts l e).defaults)

      abbrev ranges_of : ℕ → Bool
      ranges_of e = name (spec.guarded_names tree spec_parts.bounds_names (definition_facts l e).ranges)

      abbrev prompt_of_place : ℕ → Option (InputPrompt Form) → Option Condition
      prompt_of_place at o = option_map (prompt_view (condition_at l (place_of l at).context.0) (visible_at l (place_of l at).visible.0)) o

      own_prompt_hits : (at : ℕ) (o : Option (InputPrompt Form)) → hits (rows.own_prompt l (place_of l at) o) ≡ passes ch (prompt_of_place at o)
      own_prompt_hits at None = refl
      own_prompt_hits at (Some q) =
          let c = (place_of l at).context.0 in
          hits_both (rows.context l c) (rows.prompt l (place_of l at) q) ∙ ap (λ b. b || hits (rows.prompt l (place_of l at) q)) (ctx at) ∙ sym (prompt_hits (condition_at l c) at q)

      asking_hits : (read : Bool) (at : ℕ) (o : Option (InputPrompt Form)) →
          hits (rows.asking l read (place_of l at) o) ≡ ((read && ch (condition_at l (place_of l at).context.0)) || passes ch (prompt_of_place at o))
      asking_hits read at None =
          let a = ch (condition_at l (place_of l at).context.0) in
          hits_where read (rows.context l (place_of l at).context.0) ∙ ap (λ b. read && b) (ctx at) ∙ sym (or_false (read && a))
      asking_hits read at (Some q) =
          let c = (place_of l at).context.0 in
          let a = ch (condition_at l c) in
          let p = hits (rows.prompt l (place_of l at) q) in
          hits_both (rows.context l c) (rows.prompt l (place_of l at) q) ∙ ap (λ b. b || p) (ctx at)
          ∙ again read a p ∙ ap (λ b. (read && a) || b) (sym (prompt_hits (condition_at l c) at q))
        where
          again : (r a p : Bool) → (a || p) ≡ ((r && a) || (a || p))
          again r a p = grind arith

      definition_hits : (t : SymbolType) (e : ℕ) →
          hits (rows.definition l t (suc e)) ≡ ((rows.is_truth t && dep_of e) || ((prompt_at e || defaults_of e) || (rows.is_number t && ranges_of e)))
      definition_hits t e =
          let p = place_of l (suc e) in
          let own = said_by l.entries e in
          let c = condition_at l p.context.0 in
          let ds = filter_map stated_default own in
          let rs = filter_map range_in own in
          let dn = defaults_in tree l v alike ds in
          let rn = ranges_in tree l v alike rs in
          together (rows.is_truth t) (has_some ds) (has_some rs) (says stated_default own) (says range_in own) (rows.is_number t) (ch c) dn rn (prompt_at e)
          (hits (rows.definition l t (suc e))) (hits (rows.asking l (rows.is_read l t own) p (prompt_in l p))) (name (flat_map (rows.line_names l.modules (rows.is_number t)) own)) (defaults_of e) (ranges_of e)
          (some_found stated_default own) (some_found range_in own)
          (hits_both (rows.asking l (rows.is_read l t own) p (prompt_in l p)) (named (flat_map (rows.line_names l.modules (rows.is_number t)) own)))
          (asking_hits (rows.is_read l t own) (suc e) (prompt_in l p)) (lines_hits tree l v alike (rows.is_number t) own) (defaults_names tree l v alike c ds) (ranges_names tree l v alike c rs)
        where
          together : (t sd sr ld lr n a dn rn p all ask ln df rf : Bool) → sd ≡ ld → sr ≡ lr → all ≡ (ask || ln) → ask ≡ (((t || (ld || (lr && n))) && a) || p) → ln ≡ (dn || (n && rn)) →
              df ≡ ((sd && a) || dn) → rf ≡ ((sr && a) || rn) → all ≡ ((t && a) || ((p || df) || (n && rf)))
          together t sd sr ld lr n a dn rn p all ask ln df rf e f g h i j k = grind arith

      -- what the tree says of definitions, one after another
      prompts_seen : (es : List ℕ) → name (flat_map (spec.condition_names tree) (filter_map (λ (d : DefinitionFacts). d.prompt) (map (definition_facts l) es))) ≡ list_any prompt_at es
      prompts_seen es =
          let prompt : DefinitionFacts → Option Condition = λ d. d.prompt in
          any_flat (hit tree l v) (spec.condition_names tree) (filter_map prompt (map (definition_facts l) es))
          ∙ any_found ch prompt (map (definition_facts l) es)
          ∙ any_map (λ d. passes ch d.prompt) (definition_facts l) es

      deps_seen : (es : List ℕ) → name (flat_map (spec.condition_names tree) (map (λ (d : DefinitionFacts). d.dependency) (map (definition_facts l) es))) ≡ list_any dep_of es
      deps_seen es =
          let dependency : DefinitionFacts → Condition = λ d. d.dependency in
          any_flat (hit tree l v) (spec.condition_names tree) (map dependency (map (definition_facts l) es))
          ∙ any_map ch dependency (map (definition_facts l) es)
          ∙ any_map (λ d. ch d.dependency) (definition_facts l) es

      several : {X : Type 0} (what : X → List SymId) (of : DefinitionFacts → List (Guarded X)) (es : List ℕ) →
          name (spec.guarded_names tree what (flat_map of (map (definition_facts l) es))) ≡ list_any (λ e. name (spec.guarded_names tree what (of (definition_facts l e)))) es
      several {X} what of es =
          let each : Guarded X → List SymId = λ g. what g.what ++ spec.condition_names tree g.when in
          let one : Guarded X → Bool = λ g. name (each g) in
          any_flat (hit tree l v) each (flat_map of (map (definition_facts l) es))
          ∙ any_flat one of (map (definition_facts l) es)
          ∙ any_map (λ d. list_any one (of d)) (definition_facts l) es
          ∙ any_same (λ e. list_any one (of (definition_facts l e))) (λ e. name (spec.guarded_names tree what (of (definition_facts l e))))
          (λ e. sym (any_flat (hit tree l v) each (of (definition_facts l e)))) es

      -- a line that selects or implies
      abbrev line : Guarded SymId → Bool
      line g = name (spec_parts.one_name g.what ++ spec.condition_names tree g.when)

      selector_hits : (o : Option Selector) → hits (rows.selector_at l o) ≡ passes line (option_and_then (selector_facts l) o)
      selector_hits None = refl
      selector_hits (Some r) = by (symbol_at l r.entry.0) (target_in l r)
        where
          by : (s : Option SymId) (t : Option (SelectOrImply × SymId × Option Form)) → hits (rows.selector_by l (place_of l r.entry.0) s t)
              ≡ passes line (option_and_then (λ s. option_map (λ t. record { what = s; when = with_when (condition_at l (place_of l r.entry.0).context.0) (t.2) }) t) s)
          by None t = refl
          by (Some s) None = refl
          by (Some s) (Some t) =
              let c = (place_of l r.entry.0).context.0 in
              let a = ch (condition_at l c) in
              let w = name (rows.when_names l.modules (t.2)) in
              hits_both (both (named (s ∷ [])) (rows.context l c)) (named (rows.when_names l.modules (t.2)))
              ∙ ap (λ b. b || w) (hits_both (named (s ∷ [])) (rows.context l c))
              ∙ ap (λ b. ((hit tree l v s || false) || b) || w) (ctx r.entry.0)
              ∙ regroup (hit tree l v s) a w
              ∙ ap (λ b. hit tree l v s || b) (sym (hits_when tree l v alike (condition_at l c) (t.2)))
            where
              regroup : (x a w : Bool) → (((x || false) || a) || w) ≡ (x || (a || w))
              regroup x a w = grind arith

      selectors_hits : (w : SelectOrImply) (s : SymId) (at : ℕ) → hits (rows.selectors l w s at) ≡ name (spec.guarded_names tree spec_parts.one_name (selectors_up_to l w s at))
      selectors_hits w s at =
          let js = lines_up_to l w s at in
          let each : Guarded SymId → List SymId = λ g. spec_parts.one_name g.what ++ spec.condition_names tree g.when in
          let found : ℕ → Option (Guarded SymId) = λ j. option_and_then (selector_facts l) (slice_get l.selectors.items j) in
          hits_each (λ j. rows.selector_at l (slice_get l.selectors.items j)) (reverse js)
          ∙ any_reverse (λ j. hits (rows.selector_at l (slice_get l.selectors.items j))) js
          ∙ any_same (λ j. hits (rows.selector_at l (slice_get l.selectors.items j))) (λ j. passes line (found j)) (λ j. selector_hits (slice_get l.selectors.items j)) js
          ∙ sym (any_found line found js)
          ∙ sym (any_flat (hit tree l v) each (selectors_up_to l w s at))

      name_both : (a b : List SymId) → name (a ++ b) ≡ (name a || name b)
      name_both a b = list_any-append (hit tree l v) a b

      -- the equation of a symbol outside a choice
      module _ (i : ℕ) (row : Symbol) (h : slice_get l.symbols.items i ≡ Some row) where
        abbrev ds : List ℕ
        ds = definitions_from l.entries (symbol i) 0

        pub prompts_needs : hits (rows.prompts l (symbol i) row.first.0) ≡ name (flat_map (spec.condition_names tree) (facts_of l i row).prompts)
        prompts_needs =
            let one : ℕ → Needed = λ e. rows.own_prompt l (place_of l (suc e)) (prompt_in l (place_of l (suc e))) in
            ap (λ es. hits (each one es)) (definitions-first l i row h)
            ∙ hits_each one ds
            ∙ any_same (λ e. hits (one e)) prompt_at (λ e. own_prompt_hits (suc e) (prompt_in l (place_of l (suc e)))) ds
            ∙ sym (prompts_seen ds)

        definitions_hits : (t : SymbolType) → hits (rows.definitions l t (symbol i) row.first.0)
            ≡ ((rows.is_truth t && list_any dep_of ds) || ((list_any prompt_at ds || list_any defaults_of ds) || (rows.is_number t && list_any ranges_of ds)))
        definitions_hits t =
            let one : ℕ → Needed = λ e. rows.definition l t (suc e) in
            ap (λ es. hits (each one es)) (definitions-first l i row h)
            ∙ hits_each one ds
            ∙ any_same (λ e. hits (one e)) (λ e. (rows.is_truth t && dep_of e) || ((prompt_at e || defaults_of e) || (rows.is_number t && ranges_of e))) (definition_hits t) ds
            ∙ any_four (rows.is_truth t) (rows.is_number t) dep_of prompt_at defaults_of ranges_of ds

        common_seen : name (spec.names_of_all tree (facts_of l i row)) ≡ (list_any prompt_at ds || list_any defaults_of ds)
        common_seen =
            let defaults = spec.guarded_names tree (symbols tree.modules) (facts_of l i row).defaults in
            name_both (flat_map (spec.condition_names tree) (facts_of l i row).prompts) defaults
            ∙ ap (λ b. b || name defaults) (prompts_seen ds)
            ∙ ap (λ b. list_any prompt_at ds || b) (several (symbols tree.modules) (λ (d : DefinitionFacts). d.defaults) ds)

        text_needs : rows.is_truth row.symbol_type ≡ false → rows.is_number row.symbol_type ≡ false →
            hits (rows.definitions l row.symbol_type (symbol i) row.first.0) ≡ name (spec.names_of_all tree (facts_of l i row))
        text_needs t n =
            definitions_hits row.symbol_type
            ∙ close (rows.is_truth row.symbol_type) (rows.is_number row.symbol_type) (list_any dep_of ds) (list_any prompt_at ds) (list_any defaults_of ds) (list_any ranges_of ds) t n ∙ sym common_seen
          where
            close : (t n a p d r : Bool) → t ≡ false → n ≡ false → ((t && a) || ((p || d) || (n && r))) ≡ (p || d)
            close t n a p d r e f = grind arith

        number_needs : rows.is_truth row.symbol_type ≡ false → rows.is_number row.symbol_type ≡ true →
            hits (rows.definitions l row.symbol_type (symbol i) row.first.0) ≡ name (spec.names_of_number tree (facts_of l i row))
        number_needs t n =
            definitions_hits row.symbol_type
            ∙ close (rows.is_truth row.symbol_type) (rows.is_number row.symbol_type) (list_any dep_of ds) (list_any prompt_at ds) (list_any defaults_of ds) (list_any ranges_of ds) t n
            ∙ sym (name_both (spec.names_of_all tree (facts_of l i row)) (spec.guarded_names tree spec_parts.bounds_names (facts_of l i row).ranges)
            ∙ ap (λ b. b || name (spec.guarded_names tree spec_parts.bounds_names (facts_of l i row).ranges)) common_seen
            ∙ ap (λ b. (list_any prompt_at ds || list_any defaults_of ds) || b) (several spec_parts.bounds_names (λ (d : DefinitionFacts). d.ranges) ds))
          where
            close : (t n a p d r : Bool) → t ≡ false → n ≡ true → ((t && a) || ((p || d) || (n && r))) ≡ ((p || d) || r)
            close t n a p d r e f = grind arith

        truth_needs : rows.is_truth row.symbol_type ≡ true → rows.is_number row.symbol_type ≡ false → hits (rows.truth tree l (symbol i) row) ≡ name (spec.names_of_truth tree (facts_of l i row))
        truth_needs t n =
            let f = facts_of l i row in
            let defs = rows.definitions l row.symbol_type (symbol i) row.first.0 in
            let selects = rows.selectors l word.Select (symbol i) row.last_select.0 in
            let implies = rows.selectors l word.Imply (symbol i) row.last_imply.0 in
            let kw = spec_parts.type_names tree row.symbol_type in
            let dependencies = flat_map (spec.condition_names tree) f.dependencies in
            let sel = spec.guarded_names tree spec_parts.one_name f.selectors in
            let imp = spec.guarded_names tree spec_parts.one_name f.impliers in
            let own : hits (rows.truth tree l (symbol i) row) ≡ (((hits defs || hits selects) || hits implies) || name kw) =
            hits_both (both (both defs selects) implies) (named kw) ∙ ap (λ b. b || name kw) (hits_both (both defs selects) implies ∙ ap (λ b. b || hits implies) (hits_both defs selects)) in
            let seen : name (spec.names_of_truth tree f) ≡ (name (spec.names_of_all tree f) || (name dependencies || (name sel || (name imp || name kw)))) =
            name_both (spec.names_of_all tree f) (dependencies ++ (sel ++ (imp ++ kw)))
            ∙ ap (λ b. name (spec.names_of_all tree f) || b)
            (name_both dependencies (sel ++ (imp ++ kw)) ∙ ap (λ b. name dependencies || b) (name_both sel (imp ++ kw) ∙ ap (λ b. name sel || b) (name_both imp kw))) in
            let found : (w : SelectOrImply) → List ℕ → List (Guarded SymId) = λ w js. filter_map (λ j. option_and_then (selector_facts l) (slice_get l.selectors.items j)) js in
            let s : hits selects ≡ name sel =
            selectors_hits word.Select (symbol i) row.last_select.0 ∙ ap (λ js. name (spec.guarded_names tree spec_parts.one_name (found word.Select js))) (selects-last l i row h) in
            let m : hits implies ≡ name imp =
            selectors_hits word.Imply (symbol i) row.last_imply.0 ∙ ap (λ js. name (spec.guarded_names tree spec_parts.one_name (found word.Imply js))) (implies-last l i row h) in
            close (rows.is_truth row.symbol_type) (rows.is_number row.symbol_type) (list_any dep_of ds) (list_any prompt_at ds) (list_any defaults_of ds) (list_any ranges_of ds)
            (hits defs) (hits selects) (hits implies) (name kw) (name (spec.names_of_all tree f)) (name dependencies) (name sel) (name imp) (hits (rows.truth tree l (symbol i) row)) (name (spec.names_of_truth tree f))
            t n own seen (definitions_hits row.symbol_type) common_seen (deps_seen ds) s m
          where
            close : (t n de p df r dn sn in' kw all dependencies sel imp ow want : Bool) → t ≡ true → n ≡ false → ow ≡ (((dn || sn) || in') || kw) →
                want ≡ (all || (dependencies || (sel || (imp || kw)))) → dn ≡ ((t && de) || ((p || df) || (n && r))) → all ≡ (p || df) → dependencies ≡ de → sn ≡ sel → in' ≡ imp → ow ≡ want
            close t n de p df r dn sn in' kw all dependencies sel imp ow want e1 e2 e3 e4 e5 e6 e7 e8 e9 = grind arith

        by_type_needs : (t : SymbolType) → row.symbol_type ≡ t → hits (rows.by_type tree l (symbol i) row t) ≡ name (spec.names_by_type tree (facts_of l i row) t)
        by_type_needs Undefined e = refl
        by_type_needs IsBool e = truth_needs (ap rows.is_truth e) (ap rows.is_number e)
        by_type_needs Tristate e = truth_needs (ap rows.is_truth e) (ap rows.is_number e)
        by_type_needs Str e = text_needs (ap rows.is_truth e) (ap rows.is_number e)
        by_type_needs Int e = number_needs (ap rows.is_truth e) (ap rows.is_number e)
        by_type_needs Hex e = number_needs (ap rows.is_truth e) (ap rows.is_number e)

        by_choice_needs : (o : Option ChoiceId) → ((k : ChoiceId) → o ≡ Some k → st (choice_number l k.0) ≡ name (spec.names_of_choice tree (choice_at tree k.0))) →
            hits (rows.by_choice tree l (symbol i) row o) ≡ name (spec_parts.names_by_choice tree (facts_of l i row) (mode_view o))
        by_choice_needs None g = by_type_needs row.symbol_type refl
        by_choice_needs (Some k) g = hits_node (choice_number l k.0) ∙ g k refl

        -- what the row of a symbol stands for is what its equation names
        pub symbol_needs : ((k : ChoiceId) → row.choice ≡ Some k → st (choice_number l k.0) ≡ name (spec.names_of_choice tree (choice_at tree k.0))) →
            hits (rows.by_choice tree l (symbol i) row row.choice) ≡ name (spec.named_by tree (Some (facts_of l i row)))
        symbol_needs g = by_choice_needs row.choice g

      -- the selection of a choice
      module _ (laid : IsLayoutOf tree l) where
        member_needs : (m : SymId) (o : Option Symbol) → slice_get l.symbols.items m.0 ≡ o → hits (rows.member_by l m o) ≡ name (spec_parts.prompts_names tree (option_map (facts_of l m.0) o))
        member_needs m None e = refl
        member_needs m (Some row) e = prompts_needs m.0 row e

        members_needs : (ms : List SymId) → hits (rows.members l ms) ≡ name (flat_map (λ m. spec_parts.prompts_names tree (facts tree m)) ms)
        members_needs ms =
            hits_each (λ m. rows.member_by l m (slice_get l.symbols.items m.0)) ms
            ∙ any_same (λ m. hits (rows.member_by l m (slice_get l.symbols.items m.0))) (λ m. name (spec_parts.prompts_names tree (facts tree m)))
            (λ m. member_needs m (slice_get l.symbols.items m.0) refl ∙ ap (λ o. name (spec_parts.prompts_names tree o)) (sym (laid.symbols m.0))) ms
            ∙ sym (any_flat (hit tree l v) (λ m. spec_parts.prompts_names tree (facts tree m)) ms)

        module _ (k : ℕ) (c : Choice) (dep : st (dependency_number l k) ≡ ch (choice_dependency l c)) where
          choice_mode_needs : (o : Option (InputPrompt Form)) → hits (rows.choice_mode l k (place_of l c.entry.0) o)
              ≡ name (spec.conjunct_names tree (option_map (prompt_view (choice_dependency l c) (visible_at l (place_of l c.entry.0).visible.0)) o))
          choice_mode_needs None = refl
          choice_mode_needs (Some q) =
              hits_both (node (dependency_number l k)) (rows.prompt l (place_of l c.entry.0) q)
              ∙ ap (λ b. b || hits (rows.prompt l (place_of l c.entry.0) q)) (hits_node (dependency_number l k) ∙ dep)
              ∙ sym (choice_prompt_hits (choice_dependency l c) c.entry.0 q refl)

          abbrev default_hits : StatedDefault → Bool
          default_hits d = passes (λ (g : Guarded SymId). ch g.when) (member_default l k (choice_dependency l c) d)

          -- one line
          default_line : (o : Option StatedDefault) →
              passes default_hits o
              ≡ ((is_some (option_and_then (λ s. cond (is_member l k s) (Some s) None) (option_and_then (λ d. single_symbol d.value) o)) && ch (choice_dependency l c))
              || name (rows.names_of_default l (option_and_then (λ s. cond (is_member l k s) (Some s) None) (option_and_then (λ d. single_symbol d.value) o)) o))
          default_line None = refl
          default_line (Some d) = by (single_symbol d.value)
            where
              by : (o : Option SymId) →
                  passes (λ (g : Guarded SymId). ch g.when) (option_and_then (λ s. cond (is_member l k s) (Some (record { what = s; when = with_when (choice_dependency l c) d.when })) None) o)
                  ≡ ((is_some (option_and_then (λ s. cond (is_member l k s) (Some s) None) o) && ch (choice_dependency l c))
                  || name (rows.names_of_default l (option_and_then (λ s. cond (is_member l k s) (Some s) None) o) (Some d)))
              by None = refl
              by (Some s) = one (is_member l k s)
                where
                  one : (b : Bool) →
                      passes (λ (g : Guarded SymId). ch g.when) (cond b (Some (record { what = s; when = with_when (choice_dependency l c) d.when })) None)
                      ≡ ((is_some (cond b (Some s) None) && ch (choice_dependency l c)) || name (rows.names_of_default l (cond b (Some s) None) (Some d)))
                  one true = hits_when tree l v alike (choice_dependency l c) d.when
                  one false = refl

          choice_defaults_needs : (own : List Numbered) →
              hits (rows.choice_defaults l k own) ≡ name (spec.guarded_names tree spec_parts.no_name (filter_map (member_default l k (choice_dependency l c)) (filter_map stated_default own)))
          choice_defaults_needs own =
              let a = ch (choice_dependency l c) in
              let each : Guarded SymId → List SymId = λ g. spec_parts.no_name g.what ++ spec.condition_names tree g.when in
              let named_in : Numbered → Bool = λ x. is_some (member_named l k x) in
              let own_names : Numbered → Bool = λ x. name (rows.choice_default_names l k x) in
              hits_both (named (flat_map (rows.choice_default_names l k) own)) (where_true (says (member_named l k) own) (node (dependency_number l k)))
              ∙ ap (λ b. name (flat_map (rows.choice_default_names l k) own) || b)
              (hits_where (says (member_named l k) own) (node (dependency_number l k)) ∙ ap (λ b. says (member_named l k) own && b) (hits_node (dependency_number l k) ∙ dep))
              ∙ swap (name (flat_map (rows.choice_default_names l k) own)) (says (member_named l k) own && a)
              ∙ ap (λ b. (says (member_named l k) own && a) || b) (any_flat (hit tree l v) (rows.choice_default_names l k) own)
              ∙ sym (any_two a named_in own_names own)
              ∙ sym (any_same (λ x. passes default_hits (stated_default x)) (λ x. (named_in x && a) || own_names x) (λ x. default_line (stated_default x)) own)
              ∙ sym (any_found default_hits stated_default own)
              ∙ sym (any_found (λ (g : Guarded SymId). ch g.when) (member_default l k (choice_dependency l c)) (filter_map stated_default own))
              ∙ sym (any_flat (hit tree l v) each (filter_map (member_default l k (choice_dependency l c)) (filter_map stated_default own)))
            where
              swap : (a b : Bool) → (a || b) ≡ (b || a)
              swap a b = grind arith

          pub choice_needs : hits (rows.choice l k c) ≡ name (spec.names_of_choice tree (Some (choice_facts l k c)))
          choice_needs =
              let p = place_of l c.entry.0 in
              let own = said_at l c.entry.0 in
              let mn = rows.members l c.members.items in
              let pn = rows.choice_mode l k p (prompt_in l p) in
              let dn = rows.choice_defaults l k own in
              let m = flat_map (λ m. spec_parts.prompts_names tree (facts tree m)) c.members.items in
              let pw = spec.conjunct_names tree (choice_facts l k c).prompt in
              let dw = spec.guarded_names tree spec_parts.no_name (choice_facts l k c).defaults in
              hits_both (both mn pn) dn ∙ ap (λ b. b || hits dn) (hits_both mn pn)
              ∙ ap (λ b. (b || hits pn) || hits dn) (members_needs c.members.items)
              ∙ ap (λ b. (name m || b) || hits dn) (choice_mode_needs (prompt_in l p))
              ∙ ap (λ b. (name m || name pw) || b) (choice_defaults_needs own)
              ∙ regroup (name m) (name pw) (name dw)
              ∙ sym (name_both m (pw ++ dw) ∙ ap (λ b. name m || b) (name_both pw dw))
            where
              regroup : (a b c : Bool) → ((a || b) || c) ≡ (a || (b || c))
              regroup a b c = grind arith
